use Rattle.std.proofs.Common.{[], None, Some, refl}
use Rattle.std.proofs.lemmas.List.Elements.{All-nil}
use Rattle.at_print.proofs.PrintLemmas.{Prints-nothing}
use Rattle.at_recording.specs.Frames.{IsSending}
use Rattle.at_record.specs.Recordings.{sending_of}
use Rattle.at_record.proofs.PlayedLemmas.{played_none}
use Rattle.at_record.proofs.playing.record_each.Goals as goal

pub returns-in_default : goal.returns-in_default
returns-in_default g c = (
  [],
  played_none g.row.A.Denot g.E.Paper.page c.args.setup.now (Some c.args.text.now) c.args.diagnostics.now
      c.no_memory.result 0 None c.no_memory.ensures.stop,
  All-nil (λ s. IsSending (sending_of s)),
  Prints-nothing g.W.Paper.page c.args.printer.now,
)

pub play_in-played-requires : goal.play_in-played-requires
play_in-played-requires g c = (c.args.setup.now, c.requires)

pub returns : goal.returns
returns g c = (
  c.play_in-played.new.world.sent,
  c.play_in-played.ensures c.args.setup.now c.in-Ok.ensures refl,
  c.write_records.ensures.ranges,
  c.write_records.ensures.printed,
)
