use Rattle.std.proofs.Common.{Err, ap, inl, refl}
use Rattle.at_play.proofs.ToldLemmas.{stops_said}
use Rattle.at_record.proofs.playing.play_line.Goals as goal

pub returns-in-Ok-Some-clause-stopped : goal.returns-in-Ok-Some-clause-stopped
returns-in-Ok-Some-clause-stopped g c =
    let has = rw c.in-Ok-Some.field-0-is at c.in-Ok-Some.ensures.reads in
    stops_said g.row.A.Denot c.args.draft.now c.args.line.now c.args.world.now c.play_event.new.world
    c.in-Ok-Some.event c.play_event.result _ _ has c.play_event.ensures.stopped

pub returns-in-Err-NoMemory-clause-stopped : goal.returns-in-Err-NoMemory-clause-stopped
returns-in-Err-NoMemory-clause-stopped g c =
    let kept = c.in-Err-NoMemory.ensures.memory (ap Err c.in-Err-NoMemory.field-0-is) in
    (refl, refl, rw c.no_memory.ensures.stop (c.played.ensures, inl kept))

pub returns-in-Err-Unlawful-clause-stopped : goal.returns-in-Err-Unlawful-clause-stopped
returns-in-Err-Unlawful-clause-stopped g c =
    let never = rw c.in-Err-Unlawful.field-0-is at c.in-Err-Unlawful.ensures.only in (refl, refl, (refl, never))
