use Rattle.std.proofs.Common.{ap, refl}
use Rattle.at_diagnostics.specs.declared.stop.Stop.TheVariants as stop
use Rattle.at_record.proofs.PlayedLemmas.{sent_kept, unseen_prints}
use Rattle.at_record.proofs.playing.play_event.Goals as goal

pub returns-in-Ok : goal.returns-in-Ok
returns-in-Ok g c =
    let played = c.in-Ok.ensures.played in
    record {
      told = record {
        report = c.in-Ok.report;
        playable = played.0;
        plays = played.1;
        safe = c.in-Ok.ensures.safe;
        printed = unseen_prints _;
        told = rw c.played-at.ensures at c.tell_report.ensures;
      };
      stopped = tt;
    }

pub returns-in-Err-clause-stopped : goal.returns-in-Err-clause-stopped
returns-in-Err-clause-stopped g c =
    let fault = c.in-Err.ensures.not_played in (
      sent_kept c.args.world.now c.args.event.now c.in-Err.fault c.step.new.self fault,
      refl,
      record {
        fault = c.in-Err.fault;
        line = c.args.line;
        datagram = c.delivered.result;
        says = ap (λ at. stop.Event c.in-Err.fault at c.args.line c.delivered.result) c.played-at.ensures;
        faulty = fault;
      },
    )
