use Rattle.std.proofs.Common.{[]}
use Rattle.at_setup.specs.Setups.{tables_of}
use Rattle.at_world.specs.ExactlyOnce.{onto}
use Rattle.at_world.proofs.Parts.Atp.Onces.{runs_once}
use Rattle.at_world.proofs.Parts.Atp.Told.{OnceLaws, told_of}
use Rattle.at_world.proofs.laws.exactly_once_requests_run_once.Goals as goal

pub returns : goal.returns
returns g c s events reports w lawful none follows live =
    let A = g.row.A.Denot in
    let laws : OnceLaws A = record {
      answers = c.responses_are_answers.ensures;
      changes = c.what_was_asked_changes_by_one.ensures;
      once = c.exactly_once_requests_are_answered_once.ensures;
      lawful_sent = c.what_is_sent_is_lawful.ensures;
      reads = c.what_is_written_is_read-2.ensures.read;
      alone = c.what_is_written_is_read-2.ensures.alone;
      packet_reads = c.what_is_written_is_read.ensures.read;
      packet_alone = c.what_is_written_is_read.ensures.alone;
      packet_fits = c.what_is_written_fits.ensures;
    } in
    let h = (c.steps_make_a_history.ensures s events reports w lawful none follows).1 in
    let is = h.1 in
    runs_once A laws s.net w.sent (onto (tables_of s) [] events reports) h.0
    (told_of A s.net (tables_of s) [] [] events reports h.0 tt is.tells) is.is_sent is.timely is.in_range live
