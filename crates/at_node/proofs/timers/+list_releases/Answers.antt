use Rattle.std.proofs.Common.{[], arith}
use Rattle.std.specs.Prelude.{option_map}
use Rattle.at_atp_responder.specs.Records.{expiring_key}
use Rattle.at_zone_socket.specs.AtpTimers.{records_at}
use Rattle.at_node.specs.Timers.{release_of}
use Rattle.at_node.proofs.AddingLemmas.{adds_as, adds_begun, adds_both}
use Rattle.at_node.proofs.TimerLemmas.{filter_next}
use Rattle.at_node.proofs.timers.+list_releases.Goals as goal

pub returns-in_err-list_one : goal.returns-in_err-list_one
returns-in_err-list_one g t c = adds_as _ _ _ _ _
    (filter_next (option_map (release_of c.args.own)) expiring_key [] (records_at c.args.part.now c.args.own)
    c.args.place c.expiring_at-key.result (omega (arith, c.record_count.ensures, c.if-place-record_count.false))
    c.expiring_at-key.ensures)
    (adds_begun _ _ _ _ _ _ c.from_residual.ensures.0 (rw c.releasing.ensures at c.in_err-list_one.ensures))

pub returns : goal.returns
returns g t c = adds_as _ _ _ _ _
    (filter_next (option_map (release_of c.args.own)) expiring_key [] (records_at c.args.part.now c.args.own)
    c.args.place c.expiring_at-key.result (omega (arith, c.record_count.ensures, c.if-place-record_count.false))
    c.expiring_at-key.ensures)
    (adds_both _ _ _ _ _ _ _ (rw c.releasing.ensures at c.in_ok-list_one.ensures) c.list_releases.ensures)
