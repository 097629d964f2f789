use Rattle.std.proofs.Common.{[], arith}
use Rattle.at_atp_requester.specs.Requests.{Transaction}
use Rattle.at_node.specs.Timers.{retry_of}
use Rattle.at_node.proofs.AddingLemmas.{adds_as, adds_both}
use Rattle.at_node.proofs.TimerLemmas.{map_next}
use Rattle.at_node.proofs.timers.+list_retries.Goals as goal

pub returns : goal.returns
returns g t c = adds_as _ _ _ _ _
    (map_next retry_of (λ (x : Transaction). x.tid) [] c.args.part.now.transactions.requester.standing c.args.place
    c.number_at-tid.result (omega (arith, c.open_count.ensures, c.if-place-open_count.false)) c.number_at-tid.ensures)
    (adds_both _ _ _ _ _ _ _ c.in_ok-list_one.ensures c.list_retries.ensures)
