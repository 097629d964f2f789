use Rattle.std.proofs.Common.{[], arith}
use Rattle.at_node.specs.Timers.{lookup_of}
use Rattle.at_nbp.specs.Lookups.{Search}
use Rattle.at_node.proofs.AddingLemmas.{adds_as, adds_both}
use Rattle.at_node.proofs.TimerLemmas.{map_next}
use Rattle.at_node.proofs.timers.+list_lookups.Goals as goal

pub returns : goal.returns
returns g t c = adds_as _ _ _ _ _
    (map_next lookup_of (λ (x : Search). x.id) [] c.args.socket.now.lookups.searches c.args.place
    c.id_at-id.result (omega (arith, c.open_count.ensures, c.if-place-open_count.false)) c.id_at-id.ensures)
    (adds_both _ _ _ _ _ _ _ c.in_ok-list_one.ensures c.list_lookups.ensures)
