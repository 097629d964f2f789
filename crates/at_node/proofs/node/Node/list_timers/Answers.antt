use Rattle.std.proofs.Common.{refl}
use Rattle.at_node.proofs.AddingLemmas.{adds_begun, adds_both}
use Rattle.at_node.proofs.node.Node.list_timers.Goals as goal

-- what was added up to where memory ran out
pub returns-in_err-list_retries : goal.returns-in_err-list_retries
returns-in_err-list_retries g c = rw (← c.self.view_is, ← c.self-inside.view_is)
    (adds_begun _ _ _ _ _ _ c.from_residual.ensures.0 (adds_begun _ _ _ _ _ _ refl (adds_begun _ _ _ _ _ _ refl
    (adds_begun _ _ _ _ _ _ refl (adds_begun _ _ _ _ _ _ refl c.in_err-list_retries.ensures)))))

pub returns-in_err-list_releases : goal.returns-in_err-list_releases
returns-in_err-list_releases g c = rw (← c.self.view_is, ← c.self-inside.view_is)
    (adds_begun _ _ _ _ _ _ c.from_residual-in_err-list_releases.ensures.0 (adds_begun _ _ _ _ _ _ refl
    (adds_begun _ _ _ _ _ _ refl (adds_begun _ _ _ _ _ _ refl
    (adds_both _ _ _ _ _ _ _ c.in_ok-list_retries.ensures c.in_err-list_releases.ensures)))))

pub returns-in_err-list_releases-2 : goal.returns-in_err-list_releases-2
returns-in_err-list_releases-2 g c = rw (← c.self.view_is, ← c.self-inside.view_is)
    (adds_begun _ _ _ _ _ _ c.from_residual-in_err-list_releases-2.ensures.0 (adds_begun _ _ _ _ _ _ refl
    (adds_begun _ _ _ _ _ _ refl (adds_both _ _ _ _ _ _ _
    (adds_both _ _ _ _ _ _ _ c.in_ok-list_retries.ensures c.in_ok-list_releases.ensures)
    c.in_err-list_releases-2.ensures))))

pub returns-in_err-list_lookups : goal.returns-in_err-list_lookups
returns-in_err-list_lookups g c = rw (← c.self.view_is, ← c.self-inside.view_is)
    (adds_begun _ _ _ _ _ _ c.from_residual-in_err-list_lookups.ensures.0 (adds_begun _ _ _ _ _ _ refl
    (adds_both _ _ _ _ _ _ _ (adds_both _ _ _ _ _ _ _
    (adds_both _ _ _ _ _ _ _ c.in_ok-list_retries.ensures c.in_ok-list_releases.ensures)
    c.in_ok-list_releases-2.ensures) c.in_err-list_lookups.ensures)))

pub returns-in_err-list_ticks : goal.returns-in_err-list_ticks
returns-in_err-list_ticks g c = rw (← c.self.view_is, ← c.self-inside.view_is)
    (adds_begun _ _ _ _ _ _ c.from_residual-in_err-list_ticks.ensures.0 (adds_both _ _ _ _ _ _ _
    (adds_both _ _ _ _ _ _ _ (adds_both _ _ _ _ _ _ _
    (adds_both _ _ _ _ _ _ _ c.in_ok-list_retries.ensures c.in_ok-list_releases.ensures)
    c.in_ok-list_releases-2.ensures) c.in_ok-list_lookups.ensures) c.in_err-list_ticks.ensures))

pub returns : goal.returns
returns g c = rw (← c.self.view_is, ← c.self-inside.view_is)
    (adds_both _ _ _ _ _ _ _ (adds_both _ _ _ _ _ _ _ (adds_both _ _ _ _ _ _ _ (adds_both _ _ _ _ _ _ _
    (adds_both _ _ _ _ _ _ _ c.in_ok-list_retries.ensures c.in_ok-list_releases.ensures)
    c.in_ok-list_releases-2.ensures) c.in_ok-list_lookups.ensures) c.in_ok-list_ticks.ensures) c.list_ticks-2.ensures)
