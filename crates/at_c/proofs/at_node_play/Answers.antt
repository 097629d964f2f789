use Rattle.std.proofs.Common.{◌∙◌, sym}
use Rattle.at_c.proofs.StatusLemmas.{played_done}
use Rattle.at_c.proofs.at_node_play.Goals as goal

-- The node that was in the handle plays the line, and is put back.
pub returns-clause-safe : goal.returns-clause-safe
returns-clause-safe c =
    rw (c.in-Some.ensures.node, ← c.deref_mut.ensures.value, c.put.ensures) (λ done. played_done c.play-played.result
    (sym c.played_status.ensures ∙ done) c.play-played.ensures.safe)
