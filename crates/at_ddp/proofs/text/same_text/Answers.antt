use Rattle.at_ddp.proofs.TextLemmas.{folded_if_small, small_if_folded}
use Rattle.at_ddp.proofs.text.same_text.Goals as goal

pub returns : goal.returns
returns c = (
  λ t. folded_if_small _ _
      (c.eq_ignore_ascii_case.ensures.test.0 t),
  λ e. c.eq_ignore_ascii_case.ensures.test.1 (small_if_folded _ _ e),
)
