-- What comes to the nodes that are driven.
use Rattle.std.specs.Prelude.{ℕ, List}

-- the bytes that came at a poll, and the place of that poll among the steps
pub record Came : Type 0 where
  pub at : ℕ
  pub bytes : List ℕ
