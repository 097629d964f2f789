-- Which words in hexadecimal digits are shown without a refusal.
use Rattle.std.specs.Prelude.{ℕ, List}
use Rattle.at_ddp.specs.Datagram.{Content as Datagram, BeginsWith}
use Rattle.at_print.specs.Reports.{IsReadable}
use Rattle.at_words.specs.Hexes.{IsHex}

-- the bytes begin with a datagram whose data can be read
pub record IsSound (bytes : List ℕ) : Type 0 where
  pub datagram : Datagram
  pub rest : List ℕ
  pub begins : BeginsWith bytes datagram rest
  pub readable : IsReadable datagram.kind datagram.data_

-- the word spells such bytes
pub record Shows (word : List ℕ) : Type 0 where
  pub bytes : List ℕ
  pub written : IsHex word bytes
  pub sound : IsSound bytes
