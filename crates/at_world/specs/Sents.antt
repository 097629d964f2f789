-- The datagrams that were sent in a world, by number.
use Rattle.std.specs.Prelude.{◌≡◌, ℕ, List, [], ◌∷◌}
use Rattle.std.specs.List.{AllByRecursion}
use Rattle.at_ddp.specs.Datagram.{canonical}
use Rattle.at_ddp.specs.Outbox.{Posted}
use Rattle.at_ddp.specs.declared.address.Address.{Address}

-- a datagram: the event that sent it, the node that it goes to, and its bytes
pub record SentDatagram : Type 0 where
  pub event : ℕ
  pub to : ℕ
  pub bytes : List ℕ

abbrev pub stamp : ℕ → Posted → SentDatagram
stamp event p = record { event = event; to = p.node; bytes = p.bytes }

-- each datagram with the event that sent it
abbrev pub stamped : List ℕ → List Posted → List SentDatagram
stamped [] ps = []
stamped (e ∷ es) [] = []
stamped (e ∷ es) (p ∷ ps) = stamp e p ∷ stamped es ps

-- the bytes are the canonical spelling of a datagram, which goes to the node in its header
pub record IsCanonical (s : SentDatagram) : Type 0 where
  pub receiver : Address
  pub sender : Address
  pub kind : ℕ
  pub data_ : List ℕ
  pub spelled : s.bytes ≡ canonical receiver sender kind data_
  pub goes : s.to ≡ receiver.node

abbrev pub AreCanonical : List SentDatagram → Type 0
AreCanonical sent = AllByRecursion IsCanonical sent
