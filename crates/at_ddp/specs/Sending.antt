-- What a socket sends: a destination, and bytes of data.
use Rattle.std.specs.Prelude.{◌≡◌, ℕ, ◌+◌, ◌*◌, List, [], ◌∷◌, ◌++◌, length, map}
use Rattle.at_ddp.specs.Datagram.{canonical}
use Rattle.at_ddp.specs.Outbox.{HasRoom, Outbox, Posted}
use Rattle.at_ddp.specs.declared.address.Address.{Address}

-- the finished datagram of a push
abbrev pub finished : Address → ℕ → Address × List ℕ → Posted
finished from kind push = record { node = push.0.node; bytes = canonical push.0 from kind push.1 }

-- new is old after these pushes, whatever room there is
pub record Sends (old new : Outbox) (pushes : List (Address × List ℕ)) : Type 0 where
  pub items : new.items ≡ old.items ++ map (finished old.from old.kind) pushes
  pub from : new.from ≡ old.from
  pub kind : new.kind ≡ old.kind

-- the next n pushes, with so many bytes of data in all, need no memory: each has a header of 13 bytes too
abbrev pub HasRoomForData : Outbox → ℕ → ℕ → Type 0
HasRoomForData box n data_ = HasRoom box.room n (n * 13 + data_)

-- the next n pushes of at most size bytes each need no memory
abbrev pub HasRoomFor : Outbox → ℕ → ℕ → Type 0
HasRoomFor box n size = HasRoom box.room n (n * (13 + size))

-- how many bytes of data these pushes have in all
abbrev pub bytes_in : List (Address × List ℕ) → ℕ
bytes_in [] = 0
bytes_in (push ∷ rest) = length push.1 + bytes_in rest

-- these next pushes need no memory
abbrev pub HasRoomToSend : Outbox → List (Address × List ℕ) → Type 0
HasRoomToSend box pushes = HasRoomForData box (length pushes) (bytes_in pushes)
