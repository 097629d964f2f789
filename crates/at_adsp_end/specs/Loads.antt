-- How much memory the packets of an end take.
use Rattle.std.specs.Prelude.{◌≡◌, List, ◌++◌, length}
use Rattle.at_ddp.specs.Outbox.{Outbox}
use Rattle.at_ddp.specs.Sending.{HasRoomToSend, bytes_in}
use Rattle.at_ddp.specs.declared.address.Address.{Address}
use Rattle.at_adsp_frame.specs.Segments.{Content}
use Rattle.at_adsp_end.specs.Ends.{addressed, spelled_all}
use Rattle.at_adsp_end.specs.declared.load.Load.{Load}

-- these packets to one address need no memory
abbrev pub HasRoomTo : Outbox → Address → List Content → Type 0
HasRoomTo box to sent = HasRoomToSend box (spelled_all (addressed to sent))

-- of the room for these packets and others, that for the others is left
abbrev pub LeavesRoom : Outbox → Outbox → Address → List Content → Type 0
LeavesRoom old new to sent = (more : List Content) → HasRoomTo old to (sent ++ more) → HasRoomTo new to more

-- these packets to one address are so many, and have so many bytes
pub record IsLoad (load : Load) (to : Address) (sent : List Content) : Type 0 where
  pub packets : load.packets ≡ length (spelled_all (addressed to sent))
  pub bytes : load.bytes ≡ bytes_in (spelled_all (addressed to sent))
