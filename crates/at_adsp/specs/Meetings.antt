-- The peers of ends of streams: which one an end gets as it opens, and where what it reads comes from (Inside
-- AppleTalk, ADSP, "Opening a connection" and "Data flow").
use Rattle.std.specs.Prelude.{◌≡◌, ◌⊎◌, ℕ, true, false, List, ◌++◌, find, Contains, Some, None}
use Rattle.at_ddp.specs.declared.address.Address.{Address}
use Rattle.at_adsp_end.specs.Ends.{EndState}
use Rattle.at_adsp_end.specs.declared.item.Item.{Item}
use Rattle.at_adsp.specs.Reading.{ReadsFrom}
use Rattle.at_adsp.specs.Streams.{Stream, has_number, with_peer}

-- listening made the peer where an end asked, and no other end has that peer
pub record IsAnswered (all : List Stream) (end peer : Stream) : Type 0 where
  pub asked : end.listener ≡ false
  pub listened : peer.listener ≡ true
  pub there : peer.owner ≡ end.asked
  pub alone : (other : Stream) → Contains all other → other.peer ≡ Some peer.birth → other.birth ≡ end.birth

-- the peer asked, and has an end that listening made as its peer
pub record IsAcknowledged (end peer : Stream) : Type 0 where
  pub listened : end.listener ≡ true
  pub asked : peer.listener ≡ false
  pub has : peer.peer ≡ Some end.birth

-- an end may have this one as its peer
abbrev pub MayHave : List Stream → Stream → Stream → Type 0
MayHave all end peer = IsAnswered all end peer ⊎ IsAcknowledged end peer

-- Of all ends so far, the newest with this number opens. It had no peer, and has one from then on.
pub record OpensWith (all now : List Stream) (at : Address) (id : ℕ) : Type 0 where
  pub end : Stream
  pub newest : find (has_number at id) all ≡ Some end
  pub alone : end.peer ≡ None
  pub peer : Stream
  pub made : Contains all peer
  pub may : MayHave all end peer
  pub becomes : now ≡ with_peer at id (Some peer.birth) all

-- An end that opened names its peer, among all that were ever made. Its remote is the peer's address and identifier,
-- which no end got since.
pub record NamesPeer (all : List Stream) (at : Address) (e : EndState) : Type 0 where
  pub end : Stream
  pub newest : find (has_number at e.id) all ≡ Some end
  pub peer : Stream
  pub has : end.peer ≡ Some peer.birth
  pub peer_newest : find (has_number peer.owner peer.id) all ≡ Some peer
  pub names : e.remote ≡ Some (record { address = peer.owner; id = peer.id })

-- All that was read so far of the newest end with this number, and then these items, reads from what was written at its
-- peer.
pub record ReadsWith (all : List Stream) (at : Address) (id : ℕ) (items : List Item) : Type 0 where
  pub end : Stream
  pub newest : find (has_number at id) all ≡ Some end
  pub peer : Stream
  pub has : end.peer ≡ Some peer.birth
  pub made : Contains all peer
  pub reads : ReadsFrom (end.read ++ items) peer.written
