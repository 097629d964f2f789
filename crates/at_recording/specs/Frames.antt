-- The frames of EtherTalk by which datagrams of one cable are recorded.
use Rattle.std.specs.Prelude.{ℕ, ◌^◌, ◌<◌, ◌==◌, if◌then◌else◌, List, [], ◌∷◌, ◌++◌, length, take, slice_index}
use Rattle.at_ddp.specs.Datagram.{AreBytes}
use Rattle.at_frames.specs.EtherTalk.{ethertalk_header}

-- a datagram that is sent: the number of the event that sends it, the node that it goes to, and its bytes
pub record Sending : Type 0 where
  pub event : ℕ
  pub to : ℕ
  pub bytes : List ℕ

-- each field fits
pub record IsSending (s : Sending) : Type 0 where
  pub event : s.event < 2 ^ 32
  pub to : s.to < 256
  pub bytes : AreBytes s.bytes

-- 02:00:00:00:00:NN, the address of the node NN
abbrev pub node_address : ℕ → List ℕ
node_address node = 2 ∷ 0 ∷ 0 ∷ 0 ∷ 0 ∷ node ∷ []

-- 09:00:07:FF:FF:FF, EtherTalk's address of all nodes (Inside AppleTalk, EtherTalk and TokenTalk Link Access Protocols)
abbrev pub all_nodes : List ℕ
all_nodes = 9 ∷ 0 ∷ 7 ∷ 255 ∷ 255 ∷ 255 ∷ []

-- where the frame of a datagram for this node goes to; 255 is every node
abbrev pub receiver : ℕ → List ℕ
receiver node = if node == 255 then all_nodes else node_address node

-- where it comes from: the node of the sender is the tenth byte of the long header
abbrev pub sender : List ℕ → List ℕ
sender bytes = node_address (slice_index bytes 9)

-- the bytes of a datagram that its frame has: all, since a frame takes 1,492 of them and a datagram has 599 at most
abbrev pub carried : List ℕ → List ℕ
carried bytes = take 1492 bytes

-- the frame that carries a datagram
abbrev pub frame_of : ℕ → List ℕ → List ℕ
frame_of to bytes = ethertalk_header (receiver to) (sender bytes) (length (carried bytes)) ++ carried bytes
