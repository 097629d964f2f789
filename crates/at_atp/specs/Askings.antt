-- What a happening does to what was asked: nothing, a transaction begins, or an answer joins one (Inside AppleTalk,
-- ATP, "Transactions").
use Rattle.std.specs.Prelude.{◌≡◌, ℕ, true, false, List, [], ◌∷◌, Some}
use Rattle.at_atp_frame.specs.Packets.{Packet}
use Rattle.at_atp_responder.specs.Once.{same_key}
use Rattle.at_atp_responder.specs.declared.reception.Key.{Key}
use Rattle.at_atp.specs.HandUps.{brings, draws}
use Rattle.at_ddp.specs.Posts.{packet_at}
use Rattle.at_atp.specs.Network.{Network, Sent, Happening, Begins, Answers, Turns, Serves, ending, done}
use Rattle.at_atp.specs.Transactions.{Transaction, is_transaction, answered}

-- the happening gives this answer to the request of a key
abbrev pub Gives : Network → Happening → Key → List Packet → Type 0
Gives n (Answers at k packets) key answer = (same_key k key ≡ true) × (packets ≡ answer)
Gives n (Serves datagram packets) key answer = (brings n key (packet_at n.sent datagram) ≡ true) × (packets ≡ answer)
Gives n h key answer = ⊥

-- all stays as it was asked
pub record LeavesAsked (A : Type 0) (n : Network) (h : Happening) : Type 0 where
  pub same : (done A n h).asked ≡ n.asked
  pub draws_none : (key : Key) → draws A n h key ≡ false

-- a packet ends another transaction, and this one asks its sender for one packet, at least once and without data
pub record FollowsOne (A : Type 0) (n : Network) (h : Happening) (t : Transaction) (retries : ℕ) : Type 0 where
  pub datagram : ℕ
  pub packet : Sent
  pub turns : h ≡ Turns datagram t.user retries
  pub ends : ending A n (packet_at n.sent datagram) ≡ Some packet
  pub requester : t.requester ≡ packet.to
  pub responder : t.responder ≡ packet.from
  pub no_data : t.data_ ≡ []
  pub one_wanted : t.wanted ≡ 1
  pub not_xo : t.xo ≡ false

-- how a transaction begins with so many retries: by itself, or at the end of another
pub data BeginsIt (A : Type 0) (n : Network) (h : Happening) (t : Transaction) (retries : ℕ) : Type 0 where
  ByItself : h ≡ Begins t.requester t.responder t.user t.data_ t.wanted t.xo retries → BeginsIt A n h t retries
  AfterOne : FollowsOne A n h t retries → BeginsIt A n h t retries

-- this transaction begins, and has no answer yet
pub record BeginsOne (A : Type 0) (n : Network) (h : Happening) : Type 0 where
  pub transaction : Transaction
  pub retries : ℕ
  pub begins : BeginsIt A n h transaction retries
  pub asked : (done A n h).asked ≡ transaction ∷ n.asked
  pub no_answers : transaction.answers ≡ []
  pub draws_its : (key : Key) → draws A n h key ≡ is_transaction key.from key.tid transaction

-- this answer joins the newest transaction of a key
pub record JoinsOne (A : Type 0) (n : Network) (h : Happening) : Type 0 where
  pub key : Key
  pub packets : List Packet
  pub asked : (done A n h).asked ≡ answered n.asked key.from key.tid packets
  pub draws_none : (other : Key) → draws A n h other ≡ false
  pub gives : (other : Key) → same_key key other ≡ true → Gives n h other packets

pub data ChangesAsked (A : Type 0) (n : Network) (h : Happening) : Type 0 where
  Leaves : LeavesAsked A n h → ChangesAsked A n h
  Starts : BeginsOne A n h → ChangesAsked A n h
  Joins : JoinsOne A n h → ChangesAsked A n h
