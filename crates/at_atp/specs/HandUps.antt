-- How often a network delivers a request to a service and answers it, if records live long enough (Inside AppleTalk,
-- ATP, "At-least-once and exactly-once transactions").
use Rattle.std.specs.Prelude.{◌≡◌, ℕ, ◌+◌, ◌≤◌, ◌&&◌, ◌||◌, if◌then◌else◌, is_none, Bool, true, false, List, [], ◌∷◌}
use Rattle.std.specs.Prelude.{length, take, find, Option, Some, None}
use Rattle.at_ddp.specs.Address.{same_address}
use Rattle.at_ddp.specs.declared.address.Address.{Address}
use Rattle.at_atp_frame.specs.Frames.{Request, number_of}
use Rattle.at_ddp.specs.Posts.{packet_at}
use Rattle.at_atp.specs.Network.{Network, Sent, Happening, Begins, Turns, Takes, Serves, Expires, is_fresh}
use Rattle.at_atp.specs.Network.{ending, number_after, after}
use Rattle.at_atp_responder.specs.Once.{Comes, hands_up, same_key}
use Rattle.at_atp_frame.specs.Packets.{Packet}
use Rattle.at_atp_responder.specs.Records.{is_key, expiry_fault}
use Rattle.at_atp_requester.specs.Requests.{next_number, heard}
use Rattle.at_atp.specs.Transactions.{Transaction, Asked, transaction_of}
use Rattle.at_atp_responder.specs.declared.reception.Key.{Key}
use Rattle.at_atp_requester.specs.declared.progress.RequestProgress.TheVariants as step

-- does this requester draw the number of the key?
abbrev pub is_drawn : Address → Option ℕ → Key → Bool
is_drawn who None key = false
is_drawn who (Some tid) key = same_key (record { from = who; tid = tid }) key

-- does the requester draw the number of the key after the packet that ends a transaction there?
abbrev pub is_drawn_after : (A : Type 0) → Network → Option Sent → Key → Bool
is_drawn_after A n None key = false
is_drawn_after A n (Some s) key = is_drawn s.to (number_after A n s) key

-- does a happening draw the number of this key?
abbrev pub draws : (A : Type 0) → Network → Happening → Key → Bool
draws A n (Begins who to user bytes wanted xo times) key = is_drawn who (next_number (n.requesters who)) key
draws A n (Turns datagram user times) key = is_drawn_after A n (ending A n (packet_at n.sent datagram)) key
draws A n h key = false

-- does a packet that comes deliver this request to the service?
abbrev pub brings : Network → Key → Option Sent → Bool
brings n key None = false
brings n key (Some s) = hands_up key (n.responders s.to) (Comes s.from s.packet)

abbrev pub is_handed_up : Network → Happening → Key → Bool
is_handed_up n (Takes datagram) key = brings n key (packet_at n.sent datagram)
is_handed_up n (Serves datagram packets) key = brings n key (packet_at n.sent datagram)
is_handed_up n h key = false

-- how often a request was delivered to a service, anywhere, since its number was last drawn
abbrev pub hand_ups_since : (A : Type 0) → List Happening → Key → ℕ
hand_ups_since A [] key = 0
hand_ups_since A (h ∷ hs) key =
    if draws A (after A hs) h key then 0
    else if is_handed_up (after A hs) h key then hand_ups_since A hs key + 1
    else hand_ups_since A hs key

-- does a record of this key at this responder expire?
abbrev pub expires_there : Network → Happening → Address → Key → Bool
expires_there n (Expires place k) at key =
    is_none (expiry_fault (find (is_key k) (n.responders place))) && same_address place at && same_key k key
expires_there n h at key = false

-- did such a record expire since the number was last drawn?
abbrev pub has_expired : (A : Type 0) → List Happening → Address → Key → Bool
has_expired A [] at key = false
has_expired A (h ∷ hs) at key =
    if draws A (after A hs) h key then false else expires_there (after A hs) h at key || has_expired A hs at key

-- ---- histories in which no request outlives its record

-- if a request comes, no record of its key expired since its number was drawn
abbrev pub ComesInLife : (A : Type 0) → List Happening → ℕ → Type 0
ComesInLife A hs datagram = (s : Sent) (mask : ℕ) (xo : Bool) (timer tid : ℕ) (user bytes : List ℕ)
    → packet_at (after A hs).sent datagram ≡ Some s → s.packet ≡ Request mask xo timer tid user bytes
    → has_expired A hs s.to (record { from = s.from; tid = tid }) ≡ false

abbrev pub Lives : (A : Type 0) → List Happening → Happening → Type 0
Lives A hs (Takes datagram) = ComesInLife A hs datagram
Lives A hs (Serves datagram packets) = ComesInLife A hs datagram
Lives A hs h = Unit {0}

-- After a record expired, no request of its key comes to its responder before the number is drawn again.
abbrev pub AllLived : (A : Type 0) → List Happening → Type 0
AllLived A [] = Unit {0}
AllLived A (h ∷ hs) = Lives A hs h × AllLived A hs

-- ---- what holds after such a history

pub record AnswersOnce (A : Type 0) (history : List Happening) : Type 0 where
  -- an exactly-once transaction that is the newest of its number was delivered at most once since it began, and
  -- answered no more often
  pub once : (who : Address) (tid : ℕ) (t : Transaction) → transaction_of (after A history).asked who tid ≡ Some t
      → t.xo ≡ true
      → (hand_ups_since A history (record { from = who; tid = tid }) ≤ 1)
      × (length t.answers ≤ hand_ups_since A history (record { from = who; tid = tid }))
  -- If a packet in time ends the transaction, it was delivered once and answered once. The response is that answer, or
  -- as many of its first packets as were asked for.
  pub finished : (datagram : ℕ) (s : Sent) (packets : List Packet) → packet_at (after A history).sent datagram ≡ Some s
      → is_fresh (after A history).drawn s ≡ true
      → (heard {A = A} ((after A history).requesters s.to) s.from s.packet).step ≡ step.Finished packets
      → (a : Asked (after A history).asked s.to (number_of s.packet) s.from) → a.transaction.xo ≡ true
      → (hand_ups_since A history (record { from = s.to; tid = number_of s.packet }) ≡ 1) × (answer : List Packet)
      × (a.transaction.answers ≡ answer ∷ []) × (packets ≡ take a.transaction.wanted answer)
