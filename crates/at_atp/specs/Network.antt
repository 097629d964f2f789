-- A network of requesters and responders at any addresses that ask and answer each other. Each packet may come late,
-- again or never (Inside AppleTalk, ATP, "Transactions").
use Rattle.std.specs.Prelude.{◌≡◌, ℕ, ◌+◌, ◌==◌, ◌&&◌, ◌||◌, not, nat_le, if◌then◌else◌, Bool, true, false, List, []}
use Rattle.std.specs.Prelude.{◌∷◌, ◌++◌, length, find, replicate, Option, Some, None}
use Rattle.std.specs.List.{list_all}
use Rattle.at_ddp.specs.Address.{same_address}
use Rattle.at_ddp.specs.Posts.{Post, Posts, packet_at, put, stamped}
use Rattle.at_ddp.specs.declared.address.Address.{Address}
use Rattle.at_atp_frame.specs.Frames.{Content, Request, Response, Release, owner, number_of}
use Rattle.at_atp_frame.specs.Packets.{Packet}
use Rattle.at_atp_responder.specs.Records.{Record, is_key, received, answer_fault, asked_for, after_answer}
use Rattle.at_atp_responder.specs.Records.{expiry_fault}
use Rattle.at_atp_requester.specs.Requests as requests
use Rattle.at_atp_requester.specs.Requests.{Requests, Retried, no_requests, next_number, beginning, request_by, heard}
use Rattle.at_atp_requester.specs.Requests.{is_numbered, retried, finishes}
use Rattle.at_ddp.specs.Tables.{without_first}
use Rattle.at_atp.specs.Transactions.{Transaction, Asked, answered, IsPart, IsResponse}
use Rattle.at_atp_frame.specs.declared.fault.AtpFault.{AtpFault}
use Rattle.at_atp_responder.specs.declared.reception.Key.{Key}
use Rattle.at_atp_responder.specs.declared.reception.Reception.{Reception}
use Rattle.at_atp_responder.specs.declared.reception.Reception.TheVariants as reception
use Rattle.at_atp_requester.specs.declared.progress.RequestProgress.TheVariants as step

-- a packet that was sent, with the event that sent it
abbrev pub Sent : Type 0
Sent = Post Content

-- a number that a requester drew, with the event
pub record Drawn : Type 0 where
  pub event : ℕ
  pub who : Address
  pub tid : ℕ

pub record Network : Type 0 where
  pub event : ℕ  -- how many events there were
  pub requesters : Address → Requests
  pub responders : Address → List Record
  pub sent : Posts Content
  pub drawn : List Drawn  -- all numbers that were ever drawn
  pub asked : List Transaction  -- newest first

-- before anything happened
abbrev pub opening : Network
opening = record { event = 0; requesters = λ _. no_requests; responders = λ _. []; sent = []; drawn = []; asked = [] }

-- ---- numbers that are not reused

-- the draw is of another number, or its event is not after this one
abbrev pub is_no_later : Address → ℕ → ℕ → Drawn → Bool
is_no_later who tid event x = not (same_address x.who who && (x.tid == tid)) || nat_le x.event event

-- no event after the one that sent a packet drew the number that it carries
abbrev pub is_fresh : List Drawn → Sent → Bool
is_fresh drawn s = list_all (is_no_later (owner s.from s.to s.packet) (number_of s.packet) s.event) drawn

-- no responder holds a record under this number
abbrev pub NoneHolds : (Address → List Record) → Address → ℕ → Type 0
NoneHolds responders who tid = (at : Address) → find (is_key (record { from = who; tid = tid })) (responders at) ≡ None

-- ---- what happens

pub data Happening : Type 0 where
  -- a transaction begins under the next number
  Begins : (who to : Address) (user bytes : List ℕ) (wanted : ℕ) (xo : Bool) (retries : ℕ) → Happening
  -- the request of a record is answered
  Answers : (at : Address) (key : Key) (packets : List Packet) → Happening
  -- a packet comes to the requester at the address that it was sent to
  Hears : (datagram : ℕ) → Happening
  -- a packet comes that ends an at-least-once transaction, and the requester asks the same responder for one packet
  -- more, at least once
  Turns : (datagram : ℕ) (user : List ℕ) (retries : ℕ) → Happening
  -- a packet comes to the responder at the address that it was sent to
  Takes : (datagram : ℕ) → Happening
  -- the same, and if the request is new there, it is answered at once
  Serves : (datagram : ℕ) (packets : List Packet) → Happening
  -- the release timer of a record fires
  Expires : (at : Address) (key : Key) → Happening
  -- a transaction is retried
  Retries : (who : Address) (tid : ℕ) → Happening
  -- an event outside this network, which sends so many foreign datagrams
  Other : (count : ℕ) → Happening

-- a requester becomes this one, and sends
abbrev pub with_requester : Network → Address → Requests → List (Address × Content) → Network
with_requester n who after sent =
    record n { requesters = put n.requesters who after; sent = n.sent ++ stamped n.event who sent }

-- a responder becomes this one, and sends
abbrev pub with_responder : Network → Address → List Record → List (Address × Content) → Network
with_responder n at after sent =
    record n { responders = put n.responders at after; sent = n.sent ++ stamped n.event at sent }

abbrev pub new_transaction : Address → requests.Transaction → Transaction
new_transaction who t = record {
  requester = who;
  tid = t.tid;
  responder = t.to;
  user = t.user;
  data_ = t.data_;
  wanted = length t.parts;
  xo = t.xo;
  answers = [];
}

abbrev pub begun : Network → Address → requests.Transaction → Network
begun n who t = record n {
  requesters = put n.requesters who (requests.begun (n.requesters who) t);
  sent = n.sent ++ stamped n.event who ((t.to, request_by t) ∷ []);
  drawn = n.drawn ++ record { event = n.event; who = who; tid = t.tid } ∷ [];
  asked = new_transaction who t ∷ n.asked;
}

abbrev pub begins : Network → Address → Address → List ℕ → List ℕ → ℕ → Bool → ℕ → Option ℕ → Network
begins n who to user bytes wanted xo retries None = n
begins n who to user bytes wanted xo retries (Some tid) = begun n who (beginning tid to user bytes wanted xo retries)

-- an answer that is not refused is sent, and added to the answers of its transaction
abbrev pub answers : Network → Address → Key → List Packet → Option AtpFault → Network
answers n at key packets (Some fault) = n
answers n at key packets None = record n {
  responders = put n.responders at (after_answer (n.responders at) key packets);
  sent = n.sent ++ stamped n.event at (asked_for (find (is_key key) (n.responders at)) key packets);
  asked = answered n.asked key.from key.tid packets;
}

abbrev pub gives : Network → Address → Key → List Packet → Network
gives n at key packets = answers n at key packets (answer_fault (n.responders at) key packets)

abbrev pub hears : (A : Type 0) → Network → Option Sent → Network
hears A n None = n
hears A n (Some s) =
    with_requester n s.to
    (heard {A = A} (n.requesters s.to) s.from s.packet).after
    (heard {A = A} (n.requesters s.to) s.from s.packet).sent

-- what comes, if it ends an at-least-once transaction of the requester that it comes to
abbrev pub ending : (A : Type 0) → Network → Option Sent → Option Sent
ending A n None = None
ending A n (Some s) = if finishes A (n.requesters s.to) s.from s.packet then Some s else None

-- the number that the requester draws after that packet
abbrev pub number_after : (A : Type 0) → Network → Sent → Option ℕ
number_after A n s = next_number (heard {A = A} (n.requesters s.to) s.from s.packet).after

-- the packet is heard, and a transaction with its sender begins in the same event
abbrev pub turns : (A : Type 0) → Network → List ℕ → ℕ → Option Sent → Network
turns A n user retries None = n
turns A n user retries (Some s) =
    begins (hears A n (Some s)) s.to s.from user [] 1 false retries (number_after A n s)

abbrev pub takes : Network → Sent → Network
takes n s =
    with_responder n s.to
    (received (n.responders s.to) s.from s.packet).after
    (received (n.responders s.to) s.from s.packet).sent

abbrev pub takes_in : Network → Option Sent → Network
takes_in n None = n
takes_in n (Some s) = takes n s

-- a request that was delivered to the service is answered
abbrev pub handed_up : Network → Address → List Packet → Reception → Network
handed_up n at packets (reception.New key) = gives n at key packets
handed_up n at packets other = n

abbrev pub serves : Network → List Packet → Option Sent → Network
serves n packets None = n
serves n packets (Some s) = handed_up (takes n s) s.to packets (received (n.responders s.to) s.from s.packet).reception

-- a record that can expire is removed, and nothing is sent
abbrev pub expires : Network → Address → Key → Option AtpFault → Network
expires n at key (Some fault) = n
expires n at key None = record n { responders = put n.responders at (without_first (is_key key) (n.responders at)) }

abbrev pub retries : Network → Address → Option Retried → Network
retries n who None = n
retries n who (Some r) = with_requester n who r.after r.sent

abbrev pub done : (A : Type 0) → Network → Happening → Network
done A n (Begins who to user bytes wanted xo times) =
    begins n who to user bytes wanted xo times (next_number (n.requesters who))
done A n (Answers at key packets) = gives n at key packets
done A n (Hears datagram) = hears A n (packet_at n.sent datagram)
done A n (Turns datagram user times) = turns A n user times (ending A n (packet_at n.sent datagram))
done A n (Takes datagram) = takes_in n (packet_at n.sent datagram)
done A n (Serves datagram packets) = serves n packets (packet_at n.sent datagram)
done A n (Expires at key) = expires n at key (expiry_fault (find (is_key key) (n.responders at)))
done A n (Retries who tid) = retries n who (retried (n.requesters who) tid)
done A n (Other count) = record n { sent = n.sent ++ replicate count None }

-- one event more
abbrev pub tick : Network → Network
tick n = record n { event = n.event + 1 }

-- the network after a history, whose newest happening comes first
abbrev pub after : (A : Type 0) → List Happening → Network
after A [] = opening
after A (h ∷ hs) = tick (done A (after A hs) h)

-- ---- histories in which no packet outlives its number

abbrev pub ComesInTime : Network → ℕ → Type 0
ComesInTime n datagram = (s : Sent) → packet_at n.sent datagram ≡ Some s → is_fresh n.drawn s ≡ true

-- each packet comes before its number is drawn again, and no number is drawn while a record is held under it
abbrev pub IsTimely : (A : Type 0) → Network → Happening → Type 0
IsTimely A n (Begins who to user bytes wanted xo times) =
    (tid : ℕ) → next_number (n.requesters who) ≡ Some tid → NoneHolds n.responders who tid
IsTimely A n (Hears datagram) = ComesInTime n datagram
IsTimely A n (Turns datagram user times) = ComesInTime n datagram
    × ((s : Sent) (tid : ℕ) → ending A n (packet_at n.sent datagram) ≡ Some s → number_after A n s ≡ Some tid
    → NoneHolds n.responders s.to tid)
IsTimely A n (Takes datagram) = ComesInTime n datagram
IsTimely A n (Serves datagram packets) = ComesInTime n datagram
IsTimely A n other = Unit {0}

abbrev pub AllTimely : (A : Type 0) → List Happening → Type 0
AllTimely A [] = Unit {0}
AllTimely A (h ∷ hs) = IsTimely A (after A hs) h × AllTimely A hs

-- ---- what holds after such a history

pub record GivesAnswers (A : Type 0) (n : Network) : Type 0 where
  -- what a packet in time finishes is a response to the newest transaction of its number, of answers given at the
  -- address that it asked
  pub finished : (datagram : ℕ) (s : Sent) (packets : List Packet) → packet_at n.sent datagram ≡ Some s
      → is_fresh n.drawn s ≡ true
      → (heard {A = A} (n.requesters s.to) s.from s.packet).step ≡ step.Finished packets
      → (a : Asked n.asked s.to (number_of s.packet) s.from) × IsResponse a.transaction packets
  -- a request in time belongs to the newest transaction of its number, and was sent to the responder that it asked
  pub requested : (datagram : ℕ) (s : Sent) (mask : ℕ) (xo : Bool) (timer tid : ℕ) (user bytes : List ℕ)
      → packet_at n.sent datagram ≡ Some s → is_fresh n.drawn s ≡ true
      → s.packet ≡ Request mask xo timer tid user bytes → (a : Asked n.asked s.from tid s.to)
      × (a.transaction.user ≡ user) × (a.transaction.data_ ≡ bytes) × (a.transaction.xo ≡ xo)
  -- a response in time is for the newest transaction of its number: a packet of an answer given at the address that it
  -- asked
  pub responded : (datagram : ℕ) (s : Sent) (place : ℕ) (eom sts : Bool) (tid : ℕ) (user bytes : List ℕ)
      → packet_at n.sent datagram ≡ Some s → is_fresh n.drawn s ≡ true
      → s.packet ≡ Response place eom sts tid user bytes → (a : Asked n.asked s.to tid s.from)
      × IsPart a.transaction place eom (record { user = user; data_ = bytes })
  -- a release in time belongs to the newest transaction of its number, and was sent to the responder that it asked
  pub released : (datagram : ℕ) (s : Sent) (tid : ℕ) → packet_at n.sent datagram ≡ Some s → is_fresh n.drawn s ≡ true
      → s.packet ≡ Release tid → Asked n.asked s.from tid s.to
  -- a record belongs to the newest transaction of its number
  pub recorded : (at : Address) (key : Key) (r : Record) → find (is_key key) (n.responders at) ≡ Some r
      → Asked n.asked key.from key.tid at
  -- and so does an open transaction
  pub standing : (who : Address) (tid : ℕ) (t : requests.Transaction)
      → find (is_numbered tid) (n.requesters who).standing ≡ Some t
      → (a : Asked n.asked who tid t.to) × (a.transaction.user ≡ t.user) × (a.transaction.data_ ≡ t.data_)
      × (a.transaction.wanted ≡ length t.parts) × (a.transaction.xo ≡ t.xo)
