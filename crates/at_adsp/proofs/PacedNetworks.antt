-- How far the ends of a network have come, and how far each goes on in one event.
use Rattle.std.proofs.Common.{◌≡◌, ℕ, zero, suc, ◌+◌, ◌*◌, ◌<◌, ◌≤◌, Bool, true, false, List, [], ◌∷◌, ◌++◌, length}
use Rattle.std.proofs.Common.{Option, Some, refl, sym, ap, ◌∙◌, arith}
use Rattle.std.specs.List.{AllByRecursion}
use Rattle.at_ddp.specs.declared.address.Address.{Address}
use Rattle.at_adsp_frame.specs.Segments.{Content}
use Rattle.at_adsp_end.specs.Ends.{addressed, has_opened, no_receiver, no_sender}
use Rattle.at_adsp_ends.specs.Tables.{EndTable}
use Rattle.at_ddp.specs.Posts.{AllSent, packet_at, stamped}
use Rattle.at_ddp.proofs.PostLemmas.{sent_at, sent_implied}
use Rattle.at_adsp.specs.Network.{Made, Sent, Network, birth_of, is_fresh, newest}
use Rattle.at_adsp.proofs.EndMoves.{IsPlainPart}
use Rattle.at_adsp.proofs.Fews.{count_of}
use Rattle.at_adsp.proofs.Logs.{length_both}
use Rattle.at_adsp.proofs.Mapped.{length_mapped, mapped}
use Rattle.at_adsp.proofs.Paces.{Follows, Keeps, Marks, Rises, TellsOf, marks_of, rises_itself}
use Rattle.at_adsp.proofs.Slows.{IsExact, IsSlow}

-- an end has come as far as is noted, and follows its peer
pub record Paced (room : ℕ) (ours : Address → Bool) (marks : ℕ → Marks) (m : Made) : Type 0 where
  pub noted : marks m.stream.birth ≡ marks_of m.last
  pub keeps : Keeps room (ours m.last.asked) m.last
  pub begins : has_opened m.last.phase ≡ false → (m.last.sender ≡ no_sender) × (m.last.receiver ≡ no_receiver)
  pub follows : (b : ℕ) → m.stream.peer ≡ Some b → Follows room (marks b) m.last

-- what a segment tells of its sender, as long as its identifiers are not drawn again
pub record TellsHere (room : ℕ) (made : List Made) (marks : ℕ → Marks) (s : Sent) : Type 0 where
  pub window : s.packet.window ≤ room
  pub tells : is_fresh made s ≡ true → (b : ℕ) → birth_of (newest made s.from s.packet.source) ≡ Some b
      → TellsOf room s.packet.source (marks b) s.packet

-- each end has come so far, by its birth, after so many events
pub record Pace (room : ℕ) (ours : Address → Bool) (events : ℕ) (tables : Address → EndTable) (all : List Made)
    (packets : List (Option Sent)) : Type 0 where
  pub marks : ℕ → Marks
  pub none : (b : ℕ) → events ≤ b → marks b ≡ record { gave = 0; took = 0 }
  pub ends : AllByRecursion (Paced room ours marks) all
  pub sent : AllSent (TellsHere room all marks) packets
  pub few : (b : ℕ) → (marks b).gave ≤ 573 * length packets
  pub rooms : (at : Address) → (tables at).rooms.receive ≤ room

abbrev pub PaceOf : ℕ → (Address → Bool) → ℕ → Network → Type 0
PaceOf room ours events n = Pace room ours events n.tables n.made n.sent

abbrev pub pace_later : (room : ℕ) (ours : Address → Bool) (n : Network) → PaceOf room ours n.event n
    → PaceOf room ours (n.event + 1) n
pace_later room ours n h = record {
  marks = h.marks;
  none = λ b le. h.none b (omega (arith, le));
  ends = h.ends;
  sent = h.sent;
  few = h.few;
  rooms = h.rooms;
}

pub length_sent : (packets : List (Option Sent)) (event : ℕ) (at to : Address) (out : List Content)
    → length (packets ++ stamped event at (addressed to out)) ≡ length packets + length out
length_sent packets event at to out =
    let both = length_both packets (stamped event at (addressed to out)) in
    let all = length_mapped {Y = Option Sent} (λ (s : Address
    × Content). Some (record { event = event; from = at; to = s.0; packet = s.1 }))
    (addressed to out) in
    let each = length_mapped {Y = Address × Content} (λ (s : Content). (to, s)) out in
    omega (arith, both, all, each)

-- ---- what one event changes

-- an end goes on in it, and only by little if it is for one of our addresses
pub record Goes (room : ℕ) (ours : Address → Bool) (was marks : ℕ → Marks) (m : Made) : Type 0 where
  pub rises : Rises (was m.stream.birth) (marks m.stream.birth)
  pub slow : ours m.last.asked ≡ true → IsSlow (room + room) (was m.stream.birth) (marks m.stream.birth)

-- a segment that was just sent does not tell much less than its end has reached, and a forward reset tells no less
pub record IsLow (most : ℕ) (m : Marks) (s : Content) : Type 0 where
  pub gave : m.gave ≤ s.first + most
  pub took : m.took ≤ s.next + most
  pub exact : IsExact m.gave s
  pub count : count_of s.body ≤ most

abbrev pub most_of : ℕ → ℕ
most_of room = room + (room + room)

-- a segment of this event, which opens nothing, as long as its identifiers are not drawn again
abbrev pub LowHere : ℕ → (Address → Bool) → List Made → (ℕ → Marks) → ℕ → Sent → Type 0
LowHere room ours made marks event s =
    s.event ≡ event → IsPlainPart s.packet.body → is_fresh made s ≡ true → (m : Made)
    → newest made s.from s.packet.source ≡ Some m → ours m.last.asked ≡ true
    → IsLow (most_of room) (marks m.stream.birth) s.packet

-- which end it is, and whom it asked
abbrev pub whose : Made → ℕ × Address
whose m = (m.stream.birth, m.stream.asked)

-- of a segment of an earlier event, which is in time after this one, the sender was the same before
abbrev pub IsBack : List Made → List Made → Sent → Type 0
IsBack old new s = (is_fresh old s ≡ true)
    × (mapped whose (newest new s.from s.packet.source) ≡ mapped whose (newest old s.from s.packet.source))

abbrev pub Past : Network → Type 0
Past n = AllSent (λ s. s.event < n.event) n.sent

-- what was sent before an event, of all that was sent
abbrev pub SentBefore : Network → Network → Type 0
SentBefore old new = (which : ℕ) (s : Sent) → packet_at new.sent which ≡ Some s → s.event < old.event
    → packet_at old.sent which ≡ Some s

-- a network after an event, and the one before it, where the ends had come so far
pub record PaceOn (room : ℕ) (ours : Address → Bool) (was : ℕ → Marks) (old new : Network) : Type 0 where
  pub pace : PaceOf room ours (old.event + 1) new
  pub goes : AllByRecursion (Goes room ours was pace.marks) new.made
  pub low : AllSent (LowHere room ours new.made pace.marks old.event) new.sent
  pub back : (s : Sent) → s.event < old.event → is_fresh new.made s ≡ true → IsBack old.made new.made s
  pub before : SentBefore old new

-- what follows was sent in this event
pub sent_before : (event : ℕ) (a b : List (Option Sent)) → AllSent (λ s. s.event ≡ event) b → (which : ℕ) (s : Sent)
    → packet_at (a ++ b) which ≡ Some s → s.event < event → packet_at a which ≡ Some s
sent_before event [] b all which s is lt =
    let same = sent_at (λ (x : Sent). x.event ≡ event) b which s all is in absurd (omega (arith, same, lt))
sent_before event (x ∷ a) b all zero s is lt = is
sent_before event (x ∷ a) b all (suc which) s is lt = sent_before event a b all which s is lt

pub stamped_in : (event : ℕ) (from : Address) (xs : List (Address × Content))
    → AllSent (λ (s : Sent). s.event ≡ event) (stamped event from xs)
stamped_in event from [] = tt
stamped_in event from (x ∷ xs) = (refl, stamped_in event from xs)

pub stamped_before : (n new : Network) (at : Address) (xs : List (Address × Content))
    → new.sent ≡ n.sent ++ stamped n.event at xs → SentBefore n new
stamped_before n new at xs same which s is lt =
    sent_before n.event n.sent (stamped n.event at xs) (stamped_in n.event at xs) which s
    (ap (λ l. packet_at l which) (sym same) ∙ is) lt

pub goes_nowhere : (room : ℕ) (ours : Address → Bool) (marks : ℕ → Marks) (m : Made) → Goes room ours marks marks m
goes_nowhere room ours marks m = record {
  rises = rises_itself (marks m.stream.birth);
  slow = λ is. record { gave = omega arith; took = omega arith };
}

pub none_go : (room : ℕ) (ours : Address → Bool) (marks : ℕ → Marks) (made : List Made)
    → AllByRecursion (Goes room ours marks marks) made
none_go room ours marks [] = tt
none_go room ours marks (m ∷ made) = (goes_nowhere room ours marks m, none_go room ours marks made)

-- a segment of an earlier event is none of this one
pub earlier_low : (room : ℕ) (ours : Address → Bool) (made : List Made) (marks : ℕ → Marks) (n : Network) → Past n
    → AllSent (LowHere room ours made marks n.event) n.sent
earlier_low room ours made marks n past =
    sent_implied (λ s. s.event < n.event) (LowHere room ours made marks n.event) n.sent
    (λ s lt same plain fresh m is here. absurd (omega (arith, lt, same))) past

-- only packets that open connections
abbrev pub AllOpen : List Content → Type 0
AllOpen out = AllByRecursion (λ (s : Content). IsPlainPart s.body → ⊥) out

pub open_low : (room : ℕ) (ours : Address → Bool) (made : List Made) (marks : ℕ → Marks) (event : ℕ)
    (from to : Address) (out : List Content) → AllOpen out
    → AllSent (LowHere room ours made marks event) (stamped event from (addressed to out))
open_low room ours made marks event from to [] all = tt
open_low room ours made marks event from to (x ∷ xs) all = (
  (λ same plain fresh m is here. absurd (all.0 plain)),
  open_low room ours made marks event from to xs all.1,
)

-- nothing happened
pub still_pace : (room : ℕ) (ours : Address → Bool) (n : Network) (pace : PaceOf room ours (n.event + 1) n) → Past n
    → PaceOn room ours pace.marks n n
still_pace room ours n pace past = record {
  pace = pace;
  goes = none_go room ours pace.marks n.made;
  low = earlier_low room ours n.made pace.marks n past;
  back = λ s lt fresh. (fresh, refl);
  before = λ which s is lt. is;
}
