-- What every timely history in which records live long enough leaves true of exactly-once transactions.
use Rattle.std.proofs.Common.{◌≡◌, ℕ, zero, suc, ◌+◌, ◌≤◌, Bool, true, false, cond, List, [], ◌∷◌, ◌++◌, length, take}
use Rattle.std.proofs.Common.{Option, Some, None, ◌⊎◌, inl, inr, refl, sym, ap, subst, ◌∙◌, arith}
use Rattle.std.specs.Prelude.{find, slice_get, is_none, ◌&&◌, ◌||◌}
use Rattle.std.specs.List.{Contains}
use Rattle.std.proofs.lemmas.Bool.{eqb-true}
use Rattle.std.proofs.lemmas.List.{take_all}
use Rattle.std.proofs.Math.Seq.{take-append_seam}
use Rattle.at_ddp.specs.Address.{same_address}
use Rattle.at_ddp.specs.declared.address.Address.{Address}
use Rattle.at_atp_frame.specs.Frames.{Content, Request, Response, Release, number_of}
use Rattle.at_atp.specs.HandUps.{is_drawn, is_drawn_after, brings, hand_ups_since, has_expired, ComesInLife, Lives}
use Rattle.at_atp.specs.HandUps.{AllLived, AnswersOnce}
use Rattle.at_ddp.specs.Posts.{packet_at}
use Rattle.at_atp.specs.Network.{Network, Sent, Happening, Begins, Answers, Hears, Turns, Takes, Serves, Expires}
use Rattle.at_atp.specs.Network.{Retries, Other, begins, turns, ending, number_after, NoneHolds, answers, gives}
use Rattle.at_atp.specs.Network.{handed_up, hears, takes, takes_in, serves, expires, retries, new_transaction, after}
use Rattle.at_atp.specs.Network.{IsTimely, AllTimely}
use Rattle.at_atp_responder.specs.Once.{same_key}
use Rattle.at_atp_frame.specs.Packets.{Packet}
use Rattle.at_atp_responder.specs.Records.{State, Waiting, Answered, Released, Record, is_key, received, record_fault}
use Rattle.at_atp_responder.specs.Records.{answer_fault, expiry_fault}
use Rattle.at_atp_requester.specs.Requests as requests
use Rattle.at_atp_requester.specs.Requests.{next_number, retried, beginning}
use Rattle.at_atp.specs.Transactions.{Transaction, Asked, IsPart, AreParts, EndsAnswer, IsResponse}
use Rattle.at_atp_frame.specs.declared.fault.AtpFault.{AtpFault}
use Rattle.at_atp_responder.specs.declared.reception.Key.{Key}
use Rattle.at_atp_responder.specs.declared.reception.Reception.{Reception}
use Rattle.at_atp_responder.specs.declared.reception.Reception.TheVariants as reception
use Rattle.at_atp.proofs.Beginnings.{DrawsFree, later}
use Rattle.at_atp.proofs.Histories.{history_sound, gives_answers}
use Rattle.at_atp.proofs.KeyedRecords.{those}
use Rattle.at_atp.proofs.NetworkLemmas.{Sound, asked_by, tells_at, took_sound}
use Rattle.at_atp.proofs.Newest.{one_newest}
use Rattle.at_atp.proofs.OnceNetwork.{EachOnce, IsAlive, comes_once, answered_once, expires_once, begun_once}
use Rattle.at_atp.proofs.Stages.{Stage, Given}

abbrev IsOnce : Network → (Key → ℕ) → (Address → Key → Bool) → Type 0
IsOnce n hands expired = EachOnce n.asked n.responders hands expired

abbrev OnceAfter : (A : Type 0) → List Happening → Type 0
OnceAfter A hs = IsOnce (after A hs) (hand_ups_since A hs) (has_expired A hs)

-- ---- answers

-- only a request that waits is answered, as the responder's laws say
abbrev pub AnswersWaiting : Type 0
AnswersWaiting = (rs : List Record) (key : Key) (packets : List Packet) → answer_fault rs key packets ≡ None
    → record_fault (find (is_key key) rs) ≡ None

waiting : (o : Option Record) → record_fault o ≡ None → (r : Record) × (o ≡ Some r)
waiting None h = absurd (cc)
waiting (Some r) h = (r, refl)

gives_once : (waits : AnswersWaiting) (events : ℕ) (n : Network) (hands : Key → ℕ) (expired : Address → Key → Bool)
    (at : Address) (key : Key) (packets : List Packet) → Sound events n → IsOnce n hands expired
    → IsOnce (gives n at key packets) hands expired
gives_once waits events n hands expired at key packets sound each = go (answer_fault (n.responders at) key packets) refl
  where
    go : (o : Option AtpFault) → answer_fault (n.responders at) key packets ≡ o
        → IsOnce (answers n at key packets o) hands expired
    go (Some f) e = each
    go None e =
        let free = waits (n.responders at) key packets e in
        let there = waiting (find (is_key key) (n.responders at)) free in
        answered_once n.asked n.responders hands expired at key packets
        (asked_by n.asked at key (n.responders at) there.0 (sound.records at) there.1) free each

handed_once : (waits : AnswersWaiting) (events : ℕ) (n : Network) (hands : Key → ℕ) (expired : Address → Key → Bool)
    (at : Address) (packets : List Packet) (r : Reception) → Sound events n → IsOnce n hands expired
    → IsOnce (handed_up n at packets r) hands expired
handed_once waits events n hands expired at packets (reception.New key) sound each =
    gives_once waits events n hands expired at key packets sound each
handed_once waits events n hands expired at packets (reception.Again count) sound each = each
handed_once waits events n hands expired at packets reception.Released sound each = each
handed_once waits events n hands expired at packets reception.Ignored sound each = each

-- ---- one happening more

alive : (A : Type 0) (hs : List Happening) (which : ℕ) (s : Sent) → ComesInLife A hs which
    → packet_at (after A hs).sent which ≡ Some s → (f : Content) → s.packet ≡ f
    → IsAlive (has_expired A hs) s.from s.to f
alive A hs which s lives is (Request mask xo timer tid user bytes) e = lives s mask xo timer tid user bytes is e
alive A hs which s lives is (Response place eom sts tid user bytes) e = tt
alive A hs which s lives is (Release tid) e = tt

begins_once : (n : Network) (hands : Key → ℕ) (expired : Address → Key → Bool) (who to : Address) (user bytes : List ℕ)
    (wanted : ℕ) (xo : Bool) (times : ℕ) (o : Option ℕ) → ((tid : ℕ) → o ≡ Some tid → NoneHolds n.responders who tid)
    → IsOnce n hands expired →
    IsOnce (begins n who to user bytes wanted xo times o) (λ key. cond (is_drawn who o key) 0 (hands key))
    (λ at key. cond (is_drawn who o key) false (expired at key))
begins_once n hands expired who to user bytes wanted xo times None free each = each
begins_once n hands expired who to user bytes wanted xo times (Some tid) free each =
    begun_once n.asked n.responders hands expired (new_transaction who (beginning tid to user bytes wanted xo times))
    refl (free tid refl) each

step : (A : Type 0) (waits : AnswersWaiting) (h : Happening) (hs : List Happening)
    → Sound (after A hs).event (after A hs) → IsTimely A (after A hs) h → Lives A hs h → OnceAfter A hs
    → OnceAfter A (h ∷ hs)
step A waits (Begins who to user bytes wanted xo times) hs sound timely lives each =
    begins_once (after A hs) (hand_ups_since A hs) (has_expired A hs) who to user bytes wanted xo times
    (next_number ((after A hs).requesters who)) timely each
step A waits (Answers at key packets) hs sound timely lives each =
    gives_once waits (after A hs).event (after A hs) (hand_ups_since A hs) (has_expired A hs) at key packets sound each
step A waits (Hears which) hs sound timely lives each = go (packet_at (after A hs).sent which)
  where
    go : (o : Option Sent) → IsOnce (hears A (after A hs) o) (hand_ups_since A hs) (has_expired A hs)
    go None = each
    go (Some s) = each
step A waits (Turns which user times) hs sound timely lives each =
    go (ending A (after A hs) (packet_at (after A hs).sent which)) refl
  where
    go : (o : Option Sent) → ending A (after A hs) (packet_at (after A hs).sent which) ≡ o
        → IsOnce (turns A (after A hs) user times o)
        (λ key. cond (is_drawn_after A (after A hs) o key) 0 (hand_ups_since A hs key))
        (λ at key. cond (is_drawn_after A (after A hs) o key) false (has_expired A hs at key))
    go None e = each
    go (Some s) e = begins_once (hears A (after A hs) (Some s)) (hand_ups_since A hs)
        (has_expired A hs) s.to s.from user [] 1 false times (number_after A (after A hs) s)
        (λ tid drawn. timely.1 s tid e drawn) each
step A waits (Takes which) hs sound timely lives each = go (packet_at (after A hs).sent which) refl
  where
    go : (o : Option Sent) → packet_at (after A hs).sent which ≡ o
        → IsOnce (takes_in (after A hs) o)
        (λ key. cond (brings (after A hs) key o) (hand_ups_since A hs key + 1) (hand_ups_since A hs key))
        (has_expired A hs)
    go None e = each
    go (Some s) e = comes_once (after A hs).asked (after A hs).responders (hand_ups_since A hs)
        (has_expired A hs) s.from s.to s.packet (tells_at (after A hs).event (after A hs) which s sound e (timely s e))
        (alive A hs which s lives e s.packet refl) each
step A waits (Serves which packets) hs sound timely lives each = go (packet_at (after A hs).sent which) refl
  where
    go : (o : Option Sent) → packet_at (after A hs).sent which ≡ o
        → IsOnce (serves (after A hs) packets o)
        (λ key. cond (brings (after A hs) key o) (hand_ups_since A hs key + 1) (hand_ups_since A hs key))
        (has_expired A hs)
    go None e = each
    go (Some s) e =
        handed_once waits ((after A hs).event + 1) (takes (after A hs) s)
        (λ key. cond (brings (after A hs) key (Some s)) (hand_ups_since A hs key + 1) (hand_ups_since A hs key))
        (has_expired A hs) s.to packets (received ((after A hs).responders s.to) s.from s.packet).reception
        (took_sound (after A hs) which s (later (after A hs) sound) timely e)
        (comes_once (after A hs).asked (after A hs).responders (hand_ups_since A hs)
        (has_expired A hs) s.from s.to s.packet
        (tells_at (after A hs).event (after A hs) which s sound e (timely s e))
        (alive A hs which s lives e s.packet refl) each)
step A waits (Expires place k) hs sound timely lives each =
    go (expiry_fault (find (is_key k) ((after A hs).responders place))) refl
  where
    go : (o : Option AtpFault) → expiry_fault (find (is_key k) ((after A hs).responders place)) ≡ o
        → IsOnce (expires (after A hs) place k o) (hand_ups_since A hs)
        (λ at key. is_none o && same_address place at && same_key k key || has_expired A hs at key)
    go (Some f) e = each
    go None e = expires_once (after A hs).asked (after A hs).responders (hand_ups_since A hs)
        (has_expired A hs) place k e each
step A waits (Retries who tid) hs sound timely lives each = go (retried ((after A hs).requesters who) tid)
  where
    go : (o : Option requests.Retried) → IsOnce (retries (after A hs) who o) (hand_ups_since A hs) (has_expired A hs)
    go None = each
    go (Some r) = each
step A waits (Other count) hs sound timely lives each = each

each_once : (A : Type 0) (draws : DrawsFree) (waits : AnswersWaiting) (history : List Happening) → AllTimely A history
    → AllLived A history → OnceAfter A history
each_once A draws waits [] timely lived = λ key at a xo. let none = a.newest in absurd (cc)
each_once A draws waits (h ∷ hs) timely lived = step A waits h hs (history_sound A draws hs timely.1) timely.0 lived.0
    (each_once A draws waits hs timely.1 lived.1)

-- ---- what that says

given_few : (answers : List (List Packet)) (s : State) → Given answers s → length answers ≤ 1
given_few answers (Waiting xo mask) given = let none = ap length given.1 in omega (arith, none)
given_few answers (Answered packets) given = let one = ap length given in omega (arith, one)
given_few answers Released given = omega (arith, given)

bounded : (answers : List (List Packet)) (hands : ℕ) (expired : Bool) (rs : List Record)
    → Stage answers hands expired rs → (hands ≤ 1) × (length answers ≤ hands)
bounded answers hands false [] stage = let none = ap length stage.1 in
    (omega (arith, stage.0), omega (arith, stage.0, none))
bounded answers hands true [] stage = (omega (arith, stage.0), omega (arith, stage.0, stage.1))
bounded answers hands expired (r ∷ []) stage = let few = given_few answers r.state stage.2 in
    (omega (arith, stage.1), omega (arith, stage.1, few))
bounded answers hands expired (r ∷ q ∷ rs) stage = absurd stage

-- ---- the response to one answer

only : (answer x : List Packet) → Contains (answer ∷ []) x → x ≡ answer
only answer x (zero, lt, is) = sym is
only answer x (suc k, lt, is) = absurd (omega (arith, lt))

of_answer : (t : Transaction) (answer : List Packet) (place : ℕ) (ends : Bool) (p : Packet) → t.answers ≡ answer ∷ []
    → (part : IsPart t place ends p) → part.answer ≡ answer
of_answer t answer place ends p one part = only answer part.answer (subst (λ l. Contains l part.answer) one part.given)

front : (t : Transaction) (answer : List Packet) (place : ℕ) (rest packets : List Packet) → t.answers ≡ answer ∷ []
    → ((i : ℕ) → slice_get answer (place + i) ≡ slice_get rest i) → AreParts t place packets → (more : List Packet)
    × (rest ≡ packets ++ more)
front t answer place rest [] one same parts = (rest, refl)
front t answer place [] (p ∷ ps) one same parts =
    let part = parts.0.1 in
    let there : slice_get answer place
    ≡ Some p = ap (λ l. slice_get l place) (sym (of_answer t answer place parts.0.0 p one part)) ∙ part.there in
    let none : slice_get answer (place + 0) ≡ None = same 0 in
    let at : place + 0 ≡ place = omega arith in
    let bad : Some p ≡ None = sym there ∙ ap (slice_get answer) (sym at) ∙ none in
    absurd (cc)
front t answer place (q ∷ rest) (p ∷ ps) one same parts =
    let part = parts.0.1 in
    let there : slice_get answer place
    ≡ Some p = ap (λ l. slice_get l place) (sym (of_answer t answer place parts.0.0 p one part)) ∙ part.there in
    let at : place + 0 ≡ place = omega arith in
    let is : Some q ≡ Some p = sym (same 0) ∙ ap (slice_get answer) at ∙ there in
    let more = front t answer (place + 1) rest ps one (λ i. ap (slice_get answer) (moved i) ∙ same (suc i)) parts.1 in
    (more.0, (λ i. same_packet q p is i ∷ more.1 i))
  where
    moved : (i : ℕ) → place + 1 + i ≡ place + suc i
    moved i = omega arith

    same_packet : (a b : Packet) → Some a ≡ Some b → a ≡ b
    same_packet a b h = cc

ended : (t : Transaction) (answer : List Packet) (place : ℕ) (packets : List Packet) → t.answers ≡ answer ∷ []
    → EndsAnswer t place packets → place + length packets ≡ length answer
ended t answer place [] one ends = absurd ends
ended t answer place (p ∷ []) one ends =
    let is : place + 1 ≡ length ends.answer = eqb-true (place + 1) (length ends.answer) (sym ends.is_end) in
    let same = ap length (of_answer t answer place true p one ends) in
    omega (arith, is, same)
ended t answer place (p ∷ q ∷ ps) one ends = let later_on = ended t answer (place + 1) (q ∷ ps) one ends in
    omega (arith, later_on)

is_front : (t : Transaction) (answer packets : List Packet) → t.answers ≡ answer ∷ [] → IsResponse t packets → packets
    ≡ take t.wanted answer
is_front t answer packets one response = go response.whole
  where
    more : (more : List Packet) × (answer ≡ packets ++ more)
    more = front t answer 0 answer packets one (λ i. ap (slice_get answer) (omega arith)) response.parts

    go : EndsAnswer t 0 packets ⊎ (length packets ≡ t.wanted) → packets ≡ take t.wanted answer
    go (inr all) = sym (take-append_seam packets more.0) ∙ (λ i. take (all i) (sym more.1 i))
    go (inl ends) =
        let long = ended t answer 0 packets one ends in
        let few = response.few in
        let seam : take (length packets) answer ≡ packets = ap (take (length packets)) more.1
        ∙ take-append_seam packets more.0 in
        sym seam ∙ take_all (length packets) answer (omega (arith, long))
        ∙ sym (take_all t.wanted answer (omega (arith, long, few)))

one_answer : (answers : List (List Packet)) → length answers ≡ 1 → (answer : List Packet) × (answers ≡ answer ∷ [])
one_answer [] h = absurd (omega (arith, h))
one_answer (a ∷ []) h = (a, refl)
one_answer (a ∷ b ∷ l) h = absurd (omega (arith, h))

some_answer : (t : Transaction) (packets : List Packet) → 1 ≤ length packets → AreParts t 0 packets
    → 1 ≤ length t.answers
some_answer t [] some parts = absurd (omega (arith, some))
some_answer t (p ∷ ps) some parts = let given = parts.0.1.given in let lt = given.1 in omega (arith, lt)

-- ---- the law

pub answers_once : (A : Type 0) (draws : DrawsFree) (waits : AnswersWaiting) (history : List Happening)
    → AllTimely A history → AllLived A history → AnswersOnce A history
answers_once A draws waits history timely lived = record {
  once = λ who tid t newest xo. bounds (record { from = who; tid = tid }) t.responder
      (record { transaction = t; newest = newest; asked_it = refl }) xo;
  finished = λ which s packets is fresh ends a xo.
      let given = (gives_answers A draws history timely).finished which s packets is fresh ends in
      let same : given.0.transaction
      ≡ a.transaction = one_newest (after A history).asked s.to (number_of s.packet) s.from s.from given.0 a in
      let response : IsResponse a.transaction packets = subst (λ t. IsResponse t packets) same given.1 in
      let some = some_answer a.transaction packets response.some response.parts in
      let few = bounds (record { from = s.to; tid = number_of s.packet }) s.from a xo in
      let one = one_answer a.transaction.answers (omega (arith, some, few.0, few.1)) in
      (omega (arith, some, few.0, few.1), one.0, one.1, is_front a.transaction one.0 packets one.1 response);
}
  where
    bounds : (key : Key) (at : Address) (a : Asked (after A history).asked key.from key.tid at) → a.transaction.xo
        ≡ true → (hand_ups_since A history key ≤ 1) × (length a.transaction.answers ≤ hand_ups_since A history key)
    bounds key at a xo = bounded a.transaction.answers (hand_ups_since A history key) (has_expired A history at key)
        (those key ((after A history).responders at)) (each_once A draws waits history timely lived key at a xo)
