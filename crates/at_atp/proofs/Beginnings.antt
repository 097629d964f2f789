-- What the beginning of a transaction leaves true of a network.
use Rattle.std.proofs.Common.{◌≡◌, ℕ, ◌+◌, ◌<◌, Bool, true, false, List, [], ◌∷◌, ◌++◌, Option, Some, None, refl, sym}
use Rattle.std.proofs.Common.{subst, ◌∙◌, arith}
use Rattle.std.specs.Prelude.{nat_le, replicate, IfSome, ◌==◌, ◌&&◌, ◌||◌, not}
use Rattle.std.specs.List.{AllByRecursion, list_all}
use Rattle.std.proofs.lemmas.Bool.{true≢false, false≢true, and_parts, leb-true, eqb-true, eq-eqb}
use Rattle.at_ddp.specs.Address.{same_address}
use Rattle.at_ddp.specs.declared.address.Address.{Address}
use Rattle.at_ddp.proofs.Octets.{same_address-true, same_address_itself}
use Rattle.at_atp_frame.specs.Frames.{owner, number_of}
use Rattle.at_atp.specs.Network.{Network, Sent, Drawn, is_no_later, NoneHolds, begins, begun, new_transaction}
use Rattle.at_atp_responder.specs.Records.{is_key}
use Rattle.at_atp_requester.specs.Requests as requests
use Rattle.at_atp_requester.specs.Requests.{Requests, has_number, next_number, beginning}
use Rattle.at_atp.specs.Transactions.{Transaction, Asked}
use Rattle.at_ddp.proofs.Alls.{all_implied, all_pairs, all_both, none_passes}
use Rattle.at_ddp.proofs.PostLemmas.{sent_implied, sent_pairs, none_sent, put_all}
use Rattle.at_atp.proofs.Carried.{tells_kept, Holds, holds_kept, no_parts, Waits, waits_kept}
use Rattle.at_atp.proofs.NetworkLemmas.{Fresh, Sound, more_past, more_fresh}
use Rattle.at_atp.proofs.Newest.{begun_keeps}

-- ---- other numbers

turned : (a b : Address) (m n : ℕ) → (same_address a b && (m == n)) ≡ false → (same_address b a && (n == m)) ≡ false
turned a b m n h = go (same_address b a && (n == m)) refl
  where
    go : (c : Bool) → (same_address b a && (n == m)) ≡ c → c ≡ false
    go false e = refl
    go true e =
        let both = and_parts (same_address b a) (n == m) e in
        let one : b ≡ a = same_address-true b a both.0 in
        let two : n ≡ m = eqb-true n m both.1 in
        let here : same_address a b ≡ true = subst (λ x. same_address a x ≡ true) (sym one) (same_address_itself a) in
        absurd (true≢false (sym ((λ i. here i && eq-eqb m n (sym two) i)) ∙ h))

none_numbered : (ts : List requests.Transaction) (tid : ℕ) → has_number ts tid ≡ false
    → AllByRecursion (λ t. (t.tid == tid) ≡ false) ts
none_numbered [] tid h = tt
none_numbered (t ∷ ts) tid h = go (λ g. none_numbered ts tid g) (t.tid == tid) refl h
  where
    go : (has_number ts tid ≡ false → AllByRecursion (λ x. (x.tid == tid) ≡ false) ts) → (b : Bool) → (t.tid == tid)
        ≡ b → (b || has_number ts tid) ≡ false → AllByRecursion (λ x. (x.tid == tid) ≡ false) (t ∷ ts)
    go ih true e g = absurd (true≢false g)
    go ih false e g = (e, ih g)

-- another number is drawn, or another requester draws
apart_at : (who w : Address) (tid k : ℕ) → (k == tid) ≡ false → (same_address who w && (tid == k)) ≡ false
apart_at who w tid k h = go (same_address who w)
  where
    unequal : (b : Bool) → (tid == k) ≡ b → b ≡ false
    unequal false e = refl
    unequal true e = absurd (true≢false (sym (eq-eqb k tid (sym (eqb-true tid k e))) ∙ h))

    go : (b : Bool) → (b && (tid == k)) ≡ false
    go true = unequal (tid == k) refl
    go false = refl

all_and : {X : Type 0} (p : X → Bool) (xs : List X) (x : X) → list_all p (xs ++ x ∷ []) ≡ true → (list_all p xs ≡ true)
    × (p x ≡ true)
all_and p [] x h = (refl, (and_parts (p x) true h).0)
all_and {X} p (y ∷ ys) x h = go (p y) refl h (λ g. all_and p ys x g)
  where
    go : (b : Bool) → p y ≡ b → (b && list_all p (ys ++ x ∷ [])) ≡ true
        → (list_all p (ys ++ x ∷ []) ≡ true → (list_all p ys ≡ true) × (p x ≡ true)) → ((p y && list_all p ys) ≡ true)
        × (p x ≡ true)
    go true e g ih = let rest = ih g in ((λ i. e i && rest.0 i), rest.1)
    go false e g ih = absurd (false≢true g)

-- a packet that was sent before a number was drawn, and is in time after that, has another number
not_drawn : (who w : Address) (tid k event sent : ℕ) → sent < event
    → (not (same_address who w && (tid == k)) || nat_le event sent) ≡ true → (same_address who w && (tid == k)) ≡ false
not_drawn who w tid k event sent lt h = go (same_address who w && (tid == k)) h
  where
    late : (b : Bool) → nat_le event sent ≡ b → b ≡ true → ⊥
    late true e g = let le = leb-true event sent e in absurd (omega arith)
    late false e g = absurd (false≢true g)

    go : (b : Bool) → (not b || nat_le event sent) ≡ true → b ≡ false
    go false g = refl
    go true g = absurd (late (nat_le event sent) refl g)

-- ---- the beginning

-- a number that is drawn is not open, as the requester's laws say
abbrev pub DrawsFree : Type 0
DrawsFree = (r : Requests) (tid : ℕ) → next_number r ≡ Some tid → has_number r.standing tid ≡ false

begun_sound : (draws : DrawsFree) (n : Network) (who to : Address) (user bytes : List ℕ) (wanted : ℕ) (xo : Bool)
    (times tid : ℕ) → Sound n.event n → next_number (n.requesters who) ≡ Some tid → NoneHolds n.responders who tid →
    Sound (n.event + 1) (begun n who (beginning tid to user bytes wanted xo times))
begun_sound draws n who to user bytes wanted xo times tid sound drawn free = record {
  past = more_past n.event who n.sent ((to, requests.request_by t) ∷ [])
      (sent_implied (λ s. s.event < n.event) (λ s. s.event < n.event + 1) n.sent (λ s lt. omega arith) sound.past);
  sent = more_fresh (n.drawn ++ d ∷ []) (new ∷ n.asked) n.event who n.sent ((to, requests.request_by t) ∷ [])
      (sent_implied (λ s. (s.event < n.event) × Fresh n.drawn n.asked s)
      (Fresh (n.drawn ++ d ∷ []) (new ∷ n.asked)) n.sent stays
      (sent_pairs (λ s. s.event < n.event) (Fresh n.drawn n.asked) n.sent sound.past sound.sent))
      ((it, refl, refl, refl), tt);
  standing = put_all (λ a x. AllByRecursion (Holds (new ∷ n.asked) a) x.standing) n.requesters who
      (requests.begun (n.requesters who) t) standing
      (all_both (Holds (new ∷ n.asked) who) (n.requesters who).standing (t ∷ []) (standing who) (holds, tt));
  records = λ at. all_implied (λ r. Waits n.asked at r × (is_key (record { from = who; tid = tid }) r ≡ false))
      (Waits (new ∷ n.asked) at) (n.responders at)
      (λ r h. waits_kept n.asked (new ∷ n.asked) at r
      (begun_keeps n.asked new r.key.from r.key.tid (turned r.key.from who r.key.tid tid h.1)) h.0)
      (none_passes (Waits n.asked at) (is_key (record { from = who; tid = tid })) (n.responders at) (free at)
      (sound.records at));
}
  where
    t : requests.Transaction
    t = beginning tid to user bytes wanted xo times

    new : Transaction
    new = new_transaction who (beginning tid to user bytes wanted xo times)

    d : Drawn
    d = record { event = n.event; who = who; tid = tid }

    it : Asked (new_transaction who (beginning tid to user bytes wanted xo times) ∷ n.asked) who tid to
    it = record {
      transaction = new_transaction who (beginning tid to user bytes wanted xo times);
      newest = rw (same_address_itself who, eq-eqb tid tid refl) refl;
      asked_it = refl;
    }

    holds : Holds (new_transaction who (beginning tid to user bytes wanted xo times) ∷ n.asked) who
        (beginning tid to user bytes wanted xo times)
    holds = record {
      asked = it;
      user = refl;
      bytes = refl;
      xo = refl;
      wanted = refl;
      parts = no_parts (new_transaction who (beginning tid to user bytes wanted xo times)) 0 wanted;
    }

    stays : (s : Sent) → (s.event < n.event) × Fresh n.drawn n.asked s
        → Fresh (n.drawn ++ record { event = n.event; who = who; tid = tid } ∷ [])
        (new_transaction who (beginning tid to user bytes wanted xo times) ∷ n.asked) s
    stays s h = λ f.
        let w = owner s.from s.to s.packet in
        let k = number_of s.packet in
        let both = all_and (is_no_later (owner s.from s.to s.packet) (number_of s.packet) s.event) n.drawn
        (record { event = n.event; who = who; tid = tid }) f in
        let apart = not_drawn who (owner s.from s.to s.packet) tid (number_of s.packet) n.event s.event h.0 both.1 in
        tells_kept n.asked (new_transaction who (beginning tid to user bytes wanted xo times) ∷ n.asked) s.from s.to
        s.packet (begun_keeps n.asked (new_transaction who (beginning tid to user bytes wanted xo times))
        (owner s.from s.to s.packet) (number_of s.packet) apart) (h.1 both.0)

    kept : (w : Address) (x : requests.Transaction) → (same_address who w && (tid == x.tid)) ≡ false
        → Holds n.asked w x → Holds (new_transaction who (beginning tid to user bytes wanted xo times) ∷ n.asked) w x
    kept w x apart h = holds_kept n.asked (new_transaction who (beginning tid to user bytes wanted xo times) ∷ n.asked)
        w x (begun_keeps n.asked (new_transaction who (beginning tid to user bytes wanted xo times)) w x.tid apart) h

    standing : (w : Address)
        → AllByRecursion (Holds (new_transaction who (beginning tid to user bytes wanted xo times) ∷ n.asked) w)
        (n.requesters w).standing
    standing w = go (same_address who w) refl
      where
        own : who ≡ w → has_number (n.requesters w).standing tid ≡ false
        own e = subst (λ a. has_number (n.requesters a).standing tid ≡ false) e (draws (n.requesters who) tid drawn)

        go : (b : Bool) → same_address who w ≡ b
            → AllByRecursion (Holds (new_transaction who (beginning tid to user bytes wanted xo times) ∷ n.asked) w)
            (n.requesters w).standing
        go true e = all_implied (λ x. Holds n.asked w x × ((x.tid == tid) ≡ false))
            (Holds (new_transaction who (beginning tid to user bytes wanted xo times) ∷ n.asked) w)
            (n.requesters w).standing
            (λ x h. kept w x (apart_at who w tid x.tid h.1) h.0)
            (all_pairs (Holds n.asked w) (λ x. (x.tid == tid) ≡ false) (n.requesters w).standing (sound.standing w)
            (none_numbered (n.requesters w).standing tid (own (same_address-true who w e))))
        go false e = all_implied (Holds n.asked w)
            (Holds (new_transaction who (beginning tid to user bytes wanted xo times) ∷ n.asked) w)
            (n.requesters w).standing (λ x h. kept w x (λ i. e i && (tid == x.tid)) h) (sound.standing w)

pub later : (n : Network) → Sound n.event n → Sound (n.event + 1) n
later n s = record {
  past = sent_implied (λ x. x.event < n.event) (λ x. x.event < n.event + 1) n.sent
      (λ x lt. omega arith) s.past;
  sent = s.sent;
  standing = s.standing;
  records = s.records;
}

pub begins_sound : (draws : DrawsFree) (n : Network) (who to : Address) (user bytes : List ℕ) (wanted : ℕ) (xo : Bool)
    (times : ℕ) → Sound n.event n
    → ((tid : ℕ) → next_number (n.requesters who) ≡ Some tid → NoneHolds n.responders who tid) →
    Sound (n.event + 1) (begins n who to user bytes wanted xo times (next_number (n.requesters who)))
begins_sound draws n who to user bytes wanted xo times sound timely = go (next_number (n.requesters who)) refl
  where
    go : (o : Option ℕ) → next_number (n.requesters who) ≡ o
        → Sound (n.event + 1) (begins n who to user bytes wanted xo times o)
    go None e = later n sound
    go (Some tid) e = begun_sound draws n who to user bytes wanted xo times tid sound e (timely tid e)

-- foreign datagrams change nothing
pub foreign_sound : (n : Network) (count : ℕ) → Sound (n.event + 1) n
    → Sound (n.event + 1) (record n { sent = n.sent ++ replicate count None })
foreign_sound n count s = record {
  past = all_both (λ (x : Option Sent). IfSome x (λ y. y.event < n.event + 1)) n.sent (replicate count None) s.past
      (none_sent (λ y. y.event < n.event + 1) count);
  sent = all_both (λ (x : Option Sent). IfSome x (Fresh n.drawn n.asked)) n.sent (replicate count None) s.sent
      (none_sent (Fresh n.drawn n.asked) count);
  standing = s.standing;
  records = s.records;
}
