-- What a request does to a responder.
use Rattle.std.proofs.Common.{◌≡◌, ℕ, ◌+◌, ◌-◌, ◌<◌, ◌≤◌, Bool, true, Bor, List, [], ◌∷◌, ◌++◌, length, set, take, drop}
use Rattle.std.proofs.Common.{Option, Some, None, Result, Ok, Err, refl, sym, ap, subst, ◌∙◌, arith}
use Rattle.std.specs.Prelude.{find, slice_get, IfOk, is_none, is_some, nat_le}
use Rattle.std.specs.Option.{option_copied}
use Rattle.std.proofs.lemmas.Bool.{true≢false, leb-true, le-leb, and_parts}
use Rattle.std.proofs.lemmas.Option.{get_or_from_slice_get, slice_get-get_or}
use Rattle.at_ddp.proofs.Octets.{same_both}
use Rattle.std.proofs.lemmas.List.{take_rest}
use Rattle.at_ddp.specs.Outbox.{Outbox}
use Rattle.at_atp_frame.specs.Packets.{Packet}
use Rattle.at_ddp.specs.Tables.{replaced}
use Rattle.at_atp_frame.specs.declared.fault.AtpFault.{AtpFault}
use Rattle.at_atp_responder.specs.Records.{State, Waiting, Answered, Released, Record, is_key, repeated, released}
use Rattle.at_atp_responder.specs.Records.{came_again, request_came, release_came, is_new_and_full, state_fault}
use Rattle.at_atp_responder.specs.Records.{record_fault, fit, IsTaken, IsRepeat}
use Rattle.at_atp_responder.specs.declared.reception.Key.{Key}
use Rattle.at_atp_responder.specs.declared.reception.Reception.{Reception}
use Rattle.at_atp_responder.specs.declared.reception.Reception.TheVariants.{Ignored, New}
use Rattle.at_ddp.proofs.TableLemmas.{Found}
use Rattle.at_ddp.proofs.OutboxLemmas.{sends_nothing}

-- a record for a new request
pub taken_new : (rs new : List Record) (key : Key) (xo : Bool) (bitmap : ℕ) (r : Reception) (out : Outbox)
    → find (is_key key) rs ≡ None → r ≡ New key → new ≡ rs ++ record { key = key; state = Waiting xo bitmap } ∷ [] →
    IsTaken (request_came rs key xo bitmap (find (is_key key) rs)) r new out out
taken_new rs new key xo bitmap r out none is added =
    rw none (record { is_reception = is; is_new = added; sends = sends_nothing out })

-- what a record's key is
pub own : (key : Key) (r : Record) → is_key key r ≡ true → r.key ≡ key
own key r h = let both = same_both r.key.from key.from r.key.tid key.tid h in
    λ i. record { from = both.0 i; tid = both.1 i }

-- the request of a record that stands came again
pub taken_again : (rs new : List Record) (key : Key) (xo : Bool) (bitmap : ℕ) (r : Reception) (i : ℕ)
    (before after : Outbox) → (f : Found (is_key key) rs i) →
    (old now : Record) × (slice_get rs i ≡ Some old)
    × IsRepeat (repeated old.key bitmap old.state) r old now before after × (new ≡ set rs i now) →
    IsTaken (request_came rs key xo bitmap (find (is_key key) rs)) r new before after
taken_again rs new key xo bitmap r i before after f h =
    let same : h.0 ≡ f.entry = sym (get_or_from_slice_get rs i h.0 h.0 h.2) ∙ f.at h.0 in
    let keyed : (f.entry).key ≡ key = own key f.entry f.passes in
    let e : IsRepeat (repeated key bitmap (f.entry).state) r f.entry h.1 before after =
    subst (λ k. IsRepeat (repeated k bitmap (f.entry).state) r f.entry h.1 before after) keyed
    (subst (λ (x : Record). IsRepeat (repeated x.key bitmap x.state) r x h.1 before after) same h.3) in
    rw f.first (record {
      is_reception = e.is_reception;
      is_new = h.4 ∙ sym (f.set_is h.1) ∙ ap (λ x. replaced (is_key key) x rs) e.is_new;
      sends = e.sends;
    })

pub full_if : (rs : List Record) (key : Key) → find (is_key key) rs ≡ None → 64 ≤ length rs → is_new_and_full rs key
    ≡ true
full_if rs key none many = rw (none, le-leb 64 (length rs) many) refl

pub full_then : (rs : List Record) (key : Key) → is_new_and_full rs key ≡ true → 64 ≤ length rs
full_then rs key h = leb-true 64 (length rs) (and_parts (is_none (find (is_key key) rs)) (nat_le 64 (length rs)) h).1

pub not_new : (rs : List Record) (key : Key) (r : Record) → find (is_key key) rs ≡ Some r → is_new_and_full rs key
    ≡ true → ⊥
not_new rs key r is h = true≢false (sym h ∙ (rw is refl))

pub taken_new_in : (rs new : List Record) (key : Key) (xo : Bool) (bitmap : ℕ) (r : Result Reception AtpFault)
    (out : Outbox) → find (is_key key) rs ≡ None
    → IfOk r (λ x. (x ≡ New key) × (new ≡ rs ++ record { key = key; state = Waiting xo bitmap } ∷ [])) →
    IfOk r (λ x. IsTaken (request_came rs key xo bitmap (find (is_key key) rs)) x new out out)
taken_new_in rs new key xo bitmap (Ok x) out none h = taken_new rs new key xo bitmap x out none h.0 h.1
taken_new_in rs new key xo bitmap (Err e) out none h = h

-- a new request is delivered to the service
pub new_not_ignored : (rs : List Record) (key : Key) (xo : Bool) (bitmap : ℕ) → find (is_key key) rs ≡ None
    → (request_came rs key xo bitmap (find (is_key key) rs)).reception ≡ Ignored → ⊥
new_not_ignored rs key xo bitmap none = rw none (λ h. cc)

-- what has no effect on the requests has none on the record of its request
pub again_ignored : (rs : List Record) (key : Key) (xo : Bool) (bitmap i : ℕ) → (f : Found (is_key key) rs i)
    → (request_came rs key xo bitmap (find (is_key key) rs)).reception ≡ Ignored →
    (slice_get rs i ≡ Some f.entry) × ((repeated (f.entry).key bitmap (f.entry).state).reception ≡ Ignored)
again_ignored rs key xo bitmap i f = rw f.first (λ h. (
  slice_get-get_or rs i f.entry f.within
      ∙ ap Some (f.at f.entry),
  subst (λ k. (repeated k bitmap (f.entry).state).reception ≡ Ignored)
      (sym (own key f.entry f.passes)) h,
))

-- a new request has no record that waits
pub new_not_waiting : (rs : List Record) (key : Key) → find (is_key key) rs ≡ None
    → record_fault (find (is_key key) rs) ≡ None → ⊥
new_not_waiting rs key none = rw none (λ h. cc)

-- if a request waits, so does the record of its key
pub again_waiting : (rs : List Record) (key : Key) (i : ℕ) → (f : Found (is_key key) rs i)
    → record_fault (find (is_key key) rs) ≡ None → (slice_get rs i ≡ Some f.entry)
    × (state_fault (f.entry).state ≡ None)
again_waiting rs key i f = rw f.first (λ h. (slice_get-get_or rs i f.entry f.within ∙ ap Some (f.at f.entry), h))

-- ---- releases

-- the release of a record that stands
pub release_some : (rs new : List Record) (key : Key) (i : ℕ) (old now : Record) (f : Found (is_key key) rs i) → old
    ≡ f.entry → now ≡ record old { state = (released old.state).state } → new ≡ set rs i now →
    new ≡ (release_came rs key (find (is_key key) rs)).after
release_some rs new key i old now f same is set_is =
    rw f.first (set_is ∙ sym (f.set_is now)
    ∙ ap (λ x. replaced (is_key key) x rs)
    (is ∙ ap (λ (x : Record). record x { state = (released x.state).state }) same))

pub release_tells : (rs : List Record) (key : Key) (i : ℕ) (old : Record) (f : Found (is_key key) rs i) → old ≡ f.entry
    → (released old.state).reception ≡ (release_came rs key (find (is_key key) rs)).reception
release_tells rs key i old f same = rw f.first (ap (λ (x : Record). (released x.state).reception) same)

-- ---- answers that are kept

pub keep_some : (rs new : List Record) (key : Key) (i : ℕ) (old now : Record) (packets : List Packet)
    (f : Found (is_key key) rs i) → old ≡ f.entry → now ≡ record old { state = Answered packets } → new ≡ set rs i now →
    new ≡ replaced (is_key key) (record { key = key; state = Answered packets }) rs
keep_some rs new key i old now packets f same is set_is =
    set_is ∙ sym (f.set_is now)
    ∙ ap (λ x. replaced (is_key key) x rs)
    (is ∙ ap (λ (k : Key). record { key = k; state = Answered packets })
    (ap (λ (x : Record). x.key) same ∙ own key f.entry f.passes))

-- ---- packets of an answer

pub fit_rest : (packets : List Packet) → fit packets ≡ true → fit (take (length packets - 1) (drop 1 packets)) ≡ true
fit_rest [] h = refl
fit_rest (p ∷ ps) h = rw take_rest (and_parts (nat_le (length p.data_) 578) (fit ps) h).1

pub rest_is_less : (packets : List Packet) → 0 < length packets → length packets
    ≡ length (take (length packets - 1) (drop 1 packets)) + 1
rest_is_less [] h = absurd (omega arith)
rest_is_less (p ∷ ps) h = rw take_rest (omega arith)

-- ---- releases and searches

-- a reference is there exactly if its value is
pub is_some_copied : {X : Type 0} (o : Option (Bor X)) → is_some o ≡ is_some (option_copied o)
is_some_copied None = refl
is_some_copied (Some b) = refl

-- a release sends nothing
pub taken_release : (rs new : List Record) (key : Key) (r : Reception) (out : Outbox) → r
    ≡ (release_came rs key (find (is_key key) rs)).reception → new
    ≡ (release_came rs key (find (is_key key) rs)).after →
    IsTaken (release_came rs key (find (is_key key) rs)) r new out out
taken_release rs new key r out is after = go (find (is_key key) rs) is after
  where
    in_state : (x : Record) (s : State) → r ≡ (came_again rs key x (released s)).reception → new
        ≡ (came_again rs key x (released s)).after → IsTaken (came_again rs key x (released s)) r new out out
    in_state x (Waiting xo bitmap) a b = record { is_reception = a; is_new = b; sends = sends_nothing out }
    in_state x (Answered packets) a b = record { is_reception = a; is_new = b; sends = sends_nothing out }
    in_state x Released a b = record { is_reception = a; is_new = b; sends = sends_nothing out }

    go : (o : Option Record) → r ≡ (release_came rs key o).reception → new ≡ (release_came rs key o).after
        → IsTaken (release_came rs key o) r new out out
    go None a b = record { is_reception = a; is_new = b; sends = sends_nothing out }
    go (Some x) a b = in_state x x.state a b
