-- What a packet that comes to a requester leaves true of it.
use Rattle.std.proofs.Common.{◌≡◌, ℕ, zero, suc, ◌≤◌, Bool, true, false, cond, List, [], ◌∷◌, length, Option, Some}
use Rattle.std.proofs.Common.{None, ◌⊎◌, inl, inr, refl, sym, ap, subst, ◌∙◌, arith}
use Rattle.std.specs.Prelude.{find, option_map, ◌==◌}
use Rattle.std.specs.List.{AllByRecursion}
use Rattle.std.proofs.lemmas.Bool.{false≢true, and_parts, eqb-true}
use Rattle.std.proofs.lemmas.List.{length-set}
use Rattle.at_ddp.specs.Address.{same_address}
use Rattle.at_ddp.specs.declared.address.Address.{Address}
use Rattle.at_ddp.proofs.Octets.{same_address-true}
use Rattle.at_atp_requester.specs.Answers.{AnswerPart, is_wanted, whole, with_part}
use Rattle.at_atp_frame.specs.Frames.{Content, Request, Response, Release, number_of}
use Rattle.at_atp_frame.specs.Packets.{Packet}
use Rattle.at_atp_requester.specs.Requests.{Requests, Effect, Heard, Retried, came, came_for, was_kept}
use Rattle.at_atp_requester.specs.Requests.{release_by, is_of, is_finished, settled, response_came, heard, retried_with}
use Rattle.at_atp_requester.specs.Requests.{is_numbered}
use Rattle.at_atp_requester.specs.Requests as requests
use Rattle.at_ddp.specs.Tables.{replaced, without_first}
use Rattle.at_atp.specs.Transactions.{Transaction, transaction_of, Asked, IsPart, EndsAnswer, IsResponse}
use Rattle.at_atp_requester.specs.declared.progress.RequestProgress.TheVariants.{Finished}
use Rattle.at_ddp.proofs.Alls.{all_replaced, all_without, all_found}
use Rattle.at_atp.proofs.Carried.{Tells, Holds, parts_with, wholly}
use Rattle.at_atp.proofs.Newest.{one_newest}

-- ---- one transaction

abbrev pub TellsAll : List Transaction → Address → List (Address × Content) → Type 0
TellsAll ts who sent = AllByRecursion (λ s. Tells ts who s.0 s.1) sent

-- the request of an open transaction is that of the newest of its number
pub asks : (ts : List Transaction) (who : Address) (t : requests.Transaction) → Holds ts who t
    → Tells ts who t.to (requests.request_by t)
asks ts who t h = (h.asked, h.user, h.bytes, h.xo)

pub record Sound (A : Type 0) (ts : List Transaction) (who : Address) (tid : ℕ) (from : Address)
    (e : Effect A) : Type 0 where
  pub after : Holds ts who e.after
  pub numbered : (e.after).tid ≡ tid
  pub sent : TellsAll ts who e.sent
  pub finished : (packets : List Packet) → e.step ≡ Finished packets → (a : Asked ts who tid from)
      × IsResponse a.transaction packets

released : (ts : List Transaction) (who : Address) (t : requests.Transaction) → Asked ts who t.tid t.to
    → TellsAll ts who (release_by t)
released ts who t asked = go t.xo
  where
    go : (b : Bool) → TellsAll ts who (cond b ((t.to, Release t.tid) ∷ []) [])
    go true = (asked, tt)
    go false = tt

wanted_some : (parts : List (Option AnswerPart)) (place : ℕ) → is_wanted parts place ≡ true → 1 ≤ length parts
wanted_some [] place h = absurd (false≢true h)
wanted_some (p ∷ parts) place h = omega arith

-- a packet of an answer came for an open transaction
pub came_sound : (A : Type 0) (ts : List Transaction) (who : Address) (t : requests.Transaction) (place : ℕ)
    (part : AnswerPart) (sts : Bool) (h : Holds ts who t) → IsPart (h.asked).transaction place part.eom part.packet →
    Sound A ts who t.tid t.to (came {A = A} t place part sts)
came_sound A ts who t place part sts h is = go (is_wanted t.parts place) refl
  where
    parts : List (Option AnswerPart)
    parts = with_part t.parts place part

    same_length : length (with_part t.parts place part) ≡ length t.parts
    same_length = length-set t.parts place (Some part)

    kept : Holds ts who (record t { parts = with_part t.parts place part })
    kept = record {
      asked = h.asked;
      user = h.user;
      bytes = h.bytes;
      xo = h.xo;
      wanted = h.wanted ∙ sym same_length;
      parts = parts_with (h.asked).transaction 0 place t.parts part h.parts
          (subst (λ k. IsPart (h.asked).transaction k part.eom part.packet) (omega arith) is);
    }

    as_wanted : (packets : List Packet) → EndsAnswer (h.asked).transaction 0 packets
        ⊎ (length packets ≡ length (with_part t.parts place part)) → EndsAnswer (h.asked).transaction 0 packets
        ⊎ (length packets ≡ ((h.asked).transaction).wanted)
    as_wanted packets (inl x) = inl x
    as_wanted packets (inr e) = inr (e ∙ sym kept.wanted)

    response : (packets : List Packet) → is_wanted t.parts place ≡ true → whole (with_part t.parts place part)
        ≡ Some packets → IsResponse (h.asked).transaction packets
    response packets some there =
        let w = wholly (h.asked).transaction 0 (with_part t.parts place part) packets kept.parts there in
        let few = w.few in
        let wide = wanted_some t.parts place some in
        record {
          some = w.some (omega (arith, same_length, wide));
          few = omega (arith, few, kept.wanted);
          parts = w.are;
          whole = as_wanted packets w.ends;
        }

    keeps : is_wanted t.parts place ≡ true → (o : Option (List Packet)) → whole (with_part t.parts place part) ≡ o
        → (s : Bool) → Sound A ts who t.tid t.to
        (was_kept {A = A} (record t { parts = with_part t.parts place part }) s o)
    keeps some (Some packets) there s = record {
      after = kept;
      numbered = refl;
      sent = released ts who (record t { parts = with_part t.parts place part }) h.asked;
      finished = λ qs e. let same : packets
          ≡ qs = cc in (h.asked, subst (IsResponse (h.asked).transaction) same (response packets some there));
    }
    keeps some None there true =
        record {
          after = kept;
          numbered = refl;
          sent = (asks ts who (record t { parts = with_part t.parts place part }) kept, tt);
          finished = λ qs e. absurd (cc);
        }
    keeps some None there false = record { after = kept; numbered = refl; sent = tt; finished = λ qs e. absurd (cc) }

    passes : (s : Bool) → Sound A ts who t.tid t.to (came_for {A = A} t place part s false)
    passes true = record { after = h; numbered = refl; sent = (asks ts who t h, tt); finished = λ qs e. absurd (cc) }
    passes false = record { after = h; numbered = refl; sent = tt; finished = λ qs e. absurd (cc) }

    go : (b : Bool) → is_wanted t.parts place ≡ b → Sound A ts who t.tid t.to (came_for {A = A} t place part sts b)
    go true e = keeps e (whole (with_part t.parts place part)) refl sts
    go false e = passes sts

-- ---- a requester

pub record SoundAll (A : Type 0) (ts : List Transaction) (who : Address) (tid : ℕ) (from : Address)
    (h : Heard A) : Type 0 where
  pub standing : AllByRecursion (Holds ts who) (h.after).standing
  pub sent : TellsAll ts who h.sent
  pub finished : (packets : List Packet) → h.step ≡ Finished packets → (a : Asked ts who tid from)
      × IsResponse a.transaction packets

settled_sound : (A : Type 0) (ts : List Transaction) (who : Address) (tid : ℕ) (from : Address) (r : Requests)
    (this : requests.Transaction → Bool) (e : Effect A) → AllByRecursion (Holds ts who) r.standing
    → Sound A ts who tid from e →
    SoundAll A ts who tid from (settled r this e)
settled_sound A ts who tid from r this e all s =
    record { standing = go (is_finished e.step); sent = s.sent; finished = s.finished }
  where
    go : (b : Bool) → AllByRecursion (Holds ts who)
        (cond b (without_first this r.standing) (replaced this e.after r.standing))
    go true = all_without (Holds ts who) this r.standing all
    go false = all_replaced (Holds ts who) this e.after r.standing all s.after

-- the transaction that the packet came for has its number, and asked its sender
its_own : (t : requests.Transaction) (tid : ℕ) (from : Address) → is_of tid from t ≡ true → (t.tid ≡ tid)
    × (t.to ≡ from)
its_own t tid from h =
    let both = and_parts (t.tid == tid) (same_address t.to from) h in
    (eqb-true t.tid tid both.0, same_address-true t.to from both.1)

came_sound_for : (A : Type 0) (ts : List Transaction) (who from : Address) (tid : ℕ) (t : requests.Transaction)
    (place : ℕ) (part : AnswerPart) (sts : Bool) → Holds ts who t → t.tid ≡ tid → t.to ≡ from →
    (a : Asked ts who tid from) → IsPart a.transaction place part.eom part.packet
    → Sound A ts who tid from (came {A = A} t place part sts)
came_sound_for A ts who from tid t place part sts h numbered asked a is =
    let b : Asked ts who tid t.to = subst (λ k. Asked ts who k t.to) numbered h.asked in
    let c : Asked ts who t.tid t.to =
    record {
      transaction = a.transaction;
      newest = ap (λ k. transaction_of ts who k) numbered ∙ a.newest;
      asked_it = a.asked_it ∙ sym asked;
    } in
    let same : a.transaction ≡ (h.asked).transaction = one_newest ts who t.tid t.to t.to c h.asked in
    let s = came_sound A ts who t place part sts h (subst (λ x. IsPart x place part.eom part.packet) same is) in
    subst (λ to. Sound A ts who tid to (came {A = A} t place part sts)) asked
    (subst (λ k. Sound A ts who k t.to (came {A = A} t place part sts)) numbered s)

ignored_sound : (A : Type 0) (ts : List Transaction) (who : Address) (tid : ℕ) (from : Address) (r : Requests)
    → AllByRecursion (Holds ts who) r.standing → SoundAll A ts who tid from (requests.ignored r)
ignored_sound A ts who tid from r all = record { standing = all; sent = tt; finished = λ qs e. absurd (cc) }

pub heard_sound : (A : Type 0) (ts : List Transaction) (who from : Address) (r : Requests) (f : Content)
    → AllByRecursion (Holds ts who) r.standing → Tells ts from who f
    → SoundAll A ts who (number_of f) from (heard {A = A} r from f)
heard_sound A ts who from r (Request mask xo timer tid user bytes) all tells = ignored_sound A ts who tid from r all
heard_sound A ts who from r (Release tid) all tells = ignored_sound A ts who tid from r all
heard_sound A ts who from r (Response place eom sts tid user bytes) all tells =
    go (find (is_of tid from) r.standing) refl
  where
    part : AnswerPart
    part = record { eom = eom; packet = record { user = user; data_ = bytes } }

    go : (o : Option requests.Transaction) → find (is_of tid from) r.standing ≡ o
        → SoundAll A ts who tid from
        (response_came {A = A} r (is_of tid from) place
        (record { eom = eom; packet = record { user = user; data_ = bytes } }) sts o)
    go None e = ignored_sound A ts who tid from r all
    go (Some t) e =
        let found = all_found (Holds ts who) (is_of tid from) r.standing t all e in
        let own = its_own t tid from found.1 in
        settled_sound A ts who tid from r (is_of tid from)
        (came {A = A} t place (record { eom = eom; packet = record { user = user; data_ = bytes } }) sts) all
        (came_sound_for A ts who from tid t place
        (record { eom = eom; packet = record { user = user; data_ = bytes } }) sts found.0 own.0 own.1 tells.0
        tells.1)

-- ---- retries

pub record SoundRetry (ts : List Transaction) (who : Address) (r : Retried) : Type 0 where
  pub standing : AllByRecursion (Holds ts who) (r.after).standing
  pub sent : TellsAll ts who r.sent

retry_sound : (ts : List Transaction) (who : Address) (r : Requests) (tid : ℕ) (t : requests.Transaction) (n : ℕ)
    → AllByRecursion (Holds ts who) r.standing → Holds ts who t → SoundRetry ts who (retried_with r tid t n)
retry_sound ts who r tid t zero all h =
    record { standing = all_without (Holds ts who) (is_numbered tid) r.standing all; sent = tt }
retry_sound ts who r tid t (suc n) all h = record {
  standing = all_replaced (Holds ts who) (is_numbered tid) (record t { retries = n }) r.standing all
      (record { asked = h.asked; user = h.user; bytes = h.bytes; xo = h.xo; wanted = h.wanted; parts = h.parts });
  sent = (asks ts who t h, tt);
}

pub retried_sound : (ts : List Transaction) (who : Address) (r : Requests) (tid : ℕ) (x : Retried)
    → AllByRecursion (Holds ts who) r.standing → requests.retried r tid ≡ Some x → SoundRetry ts who x
retried_sound ts who r tid x all is = go (find (is_numbered tid) r.standing) refl is
  where
    go : (o : Option requests.Transaction) → find (is_numbered tid) r.standing ≡ o
        → option_map (λ (t : requests.Transaction). retried_with r tid t t.retries) o ≡ Some x → SoundRetry ts who x
    go None e g = absurd (cc)
    go (Some t) e g =
        let same : retried_with r tid t t.retries ≡ x = cc in
        let found = all_found (Holds ts who) (is_numbered tid) r.standing t all e in
        subst (SoundRetry ts who) same (retry_sound ts who r tid t t.retries all found.0)
