-- What a packet does to a requester.
use Rattle.std.proofs.Common.{◌≡◌, ℕ, suc, Bool, true, false, cond, List, ◌++◌, set, Some, None, Result, Ok, Err, refl}
use Rattle.std.proofs.Common.{sym, ap, ◌∙◌, arith}
use Rattle.std.specs.Prelude.{find, remove, IfOk}
use Rattle.std.proofs.lemmas.List.{take-set, drop-set-lt}
use Rattle.std.proofs.lemmas.Bool.{true≢false}
use Rattle.at_ddp.specs.Outbox.{Outbox}
use Rattle.at_ddp.specs.Sending.{Sends}
use Rattle.at_ddp.specs.declared.address.Address.{Address}
use Rattle.at_ddp.proofs.OutboxLemmas.{sends_nothing}
use Rattle.at_atp_frame.specs.Packets.{Packet}
use Rattle.at_atp_requester.specs.Answers.{AnswerPart, is_wanted, whole, with_part}
use Rattle.at_atp_frame.specs.Frames.{Response, spelled_all}
use Rattle.at_atp_requester.specs.Requests.{Transaction, Requests, is_of, Effect, release_by, came, is_finished}
use Rattle.at_atp_requester.specs.Requests.{is_ignored, heard, IsHeard, IsEffect}
use Rattle.at_atp_requester.specs.declared.progress.RequestProgress.{RequestProgress}
use Rattle.at_atp_requester.specs.declared.progress.RequestProgress.TheVariants.{Ignored, Finished}
use Rattle.at_ddp.specs.Tables.{replaced, without_first}
use Rattle.at_ddp.proofs.TableLemmas.{Found}

-- the effect of a packet with which the answer is there
pub effect_finished : {A E : Type 0} (t : Transaction) (place : ℕ) (part : AnswerPart) (sts : Bool)
    (packets : List Packet) (r : Result (RequestProgress A) E) (new : Transaction) (before after : Outbox) →
    is_wanted t.parts place ≡ true → whole (with_part t.parts place part) ≡ Some packets
    → IfOk r (λ s. (s ≡ Finished packets) × Sends before after (spelled_all (release_by t))) →
    IfOk r (λ s. IsEffect (came {A = A} t place part sts) s new before after)
effect_finished t place part sts packets (Err e) new before after wanted is h = h
effect_finished t place part sts packets (Ok s) new before after wanted is h =
    rw (wanted, is) (record { is_step = h.0; is_new = λ b. absurd (true≢false b); sends = h.1 })

-- the packet has no effect on the transaction that it came for, if none on the requester
pub no_effect_some : (A : Type 0) (r : Requests) (from : Address) (place : ℕ) (eom sts : Bool) (tid : ℕ)
    (user bytes : List ℕ) (i : ℕ) (f : Found (is_of tid from) r.standing i) →
    is_ignored (heard {A = A} r from (Response place eom sts tid user bytes)).step ≡ true →
    is_ignored (came {A = A} f.entry place (record { eom = eom; packet = record { user = user; data_ = bytes } })
    sts).step ≡ true
no_effect_some A r from place eom sts tid user bytes i f = rw f.first (λ h. h)

pub heard_none : {A : Type 0} (r : Requests) (from : Address) (place : ℕ) (eom sts : Bool) (tid : ℕ)
    (user bytes : List ℕ) (out : Outbox) → find (is_of tid from) r.standing ≡ None →
    IsHeard (heard {A = A} r from (Response place eom sts tid user bytes)) Ignored r out out
heard_none r from place eom sts tid user bytes out is =
    rw is (record { is_step = refl; is_new = refl; sends = sends_nothing out })

pub remove-set : {X : Type 0} (xs : List X) (i : ℕ) (y : X) → remove (set xs i y) i ≡ remove xs i
remove-set xs i y = λ j. take-set xs i y j ++ drop-set-lt (suc i) xs i y (omega arith) j

-- the transaction that the packet came for took it in
pub heard_some : {A : Type 0} (r : Requests) (from : Address) (place : ℕ) (eom sts : Bool) (tid : ℕ)
    (user bytes : List ℕ) (i : ℕ) (s : RequestProgress A) (new : Transaction) (standing : List Transaction)
    (before after : Outbox) →
    (f : Found (is_of tid from) r.standing i)
    → IsEffect (came f.entry place (record { eom = eom; packet = record { user = user; data_ = bytes } }) sts) s
    new before after →
    standing ≡ cond (is_finished s) (remove (set r.standing i new) i) (set r.standing i new) →
    IsHeard (heard {A = A} r from (Response place eom sts tid user bytes)) s
    (record { next = r.next; standing = standing }) before after
heard_some {A} r from place eom sts tid user bytes i s new standing before after f effect is = rw f.first (record {
  is_step = effect.is_step;
  is_new = λ j. record { next = r.next; standing = stands j };
  sends = effect.sends;
})
  where
    e : Effect A
    e = came f.entry place (record { eom = eom; packet = record { user = user; data_ = bytes } }) sts

    choose : (b : Bool) → (b ≡ false → new ≡ e.after) → cond b (remove (set r.standing i new) i) (set r.standing i new)
        ≡ cond b (without_first (is_of tid from) r.standing) (replaced (is_of tid from) e.after r.standing)
    choose true h = remove-set r.standing i new ∙ sym f.gone_is
    choose false h = sym (f.set_is new) ∙ ap (λ t. replaced (is_of tid from) t r.standing) (h refl)

    stands : standing ≡ cond (is_finished e.step) (without_first (is_of tid from) r.standing)
        (replaced (is_of tid from) e.after r.standing)
    stands = is ∙ ap (λ (x : RequestProgress A). cond (is_finished x) (remove (set r.standing i new) i)
        (set r.standing i new))
        effect.is_step ∙ choose (is_finished e.step) effect.is_new
