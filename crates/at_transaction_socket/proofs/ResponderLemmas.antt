-- What comes of a packet for a socket that answers.
use Rattle.std.proofs.Common.{◌≡◌, ℕ, Bool, true, false, List, ◌++◌, map, refl, sym, ap, subst, ◌∙◌, Bor}
use Rattle.std.proofs.lemmas.Bool.{false≢true, true≢false, false_from_ne_true}
use Rattle.std.proofs.lemmas.List.{append-nil}
use Rattle.at_ddp.specs.Outbox.{Posted}
use Rattle.at_ddp.specs.declared.address.Address.{Address}
use Rattle.at_ddp.specs.Protocols.{atp_kind}
use Rattle.at_atp_frame.specs.Frames as Frames
use Rattle.at_atp_frame.specs.Frames.{Content, spelled_all}
use Rattle.at_atp_responder.specs.Records.{Record, received, finds_no_place}
use Rattle.at_atp_frame.specs.declared.frame.Frame.{Frame}
use Rattle.at_atp_frame.specs.declared.frame.Frame.TheVariants as frames
use Rattle.at_atp_responder.specs.declared.reception.Reception.{Reception}
use Rattle.at_atp_responder.specs.declared.reception.Reception.TheVariants as reception
use Rattle.at_event.specs.declared.Report.{Report}
use Rattle.at_event.specs.declared.Report.TheVariants.{Ignored}
use Rattle.at_event.specs.declared.seat.Seat.{Seat}
use Rattle.at_event.specs.declared.service.Reply.{Reply}
use Rattle.at_transaction_socket.specs.TransactionSockets.{TransactionState, serving}
use Rattle.at_event.specs.Outcomes.{wants_memory, Outcome, idle, posted, sent_by, IsStep}
use Rattle.at_event.specs.Kinds.{takes_memory}
use Rattle.at_transaction_socket.specs.Responders.{is_release, released_report}
use Rattle.at_transaction_socket.specs.ServiceSocket.{at_service, service_asked, service_heard}

pub not_release : (f : Frame) → ((tid : ℕ) → f ≡ frames.Release tid → ⊥) → is_release (Frames.content f) ≡ false
not_release (frames.Request mask xo timer tid user bytes) apart = refl
not_release (frames.Response place eom sts tid user bytes) apart = refl
not_release (frames.Release tid) apart = absurd (apart tid refl)

pub not_frame : (f : Frame)
    → ((mask : ℕ) (xo : Bool) (timer tid : ℕ) (user : List ℕ) (bytes : Bor (List ℕ)) → f
    ≡ frames.Request mask xo timer tid user bytes → ⊥) →
    (mask : ℕ) (xo : Bool) (timer tid : ℕ) (user bytes : List ℕ) → Frames.content f
    ≡ Frames.Request mask xo timer tid user bytes → ⊥
not_frame (frames.Request m x t i u b) apart mask xo timer tid user bytes h = apart m x t i u b refl
not_frame (frames.Response p e s i u b) apart mask xo timer tid user bytes h = absurd (cc)
not_frame (frames.Release i) apart mask xo timer tid user bytes h = absurd (cc)

-- the report of a release is not out of memory
pub release_some : (A : Type 0) (r : Reception) → wants_memory {A = A} (released_report r) ≡ false
release_some A reception.Ignored = refl
release_some A (reception.New key) = refl
release_some A (reception.Again count) = refl
release_some A reception.Released = refl

-- ---- the service's socket

module _ (A : Type 0) (said : Reply A) (s : Seat) (a : TransactionState) (from : Address) where
  -- a response is nothing to the service
  no_question : (f : Content) → is_release f ≡ false
      → ((mask : ℕ) (xo : Bool) (timer tid : ℕ) (user bytes : List ℕ) → f ≡ Frames.Request mask xo timer tid user bytes
      → ⊥) →
      service_heard {A = A} said s a from f ≡ idle a Ignored
  no_question (Frames.Request mask xo timer tid user bytes) other apart =
      absurd (apart mask xo timer tid user bytes refl)
  no_question (Frames.Response place eom sts tid user bytes) other apart = refl
  no_question (Frames.Release tid) other apart = absurd (true≢false other)

  pub service_ignores : (f : Content) (items : List Posted) → is_release f ≡ false
      → ((mask : ℕ) (xo : Bool) (timer tid : ℕ) (user bytes : List ℕ) → f ≡ Frames.Request mask xo timer tid user bytes
      → ⊥) →
      IsStep (service_heard {A = A} said s a from f) a items Ignored a items
  service_ignores f items other apart =
      subst (λ (o : Outcome A TransactionState). IsStep o a items Ignored a items) (sym (no_question f other apart))
      (refl, refl, sym (append-nil items))

  -- a release came for the service
  pub service_release : (f : Content) (before after : List Posted) (old new : List Record) (own : Address)
      (r : Report A) →
      is_release f ≡ true → old ≡ a.service_responder → own ≡ serving s.net s.number → r
      ≡ released_report (received old from f).reception → new ≡ (received old from f).after →
      after ≡ before ++ map posted (sent_by own atp_kind (spelled_all (received old from f).sent))
      → IsStep (service_heard said s a from f) a before r (record a { service_responder = new }) after
  service_release (Frames.Request mask xo timer tid user bytes) before after old new own r this is at reports becomes
      sends = absurd (false≢true this)
  service_release (Frames.Response place eom sts tid user bytes) before after old new own r this is at reports becomes
      sends = absurd (false≢true this)
  service_release (Frames.Release tid) before after old new own r this is at reports becomes sends =
      let f = Frames.Release tid in
      rw (ap wants_memory reports ∙ release_some A (received old from f).reception) (
        reports ∙ ap (λ (rs : List Record). released_report (received rs from f).reception) is,
        (λ i. record a { service_responder = (becomes ∙ ap (λ (rs : List Record). (received rs from f).after) is) i }),
        sends ∙ (λ i. before ++ map posted (sent_by (at i) atp_kind (spelled_all (received (is i) from f).sent))),
      )

  -- a request that finds a place, and has an effect
  pub service_takes : (f : Content) (user bytes : List ℕ) → (finds_no_place a.service_responder from f ≡ true → ⊥)
      → ((received a.service_responder from f).reception ≡ reception.Ignored → ⊥)
      → takes_memory (service_asked s a from f user bytes said).report ≡ true
  service_takes f user bytes some heeds = rw (false_from_ne_true (finds_no_place a.service_responder from f) some)
      (go (received a.service_responder from f).reception heeds)
    where
      go : (r : Reception) → (r ≡ reception.Ignored → ⊥)
          → takes_memory (at_service s a (received a.service_responder from f) user bytes said r).report ≡ true
      go reception.Ignored heeds = absurd (heeds refl)
      go (reception.Again count) heeds = refl
      go reception.Released heeds = refl
      go (reception.New key) heeds = refl
