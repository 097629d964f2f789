-- What an event of one protocol is to another protocol: it leaves the other's part as it was, sends nothing of its
-- type, and reports nothing of it.
use Rattle.std.proofs.Common.{◌≡◌, ℕ, Bool, false, List, [], ◌∷◌, sym, ap, ◌∙◌}
use Rattle.std.specs.Prelude.{◌==◌}
use Rattle.std.specs.List.{AllByRecursion}
use Rattle.at_ddp.specs.Datagram.{Content as Datagram, BeginsWith, canonical}
use Rattle.at_ddp.specs.declared.address.Address.{Address}
use Rattle.at_event.specs.Kinds.{Speaker, Nobody, speaker_of_call, speaker_of_timer, reporter_of}
use Rattle.at_event.specs.Outcomes.{Outcome, Outgoing}
use Rattle.at_event.specs.declared.Call.{Call}
use Rattle.at_event.specs.declared.Timer.{Timer}
use Rattle.at_event.specs.declared.service.Reply.{Reply}
use Rattle.at_node.specs.Hearing.{Hears}
use Rattle.at_node.specs.Nodes.{NodeState, called, speaker_of, timed}
use Rattle.at_session.specs.Sessions.{SessionState}
use Rattle.at_steps.specs.Acts.{Act, Calls, Fires, Gets}
use Rattle.at_steps.specs.Foreign.{IsAnothers}
use Rattle.at_steps.specs.SessionSteps.{after as kept_after}
use Rattle.at_steps.proofs.Coming.{IsOf}
use Rattle.at_steps.proofs.Protocols.{Comes, IsTyped, call_comes, datagram_comes, take_part, timer_comes, type_of}

-- a protocol by its test, the type of its datagrams and its part of a node; no other protocol has any of these
pub record IsProtocol {X : Type 0} (is_its : Speaker → Bool) (kind : ℕ) (part : NodeState → X) : Type 0 where
  pub not_nobodys : is_its Nobody ≡ false
  pub typed : (k : Speaker) → (type_of k == kind) ≡ is_its k
  pub spoken : (other : ℕ) → (other == kind) ≡ false → is_its (speaker_of other) ≡ false
  pub stays : (k : Speaker) → is_its k ≡ false → (n now : NodeState) (s : SessionState)
      → part (record (take_part k n now) { session = s }) ≡ part n

-- the type of a datagram is read as it was written
abbrev pub ReadsType : Type 0
ReadsType = (to from : Address) (kind : ℕ) (bytes rest : List ℕ) (d : Datagram)
    → BeginsWith (canonical to from kind bytes) d rest → d.kind ≡ kind

-- the events of other protocols
pub record AreForeign (A : Type 0) {X : Type 0} (is_its : Speaker → Bool) (kind : ℕ) (part : NodeState → X)
    : Type 0 where
  pub call : (n : NodeState) (call : Call A) → is_its (speaker_of_call call) ≡ false
      → IsAnothers is_its kind part n (Calls call) (called n call)
  pub timer : (n : NodeState) (time : Timer) → is_its (speaker_of_timer time) ≡ false
      → IsAnothers {A = A} is_its kind part n (Fires time) (timed n time)
  pub datagram : ReadsType → (n : NodeState) (which : ℕ) (to from : Address) (other : ℕ) (bytes : List ℕ)
      (said : Reply A) (o : Outcome A NodeState) → (other == kind) ≡ false
      → Hears said n (canonical to from other bytes) o → IsAnothers is_its kind part n (Gets which) o

-- what is sent by one type is not of another
others_sent : (kind other : ℕ) → (kind == other) ≡ false → (out : List Outgoing)
    → AllByRecursion (λ p. p.kind ≡ kind) out → AllByRecursion (λ p. (p.kind == other) ≡ false) out
others_sent kind other apart [] h = tt
others_sent kind other apart (o ∷ out) h = (ap (λ k. k == other) h.0 ∙ apart, others_sent kind other apart out h.1)

module _ (X : Type 0) (is_its : Speaker → Bool) (kind : ℕ) (part : NodeState → X)
    (p : IsProtocol is_its kind part) where
  others_report : (whose k : Speaker) → is_its whose ≡ false → IsOf whose k → is_its k ≡ false
  others_report whose Nobody apart h = p.not_nobodys
  others_report whose k apart h = ap is_its h ∙ apart

  -- a datagram of another type is not the protocol's
  others_typed : (other : ℕ) → (other == kind) ≡ false → (k : Speaker) → IsTyped k other → is_its k ≡ false
  others_typed other apart Nobody typed = p.not_nobodys
  others_typed other apart k typed = ap is_its (sym typed) ∙ p.spoken other apart

  comes_anothers : (A : Type 0) (n : NodeState) (act : Act A) (o : Outcome A NodeState) (k : Speaker) → is_its k ≡ false
      → Comes A n act o k → IsAnothers is_its kind part n act o
  comes_anothers A n act o k apart h =
      let by = h.by in
      record {
        same = ap part by.state ∙ p.stays k apart n o.state (kept_after n.session act o.report);
        sends = others_sent (type_of k) kind (p.typed k ∙ apart) o.out by.its.0;
        reports = others_report k (reporter_of o.report) apart by.its.1.0;
        said = by.its.1.1;
      }

  -- so each event of another protocol is foreign
  pub others_events : (A : Type 0) → AreForeign A is_its kind part
  others_events A = record {
    call = λ n call apart. comes_anothers A n (Calls call) (called n call) (speaker_of_call call) apart
        (call_comes A n call);
    timer = λ n time apart. comes_anothers A n (Fires time) (timed n time) (speaker_of_timer time) apart
        (timer_comes A n time);
    datagram = λ reads n which to from other bytes said o apart h.
        let c = datagram_comes A n which said o reads to from other bytes h in
        comes_anothers A n (Gets which) o c.whose (others_typed other apart c.whose c.typed) c.comes;
  }
