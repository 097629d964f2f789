-- What comes of the calls and the packets of the socket for names.
use Rattle.std.proofs.Common.{◌≡◌, ◌⊎◌, inl, inr, ℕ, true, false, List, [], ◌∷◌, Option, Some, None, refl, sym, ap}
use Rattle.std.proofs.Common.{subst, ◌∙◌}
use Rattle.std.specs.Prelude.{IfSome}
use Rattle.at_ddp.specs.Outbox.{Posted, Outbox}
use Rattle.at_ddp.specs.Sending.{Sends}
use Rattle.at_ddp.specs.declared.address.Address.{Address}
use Rattle.at_ddp.specs.Protocols.{nbp_kind}
use Rattle.at_nbp.specs.Fault.{IsFirstFault, number_of}
use Rattle.at_nbp.specs.Lookups.{Search, sent_question}
use Rattle.at_nbp.specs.declared.fault.NbpFault.{NbpFault}
use Rattle.at_nbp.specs.declared.fault.NbpFault.TheVariants as faults
use Rattle.at_name_socket.specs.NameSockets.{Hears as SocketHears, SocketState, names_of}
use Rattle.at_name_socket.specs.declared.step.Heard.{Heard}
use Rattle.at_name_socket.specs.declared.step.Heard.TheVariants as heard
use Rattle.at_event.specs.declared.Report.{Report}
use Rattle.at_event.specs.declared.Report.TheVariants.{Again, NoMemory}
use Rattle.at_event.specs.declared.seat.Seat.{Seat}
use Rattle.at_node.specs.NameCalls.{asked_again, sent_of}
use Rattle.at_node.specs.NameHearing.{HearsName, HearsNbpFault, told_by}
use Rattle.at_event.specs.Outcomes.{Comes, Exactly, Outcome, refused_as, wants_memory}
use Rattle.at_event.specs.Kinds.{takes_memory}
use Rattle.at_event.proofs.OutcomeLemmas.{comes_refused, comes_with}
use Rattle.at_event.proofs.PostLemmas.{posts}

-- an open lookup was asked again
pub again_sent : {A : Type 0} (s : Seat) (n : SocketState) (o : Option Search) (before after : Outbox)
    (start : List Posted) → (o ≡ None → ⊥) → IfSome o (λ x. Sends before after (sent_question n.lookups x ∷ [])) →
    before.items ≡ start → before.from ≡ names_of s.net s.number → before.kind ≡ nbp_kind
    → Exactly (asked_again {A = A} s n o) start Again n after.items
again_sent s n None before after start some sends same from kind = absurd (some refl)
again_sent s n (Some x) before after start some sends same from kind = (
  refl,
  refl,
  posts before after (sent_question n.lookups x ∷ []) start (names_of s.net s.number) nbp_kind sends same from kind,
)

-- ---- packets

numbered : (f : NbpFault) → (f ≡ faults.NoMemory) ⊎ ((k : ℕ) × (number_of f ≡ Some k) × (f ≡ faults.NoMemory → ⊥))
numbered faults.NoMemory = inl refl
numbered faults.ShortNbp = inr (20, refl, λ e. absurd (cc))
numbered faults.BadNbpFunction = inr (21, refl, λ e. absurd (cc))
numbered faults.BadCount = inr (22, refl, λ e. absurd (cc))
numbered faults.BadString = inr (23, refl, λ e. absurd (cc))
numbered faults.NameInUse = inr (24, refl, λ e. absurd (cc))
numbered faults.NoSuchName = inr (25, refl, λ e. absurd (cc))
numbered faults.EmptyName = inr (26, refl, λ e. absurd (cc))
numbered faults.NamesFull = inr (27, refl, λ e. absurd (cc))
numbered faults.LookupsFull = inr (28, refl, λ e. absurd (cc))
numbered faults.NoSuchLookup = inr (29, refl, λ e. absurd (cc))

pub told_some : (A : Type 0) (h : Heard) → wants_memory {A = A} (told_by h) ≡ false
told_some A heard.Ignored = refl
told_some A heard.Relayed = refl
told_some A (heard.Answered count) = refl
told_some A (heard.Kept count) = refl

told_takes : (A : Type 0) (h : Heard) → (h ≡ heard.Ignored → ⊥) → takes_memory {A = A} (told_by h) ≡ true
told_takes A heard.Ignored heeds = absurd (heeds refl)
told_takes A heard.Relayed heeds = refl
told_takes A (heard.Answered count) heeds = refl
told_takes A (heard.Kept count) heeds = refl

-- what the data of a datagram does at the socket for names
abbrev pub HearsData : {A : Type 0} → Seat → SocketState → List ℕ → Outcome A SocketState → Type 0
HearsData s n bytes o = HearsName s n bytes o ⊎ HearsNbpFault n bytes o

-- some packet that the data begins with has an effect
abbrev pub SomeStep : SocketState → List ℕ → Type 0
SomeStep n bytes = (h : Heard) × (new : SocketState) × (pushes : List (Address × List ℕ))
    × SocketHears n bytes h new pushes × (h ≡ heard.Ignored → ⊥)

module _ (A : Type 0) (s : Seat) (n : SocketState) (bytes : List ℕ) (before : List Posted) where
  -- a packet was taken
  pub heard_comes : (h : Heard) (new : SocketState) (pushes : List (Address × List ℕ)) (box boxed : Outbox)
      → SocketHears n bytes h new pushes → Sends box boxed pushes →
      box.items ≡ before → box.from ≡ names_of s.net s.number → box.kind ≡ nbp_kind
      → Comes (HearsData {A = A} s n bytes) n before (told_by h) new boxed.items
  heard_comes h new pushes box boxed hears sends same from kind =
      comes_with (HearsData s n bytes) n before (record { report = told_by h; state = new; out = sent_of s pushes })
      (told_by h) new boxed.items
      (inl (record { step = h; new = new; pushes = pushes; hears = hears; outcome = refl }))
      (refl, refl, posts box boxed pushes before (names_of s.net s.number) nbp_kind sends same from kind)
      (told_some A h)

  -- the data was refused, or memory ran out
  pub fault_comes : (fault : NbpFault) (number : Option ℕ) (r : Report A) → number ≡ number_of fault → r
      ≡ refused_as number → ((fault ≡ faults.NoMemory → ⊥) → IsFirstFault fault bytes)
      → (fault ≡ faults.NoMemory → SomeStep n bytes) →
      Comes (HearsData {A = A} s n bytes) n before r n before
  fault_comes fault number r is told first some = go (numbered fault)
    where
      lacks : SomeStep n bytes → Comes (HearsData {A = A} s n bytes) n before NoMemory n before
      lacks x = (
        refl,
        refl,
        (
          record { report = told_by x.0; state = x.1; out = sent_of s x.2 },
          inl
              (record { step = x.0; new = x.1; pushes = x.2; hears = x.3; outcome = refl }),
          told_takes A x.0 x.4,
        ),
      )

      go : (fault ≡ faults.NoMemory) ⊎ ((k : ℕ) × (number_of fault ≡ Some k) × (fault ≡ faults.NoMemory → ⊥))
          → Comes (HearsData {A = A} s n bytes) n before r n before
      go (inl none) = subst (λ x. Comes (HearsData {A = A} s n bytes) n before x n before)
          (sym (told ∙ ap refused_as (is ∙ ap number_of none))) (lacks (some none))
      go (inr x) = comes_refused (HearsData s n bytes) n before r number x.0 (is ∙ x.1) told
          (inr (record { fault = fault; number = x.0; first = first x.2; numbered = x.1; outcome = refl }))
