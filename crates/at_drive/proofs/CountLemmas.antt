-- A drive notes as many failed calls as its cable counts.
use Rattle.std.proofs.Common.{◌≡◌, ℕ, ◌+◌, ◌≤◌, List, [], ◌∷◌, length, Some, None, Ok, Err, sym, ap, subst}
use Rattle.std.proofs.Common.{◌∙◌, add-zero, arith}
use Rattle.std.specs.Prelude.{Result, Option, min}
use Rattle.std.proofs.lemmas.List.{length-append}
use Rattle.at_cable.specs.Calls.{IsCounted, last_count}
use Rattle.at_cable.specs.declared.fault.CableFault.{CableFault}
use Rattle.at_ddp.specs.Outbox.{Posted}
use Rattle.at_event.specs.declared.Report.{Report}
use Rattle.at_node.specs.Nodes.{NodeState}
use Rattle.at_steps.specs.Safety.{TransactionTable}
use Rattle.at_drive.specs.Arrivals.{Came}
use Rattle.at_drive.specs.Drives.{Driving, Drives, Plays, Polled, Runs, most_bytes}
use Rattle.at_drive.specs.Sendings.{Sends, fault_of}
use Rattle.at_drive.specs.declared.step.Step.{Step}
use Rattle.at_drive.specs.declared.step.Step.TheVariants.{Call, Timer, Poll}

-- the count rose from n to m by k, or up to its end
pub record Rises (n k m : ℕ) : Type 0 where
  pub within : m ≤ last_count
  pub is : m ≡ min (n + k) last_count

stays : (n m : ℕ) → n ≤ last_count → m ≡ n → Rises n 0 m
stays n m within same = record { within = omega arith; is = omega arith }

both : (n k m j o : ℕ) → Rises n k m → Rises m j o → Rises n (k + j) o
both n k m j o first second =
    let a = first.is in
    let b = second.is in
    record { within = second.within; is = omega arith }

by_call : {T : Type 0} (at n m : ℕ) (answer : Result T CableFault) → n ≤ last_count → IsCounted n answer m
    → Rises n (length (fault_of at answer)) m
by_call at n m (Ok x) within h =
    let same = h.0 in
    let below = h.1 in
    record { within = omega arith; is = omega arith }
by_call at n m (Err f) within h = record { within = omega (arith, h); is = h }

-- the notes of a drive became more by k, and so did the count of the cable
record Counts {A C : Type 0} (failed : C → ℕ) (d : Driving A) (c : C) (d' : Driving A) (c' : C) : Type 0 where
  k : ℕ
  longer : length d'.log.faults ≡ length d.log.faults + k
  rises : Rises (failed c) k (failed c')

module _ {C : Type 0} (S : C → ℕ → ℕ → List ℕ → Result (Unit {0}) CableFault → C → Type 0) (failed : C → ℕ)
    (send_counts : (c : C) (from to : ℕ) (bytes : List ℕ) (answer : Result (Unit {0}) CableFault) (c' : C)
    → S c from to bytes answer c' → IsCounted (failed c) answer (failed c')) where
  sends_count : (at from : ℕ) (ps : List Posted) (c : C) (notes : List ℕ) (c' : C) → failed c ≤ last_count
      → Sends S at from ps c notes c' → Rises (failed c) (length notes) (failed c')
  sends_count at from [] c notes c' within h = rw (h.0) (stays (failed c) (failed c') within (ap failed h.1))
  sends_count at from (p ∷ ps) c notes c' within h =
      let first = by_call at (failed c) (failed h.1) h.0 within (send_counts c from p.node p.bytes h.0 h.1 h.3) in
      let later = sends_count at from ps h.1 h.2 c' first.within h.4 in
      let all : length notes ≡ length (fault_of at h.0) + length h.2 =
      ap length h.5 ∙ length-append (fault_of at h.0) h.2 in
      subst (λ n. Rises (failed c) n (failed c')) (sym all)
      (both (failed c) (length (fault_of at h.0)) (failed h.1) (length h.2) (failed c') first later)

module _ {A C : Type 0} (S : C → ℕ → ℕ → List ℕ → Result (Unit {0}) CableFault → C → Type 0)
    (R : C → ℕ → ℕ → Result (Option (List ℕ)) CableFault → C → Type 0) (failed : C → ℕ)
    (send_counts : (c : C) (from to : ℕ) (bytes : List ℕ) (answer : Result (Unit {0}) CableFault) (c' : C)
    → S c from to bytes answer c' → IsCounted (failed c) answer (failed c'))
    (receive_counts : (c : C) (k room : ℕ) (answer : Result (Option (List ℕ)) CableFault) (c' : C)
    → R c k room answer c' → IsCounted (failed c) answer (failed c')) where
  plays_count : (at k : ℕ) (Wants : TransactionTable → Type 0) (T : NodeState → List Posted → Report A → NodeState
      → List Posted → Type 0)
      (news : List Came) (d : Driving A) (c : C) (d' : Driving A) (c' : C) → failed c ≤ last_count
      → Plays S at k Wants T news d c d' c' → Counts failed d c d' c'
  plays_count at k Wants T news d c d' c' within h = record {
    k = length h.notes;
    longer = ap length h.faults ∙ length-append d.log.faults h.notes;
    rises = sends_count S failed send_counts at k h.out.items c h.notes c' within h.sends;
  }

  polled_counts : (at k : ℕ) (answer : Result (Option (List ℕ)) CableFault) (d : Driving A) (c between : C)
      (d' : Driving A) (c' : C) → failed c ≤ last_count → IsCounted (failed c) answer (failed between)
      → Polled S at k answer d between d' c' → Counts failed d c d' c'
  polled_counts at k (Ok (Some bytes)) d c between d' c' within counted h =
      let same = counted.0 in
      let rest = plays_count at k _ _ _ d between d' c' (omega arith) h in
      record {
        k = rest.k;
        longer = rest.longer;
        rises = subst (λ n. Rises n rest.k (failed c')) same rest.rises;
      }
  polled_counts at k (Ok None) d c between d' c' within counted h = record {
    k = 0;
    longer = ap (λ (x : Driving A). length x.log.faults) h.0 ∙ sym (add-zero (length d.log.faults));
    rises = stays (failed c) (failed c') within (ap failed h.1 ∙ counted.0);
  }
  polled_counts at k (Err f) d c between d' c' within counted h = record {
    k = 1;
    longer = ap (λ (x : Driving A). length x.log.faults) h.0 ∙ length-append d.log.faults (at ∷ []);
    rises = subst (λ n. Rises (failed c) 1 n) (ap failed (sym h.1))
        (by_call {T = Option (List ℕ)} at (failed c) (failed between) (Err f) within counted);
  }

  step_counts : (at : ℕ) (s : Step A) (d : Driving A) (c : C) (d' : Driving A) (c' : C) → failed c ≤ last_count
      → Drives S R at s d c d' c' → Counts failed d c d' c'
  step_counts at (Call k call) d c d' c' within h = plays_count at k _ _ _ d c d' c' within h
  step_counts at (Timer k timer) d c d' c' within h = plays_count at k _ _ _ d c d' c' within h
  step_counts at (Poll k) d c d' c' within h =
      polled_counts at k h.answer d c h.between d' c' within
      (receive_counts c k most_bytes h.answer h.between h.receives) h.polled

  run_counts : (at : ℕ) (ss : List (Step A)) (d : Driving A) (c : C) (d' : Driving A) (c' : C) → failed c ≤ last_count
      → Runs S R at ss d c d' c' → Counts failed d c d' c'
  run_counts at [] d c d' c' within h = record {
    k = 0;
    longer = ap (λ (x : Driving A). length x.log.faults) h.0 ∙ sym (add-zero (length d.log.faults));
    rises = stays (failed c) (failed c') within (ap failed h.1);
  }
  run_counts at (s ∷ ss) d c d' c' within h =
      let first = step_counts at s d c h.0 h.1 within h.2 in
      let later = run_counts (at + 1) ss h.0 h.1 d' c' first.rises.within h.3 in
      record {
        k = first.k + later.k;
        longer = omega (arith, first.longer, later.longer);
        rises = both (failed c) first.k (failed h.1) later.k (failed c') first.rises later.rises;
      }

  -- over a whole drive, whose log begins empty
  pub all_counted : (at : ℕ) (ss : List (Step A)) (d : Driving A) (c : C) (d' : Driving A) (c' : C)
      → d.log.faults ≡ [] → Runs S R at ss d c d' c' → failed c ≤ last_count → failed c'
      ≡ min (failed c + length d'.log.faults) last_count
  all_counted at ss d c d' c' none h within =
      let counts = run_counts at ss d c d' c' within h in
      let all : length d'.log.faults ≡ counts.k = counts.longer ∙ omega (arith, ap length none) in
      counts.rises.is ∙ ap (λ n. min (failed c + n) last_count) (sym all)
