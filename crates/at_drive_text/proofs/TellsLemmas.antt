-- A drive is told one step further.
use Rattle.std.proofs.Common.{◌≡◌, ℕ, suc, ◌+◌, List, [], ◌∷◌, ◌++◌, length}
use Rattle.std.proofs.Common.{refl, sym, ap, subst, ◌∙◌, append-nil, append_assoc, arith}
use Rattle.std.proofs.Common.{map}
use Rattle.std.specs.Prelude.{Result, Option}
use Rattle.at_cable.specs.declared.fault.CableFault.{CableFault}
use Rattle.at_drive.specs.Drives.{Driven as Nodes, Drives, Logged, no_log, number_of as node_number}
use Rattle.at_drive.specs.Drives.{opening_nodes_of, with_log}
use Rattle.at_drive.specs.Steps.{number_in, numbers_of}
use Rattle.at_drive.specs.declared.step.Step.{Step}
use Rattle.at_setup.specs.declared.setup.NodeSetup.{NodeSetup}
use Rattle.at_setup.specs.declared.setup.Setup.{Setup}
use Rattle.at_nodes.specs.Openings.{opening_node}
use Rattle.at_print.specs.Papers.{Page}
use Rattle.at_print.specs.Printers.{HasFailed, Prints}
use Rattle.at_print.specs.declared.printer.Printer.{Printer}
use Rattle.at_diagnostics.specs.declared.diagnostics.Diagnostics.{Diagnostics}
use Rattle.at_drive_text.specs.Driven.{Progress, Tells, news_text, next_progress}
use Rattle.at_drive_text.specs.Told.{TellsStep}

-- one step more, from the place that the steps before it left
module _ {A C E : Type 0} (S : C → ℕ → ℕ → List ℕ → Result (Unit {0}) CableFault → C → Type 0)
    (R : C → ℕ → ℕ → Result (Option (List ℕ)) CableFault → C → Type 0) (heard : E → Page) where
  pub and_one : (at : ℕ) (ss : List (Step A)) (s : Step A) (p q : Progress C E) (d : Nodes) (l : Logged A) (c : C)
      (x : Diagnostics E) (text : List ℕ) → Tells S R heard at ss p q text
      → Drives S R (at + length ss) s (with_log q.nodes no_log) q.cable (with_log d l) c
      → TellsStep heard (at + length ss) q.has_failed l q.told x
      → Tells S R heard at (ss ++ s ∷ []) p (next_progress q d c l x) (text ++ news_text (at + length ss) q.sent l)
  and_one at [] s p q d l c x text (same, none) last told =
      let here : at + 0 ≡ at = omega arith in
      let from_p = subst (λ (i : ℕ). Drives S R i s (with_log p.nodes no_log) p.cable (with_log d l) c) here
      (subst (λ (y : Progress C E). Drives S R (at + 0) s (with_log y.nodes no_log) y.cable
      (with_log d l) c) same last) in
      let told_p = subst (λ (i : ℕ). TellsStep heard i p.has_failed l p.told x) here
      (subst (λ (y : Progress C E). TellsStep heard (at + 0) y.has_failed l y.told x) same told) in
      let printed : text ++ news_text (at + 0) q.sent l ≡ news_text at p.sent l ++ [] =
      ap (λ t. t ++ news_text (at + 0) q.sent l) none
      ∙ (λ i. news_text (here i) (same i).sent l) ∙ sym (append-nil (news_text at p.sent l)) in (
        d,
        l,
        c,
        x,
        [],
        from_p,
        told_p,
        (ap (λ (y : Progress C E). next_progress y d c l x) same, refl),
        printed,
      )
  and_one at (a ∷ ss) s p q d l c x text (mid, came, between, y, rest, drives, told, tells, is) last last_told =
      let there : at + suc (length ss) ≡ at + 1 + length ss = omega arith in
      let later = subst (λ (i : ℕ). Drives S R i s (with_log q.nodes no_log) q.cable (with_log d l) c) there last in
      let later_told = subst (λ (i : ℕ). TellsStep heard i q.has_failed l q.told x) there last_told in
      let more = and_one (at + 1) ss s (next_progress p mid between came y) q d l c x rest tells later later_told in
      let first = news_text at p.sent came in
      let news = λ (i : ℕ). news_text i q.sent l in
      let printed : text ++ news (at + suc (length ss)) ≡ first ++ (rest ++ news (at + 1 + length ss)) =
      ap (λ t. t ++ news (at + suc (length ss))) is ∙ append_assoc first rest (news (at + suc (length ss)))
      ∙ ap (λ i. first ++ (rest ++ news i)) there in
      (mid, came, between, y, rest ++ news (at + 1 + length ss), drives, told, more, printed)

-- ---- the nodes of a setup before the first step

numbers_from : {A : Type 0} (s : Setup A) (ns : List NodeSetup) → map node_number (map (opening_node s) ns)
    ≡ map number_in ns
numbers_from s [] = refl
numbers_from s (n ∷ ns) = ap (λ l. n.node ∷ l) (numbers_from s ns)

pub begin_numbers : {A : Type 0} (s : Setup A) → map node_number (opening_nodes_of s).nodes ≡ numbers_of s
begin_numbers s = numbers_from s s.nodes

-- ---- a printer that failed prints nothing more

pub stays_failed : {W : Type 0} (page : W → Page) (a b : Printer W) (text : List ℕ) → Prints page a b text
    → HasFailed a → HasFailed b
stays_failed page a b text h failed = subst HasFailed (sym (h.stopped failed)) failed
