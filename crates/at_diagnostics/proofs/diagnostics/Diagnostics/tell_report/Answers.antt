use Rattle.std.proofs.Common.{◌≡◌, ◌≢◌, ◌⊎◌, ℕ, List, Some, ◌∙◌, inl, inr, sym, subst}
use Rattle.std.specs.Prelude.{◌↔◌}
use Rattle.at_diagnostics.specs.Diagnostics.{HasTold, file_of, printer_of}
use Rattle.at_diagnostics.specs.Lines.{IsOneLine, refusal_told}
use Rattle.at_diagnostics.specs.declared.diagnostics.Diagnostics.{Diagnostics}
use Rattle.at_event.specs.declared.Report.{Report}
use Rattle.at_event.specs.declared.Report.TheVariants.{Refused}
use Rattle.at_print.specs.Papers.{Page}
use Rattle.at_print.specs.Printers.{Prints}
use Rattle.at_event.specs.declared.Reason.{Reason}
use Rattle.at_event.specs.Kinds.{number_of}
use Rattle.at_diagnostics.proofs.diagnostics.Diagnostics.tell_report.Goals as goal

module _ {A W : Type 0} (page : W → Page) (r : Report A) (m at line : ℕ) (old new : Diagnostics W)
    (is : r ≡ Refused m) where
  same_number : (n : ℕ) → r ≡ Refused n → n ≡ m
  same_number n other = let e = sym is ∙ other in cc

  noted : ((n : ℕ) → HasTold new n ↔ ((n ≡ m) ⊎ HasTold old n)) → (n : ℕ)
      → HasTold new n ↔ ((r ≡ Refused n) ⊎ HasTold old n)
  noted told n = (λ has. there ((told n).0 has), back)
    where
      there : ((n ≡ m) ⊎ HasTold old n) → (r ≡ Refused n) ⊎ HasTold old n
      there (inl same) = inl (subst (λ k. r ≡ Refused k) (sym same) is)
      there (inr was) = inr was

      back : ((r ≡ Refused n) ⊎ HasTold old n) → HasTold new n
      back (inl other) = (told n).1 (inl (same_number n other))
      back (inr was) = (told n).1 (inr was)

  once : (HasTold old m → printer_of new ≡ printer_of old) → (n : ℕ) → r ≡ Refused n → HasTold old n
      → printer_of new ≡ printer_of old
  once h n other told = h (subst (HasTold old) (same_number n other) told)

  printed : (¬ HasTold old m → (why : Reason) → number_of why ≡ Some m → (reason : List ℕ)
      × IsOneLine reason × Prints page (printer_of old) (printer_of new) (refusal_told (file_of old) m at line reason))
      → (n : ℕ) → r ≡ Refused n → ¬ HasTold old n → (why : Reason) → number_of why ≡ Some n → (reason : List ℕ)
      × IsOneLine reason × Prints page (printer_of old) (printer_of new) (refusal_told (file_of old) n at line reason)
  printed h n other fresh why known =
      subst (λ k. ¬ HasTold old k → number_of why ≡ Some k → (reason : List ℕ)
      × IsOneLine reason × Prints page (printer_of old) (printer_of new) (refusal_told (file_of old) k at line reason))
      (sym (same_number n other)) (λ first is_known. h first why is_known) fresh known

  unknown : (((why : Reason) → number_of why ≢ Some m) → printer_of new ≡ printer_of old) → (n : ℕ)
      → r ≡ Refused n → ((why : Reason) → number_of why ≢ Some n) → printer_of new ≡ printer_of old
  unknown h n other none = h (subst (λ k. (why : Reason) → number_of why ≢ Some k) (same_number n other) none)

pub returns-in-Refused : goal.returns-in-Refused
returns-in-Refused g c =
    let page = g.W.Paper.page in
    let r = c.args.report.now in
    let m = c.in-Refused.number in
    let old = c.args.self.now in
    let new = c.tell_refused.new.self in
    let is = c.in-Refused.is in
    let told = c.tell_refused.ensures in record {
      file = told.file;
      told = noted page r m c.args.at c.args.line old new is told.told;
      once = once page r m c.args.at c.args.line old new is told.once;
      printed = printed page r m c.args.at c.args.line old new is told.line;
      unknown = unknown page r m c.args.at c.args.line old new is told.silent;
      silent = λ none. absurd (none m is);
    }
