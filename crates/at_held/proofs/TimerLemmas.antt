-- The lines of timers are printed one after the other.
use Rattle.std.proofs.Common.{◌≡◌, ◌∙◌, ◌+◌, ◌<◌, ◌∷◌, ◌++◌, [], ℕ, List, length, take, get_or, ap, sym, subst}
use Rattle.std.proofs.Common.{append-nil}
use Rattle.std.proofs.lemmas.Grind.{flat_map-append}
use Rattle.std.proofs.lemmas.List.{take_more}
use Rattle.std.proofs.lemmas.List.Concat.{flat_map-cons}
use Rattle.std.specs.List.{flat_map}
use Rattle.at_event.specs.declared.Timer.{Timer}
use Rattle.at_print.specs.Papers.{Page}
use Rattle.at_print.specs.Printers.{Prints}
use Rattle.at_print.specs.Reports.{timer_line}
use Rattle.at_print.specs.declared.printer.Printer.{Printer}
use Rattle.at_print.proofs.PrintLemmas.{Prints-trans}

lines_next : (net : ℕ) (timers : List Timer) (i : ℕ) (other : Timer) → i < length timers
    → flat_map (timer_line net) (take (i + 1) timers)
    ≡ flat_map (timer_line net) (take i timers) ++ timer_line net (get_or timers i other)
lines_next net timers i other lt =
    ap (flat_map (timer_line net)) (take_more timers i other lt)
    ∙ flat_map-append (timer_line net) (take i timers) (get_or timers i other ∷ [])
    ∙ ap (λ l. flat_map (timer_line net) (take i timers) ++ l)
    (flat_map-cons (timer_line net) (get_or timers i other) [] ∙ append-nil (timer_line net (get_or timers i other)))

-- the line of one timer more
pub line_more : {W : Type 0} (page : W → Page) (net : ℕ) (timers : List Timer) (i : ℕ) (other : Timer)
    (a b c : Printer W) → i < length timers → Prints page a b (flat_map (timer_line net) (take i timers))
    → Prints page b c (timer_line net (get_or timers i other))
    → Prints page a c (flat_map (timer_line net) (take (i + 1) timers))
line_more page net timers i other a b c lt p q =
    subst (Prints page a c) (sym (lines_next net timers i other lt)) (Prints-trans page a b c _ _ p q)
