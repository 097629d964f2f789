-- The parts of an NBP packet's lines, printed one after the other.
use Rattle.std.proofs.Common.{◌≡◌, ◌++◌, List, ℕ, length, [], subst, sym}
use Rattle.std.specs.Fmt.{decimal}
use Rattle.std.specs.List.{flat_map}
use Rattle.std.specs.Prelude.{codes}
use Rattle.std.proofs.lemmas.List.{append-nil}
use Rattle.at_nbp.specs.Packets.{Content}
use Rattle.at_nbp.specs.Tuples.{Entry}
use Rattle.at_print.specs.Lines.{address_text}
use Rattle.at_print.specs.NameLines.{function_word, names_lines, tuple_line}
use Rattle.at_print.specs.Papers.{Page}
use Rattle.at_print.specs.Printers.{Prints}
use Rattle.at_print.specs.TextWords.{name_text, text_word}
use Rattle.at_print.specs.declared.printer.Printer.{Printer}
use Rattle.at_print.proofs.PrintLemmas.{Prints-five, Prints-trans}

module _ {W : Type 0} (page : W → Page) where
  pub name_prints : (a b c d e f : Printer W) (object kind zone : List ℕ) → Prints page a b (text_word object)
      → Prints page b c (codes ":") → Prints page c d (text_word kind)
      → Prints page d e (codes "@") → Prints page e f (text_word zone)
      → Prints page a f (name_text object kind zone)
  name_prints a b c d e f object kind zone p1 p2 p3 p4 p5 =
      let typed = Prints-trans page c d f _ _ p3 (Prints-trans page d e f _ _ p4 p5) in
      Prints-trans page a b f _ _ p1 (Prints-trans page b c f _ _ p2 typed)

  pub tuple_prints : (a b c d e f : Printer W) (t : Entry) → Prints page a b (codes "tuple ")
      → Prints page b c (name_text t.object t.kind t.zone) → Prints page c d (codes " ")
      → Prints page d e (address_text t.address)
      → Prints page e f (codes " enumerator " ++ (decimal t.enumerator ++ codes "\n"))
      → Prints page a f (tuple_line t)
  tuple_prints a b c d e f t p1 p2 p3 p4 p5 =
      let place = Prints-trans page c d f _ _ p3 (Prints-trans page d e f _ _ p4 p5) in
      Prints-trans page a b f _ _ p1 (Prints-trans page b c f _ _ p2 place)

  pub names_print : (a b c d e : Printer W) (p : Content) (count : ℕ) → count ≡ length p.tuples
      → Prints page a b (codes "nbp ") → Prints page b c (function_word p.function)
      → Prints page c d (codes " id " ++ (decimal p.id ++ (codes " count " ++ (decimal count ++ codes "\n"))))
      → Prints page d e (flat_map tuple_line p.tuples)
      → Prints page a e (names_lines p)
  names_print a b c d e p count is p1 p2 p3 p4 =
      let lines : Prints page d e (flat_map tuple_line p.tuples ++ []) =
      subst (Prints page d e) (sym (append-nil (flat_map tuple_line p.tuples))) p4 in
      let header : Prints page c d
      (codes " id " ++ (decimal p.id ++ (codes " count " ++ (decimal (length p.tuples) ++ codes "\n")))) =
      subst (λ n. Prints page c d
      (codes " id " ++ (decimal p.id ++ (codes " count " ++ (decimal n ++ codes "\n"))))) is p3 in
      Prints-trans page a b e _ _ p1
      (Prints-trans page b c e _ _ p2
      (Prints-five page c d e (codes " id ") (decimal p.id) (codes " count ") (decimal (length p.tuples))
      (codes "\n") _ header lines))
