-- What is printed of the elements of a list, one after the other.
use Rattle.std.proofs.Common.{◌≡◌, ℕ, ◌+◌, ◌<◌, List, [], ◌∷◌, ◌++◌, length, take, get_or, sym, ap}
use Rattle.std.proofs.Common.{subst, ◌∙◌, append-nil}
use Rattle.std.proofs.lemmas.Grind.{flat_map-append}
use Rattle.std.proofs.lemmas.List.{take_more}
use Rattle.std.proofs.lemmas.List.Concat.{flat_map-cons}
use Rattle.std.specs.List.{flat_map}
use Rattle.std.specs.Prelude.{codes}
use Rattle.at_print.specs.Lines.{hex_text}
use Rattle.at_atp_frame.specs.Packets.{Packet}
use Rattle.at_print.specs.Papers.{Page}
use Rattle.at_print.specs.Printers.{Prints}
use Rattle.at_print.specs.Reports.Transactions.{packet_text}
use Rattle.at_print.specs.declared.printer.Printer.{Printer}
use Rattle.at_print.proofs.PrintLemmas.{Prints-trans}

-- the text of one element more
pub flat_map-next : {T : Type 0} (f : T → List ℕ) (xs : List T) (i : ℕ) (d x : T) → i < length xs → x ≡ get_or xs i d
    → flat_map f (take (i + 1) xs) ≡ flat_map f (take i xs) ++ f x
flat_map-next f xs i d x lt is =
    ap (flat_map f) (take_more xs i d lt ∙ ap (λ y. take i xs ++ y ∷ []) (sym is))
    ∙ flat_map-append f (take i xs) (x ∷ [])
    ∙ ap (λ l. flat_map f (take i xs) ++ l) (flat_map-cons f x [] ∙ append-nil (f x))

pub Prints-next : {T W : Type 0} (page : W → Page) (f : T → List ℕ) (xs : List T) (i : ℕ) (d x : T)
    (a b c : Printer W) → i < length xs → x ≡ get_or xs i d
    → Prints page a b (flat_map f (take i xs)) → Prints page b c (f x)
    → Prints page a c (flat_map f (take (i + 1) xs))
Prints-next page f xs i d x a b c lt is p q =
    subst (Prints page a c) (sym (flat_map-next f xs i d x lt is)) (Prints-trans page a b c _ _ p q)

module _ {W : Type 0} (page : W → Page) where
  -- a packet is printed in four parts
  pub Prints-packet : (p : Packet) (a b c d e : Printer W) → Prints page a b (codes " ")
      → Prints page b c (hex_text p.user) → Prints page c d (codes ":")
      → Prints page d e (hex_text p.data_) → Prints page a e (packet_text p)
  Prints-packet p a b c d e p1 p2 p3 p4 =
      Prints-trans page a b e _ _ p1 (Prints-trans page b c e _ _ p2 (Prints-trans page c d e _ _ p3 p4))
