-- What is printed of a log, part after part.
use Rattle.std.proofs.Common.{◌≡◌, ℕ, ◌+◌, ◌<◌, List, [], ◌∷◌, ◌++◌, length, take, get_or}
use Rattle.std.proofs.Common.{refl, sym, ap, subst, ◌∙◌, append-nil, append_assoc, arith}
use Rattle.std.proofs.lemmas.List.{take_more, length-take-le}
use Rattle.std.proofs.lemmas.Option.{slice_get-get_or}
use Rattle.std.specs.List.{flat_map}
use Rattle.std.specs.Prelude.{slice_get, Option, Some, None, codes, if◌then◌else◌}
use Rattle.std.specs.Fmt.{decimal}
use Rattle.at_ddp.specs.Outbox.{Outbox, Posted}
use Rattle.at_drive.specs.Drives.{Logged}
use Rattle.at_print.specs.Papers.{Page}
use Rattle.at_print.specs.Printers.{Prints}
use Rattle.at_print.specs.Reports.{datagram_line}
use Rattle.at_print.specs.declared.printer.Printer.{Printer}
use Rattle.at_drive_text.specs.Driven.{datagram_lines, fault_line, is_idle, news_text, number_of, report_part}
use Rattle.at_drive_text.specs.Driven.{sent_part}
use Rattle.at_print.proofs.PrintLemmas.{Prints-trans}

-- ---- datagrams

datagrams_append : (n : ℕ) (xs ys : List Posted) → datagram_lines n (xs ++ ys)
    ≡ datagram_lines n xs ++ datagram_lines (n + length xs) ys
datagrams_append n [] ys = ap (λ k. datagram_lines k ys) (omega arith)
datagrams_append n (x ∷ xs) ys =
    let same : n + 1 + length xs ≡ n + length (x ∷ xs) = omega arith in
    let line = datagram_line (number_of n) x.node x.bytes in
    ap (λ l. line ++ l)
    (datagrams_append (n + 1) xs ys ∙ ap (λ k. datagram_lines (n + 1) xs ++ datagram_lines k ys) same)
    ∙ sym (append_assoc line (datagram_lines (n + 1) xs) (datagram_lines (n + length (x ∷ xs)) ys))

-- the line of one datagram more
pub next_datagram : {W : Type 0} (page : W → Page) (first i : ℕ) (ps : List Posted) (p q : Posted) (to number : ℕ)
    (bytes : List ℕ) (a b c : Printer W) → i < length ps → slice_get ps i ≡ Some p → slice_get ps i ≡ Some q
    → to ≡ p.node → bytes ≡ q.bytes → number ≡ number_of (first + i)
    → Prints page a b (datagram_lines first (take i ps)) → Prints page b c (datagram_line number to bytes)
    → Prints page a c (datagram_lines first (take (i + 1) ps))
next_datagram page first i ps p q to number bytes a b c lt is other goes spelled numbered before line =
    let same : q ≡ p = let e = sym other ∙ is in cc in
    let here : get_or ps i p ≡ p = let e = slice_get-get_or ps i p lt in cc in
    let long : length (take i ps) ≡ i = length-take-le i ps (omega arith) in
    let bytes_same : bytes ≡ p.bytes = spelled ∙ ap (λ (x : Posted). x.bytes) same in
    let more : datagram_lines first (take (i + 1) ps)
    ≡ datagram_lines first (take i ps) ++ datagram_line number to bytes =
    ap (datagram_lines first) (take_more ps i p lt ∙ ap (λ x. take i ps ++ x ∷ []) here)
    ∙ datagrams_append first (take i ps) (p ∷ [])
    ∙ ap (λ k. datagram_lines first (take i ps) ++ datagram_lines (first + k) (p ∷ [])) long
    ∙ ap (λ l. datagram_lines first (take i ps) ++ l) (append-nil (datagram_line (number_of (first + i)) p.node p.bytes)
    ∙ (λ j. datagram_line (sym numbered j) (sym goes j) (sym bytes_same j))) in
    subst (Prints page a c) (sym more) (Prints-trans page a b c _ _ before line)

same_numbers : (n m : ℕ) (ps : List Posted) → number_of n ≡ number_of m → datagram_lines n ps ≡ datagram_lines m ps
same_numbers n m [] same = refl
same_numbers n m (p ∷ ps) same =
    let next : number_of (n + 1) ≡ number_of (m + 1) = omega (arith, same) in
    let rest = same_numbers (n + 1) (m + 1) ps next in
    λ i. datagram_line (same i) p.node p.bytes ++ rest i

-- the number from which a program counts may be the largest one
pub from_number : (n : ℕ) (ps : List Posted) → datagram_lines (number_of n) ps ≡ datagram_lines n ps
from_number n ps = same_numbers (number_of n) n ps (omega arith)

sent_from : (n : ℕ) (o : Option Outbox) → sent_part (number_of n) o ≡ sent_part n o
sent_from n None = refl
sent_from n (Some out) = from_number n out.items

pub news_from : {A : Type 0} (at n : ℕ) (l : Logged A) → news_text at (number_of n) l ≡ news_text at n l
news_from at n l = ap (λ s. report_part at (slice_get l.reports 0) ++ (s ++ (flat_map fault_line l.faults
    ++ (if is_idle l then decimal at ++ codes " idle\n" else [])))) (sent_from n (slice_get l.sent 0))

-- what is printed in four parts
pub four_parts : {W : Type 0} (page : W → Page) (a b c d e : Printer W) (w x y z : List ℕ) → Prints page a b w
    → Prints page b c x → Prints page c d y → Prints page d e z → Prints page a e (w ++ (x ++ (y ++ z)))
four_parts page a b c d e w x y z p q r s =
    Prints-trans page a b e w (x ++ (y ++ z)) p
    (Prints-trans page b c e x (y ++ z) q (Prints-trans page c d e y z r s))
