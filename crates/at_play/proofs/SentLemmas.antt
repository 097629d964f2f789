-- The lines of the datagrams that an event sent, one after the other.
use Rattle.std.proofs.Common.{◌≡◌, ℕ, ◌+◌, ◌<◌, ◌≤◌, List, [], ◌∷◌, ◌++◌, length, take, drop, get_or, sym, ap}
use Rattle.std.proofs.Common.{subst, ◌∙◌, append-nil, append_assoc, arith, Some, drop_of_length-le, length-drop}
use Rattle.std.proofs.lemmas.List.{take_more, drop-append-le, length-take, length-take-le}
use Rattle.std.proofs.lemmas.Option.{slice_get-get_or}
use Rattle.std.specs.Prelude.{slice_get}
use Rattle.at_print.specs.Papers.{Page}
use Rattle.at_print.specs.Printers.{Prints}
use Rattle.at_print.specs.Reports.{datagram_line}
use Rattle.at_print.specs.declared.printer.Printer.{Printer}
use Rattle.at_print.proofs.PrintLemmas.{Prints-trans}
use Rattle.at_world.specs.Sents.{SentDatagram}
use Rattle.at_play.specs.Sent.{sent_line, sent_lines}

-- the lines of the datagrams after the first ones
pub sent_lines-append : (n : ℕ) (xs ys : List SentDatagram) → sent_lines n (xs ++ ys)
    ≡ sent_lines n xs ++ sent_lines (n + length xs) ys
sent_lines-append n [] ys = ap (λ k. sent_lines k ys) (omega arith)
sent_lines-append n (x ∷ xs) ys =
    let same : n + 1 + length xs ≡ n + length (x ∷ xs) = omega arith in
    ap (λ l. sent_line n x ++ l)
    (sent_lines-append (n + 1) xs ys ∙ ap (λ k. sent_lines (n + 1) xs ++ sent_lines k ys) same)
    ∙ sym (append_assoc (sent_line n x) (sent_lines (n + 1) xs) (sent_lines (n + length (x ∷ xs)) ys))

-- no line is printed before the first
pub sent_lines-none : (first : ℕ) (sent : List SentDatagram) → sent_lines first (drop first (take first sent)) ≡ []
sent_lines-none first sent =
    let short : length (take first sent) ≤ first = omega (arith, length-take first sent) in
    ap (sent_lines first) (drop_of_length-le (take first sent) short)

-- the line of one datagram more
pub sent_lines-next : (first i : ℕ) (sent : List SentDatagram) (d : SentDatagram) → i < length sent → first ≤ i
    → slice_get sent i ≡ Some d
    → sent_lines first (drop first (take (i + 1) sent)) ≡ sent_lines first (drop first (take i sent)) ++ sent_line i d
sent_lines-next first i sent d lt le is =
    let here : get_or sent i d ≡ d = let e = slice_get-get_or sent i d lt in cc in
    let long : length (take i sent) ≡ i = length-take-le i sent (omega arith) in
    let fits : first ≤ length (take i sent) = omega arith in
    let place : first + length (drop first (take i sent)) ≡ i = omega (arith, length-drop first (take i sent)) in
    ap (λ l. sent_lines first (drop first l)) (take_more sent i d lt ∙ ap (λ x. take i sent ++ x ∷ []) here)
    ∙ ap (sent_lines first) (drop-append-le first (take i sent) (d ∷ []) fits)
    ∙ sent_lines-append first (drop first (take i sent)) (d ∷ [])
    ∙ ap (λ k. sent_lines first (drop first (take i sent)) ++ sent_lines k (d ∷ [])) place
    ∙ ap (λ l. sent_lines first (drop first (take i sent)) ++ l) (append-nil (sent_line i d))

-- the lines of the datagrams so far, and that of the next one
pub Prints-sent : {W : Type 0} (page : W → Page) (first i : ℕ) (sent : List SentDatagram) (d : SentDatagram) (to : ℕ)
    (bytes : List ℕ) (a b c : Printer W) → i < length sent → first ≤ i → slice_get sent i ≡ Some d → to ≡ d.to
    → bytes ≡ d.bytes → Prints page a b (sent_lines first (drop first (take i sent)))
    → Prints page b c (datagram_line i to bytes) → Prints page a c (sent_lines first (drop first (take (i + 1) sent)))
Prints-sent page first i sent d to bytes a b c lt le is goes spelled p q =
    let line : datagram_line i to bytes ≡ sent_line i d = (λ j. datagram_line i (goes j) (spelled j)) in
    subst (Prints page a c) (sym (sent_lines-next first i sent d lt le is))
    (Prints-trans page a b c _ _ p (subst (Prints page b c) line q))
