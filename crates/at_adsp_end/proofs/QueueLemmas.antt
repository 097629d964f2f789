-- One queue whose first items were sent.
use Rattle.std.proofs.Common.{◌≡◌, ℕ, ◌+◌, ◌-◌, ◌≤◌, Bool, true, false, cond, List, [], ◌++◌, length, take, drop, refl}
use Rattle.std.proofs.Common.{sym, ap, ◌∙◌, arith}
use Rattle.std.proofs.Math.Seq.{take-add}
use Rattle.std.proofs.lemmas.List.{drop-drop, drop-take, length-drop}
use Rattle.at_adsp_end.specs.Ends.{Sender}
use Rattle.at_adsp_end.specs.Sending.{going, sent_on}
use Rattle.at_adsp_end.specs.declared.item.Item.{Item}
use Rattle.at_ddp.proofs.ListLemmas.{take_same}

-- after the first k are acknowledged
pub left_last : {X : Type 0} (k : ℕ) (q : List X) → k ≤ length q → drop (length q - (length q - k)) q ≡ drop k q
left_last k q fits = let e : length q - (length q - k) ≡ k = omega arith in ap (λ n. drop n q) e

pub left_sent : {X : Type 0} (s k : ℕ) (q : List X) → k ≤ s → take (s - k) (drop k q) ≡ drop k (take s q)
left_sent s k q fits = let e : k + (s - k) ≡ s = omega arith in sym (drop-take k (s - k) q)
    ∙ ap (λ n. drop k (take n q)) e

pub left_waiting : {X : Type 0} (s k : ℕ) (q : List X) → k ≤ s → drop (s - k) (drop k q) ≡ drop s q
left_waiting s k q fits = let e : k + (s - k) ≡ s = omega arith in drop-drop (s - k) k q ∙ ap (λ n. drop n q) e

-- after the last waiting items are taken away
pub back_waiting : {X : Type 0} (s n : ℕ) (q : List X) → s + n ≤ length q → drop s (take (length q - n) q)
    ≡ take (length (drop s q) - n) (drop s q)
back_waiting s n q fits =
    let e : length q - n ≡ s + (length q - s - n) = omega arith in
    ap (λ m. drop s (take m q)) e ∙ drop-take s (length q - s - n) q
    ∙ ap (λ m. take (m - n) (drop s q)) (sym (length-drop s q))

pub going_first : (s : Sender) → take (length (going s)) s.waiting ≡ going s
going_first s = go s.resetting
  where
    go : (b : Bool) → take (length (cond b [] (take s.credit s.waiting))) s.waiting
        ≡ cond b [] (take s.credit s.waiting)
    go true = refl
    go false = take_same s.credit s.waiting

abbrev pub sender_over : ℕ → ℕ → ℕ → List Item → Bool → Sender
sender_over front s credit q resetting =
    record { front = front; unacknowledged = take s q; waiting = drop s q; credit = credit; resetting = resetting }

pub advanced : (front s credit : ℕ) (q : List Item) (resetting : Bool) →
    sender_over front (s + length (going (sender_over front s credit q resetting)))
    (credit - length (going (sender_over front s credit q resetting))) q resetting
    ≡ sent_on (sender_over front s credit q resetting)
advanced front s credit q resetting =
    let r = sender_over front s credit q resetting in
    let n = length (going r) in
    let now : take (s + n) q ≡ take s q ++ going r = take-add s n q ∙ ap (λ l. take s q ++ l) (going_first r) in
    let later : drop (s + n) q ≡ drop n (drop s q) = sym (drop-drop n s q) in
    λ i. record { front = front; unacknowledged = now i; waiting = later i; credit = credit - n; resetting = resetting }
