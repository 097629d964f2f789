-- What an end that sends leaves true of all that its writer did.
use Rattle.std.proofs.Common.{◌≡◌, ℕ, zero, suc, ◌+◌, ◌≤◌, Bool, true, false, cond, List, [], ◌∷◌, ◌++◌, length, map}
use Rattle.std.proofs.Common.{take, drop, refl, sym, ap, subst, ◌∙◌, append_assoc, arith}
use Rattle.std.proofs.lemmas.Bool.{false≢true}
use Rattle.at_adsp_end.specs.Ends.{Sender, no_sender}
use Rattle.at_adsp_end.specs.Positions.{whole}
use Rattle.at_adsp_end.specs.Sending.{acknowledged, dropped, going, sent_on}
use Rattle.at_adsp_end.specs.declared.item.Item.{Item}
use Rattle.at_adsp.specs.Reading.{Written, Put, Reset}
use Rattle.at_adsp.proofs.Logs.{Log, Went, Cut, flat, went_of, flat_both, length_both, nothing_more}
use Rattle.at_adsp.proofs.Logs.{went_both}
use Rattle.at_adsp.proofs.Slices.{IsSlice}
use Rattle.std.proofs.lemmas.List.{map-append}

-- the log ends with a reset
pub record EndsWithCut (l : List Log) : Type 0 where
  pub before : List Log
  pub ds : List Item
  pub is_cut : l ≡ before ++ Cut ds ∷ []

-- what a client wrote, what of it got numbers, and what waits
pub record Writes (w : List Written) (l : List Log) (s : Sender) : Type 0 where
  pub is_written : w ≡ flat l ++ map Put s.waiting
  pub gone : List Item
  pub is_numbered : went_of l ≡ gone ++ s.unacknowledged
  pub at_front : length gone ≡ s.front
  pub nothing_sent : s.resetting ≡ true → s.unacknowledged ≡ []
  pub stands : s.resetting ≡ true → EndsWithCut l

-- nothing is written yet
pub writes_begins : Writes [] [] no_sender
writes_begins = record {
  is_written = refl;
  gone = [];
  is_numbered = refl;
  at_front = refl;
  nothing_sent = λ e. refl;
  stands = λ e. absurd (false≢true e);
}

went_puts : (xs : List Item) → went_of (map Went xs) ≡ xs
went_puts [] = refl
went_puts (x ∷ xs) = ap (λ l. x ∷ l) (went_puts xs)

flat_puts : (xs : List Item) → flat (map Went xs) ≡ map Put xs
flat_puts [] = refl
flat_puts (x ∷ xs) = ap (λ l. Put x ∷ l) (flat_puts xs)

some_and_rest : {X : Type 0} (k : ℕ) (xs : List X) → take k xs ++ drop (length (take k xs)) xs ≡ xs
some_and_rest zero xs = refl
some_and_rest (suc k) [] = refl
some_and_rest (suc k) (x ∷ xs) = ap (λ l. x ∷ l) (some_and_rest k xs)

pub some_before : {X : Type 0} (k : ℕ) (xs : List X) → take k xs ++ drop k xs ≡ xs
some_before zero xs = refl
some_before (suc k) [] = refl
some_before (suc k) (x ∷ xs) = ap (λ l. x ∷ l) (some_before k xs)

length_take : {X : Type 0} (k : ℕ) (xs : List X) → k ≤ length xs → length (take k xs) ≡ k
length_take zero xs le = refl
length_take (suc k) [] le = absurd (omega (arith, le))
length_take (suc k) (x ∷ xs) le = let rest = length_take k xs (omega (arith, le)) in omega (arith, rest)

all_of_waiting : (s : Sender) → going s ++ drop (length (going s)) s.waiting ≡ s.waiting
all_of_waiting s = go s.resetting
  where
    go : (b : Bool) → cond b [] (take s.credit s.waiting) ++ drop
        (length (cond b [] (take s.credit s.waiting))) s.waiting ≡ s.waiting
    go true = refl
    go false = some_and_rest s.credit s.waiting

none_went : (s : Sender) → s.resetting ≡ true → going s ≡ []
none_went s e = ap (λ b. cond b [] (take s.credit s.waiting)) e

-- an end sends all below its limit
pub sending_keeps : (w : List Written) (l : List Log) (s : Sender) → Writes w l s
    → Writes w (l ++ map Went (going s)) (sent_on s)
sending_keeps w l s h = record {
  is_written = h.is_written ∙ ap (λ x. flat l ++ map Put x) (sym (all_of_waiting s))
      ∙ ap (λ x. flat l ++ x) (map-append Put (going s) (drop (length (going s)) s.waiting))
      ∙ sym (append_assoc (flat l) (map Put (going s)) (map Put (drop (length (going s)) s.waiting)))
      ∙ ap (λ x. x ++ map Put (drop (length (going s)) s.waiting))
      (ap (λ x. flat l ++ x) (sym (flat_puts (going s))) ∙ sym (flat_both l (map Went (going s))));
  gone = h.gone;
  is_numbered = went_both l (map Went (going s)) ∙ (λ i. h.is_numbered i ++ went_puts (going s) i)
      ∙ append_assoc h.gone s.unacknowledged (going s);
  at_front = h.at_front;
  nothing_sent = λ e. (λ i. h.nothing_sent e i ++ none_went s e i);
  stands = λ e. subst EndsWithCut (sym (ap (λ x. l ++ map Went x) (none_went s e) ∙ nothing_more l)) (h.stands e);
}

pub sent_slice : (w : List Written) (l : List Log) (s : Sender) → Writes w l s
    → IsSlice (going s) (went_of (l ++ map Went (going s))) (s.front + length s.unacknowledged)
sent_slice w l s h = record {
  before = h.gone ++ s.unacknowledged;
  after = [];
  stands = went_both l (map Went (going s)) ∙ (λ i. h.is_numbered i ++ went_puts (going s) i)
      ∙ ap (λ x. (h.gone ++ s.unacknowledged) ++ x) (sym (nothing_more (going s)));
  at = let n = length_both h.gone s.unacknowledged in let a = h.at_front in omega (arith, n, a);
}

-- what is sent again is a slice too
pub repeated_slice : (w : List Written) (l : List Log) (s : Sender) → Writes w l s
    → IsSlice s.unacknowledged (went_of l) s.front
repeated_slice w l s h =
    record {
      before = h.gone;
      after = [];
      stands = h.is_numbered ∙ ap (λ x. h.gone ++ x) (sym (nothing_more s.unacknowledged));
      at = h.at_front;
    }

-- items are acknowledged
pub acknowledged_keeps : (w : List Written) (l : List Log) (s : Sender) (k window : ℕ) → k ≤ length s.unacknowledged
    → Writes w l s → Writes w l (acknowledged whole k window s)
acknowledged_keeps w l s k window le h = record {
  is_written = h.is_written;
  gone = h.gone ++ take k s.unacknowledged;
  is_numbered = h.is_numbered ∙ ap (λ x. h.gone ++ x) (sym (some_before k s.unacknowledged))
      ∙ sym (append_assoc h.gone (take k s.unacknowledged) (drop k s.unacknowledged));
  at_front = let n = length_both h.gone (take k s.unacknowledged) in let t = length_take k s.unacknowledged le in
      let a = h.at_front in omega (arith, n, t, a);
  nothing_sent = λ e. ap (drop k) (h.nothing_sent e) ∙ none k;
  stands = h.stands;
}
  where
    none : (k : ℕ) → drop {A = Item} k [] ≡ []
    none zero = refl
    none (suc k) = refl

-- the stream is reset
pub reset_keeps : (w : List Written) (l : List Log) (s : Sender) → Writes w l s
    → Writes (w ++ Reset ∷ []) (l ++ Cut s.waiting ∷ []) (record (dropped whole s) { resetting = true })
reset_keeps w l s h = record {
  is_written = ap (λ x. x ++ Reset ∷ []) h.is_written ∙ append_assoc (flat l) (map Put s.waiting) (Reset ∷ [])
      ∙ sym (flat_both l (Cut s.waiting ∷ [])) ∙ sym (nothing_more (flat (l ++ Cut s.waiting ∷ [])));
  gone = h.gone ++ s.unacknowledged;
  is_numbered = went_both l (Cut s.waiting ∷ []) ∙ nothing_more (went_of l) ∙ h.is_numbered
      ∙ sym (nothing_more (h.gone ++ s.unacknowledged));
  at_front = let n = length_both h.gone s.unacknowledged in let a = h.at_front in omega (arith, n, a);
  nothing_sent = λ e. refl;
  stands = λ e. record { before = l; ds = s.waiting; is_cut = refl };
}

-- the client writes
pub writing_keeps : (w : List Written) (l : List Log) (s : Sender) (xs : List Item) → Writes w l s
    → Writes (w ++ map Put xs) l (record s { waiting = s.waiting ++ xs })
writing_keeps w l s xs h = record {
  is_written = ap (λ x. x ++ map Put xs) h.is_written ∙ append_assoc (flat l) (map Put s.waiting) (map Put xs)
      ∙ ap (λ x. flat l ++ x) (sym (map-append Put s.waiting xs));
  gone = h.gone;
  is_numbered = h.is_numbered;
  at_front = h.at_front;
  nothing_sent = h.nothing_sent;
  stands = h.stands;
}
