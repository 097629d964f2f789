-- Tallies with one frame more.
use Rattle.std.proofs.Common.{◌≡◌, ℕ, ◌+◌, List, [], ◌∷◌, ◌++◌, Bool, length, refl, sym, ap, ◌∙◌, arith}
use Rattle.std.specs.Prelude.{cond, count_by}
use Rattle.std.proofs.lemmas.List.{length-append}
use Rattle.std.proofs.lemmas.List.Sums.{sum_by_push}
use Rattle.at_capture.specs.Tallies.{counted, is_datagram, is_other, is_refused, tally_of}
use Rattle.at_capture.specs.declared.tally.FrameVerdict.{FrameVerdict}
use Rattle.at_capture.specs.declared.tally.FrameVerdict.TheVariants.{Shown, Refused, Other}
use Rattle.at_capture.specs.declared.tally.Tally.{Tally}

-- a count that stops at the largest number
pub one_more : (m n : ℕ) → m ≡ counted n → counted (m + 1) ≡ counted (n + 1)
one_more m n is = omega arith

-- the number of the next frame
pub next_number : {X : Type 0} (number : ℕ) (t : Tally) (verdicts : List FrameVerdict) (frames : List X)
    → t ≡ tally_of verdicts
    → length verdicts ≡ length frames → number ≡ counted (t.frames + 1) → number ≡ counted (length frames + 1)
next_number number t verdicts frames is as_many here =
    here ∙ one_more t.frames (length frames) (ap (λ u. u.frames) is ∙ ap counted as_many)

pub one_longer : {X Y : Type 0} (xs : List X) (ys : List Y) (x : X) (y : Y) → length xs ≡ length ys
    → length (xs ++ x ∷ []) ≡ length (ys ++ y ∷ [])
one_longer xs ys x y e = length-append xs (x ∷ []) ∙ ap (λ n. n + 1) e ∙ sym (length-append ys (y ∷ []))

tally_is : (a b c d e f g h : ℕ) → a ≡ e → b ≡ f → c ≡ g → d ≡ h
    → ◌≡◌ {A = Tally} (record { frames = a; datagrams = b; refused = c; others = d })
    (record { frames = e; datagrams = f; refused = g; others = h })
tally_is a b c d e f g h p q r s = cc

counted_more : (p : FrameVerdict → Bool) (verdicts : List FrameVerdict) (k : FrameVerdict) (n : ℕ)
    → n ≡ counted (count_by p verdicts) → ◌≡◌ {A = ℕ} (cond (p k) 1 0) 1
    → counted (n + 1) ≡ counted (count_by p (verdicts ++ k ∷ []))
counted_more p verdicts k n is one = one_more n (count_by p verdicts) is
    ∙ ap counted (ap (λ m. count_by p verdicts + m) (sym one) ∙ sym (sum_by_push (λ x. cond (p x) 1 0) verdicts k))

counted_same : (p : FrameVerdict → Bool) (verdicts : List FrameVerdict) (k : FrameVerdict) (n : ℕ)
    → n ≡ counted (count_by p verdicts) → ◌≡◌ {A = ℕ} (cond (p k) 1 0) 0 → n ≡ counted (count_by p (verdicts ++ k ∷ []))
counted_same p verdicts k n is none = is
    ∙ ap counted (omega (arith, none, sum_by_push (λ x. cond (p x) 1 0) verdicts k))

frames_more : (verdicts : List FrameVerdict) (k : FrameVerdict) (n : ℕ) → n ≡ counted (length verdicts)
    → counted (n + 1) ≡ counted (length (verdicts ++ k ∷ []))
frames_more verdicts k n is = one_more n (length verdicts) is ∙ ap counted (sym (length-append verdicts (k ∷ [])))

module _ (t : Tally) (verdicts : List FrameVerdict) (is : t ≡ tally_of verdicts) where
  pub shown_more : ◌≡◌ {A = Tally} (record {
    frames = counted (t.frames + 1);
    datagrams = counted (t.datagrams + 1);
    refused = t.refused;
    others = t.others;
  }) (tally_of (verdicts ++ Shown ∷ []))
  shown_more = tally_is _ _ _ _ _ _ _ _
      (frames_more verdicts Shown t.frames (ap (λ u. u.frames) is))
      (counted_more is_datagram verdicts Shown t.datagrams (ap (λ u. u.datagrams) is) refl)
      (counted_same is_refused verdicts Shown t.refused (ap (λ u. u.refused) is) refl)
      (counted_same is_other verdicts Shown t.others (ap (λ u. u.others) is) refl)

  pub refused_more : ◌≡◌ {A = Tally} (record {
    frames = counted (t.frames + 1);
    datagrams = counted (t.datagrams + 1);
    refused = counted (t.refused + 1);
    others = t.others;
  }) (tally_of (verdicts ++ Refused ∷ []))
  refused_more = tally_is _ _ _ _ _ _ _ _
      (frames_more verdicts Refused t.frames (ap (λ u. u.frames) is))
      (counted_more is_datagram verdicts Refused t.datagrams (ap (λ u. u.datagrams) is) refl)
      (counted_more is_refused verdicts Refused t.refused (ap (λ u. u.refused) is) refl)
      (counted_same is_other verdicts Refused t.others (ap (λ u. u.others) is) refl)

  pub other_more : ◌≡◌ {A = Tally} (record {
    frames = counted (t.frames + 1);
    datagrams = t.datagrams;
    refused = t.refused;
    others = counted (t.others + 1);
  }) (tally_of (verdicts ++ Other ∷ []))
  other_more = tally_is _ _ _ _ _ _ _ _
      (frames_more verdicts Other t.frames (ap (λ u. u.frames) is))
      (counted_same is_datagram verdicts Other t.datagrams (ap (λ u. u.datagrams) is) refl)
      (counted_same is_refused verdicts Other t.refused (ap (λ u. u.refused) is) refl)
      (counted_more is_other verdicts Other t.others (ap (λ u. u.others) is) refl)
