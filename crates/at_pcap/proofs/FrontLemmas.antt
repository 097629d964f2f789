-- The front of a block, read in two parts.
use Rattle.std.proofs.Common.{◌≡◌, ℕ, ◌+◌, ◌<◌, ◌≤◌, ◌==◌, Bool, List, ◌++◌, length, take}
use Rattle.std.proofs.Common.{sym, ap, subst, ◌∙◌, arith, length-take-le, if◌then◌else◌}
use Rattle.std.specs.Prelude.{Option, ◌||◌}
use Rattle.std.specs.Io.KnownBytes.{Consumes, IsAtEnd}
use Rattle.std.proofs.KnownBytes.{Consumes-trans}
use Rattle.std.proofs.lemmas.List.{length-append, take_all, take_at}
use borrow.Rule.Slice.PartMut.{put_mid, post_of}
use lib.Seq.{take-append-le}
use Rattle.std.proofs.Math.Seq.{take-append-add}
use Rattle.at_pcap.specs.Blocks.{is_section}
use Rattle.at_pcap.specs.Orders.{number_in}
use Rattle.at_pcap.specs.Steps.{IsFront, front_len}
use Rattle.at_pcap.specs.declared.order.Order.{Order}
use Rattle.at_pcap.specs.declared.order.Order.TheVariants.{Big}
use Rattle.at_pcap.proofs.RuleLemmas.{four_front}

-- what was read before, and the front of what was read into the rest of the buffer
pub front_of : (a k n : ℕ) (xs ys : List ℕ) → a ≤ length xs → n ≤ length ys → take (a + n) (put_mid a k xs ys)
    ≡ take a xs ++ take n ys
front_of a k n xs ys within fits =
    let len : a + n ≡ length (take a xs) + n = omega (arith, length-take-le a xs within) in
    ap (λ m. take m (put_mid a k xs ys)) len ∙ take-append-add (take a xs) (ys ++ post_of a k xs) n
    ∙ ap (λ l. take a xs ++ l) (take-append-le n ys (post_of a k xs) fits)

front_by : Bool → ℕ → ℕ
front_by section kind =
    if section then 24 else
    (if kind == 1 then 16 else (if (kind == 6) || (kind == 2) then 28 else (if kind == 3 then 12 else 8)))

pub section_before : (a b : List ℕ) → 4 ≤ length a → is_section (a ++ b) ≡ is_section a
section_before a b long = ap (λ n. n == 168627466) (four_front Big a b long)

pub front_before : (o : Order) (a b : List ℕ) → 4 ≤ length a → front_len o (a ++ b) ≡ front_len o a
unfolding front_by
front_before o a b long =
    ap (λ s. front_by s (number_in o 4 (a ++ b))) (section_before a b long)
    ∙ ap (front_by (is_section a)) (four_front o a b long)

module _ (header rest fields : List ℕ) (len more k : ℕ) (whole : length header ≡ 8) (enough : 8 ≤ len)
    (bound : len ≤ length header) (fits : more ≤ length fields) where
  pub both : take (8 + more) (put_mid 8 k (header ++ rest) fields) ≡ header ++ take more fields
  both = front_of 8 k more (header ++ rest) fields (omega (arith, length-append header rest)) fits
      ∙ ap (λ l. l ++ take more fields) (take_at header rest 8 whole)

  pub both_read : (known mid left : Option (List ℕ)) → Consumes known mid (take len header)
      → Consumes mid left (take more fields)
      → Consumes known left (take (8 + more) (put_mid 8 k (header ++ rest) fields))
  both_read known mid left first second =
      subst (Consumes known left) (sym both)
      (Consumes-trans known mid left header (take more fields)
      (subst (Consumes known mid) (take_all len header (omega arith)) first) second)

  pub both_front : (o : Order) (left : Option (List ℕ)) → more + 8 ≤ front_len o header
      → (more + 8 < front_len o header → IsAtEnd left)
      → IsFront o (take (8 + more) (put_mid 8 k (header ++ rest) fields)) left
  both_front o left most short =
      subst (λ l. IsFront o l left) (sym both) (
      let n : length (header ++ take more fields) ≡ more + 8 =
      omega (arith, length-append header (take more fields), length-take-le more fields fits) in
      let same = front_before o header (take more fields) (omega arith) in
      record { fits = omega (arith, same); short = λ less. short (omega (arith, same, less)) })
