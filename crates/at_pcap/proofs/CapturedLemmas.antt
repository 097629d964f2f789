-- The captured bytes of a packet, up to the end of its block.
use Rattle.std.proofs.Common.{◌≡◌, inl, inr, ℕ, ◌+◌, ◌<◌, ◌≤◌, nat_lt, List, ◌++◌, length, take, drop, sym, ap, ◌∙◌}
use Rattle.std.proofs.Common.{arith, Ok, Err}
use Rattle.std.specs.Prelude.{Some, None}
use Rattle.std.proofs.lemmas.Bool.{cases_lt, cond-false, cond-true, le-ltb, lt-ltb}
use Rattle.std.proofs.lemmas.List.{drop_at, take_at}
use Rattle.at_pcap.specs.Blocks.{Block, Section, captured_in, closed, four_at}
use Rattle.at_pcap.specs.Frames.{Frame}
use Rattle.at_pcap.specs.Steps.{IsClosing, IsUnclosed, capture_fault}
use Rattle.at_pcap.specs.declared.fault.CaptureFault.{CaptureFault}
use Rattle.at_pcap.specs.declared.fault.CaptureFault.TheVariants.{BadBlock, CutCapture, RecordTooLong}
use Rattle.at_pcap.proofs.RuleLemmas.{broken_below, closed_cut, closed_not, closed_whole, four_before, kept_above}

of_some : (a b : CaptureFault) → Some a ≡ Some b → a ≡ b
of_some a b e = cc

-- where no fault is, the captured bytes are few, and fit
pub within : (total offset count : ℕ) → capture_fault total offset count ≡ None
    → (count ≤ 262144) × (offset + count + 4 ≤ total)
within total offset count fits =
    elim (cases_lt 262144 count) [
      | inl many ↦
          let e : Some RecordTooLong ≡ None =
          sym (cond-true (nat_lt 262144 count) (Some RecordTooLong) _ (lt-ltb 262144 count many)) ∙ fits in absurd cc
      | inr few ↦ elim (cases_lt total (offset + count + 4)) [
        | inl less ↦
            let e : Some BadBlock ≡ None =
            sym (cond-false (nat_lt 262144 count) (Some RecordTooLong) _ (le-ltb 262144 count few)
            ∙ cond-true (nat_lt total (offset + count + 4)) (Some BadBlock) None (lt-ltb total (offset + count
            + 4) less)) ∙ fits in absurd cc
        | inr room ↦ (few, room)
      ]
    ]

module _ (s : Section) (f : Frame) (offset count total : ℕ) (front : List ℕ) (long : 8 ≤ length front)
    (is : total ≡ four_at s.order 4 front) where
  -- the block of this frame
  abbrev block : Block
  block = record { section = s; found = Some f }

  total_in : (more : List ℕ) → four_at s.order 4 (front ++ more) ≡ total
  total_in more = four_before s.order 4 front more (omega arith) ∙ sym is

  fits_in : (more : List ℕ) → count ≤ 262144 → offset + count + 4 ≤ total
      → captured_in s offset count (front ++ more) f ≡ closed s.order (front ++ more) block
  fits_in more few room =
      let same = total_in more in
      kept_above 262144 count RecordTooLong _ few
      ∙ kept_above (four_at s.order 4 (front ++ more)) (offset + count + 4) BadBlock
      (closed s.order (front ++ more) block) (omega (arith, same))

  -- a fault of the captured length
  pub misfit : (more : List ℕ) (fault : CaptureFault) → capture_fault total offset count ≡ Some fault
      → captured_in s offset count (front ++ more) f ≡ Err fault
  misfit more fault wrong =
      let same = total_in more in
      elim (cases_lt 262144 count) [
        | inl many ↦
            let e : Some RecordTooLong ≡ Some fault =
            sym (cond-true (nat_lt 262144 count) (Some RecordTooLong) _ (lt-ltb 262144 count many)) ∙ wrong in
            broken_below 262144 count RecordTooLong _ many ∙ ap Err (of_some RecordTooLong fault e)
        | inr few ↦ elim (cases_lt total (offset + count + 4)) [
          | inl less ↦
              let e : Some BadBlock ≡ Some fault =
              sym (cond-false (nat_lt 262144 count) (Some RecordTooLong) _ (le-ltb 262144 count few)
              ∙ cond-true (nat_lt total (offset + count + 4)) (Some BadBlock) None (lt-ltb total (offset + count
              + 4) less)) ∙ wrong in
              kept_above 262144 count RecordTooLong _ few
              ∙ broken_below (four_at s.order 4 (front ++ more)) (offset + count + 4) BadBlock
              (closed s.order (front ++ more) block) (omega (arith, same))
              ∙ ap Err (of_some BadBlock fault e)
          | inr room ↦
              let e : None ≡ Some fault =
              sym (cond-false (nat_lt 262144 count) (Some RecordTooLong) _ (le-ltb 262144 count few)
              ∙ cond-false (nat_lt total (offset + count + 4)) (Some BadBlock) None (le-ltb total (offset + count
              + 4) room)) ∙ wrong in
              absurd cc
        ]
      ]

  module _ (few : count ≤ 262144) (room : offset + count + 4 ≤ total) where
    -- the front ends early
    pub captured_short : length front < total → captured_in s offset count front f ≡ Err CutCapture
    captured_short short =
        kept_above 262144 count RecordTooLong _ few
        ∙ kept_above (four_at s.order 4 front) (offset + count + 4) BadBlock (closed s.order front block)
        (omega (arith, is))
        ∙ closed_cut s.order front block (omega (arith, is))

    module _ (rest : ℕ) (sum : length front + rest ≡ total) (four : 4 ≤ rest) where
      pub captured_whole : (more : List ℕ) → IsClosing s.order total rest more
          → captured_in s offset count (front ++ more) f ≡ Ok block
      captured_whole more closing =
          fits_in more few room ∙ closed_whole s.order front more block total rest long (sym is) sum four closing

      pub captured_unclosed : (more : List ℕ) (fault : CaptureFault) → IsUnclosed s.order total rest fault more
          → captured_in s offset count (front ++ more) f ≡ Err fault
      captured_unclosed more fault wrong =
          fits_in more few room
          ∙ closed_not s.order front more block total rest fault long (sym is) sum four wrong

-- what is taken behind a front is what follows it
pub taken : (front captured more : List ℕ) (offset count : ℕ) → length front ≡ offset → length captured ≡ count
    → take count (drop offset (front ++ (captured ++ more))) ≡ captured
taken front captured more offset count len n =
    ap (take count) (drop_at front (captured ++ more) offset len) ∙ take_at captured more count n
