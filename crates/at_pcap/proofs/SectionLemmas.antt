-- Section headers, from their front on.
use Rattle.std.proofs.Common.{◌≡◌, ◌≢◌, ◌⊎◌, inl, inr, ℕ, ◌-◌, ◌%◌, ◌<◌, ◌≤◌, ◌==◌, not, List, [], ◌++◌, length}
use Rattle.std.proofs.Common.{sym, ap, ◌∙◌, arith, append-nil, Err, if◌then◌else◌}
use Rattle.std.specs.Prelude.{Option, Some, None}
use Rattle.std.specs.Io.KnownBytes.{Consumes, IsAtEnd}
use Rattle.std.proofs.lemmas.Bool.{cases_lt}
use Rattle.std.proofs.lemmas.List.{length-append}
use Rattle.at_pcap.specs.Blocks.{Block, closed, four_at, needs, order_of, refuse, section_by, section_in, two_at}
use Rattle.at_pcap.specs.Steps.{Breaks, Completes, IsClosing, IsUnclosed}
use Rattle.at_pcap.specs.declared.order.Order.{Order}
use Rattle.at_pcap.specs.declared.order.Order.TheVariants.{Big, Little}
use Rattle.at_pcap.specs.declared.fault.CaptureFault.{CaptureFault}
use Rattle.at_pcap.specs.declared.fault.CaptureFault.TheVariants.{BadBlock, BadVersion, CutCapture}
use Rattle.at_pcap.proofs.BlockLemmas.{sized_front, unsized_front, whole_of}
use Rattle.at_pcap.proofs.RuleLemmas.{breaks_any, broken_unequal, closed_cut, closed_not, closed_whole, four_before}
use Rattle.at_pcap.proofs.RuleLemmas.{kept_equal, needs_cut, needs_there, two_before}

order_from : ℕ → ℕ → Option Order
order_from a b = if a == 439041101 then Some Big else (if b == 439041101 then Some Little else None)

pub order_before : (front more : List ℕ) → 12 ≤ length front → order_of (front ++ more) ≡ order_of front
unfolding order_from
order_before front more long =
    ap (λ a. order_from a (four_at Little 8 (front ++ more))) (four_before Big 8 front more (omega arith))
    ∙ ap (order_from (four_at Big 8 front)) (four_before Little 8 front more (omega arith))

-- the block of a section header of this order
abbrev pub section_block : Order → Block
section_block o = record { section = record { order = o; interfaces = [] }; found = None }

pub section_cut : (front : List ℕ) → length front < 12 → section_in front ≡ Err CutCapture
unfolding section_in
section_cut front short = needs_cut 12 front _ short

section_from : (front more : List ℕ) (o : Option Order) → 12 ≤ length front → order_of front ≡ o
    → section_in (front ++ more) ≡ section_by o (front ++ more)
unfolding section_in
section_from front more o long is =
    needs_there 12 (front ++ more) _ (omega (arith, length-append front more))
    ∙ ap (λ w. section_by w (front ++ more)) (order_before front more long ∙ is)

pub section_unordered : (known : Option (List ℕ)) (front : List ℕ) → 12 ≤ length front → order_of front ≡ None
    → Breaks section_in known front BadBlock
section_unordered known front long is =
    breaks_any section_in known front BadBlock (λ more. section_from front more None long is)

module _ (front : List ℕ) (o : Order) (long : 12 ≤ length front) (ordered : order_of front ≡ Some o) where
  pub section_unsized : (known : Option (List ℕ)) → (four_at o 4 front % 4 ≢ 0) ⊎ (four_at o 4 front < 28)
      → Breaks section_in known front BadBlock
  section_unsized known wrong = breaks_any section_in known front BadBlock
      (λ more. section_from front more (Some o) long ordered ∙ unsized_front o 28 front more _ (omega arith) wrong)

  module _ (total : ℕ) (is : total ≡ four_at o 4 front) (even : total % 4 ≡ 0) (enough : 28 ≤ total) where
    sized_section : (more : List ℕ) → section_in (front ++ more)
        ≡ needs 14 (front ++ more) (refuse (not (two_at o 12 (front ++ more) == 1)) BadVersion
        (closed o (front ++ more) (section_block o)))
    sized_section more = section_from front more (Some o) long ordered
        ∙ sized_front o 28 front more _ total (omega arith) is even enough

    pub section_versioned : (known : Option (List ℕ)) → 14 ≤ length front → two_at o 12 front ≢ 1
        → Breaks section_in known front BadVersion
    section_versioned known there wrong = breaks_any section_in known front BadVersion
        (λ more. sized_section more ∙ needs_there 14 (front ++ more) _ (omega (arith, length-append front more))
        ∙ broken_unequal (two_at o 12 (front ++ more)) 1 BadVersion (closed o (front ++ more) (section_block o))
        (λ e. wrong (sym (two_before o 12 front more (omega arith)) ∙ e)))

    of_version : (more : List ℕ) → 14 ≤ length front → two_at o 12 front ≡ 1
        → section_in (front ++ more) ≡ closed o (front ++ more) (section_block o)
    of_version more there one =
        sized_section more ∙ needs_there 14 (front ++ more) _ (omega (arith, length-append front more))
        ∙ kept_equal (two_at o 12 (front ++ more)) 1 BadVersion (closed o (front ++ more) (section_block o))
        (two_before o 12 front more (omega arith) ∙ one)

    short_is : length front < 24 → (14 ≤ length front → two_at o 12 front ≡ 1) → section_in (front ++ [])
        ≡ Err CutCapture
    short_is short one =
        let len : length (front ++ []) ≡ length front = ap length (append-nil front) in
        let same : four_at o 4 (front ++ []) ≡ total = four_before o 4 front [] (omega arith) ∙ sym is in
        elim (cases_lt (length front) 14) [
          | inl few ↦ sized_section [] ∙ needs_cut 14 (front ++ []) _ (omega arith)
          | inr there ↦ of_version [] there (one there)
              ∙ closed_cut o (front ++ []) (section_block o) (omega arith)
        ]

    -- the file ends in the front, which has no other fault
    pub section_short : (known : Option (List ℕ)) → IsAtEnd known → length front < 24
        → (14 ≤ length front → two_at o 12 front ≡ 1) → Breaks section_in known front CutCapture
    section_short None over short one = record { more = []; all = tt; is = short_is short one }
    section_short (Some xs) over short one = record { more = []; all = over; is = short_is short one }

    pub section_whole : (known left : Option (List ℕ)) (more : List ℕ) → length front ≡ 24 → two_at o 12 front ≡ 1
        → Consumes known left more → IsClosing o total (total - 24) more
        → Completes section_in known left front (section_block o)
    section_whole known left more len one read closing =
        let closed_len = closing.len in
        record {
          more = more;
          read = read;
          is = of_version more (omega arith) one
              ∙ closed_whole o front more (section_block o) total (total - 24) (omega arith) (sym is) (omega arith)
              (omega arith) closing;
          whole = whole_of o front more total (omega arith) is (omega arith);
        }

    pub section_unclosed : (more : List ℕ) (fault : CaptureFault) → length front ≡ 24 → two_at o 12 front ≡ 1
        → IsUnclosed o total (total - 24) fault more → section_in (front ++ more) ≡ Err fault
    section_unclosed more fault len one wrong =
        of_version more (omega arith) one
        ∙ closed_not o front more (section_block o) total (total - 24) fault (omega arith) (sym is) (omega arith)
        (omega arith) wrong
