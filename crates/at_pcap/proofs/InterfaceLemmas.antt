-- Interfaces, from their front on.
use Rattle.std.proofs.Common.{◌≡◌, ◌≢◌, ◌⊎◌, inl, inr, ℕ, ◌+◌, ◌-◌, ◌%◌, ◌<◌, ◌≤◌, ◌==◌, zero, suc, List, [], ◌∷◌, ◌++◌}
use Rattle.std.proofs.Common.{length, drop, refl, sym, ap, ◌∙◌, arith, append_assoc, append-nil, Result, Ok, Err}
use Rattle.std.specs.Prelude.{Option, Some, None}
use Rattle.std.specs.Io.KnownBytes.{Consumes, IsAtEnd}
use Rattle.std.proofs.lemmas.Bool.{cases_eq, cond-false, cond-true, eq-eqb, ne_eqb}
use Rattle.std.proofs.lemmas.List.{drop_at, length-append, length-drop}
use Rattle.at_pcap.specs.Blocks.{Block, Section, closed, four_at, interface_in, option_in, options, two_at}
use Rattle.at_pcap.specs.Blocks.{with_interface, with_resolution}
use Rattle.at_pcap.specs.Steps.{Breaks, Completes, IsClosing, IsUnclosed}
use Rattle.at_pcap.specs.declared.interface.Resolution.{Resolution}
use Rattle.at_pcap.specs.declared.interface.Resolution.TheVariants.{Decimal}
use Rattle.at_pcap.specs.declared.order.Order.{Order}
use Rattle.at_pcap.specs.declared.fault.CaptureFault.{CaptureFault}
use Rattle.at_pcap.specs.declared.fault.CaptureFault.TheVariants.{BadBlock, CutCapture}
use Rattle.at_pcap.proofs.BlockLemmas.{sized_front, unsized_front, whole_of}
use Rattle.at_pcap.proofs.FileHeaderLemmas.{nil_of}
use Rattle.at_pcap.proofs.RuleLemmas.{breaks_any, closed_cut, closed_not, closed_whole, four_before, two_before}

no_options : (count : ℕ) (o : Order) (left : ℕ) (r : Resolution) → (options count o left r [] ≡ Ok r)
    ⊎ (options count o left r [] ≡ Err CutCapture)
unfolding options option_in
no_options zero o left r = inl refl
no_options (suc k) o left r = elim (cases_eq left 0) [
  | inl none ↦ inl (cond-true (left == 0) (Ok r) _ (eq-eqb left 0 none))
  | inr some ↦ inr (cond-false (left == 0) (Ok r) _ (ne_eqb left 0 some))
]

with_one : Section → ℕ → ℕ → Resolution → Section
with_one s link_type longest r = record s {
  interfaces = s.interfaces ++ record { link_type = link_type; resolution = r; longest = longest } ∷ [];
}

module _ (s : Section) (front : List ℕ) (long : 8 ≤ length front) where
  pub interface_unsized : (known : Option (List ℕ))
      → (four_at s.order 4 front % 4 ≢ 0) ⊎ (four_at s.order 4 front < 20)
      → Breaks (interface_in s) known front BadBlock
  unfolding interface_in
  interface_unsized known wrong = breaks_any (interface_in s) known front BadBlock
      (λ more. unsized_front s.order 20 front more _ long wrong)

  module _ (total : ℕ) (is : total ≡ four_at s.order 4 front) (even : total % 4 ≡ 0) (enough : 20 ≤ total) where
    abbrev left_in : List ℕ → Resolution → Result Block CaptureFault
    left_in bytes r = closed s.order bytes (record { section = with_interface s bytes r; found = None })

    said : List ℕ → ℕ → Result Block CaptureFault
    said bytes n = with_resolution (options (n - 20) s.order (n - 20) (Decimal 6) (drop 16 bytes)) (left_in bytes)

    optional : (more : List ℕ) → interface_in s (front ++ more)
        ≡ with_resolution (options (total - 20) s.order (total - 20) (Decimal 6) (drop 16 (front ++ more)))
        (left_in (front ++ more))
    unfolding interface_in said
    optional more =
        sized_front s.order 20 front more (said (front ++ more) (four_at s.order 4 (front ++ more))) total long is even
        enough
        ∙ ap (said (front ++ more)) (four_before s.order 4 front more (omega arith) ∙ sym is)

    short_options : length front < 16 → interface_in s (front ++ []) ≡ Err CutCapture
    short_options short =
        let len : length (front ++ []) ≡ length front = ap length (append-nil front) in
        let none : drop 16 (front ++ []) ≡ [] =
        nil_of (drop 16 (front ++ [])) (omega (arith, length-drop 16 (front ++ []))) in
        let same : four_at s.order 4 (front ++ []) ≡ total = four_before s.order 4 front [] (omega arith) ∙ sym is in
        let spread = optional []
        ∙ ap (λ l. with_resolution (options (total - 20) s.order (total - 20) (Decimal 6) l)
        (left_in (front ++ []))) none in
        elim (no_options (total - 20) s.order (total - 20) (Decimal 6)) [
          | inl ended ↦ spread ∙ ap (λ w. with_resolution w (left_in (front ++ []))) ended
              ∙ closed_cut s.order (front ++ []) _ (omega arith)
          | inr cut ↦ spread ∙ ap (λ w. with_resolution w (left_in (front ++ []))) cut
        ]

    pub interface_short : (known : Option (List ℕ)) → IsAtEnd known → length front < 16
        → Breaks (interface_in s) known front CutCapture
    interface_short None over short = record { more = []; all = tt; is = short_options short }
    interface_short (Some xs) over short = record { more = []; all = over; is = short_options short }

    module _ (len : length front ≡ 16) where
      pub interface_options : (more : List ℕ) (fault : CaptureFault)
          → options (total - 20) s.order (total - 20) (Decimal 6) more ≡ Err fault
          → interface_in s (front ++ more) ≡ Err fault
      interface_options more fault wrong =
          optional more ∙ ap (λ w. with_resolution w (left_in (front ++ more)))
          (ap (options (total - 20) s.order (total - 20) (Decimal 6)) (drop_at front more 16 len) ∙ wrong)

      module _ (mid : List ℕ) (left : ℕ) (r : Resolution) (sum : length mid + left ≡ total - 20)
          (read : (x : List ℕ) → options (total - 20) s.order (total - 20) (Decimal 6) (mid ++ x) ≡ Ok r) where
        resolved_as : (more : List ℕ) → interface_in s (front ++ (mid ++ more)) ≡ left_in (front ++ (mid ++ more)) r
        resolved_as more =
            optional (mid ++ more) ∙ ap (λ w. with_resolution w (left_in (front ++ (mid ++ more))))
            (ap (options (total - 20) s.order (total - 20) (Decimal 6)) (drop_at front (mid ++ more) 16 len)
            ∙ read more)

        front_is : (four_at s.order 4 (front ++ mid) ≡ total) × (length (front ++ mid) ≡ 16 + length mid)
        front_is = (
          four_before s.order 4 front mid (omega arith) ∙ sym is,
          omega (arith, length-append front mid),
        )

        pub interface_unclosed : (more : List ℕ) (fault : CaptureFault) → IsUnclosed s.order total (left + 4) fault more
            → interface_in s (front ++ (mid ++ more)) ≡ Err fault
        interface_unclosed more fault wrong =
            let n = front_is.1 in
            resolved_as more
            ∙ ap (λ l. closed s.order l
            (record { section = with_interface s (front ++ (mid ++ more)) r; found = None }))
            (sym (append_assoc front mid more))
            ∙ closed_not s.order (front ++ mid) more _ total (left + 4) fault (omega arith) front_is.0 (omega arith)
            (omega arith) wrong

        pub interface_whole : (known last : Option (List ℕ)) (more : List ℕ) → Consumes known last (mid ++ more)
            → IsClosing s.order total (left + 4) more
            → Completes (interface_in s) known last front (record {
              section = record s {
                interfaces = s.interfaces
                    ++ record {
                      link_type = two_at s.order 8 front;
                      resolution = r;
                      longest = four_at s.order 12 front;
                    } ∷ [];
              };
              found = None;
            })
        unfolding with_one
        interface_whole known last more read_more closing =
            let n = front_is.1 in
            let m = closing.len in
            let bytes = front ++ (mid ++ more) in
            record {
              more = mid ++ more;
              read = read_more;
              is = resolved_as more
                  ∙ ap (λ l. closed s.order l (record { section = with_interface s bytes r; found = None }))
                  (sym (append_assoc front mid more))
                  ∙ closed_whole s.order (front ++ mid) more _ total (left + 4) (omega arith) front_is.0 (omega arith)
                  (omega arith) closing
                  ∙ ap (λ t. Ok (record { section = t; found = None }))
                  (ap (λ k. with_one s k (four_at s.order 12 bytes) r)
                  (two_before s.order 8 front (mid ++ more) (omega arith))
                  ∙ ap (λ k. with_one s (two_at s.order 8 front) k r)
                  (four_before s.order 12 front (mid ++ more) (omega arith)));
              whole = whole_of s.order front (mid ++ more) total long is (omega (arith, length-append mid more));
            }
