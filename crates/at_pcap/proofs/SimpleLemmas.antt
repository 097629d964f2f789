-- Simple packets, from their front on.
use Rattle.std.proofs.Common.{◌≡◌, ◌≢◌, ◌⊎◌, ℕ, ◌-◌, ◌%◌, ◌<◌, ◌≤◌, List, [], ◌++◌, length, take, drop, sym, ap}
use Rattle.std.proofs.Common.{◌∙◌, arith, Ok, Err, append-nil}
use Rattle.std.specs.Prelude.{Option, Some, None, slice_get}
use Rattle.std.specs.Io.KnownBytes.{Consumes, IsAtEnd}
use Rattle.std.proofs.lemmas.List.{length-append}
use Rattle.at_pcap.specs.Blocks.{Section, captured_in, four_at, simple_count, simple_frame, simple_from, simple_in}
use Rattle.at_pcap.specs.Frames.{Frame}
use Rattle.at_pcap.specs.Steps.{Breaks, Completes, IsClosing, IsUnclosed, capture_fault}
use Rattle.at_pcap.specs.declared.interface.Interface.{Interface}
use Rattle.at_pcap.specs.declared.fault.CaptureFault.{CaptureFault}
use Rattle.at_pcap.specs.declared.fault.CaptureFault.TheVariants.{BadBlock, CutCapture, NoInterface}
use Rattle.at_pcap.proofs.BlockLemmas.{sized_front, unsized_front, whole_of}
use Rattle.at_pcap.proofs.CapturedLemmas.{captured_unclosed, captured_whole, misfit, taken, within}
use Rattle.at_pcap.proofs.RuleLemmas.{breaks_any, breaks_end, four_before, needs_cut, needs_there}

simple_by : Interface → List ℕ → ℕ → Frame
simple_by i captured original =
    record { link_type = i.link_type; time = None; original = original; captured = captured }

simple_is : (i : Interface) (s : Section) (front captured more : List ℕ) → length front ≡ 12
    → length captured ≡ simple_count i (four_at s.order 8 front)
    → simple_frame i s (front ++ (captured ++ more))
    ≡ record { link_type = i.link_type; time = None; original = four_at s.order 8 front; captured = captured }
unfolding simple_by
simple_is i s front captured more len n =
    let bytes = front ++ (captured ++ more) in
    let same = four_before s.order 8 front (captured ++ more) (omega arith) in
    ap (λ m. simple_by i (take (simple_count i m) (drop 12 bytes)) m) same
    ∙ ap (λ l. simple_by i l (four_at s.order 8 front))
    (taken front captured more 12 (simple_count i (four_at s.order 8 front)) len n)

module _ (s : Section) (front : List ℕ) (long : 8 ≤ length front) where
  pub simple_unsized : (known : Option (List ℕ)) → (four_at s.order 4 front % 4 ≢ 0) ⊎ (four_at s.order 4 front < 16)
      → Breaks (simple_in s) known front BadBlock
  unfolding simple_in
  simple_unsized known wrong = breaks_any (simple_in s) known front BadBlock
      (λ more. unsized_front s.order 16 front more _ long wrong)

  module _ (total : ℕ) (is : total ≡ four_at s.order 4 front) (even : total % 4 ≡ 0) (enough : 16 ≤ total) where
    pub simple_cut : (known : Option (List ℕ)) → IsAtEnd known → length front < 12
        → Breaks (simple_in s) known front CutCapture
    unfolding simple_in
    simple_cut known over short = breaks_end (simple_in s) known front CutCapture over
        (ap (simple_in s) (sym (append-nil front)) ∙ sized_front s.order 16 front [] _ total long is even enough
        ∙ needs_cut 12 (front ++ []) _ (omega (arith, length-append front [])))

    module _ (len : length front ≡ 12) where
      simple_as : (more : List ℕ) (i : Option Interface) → slice_get s.interfaces 0 ≡ i
          → simple_in s (front ++ more) ≡ simple_from i s (front ++ more)
      unfolding simple_in
      simple_as more i first =
          sized_front s.order 16 front more _ total long is even enough
          ∙ needs_there 12 (front ++ more) _ (omega (arith, length-append front more))
          ∙ ap (λ j. simple_from j s (front ++ more)) first

      pub simple_unknown : (known : Option (List ℕ)) → slice_get s.interfaces 0 ≡ None
          → Breaks (simple_in s) known front NoInterface
      simple_unknown known first = breaks_any (simple_in s) known front NoInterface (λ more. simple_as more None first)

      module _ (i : Interface) (first : slice_get s.interfaces 0 ≡ Some i) where
        abbrev count : ℕ
        count = simple_count i (four_at s.order 8 front)

        counted_simple : (more : List ℕ) → simple_in s (front ++ more)
            ≡ captured_in s 12 count (front ++ more) (simple_frame i s (front ++ more))
        counted_simple more =
            simple_as more (Some i) first
            ∙ ap (λ n. captured_in s 12 (simple_count i n) (front ++ more) (simple_frame i s (front ++ more)))
            (four_before s.order 8 front more (omega arith))

        pub simple_misfit : (known : Option (List ℕ)) (fault : CaptureFault)
            → capture_fault total 12 count ≡ Some fault → Breaks (simple_in s) known front fault
        simple_misfit known fault wrong = breaks_any (simple_in s) known front fault
            (λ more. counted_simple more
            ∙ misfit s (simple_frame i s (front ++ more)) 12 count total front long is more fault wrong)

        module _ (fits : capture_fault total 12 count ≡ None) where
          pub simple_unclosed : (more : List ℕ) (fault : CaptureFault)
              → IsUnclosed s.order total (total - 12) fault more → simple_in s (front ++ more) ≡ Err fault
          simple_unclosed more fault wrong =
              let few = within total 12 count fits in
              counted_simple more
              ∙ captured_unclosed s (simple_frame i s (front ++ more)) 12 count total front long is few.0 few.1
              (total - 12) (omega arith) (omega arith) more fault wrong

          pub simple_whole : (known left : Option (List ℕ)) (captured rest : List ℕ) → length captured ≡ count
              → Consumes known left (captured ++ rest) → IsClosing s.order total (total - 12) (captured ++ rest)
              → Completes (simple_in s) known left front (record {
                section = s;
                found = Some (record {
                  link_type = i.link_type;
                  time = None;
                  original = four_at s.order 8 front;
                  captured = captured;
                });
              })
          simple_whole known left captured rest n read closing =
              let few = within total 12 count fits in
              let more = captured ++ rest in
              let closed_len = closing.len in
              record {
                more = more;
                read = read;
                is = counted_simple more
                    ∙ captured_whole s (simple_frame i s (front ++ more)) 12 count total front long is few.0 few.1
                    (total - 12) (omega arith) (omega arith) more closing
                    ∙ ap (λ f. Ok (record { section = s; found = Some f })) (simple_is i s front captured rest len n);
                whole = whole_of s.order front more total long is (omega arith);
              }
