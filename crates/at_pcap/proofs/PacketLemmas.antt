-- Packets that name their interface, each from its front on.
use Rattle.std.proofs.Common.{◌≡◌, ◌≢◌, ◌⊎◌, ℕ, ◌+◌, ◌-◌, ◌*◌, ◌%◌, ◌^◌, ◌<◌, ◌≤◌, List, [], ◌++◌, length, take, drop}
use Rattle.std.proofs.Common.{refl, sym, ap, ◌∙◌, arith, Ok, Err, append-nil}
use Rattle.std.specs.Prelude.{Option, Some, None, slice_get}
use Rattle.std.specs.Io.KnownBytes.{Consumes, IsAtEnd}
use Rattle.std.proofs.lemmas.List.{length-append}
use Rattle.at_pcap.specs.Blocks.{Section, captured_in, four_at, packet_frame, packet_from, numbered_in}
use Rattle.at_pcap.specs.Frames.{Frame, frame_with, time_of}
use Rattle.at_pcap.specs.Orders.{number_in}
use Rattle.at_pcap.specs.Steps.{Breaks, Completes, IsClosing, IsUnclosed, capture_fault, header_at}
use Rattle.at_pcap.specs.declared.interface.Interface.{Interface}
use Rattle.at_pcap.specs.declared.fault.CaptureFault.{CaptureFault}
use Rattle.at_pcap.specs.declared.fault.CaptureFault.TheVariants.{BadBlock, CutCapture, NoInterface}
use Rattle.at_pcap.proofs.BlockLemmas.{sized_front, unsized_front, whole_of}
use Rattle.at_pcap.proofs.CapturedLemmas.{captured_short, captured_unclosed, captured_whole, misfit, taken, within}
use Rattle.at_pcap.proofs.RuleLemmas.{breaks_any, breaks_end, four_before, needs_cut, needs_there, number_before}

-- ---- a packet of an interface

frame_by : Interface → List ℕ → ℕ → ℕ → ℕ → Frame
frame_by i captured high low original = record {
  link_type = i.link_type;
  time = Some (time_of i.resolution (high * 2 ^ 32 + low));
  original = original;
  captured = captured;
}

frame_is : (i : Interface) (s : Section) (front captured more : List ℕ) → length front ≡ 28
    → length captured ≡ four_at s.order 20 front
    → packet_frame i s (front ++ (captured ++ more)) ≡ frame_with (header_at s.order i front) captured
unfolding frame_by
frame_is i s front captured more len n =
    let bytes = front ++ (captured ++ more) in
    let o = s.order in
    let same : take (four_at o 20 bytes) (drop 28 bytes) ≡ captured =
    ap (λ m. take m (drop 28 bytes)) (four_before o 20 front (captured ++ more) (omega arith))
    ∙ taken front captured more 28 (four_at o 20 front) len n in
    ap (λ l. frame_by i l (four_at o 12 bytes) (four_at o 16 bytes) (four_at o 24 bytes)) same
    ∙ ap (λ m. frame_by i captured m (four_at o 16 bytes) (four_at o 24 bytes))
    (four_before o 12 front (captured ++ more) (omega arith))
    ∙ ap (λ m. frame_by i captured (four_at o 12 front) m (four_at o 24 bytes))
    (four_before o 16 front (captured ++ more) (omega arith))
    ∙ ap (frame_by i captured (four_at o 12 front) (four_at o 16 front))
    (four_before o 24 front (captured ++ more) (omega arith))

module _ (s : Section) (front : List ℕ) (total : ℕ) (long : 8 ≤ length front) (is : total ≡ four_at s.order 4 front)
    (enough : 32 ≤ total) where
  pub packet_unknown : (known : Option (List ℕ)) → Breaks (packet_from None s) known front NoInterface
  packet_unknown known = breaks_any (packet_from None s) known front NoInterface (λ more. refl)

  module _ (i : Interface) where
    pub packet_cut : length front < 24 → packet_from (Some i) s front ≡ Err CutCapture
    packet_cut short = needs_cut 24 front _ short

    counted : (more : List ℕ) → 24 ≤ length front → packet_from (Some i) s (front ++ more)
        ≡ captured_in s 28 (four_at s.order 20 front) (front ++ more) (packet_frame i s (front ++ more))
    counted more there =
        needs_there 24 (front ++ more) _ (omega (arith, length-append front more))
        ∙ ap (λ n. captured_in s 28 n (front ++ more) (packet_frame i s (front ++ more)))
        (four_before s.order 20 front more (omega arith))

    pub packet_misfit : (known : Option (List ℕ)) (fault : CaptureFault) → 24 ≤ length front
        → capture_fault total 28 (four_at s.order 20 front) ≡ Some fault
        → Breaks (packet_from (Some i) s) known front fault
    packet_misfit known fault there wrong = breaks_any (packet_from (Some i) s) known front fault
        (λ more. counted more there
        ∙ misfit s (packet_frame i s (front ++ more)) 28 (four_at s.order 20 front) total front long is more fault
        wrong)

    module _ (there : 24 ≤ length front) (fits : capture_fault total 28 (four_at s.order 20 front) ≡ None) where
      few : (four_at s.order 20 front ≤ 262144) × (28 + four_at s.order 20 front + 4 ≤ total)
      few = within total 28 (four_at s.order 20 front) fits

      pub packet_short : length front < 28 → packet_from (Some i) s front ≡ Err CutCapture
      packet_short short =
          needs_there 24 front _ there
          ∙ captured_short s (packet_frame i s front) 28 (four_at s.order 20 front) total front long is few.0 few.1
          (omega arith)

      pub packet_unclosed : (more : List ℕ) (fault : CaptureFault) → length front ≡ 28
          → IsUnclosed s.order total (total - 28) fault more → packet_from (Some i) s (front ++ more) ≡ Err fault
      packet_unclosed more fault len wrong =
          counted more there
          ∙ captured_unclosed s (packet_frame i s (front ++ more)) 28 (four_at s.order 20 front) total front long is
          few.0 few.1 (total - 28) (omega arith) (omega arith) more fault wrong

      pub packet_whole : (known left : Option (List ℕ)) (captured rest : List ℕ) → length front ≡ 28
          → length captured ≡ four_at s.order 20 front → Consumes known left (captured ++ rest)
          → IsClosing s.order total (total - 28) (captured ++ rest)
          → Completes (packet_from (Some i) s) known left front
          (record { section = s; found = Some (frame_with (header_at s.order i front) captured) })
      packet_whole known left captured rest len n read closing =
          let more = captured ++ rest in
          let closed_len = closing.len in
          record {
            more = more;
            read = read;
            is = counted more there
                ∙ captured_whole s (packet_frame i s (front ++ more)) 28 (four_at s.order 20 front) total front long is
                few.0 few.1 (total - 28) (omega arith) (omega arith) more closing
                ∙ ap (λ f. Ok (record { section = s; found = Some f })) (frame_is i s front captured rest len n);
            whole = whole_of s.order front more total long is (omega arith);
          }

-- ---- a packet from its total length on

module _ (width : ℕ) (s : Section) (front : List ℕ) (long : 8 ≤ length front) where
  pub numbered_unsized : (known : Option (List ℕ)) → (four_at s.order 4 front % 4 ≢ 0) ⊎ (four_at s.order 4 front < 32)
      → Breaks (numbered_in width s) known front BadBlock
  unfolding numbered_in
  numbered_unsized known wrong = breaks_any (numbered_in width s) known front BadBlock
      (λ more. unsized_front s.order 32 front more _ long wrong)

  module _ (total : ℕ) (is : total ≡ four_at s.order 4 front) (even : total % 4 ≡ 0) (enough : 32 ≤ total) where
    pub numbered_cut : (known : Option (List ℕ)) → IsAtEnd known → length front < 8 + width
        → Breaks (numbered_in width s) known front CutCapture
    unfolding numbered_in
    numbered_cut known over short = breaks_end (numbered_in width s) known front CutCapture over
        (ap (numbered_in width s) (sym (append-nil front))
        ∙ sized_front s.order 32 front [] _ total long is even enough
        ∙ needs_cut (8 + width) (front ++ []) _ (omega (arith, length-append front [])))

    pub numbered_as : (more : List ℕ) (number : ℕ) → 8 + width ≤ length front
        → number ≡ number_in s.order width (drop 8 front)
        → numbered_in width s (front ++ more) ≡ packet_from (slice_get s.interfaces number) s (front ++ more)
    unfolding numbered_in
    numbered_as more number there which =
        sized_front s.order 32 front more _ total long is even enough
        ∙ needs_there (8 + width) (front ++ more) _ (omega (arith, length-append front more))
        ∙ ap (λ n. packet_from (slice_get s.interfaces n) s (front ++ more))
        (number_before s.order width 8 front more there ∙ sym which)
