-- The value of an option of an interface: if_tsresol, or one that is passed over.
use Rattle.std.proofs.Common.{◌≡◌, ◌≢◌, ℕ, ◌+◌, ◌*◌, ◌/◌, ◌<◌, ◌≤◌, List, [], ◌++◌, length, take, sym, ap, ◌∙◌, arith}
use Rattle.std.proofs.Common.{length-take-le, Result, Ok, slice_index}
use Rattle.std.specs.Prelude.{Option, Some, None}
use Rattle.std.specs.Io.KnownBytes.{Consumes, IsAtEnd}
use Rattle.std.proofs.lemmas.List.{get_or-append_right, get_or-take, get_or_append_left, length-append}
use Rattle.at_pcap.specs.Blocks.{Setting, passed_in, resolution_in, resolution_of, resolved, two_at, needs}
use Rattle.at_pcap.specs.Faults.{AreAll}
use Rattle.at_pcap.specs.Steps.{Breaks, IsPart}
use Rattle.at_pcap.specs.declared.interface.Resolution.{Resolution}
use Rattle.at_pcap.specs.declared.order.Order.{Order}
use Rattle.at_pcap.specs.declared.fault.CaptureFault.{CaptureFault}
use Rattle.at_pcap.specs.declared.fault.CaptureFault.TheVariants.{BadResolution, CutCapture}
use Rattle.at_pcap.proofs.RuleLemmas.{any_rest, breaks_any, breaks_behind, broken_unequal, end_rest, kept_equal}
use Rattle.at_pcap.proofs.RuleLemmas.{needs_cut, needs_there, two_before}

-- ---- if_tsresol

module _ (o : Order) (head : List ℕ) (four : length head ≡ 4) where
  pub resolution_unsized : (known : Option (List ℕ)) → two_at o 2 head ≢ 1
      → Breaks (resolution_in o) known head BadResolution
  unfolding resolution_in
  resolution_unsized known wrong = breaks_any (resolution_in o) known head BadResolution
      (λ more. broken_unequal (two_at o 2 (head ++ more)) 1 BadResolution _
      (λ e. wrong (sym (two_before o 2 head more (omega arith)) ∙ e)))

  module _ (one : two_at o 2 head ≡ 1) where
    -- behind the length of its value
    behind : (bytes : List ℕ) → resolution_in o (head ++ bytes)
        ≡ needs 5 (head ++ bytes) (resolved (resolution_of (slice_index (head ++ bytes) 4)) (head ++ bytes))
    unfolding resolution_in
    behind bytes = kept_equal (two_at o 2 (head ++ bytes)) 1 BadResolution _
        (two_before o 2 head bytes (omega arith) ∙ one)

    value_at : (value more : List ℕ) → 1 ≤ length value
        → slice_index (head ++ (value ++ more)) 4 ≡ slice_index value 0
    value_at value more there =
        get_or-append_right head (value ++ more) 4 4 0 four (omega arith) ∙ get_or_append_left value more 0 0 there

    known_value : (value more : List ℕ) (r : Option Resolution) → 1 ≤ length value
        → resolution_of (slice_index value 0) ≡ r
        → resolution_in o (head ++ (value ++ more)) ≡ resolved r (head ++ (value ++ more))
    known_value value more r there is =
        behind (value ++ more)
        ∙ needs_there 5 (head ++ (value ++ more)) _ (omega (
          arith,
          length-append head (value
              ++ more),
          length-append value more,
        ))
        ∙ ap (λ w. resolved w (head ++ (value ++ more))) (ap resolution_of (value_at value more there) ∙ is)

    module _ (known left : Option (List ℕ)) (buffer : List ℕ) (n : ℕ) (fits : n ≤ length buffer)
        (read : Consumes known left (take n buffer)) where
      -- the file ends before the value
      pub resolution_absent : IsAtEnd left → n < 1 → Breaks (resolution_in o) known head CutCapture
      resolution_absent over none =
          let value = take n buffer in
          breaks_behind (resolution_in o) known left head value [] CutCapture read (end_rest left over)
          (behind (value ++ []) ∙ needs_cut 5 (head ++ (value ++ [])) _ (omega (
            arith,
            length-append head (value
                ++ []),
            length-append value [],
            length-take-le n buffer fits,
          )))

      first_of : (r : Option Resolution) → 1 ≤ n → resolution_of (slice_index buffer 0) ≡ r
          → resolution_of (slice_index (take n buffer) 0) ≡ r
      first_of r there is = ap resolution_of (get_or-take n buffer 0 0 (omega arith)) ∙ is

      pub resolution_out : 1 ≤ n → resolution_of (slice_index buffer 0) ≡ None
          → Breaks (resolution_in o) known head BadResolution
      resolution_out there out =
          let value = take n buffer in
          let rest = any_rest left in
          breaks_behind (resolution_in o) known left head value rest.0 BadResolution read rest.1
          (known_value value rest.0 None (omega (arith, length-take-le n buffer fits)) (first_of None there out))

      pub resolution_cut : IsAtEnd left → 1 ≤ n → n < 4 → (r : Resolution)
          → resolution_of (slice_index buffer 0) ≡ Some r → Breaks (resolution_in o) known head CutCapture
      resolution_cut over there short r is =
          let value = take n buffer in
          let len = length-take-le n buffer fits in
          breaks_behind (resolution_in o) known left head value [] CutCapture read (end_rest left over)
          (known_value value [] (Some r) (omega arith) (first_of (Some r) there is)
          ∙ needs_cut 8 (head ++ (value ++ [])) _ (omega (
            arith,
            length-append head (value
                ++ []),
            length-append value [],
          )))

      pub resolution_found : n ≡ 4 → (r : Resolution) → resolution_of (slice_index buffer 0) ≡ Some r
          → IsPart (resolution_in o) known left head 8 (Some (record { resolution = r; size = 8 }))
      resolution_found whole r is =
          let value = take n buffer in
          let len = length-take-le n buffer fits in
          record {
            bytes = value;
            read = read;
            len = omega arith;
            is = λ more. known_value value more (Some r) (omega arith) (first_of (Some r) (omega arith) is)
                ∙ needs_there 8 (head ++ (value ++ more)) _ (omega (
                  arith,
                  length-append head (value
                      ++ more),
                  length-append value more,
                ));
          }

-- ---- any other option

passed_by : Resolution → List ℕ → ℕ → Result (Option Setting) CaptureFault
passed_by r bytes n =
    needs (4 + (n + 3) / 4 * 4) bytes (Ok (Some (record { resolution = r; size = 4 + (n + 3) / 4 * 4 })))

module _ (o : Order) (r : Resolution) (head : List ℕ) (n : ℕ) (four : length head ≡ 4) (is : n ≡ two_at o 2 head) where
  stated : (bytes : List ℕ) → passed_in o r (head ++ bytes) ≡ passed_by r (head ++ bytes) n
  unfolding passed_in passed_by
  stated bytes = ap (passed_by r (head ++ bytes)) (two_before o 2 head bytes (omega arith) ∙ sym is)

  pub passed_cut : (known : Option (List ℕ)) (bytes : List ℕ) → length bytes < (n + 3) / 4 * 4 → AreAll known bytes
      → Breaks (passed_in o r) known head CutCapture
  unfolding passed_by
  passed_cut known bytes short are = record {
    more = bytes;
    all = are;
    is = stated bytes ∙ needs_cut (4 + (n + 3) / 4 * 4) (head ++ bytes) _ (omega (arith, length-append head bytes));
  }

  pub passed_found : (known left : Option (List ℕ)) (bytes : List ℕ) → length bytes ≡ (n + 3) / 4 * 4
      → Consumes known left bytes
      → IsPart (passed_in o r) known left head (4 + (n + 3) / 4 * 4)
      (Some (record { resolution = r; size = 4 + (n + 3) / 4 * 4 }))
  unfolding passed_by
  passed_found known left bytes len read = record {
    bytes = bytes;
    read = read;
    len = omega arith;
    is = λ more. stated (bytes ++ more)
        ∙ needs_there (4 + (n + 3) / 4 * 4) (head ++ (bytes ++ more)) _ (omega (
          arith,
          length-append head (bytes
              ++ more),
          length-append bytes more,
        ));
  }
