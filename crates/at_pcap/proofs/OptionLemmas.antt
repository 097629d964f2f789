-- An option of an interface, from its code on.
use Rattle.std.proofs.Common.{◌≡◌, ◌≢◌, ℕ, ◌+◌, ◌<◌, ◌≤◌, List, [], ◌++◌, length, take, drop, sym, ap, subst, ◌∙◌}
use Rattle.std.proofs.Common.{arith, append_assoc, length-take-le, Result, Ok, Err, ◌==◌, nat_lt, if◌then◌else◌}
use Rattle.std.specs.Prelude.{Option, None, IfErr, IfOk}
use Rattle.std.specs.Io.KnownBytes.{Consumes, IsAtEnd}
use Rattle.std.proofs.KnownBytes.{Consumes-trans}
use Rattle.std.proofs.lemmas.Bool.{cond-false, cond-true, eq-eqb, ne_eqb}
use Rattle.std.proofs.lemmas.List.{length-append, length-drop, take_all}
use Rattle.at_pcap.specs.Blocks.{Setting, option_in, passed_in, resolution_in, two_at, refuse}
use Rattle.at_pcap.specs.OptionSteps.{setting_in, size_in}
use Rattle.at_pcap.specs.Orders.{number_in}
use Rattle.at_pcap.specs.Steps.{Breaks, IsPart, TellsBreak}
use Rattle.at_pcap.specs.declared.interface.Resolution.{Resolution}
use Rattle.at_pcap.specs.declared.options.OptionRead.{OptionRead}
use Rattle.at_pcap.specs.declared.order.Order.{Order}
use Rattle.at_pcap.specs.declared.fault.ReadError.{ReadError}
use Rattle.at_pcap.specs.declared.fault.ReadError.TheVariants as error
use Rattle.at_pcap.specs.declared.fault.CaptureFault.{CaptureFault}
use Rattle.at_pcap.specs.declared.fault.CaptureFault.TheVariants.{BadResolution, CutCapture}
use Rattle.at_pcap.proofs.RuleLemmas.{any_rest, breaks_behind, end_rest, broken_below, kept_above, needs_cut}
use Rattle.at_pcap.proofs.RuleLemmas.{needs_there, two_before, two_front}

-- the length of its value is in the last two bytes of its four
pub length_in : (o : Order) (head : List ℕ) → length head ≡ 4 → number_in o 2 (take 2 (drop 2 head)) ≡ two_at o 2 head
length_in o head four = ap (number_in o 2) (take_all 2 (drop 2 head) (omega (arith, four, length-drop 2 head)))

module _ (o : Order) (left : ℕ) (r : Resolution) (known mid : Option (List ℕ)) (buffer : List ℕ) (n : ℕ)
    (fits : n ≤ length buffer) (read : Consumes known mid (take n buffer)) where
  pub option_short : IsAtEnd mid → n < 4 → Breaks (option_in o left r) known [] CutCapture
  unfolding option_in
  option_short over short =
      let head = take n buffer in
      breaks_behind (option_in o left r) known mid [] head [] CutCapture read (end_rest mid over)
      (needs_cut 4 (head ++ []) _ (omega (arith, length-append head [], length-take-le n buffer fits)))

  module _ (there : 4 ≤ n) (four : length buffer ≡ 4) where
    head_is : take n buffer ≡ buffer
    head_is = take_all n buffer (omega arith)

    head_read : Consumes known mid buffer
    head_read = subst (Consumes known mid) head_is read

    coded : (bytes : List ℕ) → option_in o left r (buffer ++ bytes)
        ≡ (if number_in o 2 (buffer ++ bytes) == 0 then Ok None else
        (refuse (nat_lt left (4 + two_at o 2 (buffer ++ bytes))) BadResolution
        (if number_in o 2 (buffer ++ bytes) == 9 then resolution_in o (buffer ++ bytes) else
        passed_in o r (buffer ++ bytes))))
    unfolding option_in
    coded bytes = needs_there 4 (buffer ++ bytes) _ (omega (arith, length-append buffer bytes))

    code_in : (bytes : List ℕ) → number_in o 2 (buffer ++ bytes) ≡ number_in o 2 buffer
    code_in bytes = two_front o buffer bytes (omega arith)

    len_in : (bytes : List ℕ) → two_at o 2 (buffer ++ bytes) ≡ two_at o 2 buffer
    len_in bytes = two_before o 2 buffer bytes (omega arith)

    pub option_end : number_in o 2 buffer ≡ 0 → IsPart (option_in o left r) known mid [] 4 None
    option_end zero_code = record {
      bytes = buffer;
      read = head_read;
      len = omega arith;
      is = λ more. coded more
          ∙ cond-true (number_in o 2 (buffer ++ more) == 0) (Ok None) _
          (eq-eqb (number_in o 2 (buffer ++ more)) 0 (code_in more ∙ zero_code));
    }

    module _ (other : number_in o 2 buffer ≢ 0) where
      past_end : (bytes : List ℕ) → option_in o left r (buffer ++ bytes)
          ≡ refuse (nat_lt left (4 + two_at o 2 (buffer ++ bytes))) BadResolution
          (if number_in o 2 (buffer ++ bytes) == 9 then resolution_in o (buffer ++ bytes) else
          passed_in o r (buffer ++ bytes))
      past_end bytes = coded bytes
          ∙ cond-false (number_in o 2 (buffer ++ bytes) == 0) (Ok None) _
          (ne_eqb (number_in o 2 (buffer ++ bytes)) 0 (λ e. other (sym (code_in bytes) ∙ e)))

      pub option_over : left < 4 + two_at o 2 buffer → Breaks (option_in o left r) known [] BadResolution
      option_over over =
          let rest = any_rest mid in
          let same = len_in rest.0 in
          breaks_behind (option_in o left r) known mid [] buffer rest.0 BadResolution head_read rest.1
          (past_end rest.0
          ∙ broken_below left (4 + two_at o 2 (buffer ++ rest.0)) BadResolution _ (omega (arith, same)))

      module _ (room : 4 + two_at o 2 buffer ≤ left) where
        inside : (bytes : List ℕ) → option_in o left r (buffer ++ bytes)
            ≡ (if number_in o 2 (buffer ++ bytes) == 9 then resolution_in o (buffer ++ bytes) else
            passed_in o r (buffer ++ bytes))
        inside bytes =
            let same = len_in bytes in
            past_end bytes ∙ kept_above left (4 + two_at o 2 (buffer ++ bytes)) BadResolution _ (omega (arith, same))

        pub is_resolution : number_in o 2 buffer ≡ 9 → (bytes : List ℕ)
            → option_in o left r (buffer ++ bytes) ≡ resolution_in o (buffer ++ bytes)
        is_resolution nine bytes = inside bytes
            ∙ cond-true (number_in o 2 (buffer ++ bytes) == 9) (resolution_in o (buffer ++ bytes)) _
            (eq-eqb (number_in o 2 (buffer ++ bytes)) 9 (code_in bytes ∙ nine))

        pub is_other : number_in o 2 buffer ≢ 9 → (bytes : List ℕ)
            → option_in o left r (buffer ++ bytes) ≡ passed_in o r (buffer ++ bytes)
        is_other nine bytes = inside bytes
            ∙ cond-false (number_in o 2 (buffer ++ bytes) == 9) (resolution_in o (buffer ++ bytes)) _
            (ne_eqb (number_in o 2 (buffer ++ bytes)) 9 (λ e. nine (sym (code_in bytes) ∙ e)))

    -- what was read behind the head is what was read of the option
    pub part_of : (reads : List ℕ → Result (Option Setting) CaptureFault) (last : Option (List ℕ))
        (result : Result (Option OptionRead) ReadError)
        → ((bytes : List ℕ) → option_in o left r (buffer ++ bytes) ≡ reads (buffer ++ bytes))
        → IfOk result (λ s. IsPart reads mid last buffer (size_in s) (setting_in s))
        → IfOk result (λ s. IsPart (option_in o left r) known last [] (size_in s) (setting_in s))
    part_of reads last (Ok s) same part = record {
      bytes = buffer ++ part.bytes;
      read = Consumes-trans known mid last buffer part.bytes head_read part.read;
      len = omega (arith, length-append buffer part.bytes, part.len);
      is = λ more. ap (option_in o left r) (append_assoc buffer part.bytes more) ∙ same (part.bytes ++ more)
          ∙ part.is more;
    }
    part_of reads last (Err e) same part = tt

    pub break_of : (reads : List ℕ → Result (Option Setting) CaptureFault)
        (result : Result (Option OptionRead) ReadError)
        → ((bytes : List ℕ) → option_in o left r (buffer ++ bytes) ≡ reads (buffer ++ bytes))
        → IfErr result (TellsBreak reads mid buffer) → IfErr result (TellsBreak (option_in o left r) known [])
    break_of reads (Ok s) same tells = tt
    break_of reads (Err (error.Fault f)) same tells =
        breaks_behind (option_in o left r) known mid [] buffer tells.more f head_read tells.all
        (same tells.more ∙ tells.is)
    break_of reads (Err (error.Unreadable why)) same tells = tt
    break_of reads (Err error.NoMemory) same tells = tt

-- a part of 8 bytes, by the size that is told
pub sized_part : (reads : List ℕ → Result (Option Setting) CaptureFault) (known left : Option (List ℕ))
    (head : List ℕ) (result : Result (Option OptionRead) ReadError) → IfOk result (λ s. size_in s ≡ 8)
    → IfOk result (λ s. IsPart reads known left head 8 (setting_in s))
    → IfOk result (λ s. IsPart reads known left head (size_in s) (setting_in s))
sized_part reads known left head (Ok s) size part =
    subst (λ n. IsPart reads known left head n (setting_in s)) (sym size) part
sized_part reads known left head (Err e) size part = tt
