-- The captured bytes and the end of a block.
use Rattle.std.proofs.Common.{◌≡◌, ℕ, ◌+◌, ◌-◌, ◌≤◌, List, ◌++◌, length, sym, ap, ◌∙◌, arith, Result, Ok, Err}
use Rattle.std.specs.Prelude.{Option, IfErr, OnOk}
use Rattle.std.specs.Io.KnownBytes.{Consumes}
use Rattle.std.proofs.KnownBytes.{Consumes-trans}
use Rattle.std.proofs.lemmas.List.{length-append}
use Rattle.at_pcap.specs.Blocks.{four_at}
use Rattle.at_pcap.specs.Steps.{IsClosing, IsUnclosed, TellsUnclosed}
use Rattle.at_pcap.specs.declared.order.Order.{Order}
use Rattle.at_pcap.specs.declared.fault.CaptureFault.{CaptureFault}
use Rattle.at_pcap.specs.declared.fault.CaptureFault.TheVariants.{BadBlock, CutCapture, NoCapture, BadVersion}
use Rattle.at_pcap.specs.declared.fault.CaptureFault.TheVariants.{RecordTooLong, NoInterface, BadResolution}
use Rattle.at_pcap.specs.declared.fault.ReadError.{ReadError}
use Rattle.at_pcap.specs.declared.fault.ReadError.TheVariants as error
use Rattle.at_pcap.proofs.RecordLemmas.{all_of}
use Rattle.at_pcap.proofs.RuleLemmas.{four_behind}

-- the end of a block, behind captured bytes that were read
module _ (o : Order) (total left count : ℕ) (front : List ℕ) (room : count + 4 ≤ left)
    (len : length front ≡ count) where
  pub data_closed : (known mid last : Option (List ℕ)) → Consumes known mid front
      → (result : Result (Unit {0}) ReadError)
      → OnOk result ((bytes : List ℕ) × IsClosing o total (left - count) bytes × Consumes mid last bytes)
      → OnOk result ((rest : List ℕ) × IsClosing o total left (front ++ rest) × Consumes known last (front ++ rest))
  data_closed known mid last read (Ok u) closed_by_rest =
      let rest = closed_by_rest.0 in
      let n = closed_by_rest.1.len in
      let at : left - 4 ≡ count + (left - count - 4) = omega arith in (
        rest,
        record {
          len = omega (arith, length-append front rest, n);
          again = ap (λ m. four_at o m (front ++ rest)) at ∙ four_behind o (left - count - 4) front rest count len
              ∙ closed_by_rest.1.again;
        },
        Consumes-trans known mid last front rest read closed_by_rest.2,
      )
  data_closed known mid last read (Err e) closed_by_rest = tt

  bad_data : (fault : CaptureFault) (rest : List ℕ) → IsUnclosed o total (left - count) fault rest
      → IsUnclosed o total left fault (front ++ rest)
  bad_data CutCapture rest short = omega (arith, length-append front rest, short)
  bad_data BadBlock rest other =
      let there = other.0 in
      let at : left - 4 ≡ count + (left - count - 4) = omega arith in
      let same = ap (λ m. four_at o m (front ++ rest)) at ∙ four_behind o (left - count - 4) front rest count len in (
        omega (arith, length-append front rest, there),
        λ e. other.1 (sym same ∙ e),
      )
  bad_data NoCapture rest no_fault = no_fault
  bad_data BadVersion rest no_fault = no_fault
  bad_data RecordTooLong rest no_fault = no_fault
  bad_data NoInterface rest no_fault = no_fault
  bad_data BadResolution rest no_fault = no_fault

  pub data_unclosed : (known mid : Option (List ℕ)) → Consumes known mid front → (result : Result (Unit {0}) ReadError)
      → IfErr result (TellsUnclosed o total (left - count) mid) → IfErr result (TellsUnclosed o total left known)
  data_unclosed known mid read (Ok u) tells = tt
  data_unclosed known mid read (Err (error.Fault f)) tells =
      (front ++ tells.0, all_of known mid front tells.0 read tells.1, bad_data f tells.0 tells.2)
  data_unclosed known mid read (Err (error.Unreadable why)) tells = tt
  data_unclosed known mid read (Err error.NoMemory) tells = tt
