use Rattle.std.proofs.Common.{◌≡◌, ◌≤◌, drop, ap, ◌∙◌, arith}
use Rattle.std.proofs.lemmas.List.{take_rest}
use Rattle.at_pcap.specs.Orders.{number_in}
use Rattle.at_pcap.proofs.RecordLemmas.{header_spelled}
use Rattle.at_pcap.proofs.records.header_of.Goals as goal
use Rattle.at_pcap.proofs.records.header_of.Goals.{else-bytes-ge12-via-then-bytes-ge12+else-read_u32-gt-MAX_CAPTURED}
use Rattle.at_pcap.proofs.records.header_of.Goals.{else-bytes-ge12-via-else-bytes-ge12}

pub returns-clause-found : goal.returns-clause-found
returns-clause-found c =
    let bytes = c.args.bytes.now in
    let o = c.args.order in
    let fraction : c.read_u32-3.result ≡ number_in o 4 (drop 4 bytes) =
    c.read_u32-3.ensures ∙ ap (number_in o 4) (take_rest bytes 4) in
    let captured : c.read_u32-4.result ≡ number_in o 4 (drop 8 bytes) =
    c.read_u32-4.ensures ∙ ap (number_in o 4) (take_rest bytes 8) in
    let original : c.read_u32-5.result ≡ number_in o 4 (drop 12 bytes) =
    c.read_u32-5.ensures ∙ ap (number_in o 4) (take_rest bytes 12) in
    let few : c.read_u32-4.result ≤ 262144 =
    elim c.else-bytes-ge12.branch [
      | else-bytes-ge12-via-then-bytes-ge12+else-read_u32-gt-MAX_CAPTURED w ↦ omega
          (arith, w.read_u32.ensures, c.read_u32-4.ensures, w.if-read_u32-gt-MAX_CAPTURED.false)
      | else-bytes-ge12-via-else-bytes-ge12 w ↦ absurd (omega arith)
    ] in (
      record {
        seconds = c.read_u32-2.type_inv;
        fraction = c.read_u32-3.type_inv;
        captured = few;
        original = c.read_u32-5.type_inv;
      },
      rw (c.read_u32-2.ensures, fraction, captured, original)
          (header_spelled o bytes (λ i. omega (arith, c.type_inv.bytes i)) (omega arith)),
    )
