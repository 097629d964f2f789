use Rattle.std.proofs.Common.{◌≡◌, drop, ap, ◌∙◌, sym, arith}
use Rattle.std.proofs.lemmas.List.{take_rest}
use Rattle.at_pcap.specs.Orders.{number_in}
use Rattle.at_pcap.proofs.FileHeaderLemmas.{is_file_header}
use Rattle.at_pcap.proofs.file_header.file_header_of.Goals as goal
use Rattle.at_pcap.proofs.file_header.file_header_of.Goals.{else-bytes-ge6-via-then-bytes-ge6+else-read_u16-ne2}
use Rattle.at_pcap.proofs.file_header.file_header_of.Goals.{else-bytes-ge6-via-else-bytes-ge6}

pub returns-clause-found : goal.returns-clause-found
returns-clause-found c =
    let bytes = c.args.bytes.now in
    let o = c.in-Some.order in
    let version : number_in o 2 (drop 4 bytes) ≡ 2 =
    elim c.else-bytes-ge6.branch [
      | else-bytes-ge6-via-then-bytes-ge6+else-read_u16-ne2 w ↦ sym (w.read_u16.ensures
          ∙ ap (number_in o 2) (take_rest bytes 4)) ∙ w.if-read_u16-ne2.false
      | else-bytes-ge6-via-else-bytes-ge6 w ↦ absurd (omega arith)
    ] in
    let word : c.read_u32-word.result ≡ number_in o 4 (drop 20 bytes) =
    c.read_u32-word.ensures ∙ ap (number_in o 4) (take_rest bytes 20) in
    rw word (is_file_header o c.in-Some.precision bytes (λ i. omega (arith, c.type_inv.bytes i)) (omega arith)
    c.in-Some.ensures.some version (omega (arith, word, c.read_u32-word.type_inv)))
