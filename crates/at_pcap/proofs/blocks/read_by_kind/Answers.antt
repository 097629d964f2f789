use Rattle.std.proofs.Common.{◌≡◌, ◌∙◌, sym, ap, ◌++◌, arith}
use Rattle.at_pcap.specs.Blocks.{by_kind, interface_in, other_in}
use Rattle.at_pcap.specs.Orders.{number_in}
use Rattle.at_pcap.specs.Steps.{section_of}
use Rattle.at_pcap.proofs.BlockLemmas.{kind_other, reads_by}
use Rattle.at_pcap.proofs.blocks.read_by_kind.Goals as goal

pub returns-in-1 : goal.returns-in-1
returns-in-1 g c =
    let s = section_of c.args.section.now in
    let front = c.args.front.now in
    reads_by (interface_in s) (by_kind (number_in s.order 4 front) s) (g.R.Read.remaining c.args.reader.now) _ front _
    c.args.buffer.now.items c.read_interface.result
    (λ more. ap (λ k. by_kind k s (front ++ more)) (sym c.read_u32.ensures ∙ c.in-1.is))
    (c.read_interface.ensures c.args.buffer.now.items)

pub returns-in_default : goal.returns-in_default
returns-in_default g c =
    let s = section_of c.args.section.now in
    let front = c.args.front.now in
    let n : c.read_u32.result ≡ number_in s.order 4 front = c.read_u32.ensures in
    reads_by (other_in s) (by_kind (number_in s.order 4 front) s) (g.R.Read.remaining c.args.reader.now) _ front _
    c.args.buffer.now.items c.read_other.result
    (λ more. kind_other (number_in s.order 4 front) s (front ++ more)
    (λ e. omega (arith, n, e)) (λ e. omega (arith, n, e)) (λ e. omega (arith, n, e)) (λ e. omega (arith, n, e)))
    (c.read_other.ensures c.args.buffer.now.items)
