use Rattle.std.proofs.Common.{◌≡◌, ◌∙◌, sym, true, false}
use Rattle.at_pcap.specs.Blocks.{block_in, by_kind, is_section, section_in}
use Rattle.at_pcap.specs.Orders.{number_in}
use Rattle.at_pcap.specs.Steps.{section_of}
use Rattle.at_pcap.specs.declared.fault.CaptureFault.TheVariants.{CutCapture}
use Rattle.at_pcap.proofs.BlockLemmas.{block_of_kind, block_of_section, block_short, front_of_8, reads_by}
use Rattle.at_pcap.proofs.RuleLemmas.{breaks_end}
use Rattle.at_pcap.proofs.blocks.read_block.Goals as goal

pub returns-then-front-lt-HEADER_LEN-clause-block : goal.returns-then-front-lt-HEADER_LEN-clause-block
returns-then-front-lt-HEADER_LEN-clause-block g c =
    let s = section_of c.args.section.now in
    let front = c.args.front.now in
    let short = c.if-front-lt-HEADER_LEN.true in
    breaks_end (block_in s) (g.R.Read.remaining c.args.reader.now) front CutCapture
    (c.requires.short (front_of_8 s.order front short)) (block_short s front short)

pub returns-then-is_section-clause-block : goal.returns-then-is_section-clause-block
returns-then-is_section-clause-block g c =
    let s = section_of c.args.section.now in
    let front = c.args.front.now in
    let is : is_section front ≡ true = sym c.is_section.ensures.value ∙ c.if-is_section.true in
    reads_by section_in (block_in s) (g.R.Read.remaining c.args.reader.now) _ front _
    c.args.buffer.now.items c.read_section.result
    (λ more. block_of_section s front more c.if-front-lt-HEADER_LEN.false is)
    (c.read_section.ensures c.args.buffer.now.items)

pub returns-clause-block : goal.returns-clause-block
returns-clause-block g c =
    let s = section_of c.args.section.now in
    let front = c.args.front.now in
    let is : is_section front ≡ false = sym c.is_section.ensures.value ∙ c.if-is_section.false in
    reads_by (by_kind (number_in s.order 4 front) s) (block_in s) (g.R.Read.remaining c.args.reader.now) _ front _ _
    c.read_by_kind.result
    (λ more. block_of_kind s front more c.if-front-lt-HEADER_LEN.false is)
    c.read_by_kind.ensures
