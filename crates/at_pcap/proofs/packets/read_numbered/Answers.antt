use Rattle.std.proofs.Common.{◌<◌, ◌∙◌, ◌++◌, ap, arith, inl, inr, length, sym}
use Rattle.at_pcap.specs.Blocks.{numbered_in, packet_from}
use Rattle.at_pcap.specs.Steps.{section_of}
use Rattle.at_pcap.proofs.BlockLemmas.{reads_by}
use Rattle.at_pcap.proofs.PacketLemmas.{numbered_as, numbered_cut, numbered_unsized}
use Rattle.at_pcap.proofs.packets.read_numbered.Goals as goal

pub returns-in_default : goal.returns-in_default
returns-in_default g c =
    numbered_unsized c.args.width (section_of c.args.section.now) c.args.front.now c.requires.long _
    c.in_default.ensures.none

pub returns-then-front-width : goal.returns-then-front-width
returns-then-front-width g c =
    let total = c.in-Some.ensures.some in
    let short = c.if-front-width.true in
    let few : length c.args.front.now < 28 = elim c.requires.width [
      | inl two ↦ omega (arith, short, two)
      | inr four ↦ omega (arith, short, four)
    ] in
    numbered_cut c.args.width (section_of c.args.section.now) c.args.front.now c.requires.long c.in-Some.total total.0
    total.1 total.2 _ (c.requires.short few) short

pub returns : goal.returns
returns g c =
    let s = section_of c.args.section.now in
    let front = c.args.front.now in
    let total = c.in-Some.ensures.some in
    let there = c.if-front-width.false in
    reads_by (packet_from c.interface_at.result s) (numbered_in c.args.width s) (g.R.Read.remaining c.args.reader.now) _
    front s c.read_packet.new.buffer.items c.read_packet.result
    (λ more. numbered_as c.args.width s front c.requires.long c.in-Some.total total.0 total.1 total.2 more
    c.interface_number-number.result (omega (arith, there)) c.interface_number-number.ensures
    ∙ ap (λ i. packet_from i s (front ++ more)) (sym c.interface_at.ensures))
    c.read_packet.ensures
