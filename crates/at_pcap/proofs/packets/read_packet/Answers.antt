use Rattle.std.proofs.Common.{◌≡◌, ◌∙◌, sym, ap, arith, length, subst}
use Rattle.std.specs.Prelude.{Some}
use Rattle.std.proofs.lemmas.List.{take_rest}
use Rattle.std.proofs.lemmas.Result.{err_from_is_err_and}
use Rattle.at_pcap.specs.Blocks.{four_at, packet_from}
use Rattle.at_pcap.specs.Frames.{frame_with}
use Rattle.at_pcap.specs.Orders.{number_in}
use Rattle.at_pcap.specs.Steps.{Breaks, Completes, capture_fault, section_of}
use Rattle.at_pcap.specs.declared.fault.CaptureFault.TheVariants.{CutCapture, NoInterface}
use Rattle.at_pcap.proofs.PacketLemmas.{packet_cut, packet_misfit, packet_short, packet_unclosed, packet_unknown}
use Rattle.at_pcap.proofs.PacketLemmas.{packet_whole}
use Rattle.at_pcap.proofs.RuleLemmas.{breaks_end, unclosed}
use Rattle.at_pcap.proofs.packets.read_packet.Goals as goal

pub returns-in_default : goal.returns-in_default
returns-in_default g c =
    let s = section_of c.args.section.now in
    let front = c.args.front.now in
    subst (λ w. Breaks (packet_from w s) (g.R.Read.remaining c.args.reader.now) front NoInterface) (sym c.in_default.is)
    (packet_unknown s front c.args.total c.requires.long c.requires.total c.requires.least
    (g.R.Read.remaining c.args.reader.now))

pub returns-then-front-lt24 : goal.returns-then-front-lt24
returns-then-front-lt24 g c =
    let s = section_of c.args.section.now in
    let front = c.args.front.now in
    let short = c.if-front-lt24.true in
    subst (λ w. Breaks (packet_from w s) (g.R.Read.remaining c.args.reader.now) front CutCapture) (sym c.in-Some.is)
    (breaks_end (packet_from (Some c.in-Some.interface) s) (g.R.Read.remaining c.args.reader.now) front CutCapture
    (c.requires.short (omega arith))
    (packet_cut s front c.args.total c.requires.long c.requires.total c.requires.least c.in-Some.interface short))

pub returns-in-Some-fault_of : goal.returns-in-Some-fault_of
returns-in-Some-fault_of g c =
    let s = section_of c.args.section.now in
    let front = c.args.front.now in
    let count : c.read_u32-count.result ≡ four_at s.order 20 front =
    c.read_u32-count.ensures ∙ ap (number_in s.order 4) (take_rest front 20) in
    subst (λ w. Breaks (packet_from w s) (g.R.Read.remaining c.args.reader.now) front c.in-Some-fault_of.fault)
    (sym c.in-Some.is)
    (packet_misfit s front c.args.total c.requires.long c.requires.total c.requires.least c.in-Some.interface
    (g.R.Read.remaining c.args.reader.now) c.in-Some-fault_of.fault c.if-front-lt24.false
    (ap (capture_fault c.args.total 28) (sym count) ∙ sym c.fault_of.ensures ∙ c.in-Some-fault_of.is))

pub returns-then-front-lt-FRONT_LEN : goal.returns-then-front-lt-FRONT_LEN
returns-then-front-lt-FRONT_LEN g c =
    let s = section_of c.args.section.now in
    let front = c.args.front.now in
    let count : c.read_u32-count.result ≡ four_at s.order 20 front =
    c.read_u32-count.ensures ∙ ap (number_in s.order 4) (take_rest front 20) in
    let short = c.if-front-lt-FRONT_LEN.true in
    subst (λ w. Breaks (packet_from w s) (g.R.Read.remaining c.args.reader.now) front CutCapture) (sym c.in-Some.is)
    (breaks_end (packet_from (Some c.in-Some.interface) s) (g.R.Read.remaining c.args.reader.now) front CutCapture
    (c.requires.short short)
    (packet_short s front c.args.total c.requires.long c.requires.total c.requires.least c.in-Some.interface
    c.if-front-lt24.false
    (ap (capture_fault c.args.total 28) (sym count) ∙ sym c.fault_of.ensures ∙ c.in_default-fault_of.is) short))

pub returns-in_err-read_data : goal.returns-in_err-read_data
returns-in_err-read_data g c =
    let s = section_of c.args.section.now in
    let front = c.args.front.now in
    let count : c.read_u32-count.result ≡ four_at s.order 20 front =
    c.read_u32-count.ensures ∙ ap (number_in s.order 4) (take_rest front 20) in
    let len : length front ≡ 28 = omega (arith, c.requires.fits, c.if-front-lt-FRONT_LEN.false) in
    let p = err_from_is_err_and c.from_residual.result c.from_residual.ensures.1 in
    rw (c.in-Some.is, p.1, p.2)
    (unclosed (packet_from (Some c.in-Some.interface) s) (g.R.Read.remaining c.args.reader.now) front s.order
    c.args.total _ _
    (λ more fault. packet_unclosed s front c.args.total c.requires.long c.requires.total c.requires.least
    c.in-Some.interface c.if-front-lt24.false
    (ap (capture_fault c.args.total 28) (sym count) ∙ sym c.fault_of.ensures ∙ c.in_default-fault_of.is)
    more fault len) c.in_err-read_data.ensures.fault)

pub returns : goal.returns
returns g c =
    let s = section_of c.args.section.now in
    let front = c.args.front.now in
    let count : c.read_u32-count.result ≡ four_at s.order 20 front =
    c.read_u32-count.ensures ∙ ap (number_in s.order 4) (take_rest front 20) in
    let len : length front ≡ 28 = omega (arith, c.requires.fits, c.if-front-lt-FRONT_LEN.false) in
    let captured = c.read_data.new.buffer.items in
    let closed = c.in_ok-read_data.ensures.closed in
    let known = g.R.Read.remaining c.args.reader.now in
    let left = g.R.Read.remaining c.read_data.new.reader in
    subst (λ w. Completes (packet_from w s) known left front
    (record { section = s; found = Some (frame_with c.packet_header.result captured) })) (sym c.in-Some.is)
    (subst (λ h. Completes (packet_from (Some c.in-Some.interface) s) known left front
    (record { section = s; found = Some (frame_with h captured) })) (sym c.packet_header.ensures)
    (packet_whole s front c.args.total c.requires.long c.requires.total c.requires.least
    c.in-Some.interface c.if-front-lt24.false
    (ap (capture_fault c.args.total 28) (sym count) ∙ sym c.fault_of.ensures ∙ c.in_default-fault_of.is)
    (g.R.Read.remaining c.args.reader.now) _ captured closed.0 len
    (c.in_ok-read_data.ensures.len ∙ count) closed.2 closed.1))
