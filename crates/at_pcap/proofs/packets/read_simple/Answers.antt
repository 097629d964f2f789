use Rattle.std.proofs.Common.{◌≡◌, ◌∙◌, sym, ap, arith, length, subst}
use Rattle.std.specs.Prelude.{Some, None}
use Rattle.std.proofs.lemmas.List.{take_rest}
use Rattle.std.proofs.lemmas.Result.{err_from_is_err_and}
use Rattle.at_pcap.specs.Blocks.{four_at, simple_count, simple_in}
use Rattle.at_pcap.specs.Orders.{number_in}
use Rattle.at_pcap.specs.Steps.{Completes, capture_fault, section_of}
use Rattle.at_pcap.proofs.SimpleLemmas.{simple_cut, simple_misfit, simple_unclosed, simple_unknown, simple_unsized}
use Rattle.at_pcap.proofs.SimpleLemmas.{simple_whole}
use Rattle.at_pcap.proofs.RuleLemmas.{unclosed}
use Rattle.at_pcap.proofs.packets.read_simple.Goals as goal

pub returns-in_default : goal.returns-in_default
returns-in_default g c =
    simple_unsized (section_of c.args.section.now) c.args.front.now c.requires.long _ c.in_default.ensures.none

pub returns-then-front-lt-SIMPLE_LEN : goal.returns-then-front-lt-SIMPLE_LEN
returns-then-front-lt-SIMPLE_LEN g c =
    let total = c.in-Some.ensures.some in
    let short = c.if-front-lt-SIMPLE_LEN.true in
    simple_cut (section_of c.args.section.now) c.args.front.now c.requires.long c.in-Some.total total.0 total.1
    total.2 _ (c.requires.short short) short

pub returns-in_default-interface_at : goal.returns-in_default-interface_at
returns-in_default-interface_at g c =
    let total = c.in-Some.ensures.some in
    let len : length c.args.front.now ≡ 12 = omega (arith, c.requires.fits, c.if-front-lt-SIMPLE_LEN.false) in
    simple_unknown (section_of c.args.section.now) c.args.front.now c.requires.long c.in-Some.total total.0 total.1
    total.2 len _ (sym c.in_default-interface_at.ensures)

pub returns-in-Some-fault_of : goal.returns-in-Some-fault_of
returns-in-Some-fault_of g c =
    let s = section_of c.args.section.now in
    let front = c.args.front.now in
    let i = c.in-Some-interface_at.interface in
    let total = c.in-Some.ensures.some in
    let len : length front ≡ 12 = omega (arith, c.requires.fits, c.if-front-lt-SIMPLE_LEN.false) in
    let original : c.read_u32-original.result ≡ four_at s.order 8 front =
    c.read_u32-original.ensures ∙ ap (number_in s.order 4) (take_rest front 8) in
    let count : c.simple_count-count.result ≡ simple_count i (four_at s.order 8 front) =
    c.simple_count-count.ensures ∙ ap (simple_count i) original in
    simple_misfit s front c.requires.long c.in-Some.total total.0 total.1 total.2 len i
    (sym c.in-Some-interface_at.ensures) (g.R.Read.remaining c.args.reader.now) c.in-Some-fault_of.fault
    (ap (capture_fault c.in-Some.total 12) (sym count) ∙ sym c.fault_of.ensures ∙ c.in-Some-fault_of.is)

pub returns-in_err-read_data : goal.returns-in_err-read_data
returns-in_err-read_data g c =
    let s = section_of c.args.section.now in
    let front = c.args.front.now in
    let i = c.in-Some-interface_at.interface in
    let total = c.in-Some.ensures.some in
    let len : length front ≡ 12 = omega (arith, c.requires.fits, c.if-front-lt-SIMPLE_LEN.false) in
    let original : c.read_u32-original.result ≡ four_at s.order 8 front =
    c.read_u32-original.ensures ∙ ap (number_in s.order 4) (take_rest front 8) in
    let count : c.simple_count-count.result ≡ simple_count i (four_at s.order 8 front) =
    c.simple_count-count.ensures ∙ ap (simple_count i) original in
    let p = err_from_is_err_and c.from_residual.result c.from_residual.ensures.1 in
    rw (p.1, p.2)
    (unclosed (simple_in s) (g.R.Read.remaining c.args.reader.now) front s.order c.in-Some.total _ _
    (λ more fault. simple_unclosed s front c.requires.long c.in-Some.total total.0 total.1 total.2 len i
    (sym c.in-Some-interface_at.ensures)
    (ap (capture_fault c.in-Some.total 12) (sym count) ∙ sym c.fault_of.ensures ∙ c.in_default-fault_of.is)
    more fault) c.in_err-read_data.ensures.fault)

pub returns : goal.returns
returns g c =
    let s = section_of c.args.section.now in
    let front = c.args.front.now in
    let i = c.in-Some-interface_at.interface in
    let total = c.in-Some.ensures.some in
    let len : length front ≡ 12 = omega (arith, c.requires.fits, c.if-front-lt-SIMPLE_LEN.false) in
    let original : c.read_u32-original.result ≡ four_at s.order 8 front =
    c.read_u32-original.ensures ∙ ap (number_in s.order 4) (take_rest front 8) in
    let count : c.simple_count-count.result ≡ simple_count i (four_at s.order 8 front) =
    c.simple_count-count.ensures ∙ ap (simple_count i) original in
    let captured = c.read_data.new.buffer.items in
    let closed = c.in_ok-read_data.ensures.closed in
    let known = g.R.Read.remaining c.args.reader.now in
    let left = g.R.Read.remaining c.read_data.new.reader in
    subst (λ n. Completes (simple_in s) known left front (record {
      section = s;
      found = Some (record { link_type = i.link_type; time = None; original = n; captured = captured });
    })) (sym original)
    (simple_whole s front c.requires.long c.in-Some.total total.0 total.1 total.2 len i
    (sym c.in-Some-interface_at.ensures)
    (ap (capture_fault c.in-Some.total 12) (sym count) ∙ sym c.fault_of.ensures ∙ c.in_default-fault_of.is)
    known left captured closed.0 (c.in_ok-read_data.ensures.len ∙ count) closed.2 closed.1)
