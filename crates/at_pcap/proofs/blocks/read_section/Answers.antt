use Rattle.std.proofs.Common.{◌≡◌, ◌≤◌, ◌∙◌, sym, ap, arith, length, subst}
use Rattle.std.specs.Prelude.{None}
use Rattle.std.proofs.lemmas.List.{take_rest}
use Rattle.std.proofs.lemmas.Result.{err_from_is_err_and}
use Rattle.at_pcap.specs.Blocks.{section_in, two_at}
use Rattle.at_pcap.specs.Orders.{number_in}
use Rattle.at_pcap.specs.Steps.{Completes}
use Rattle.at_pcap.specs.declared.fault.CaptureFault.TheVariants.{CutCapture}
use Rattle.at_pcap.proofs.SectionLemmas.{section_cut, section_short, section_unclosed, section_unordered}
use Rattle.at_pcap.proofs.SectionLemmas.{section_unsized}
use Rattle.at_pcap.proofs.SectionLemmas.{section_versioned, section_whole}
use Rattle.at_pcap.proofs.RuleLemmas.{breaks_end, unclosed}
use Rattle.at_pcap.proofs.blocks.read_section.Goals as goal
use Rattle.at_pcap.proofs.blocks.read_section.Goals.{else-front-ge14-via-then-front-ge14+else-read_u16-ne1}
use Rattle.at_pcap.proofs.blocks.read_section.Goals.{else-front-ge14-via-else-front-ge14}

pub returns-then-front-lt12 : goal.returns-then-front-lt12
returns-then-front-lt12 g c captured =
    let short = c.if-front-lt12.true in
    breaks_end section_in _ c.args.front.now CutCapture (c.requires.short (omega arith))
    (section_cut c.args.front.now short)

pub returns-in_default : goal.returns-in_default
returns-in_default g c captured =
    section_unordered _ c.args.front.now c.if-front-lt12.false (sym c.in_default.ensures)

pub returns-in_default-sized : goal.returns-in_default-sized
returns-in_default-sized g c captured =
    section_unsized c.args.front.now c.in-Some.order c.if-front-lt12.false (sym c.in-Some.ensures) _
    c.in_default-sized.ensures.none

pub returns-then-read_u16-ne1 : goal.returns-then-read_u16-ne1
returns-then-read_u16-ne1 g c captured =
    let front = c.args.front.now in
    let o = c.in-Some.order in
    let total = c.in-Some-sized.ensures.some in
    section_versioned front o c.if-front-lt12.false (sym c.in-Some.ensures) c.in-Some-sized.total total.0 total.1
    total.2 _ c.if-front-ge14.true
    (λ e. c.if-read_u16-ne1.true (c.read_u16.ensures ∙ ap (number_in o 2) (take_rest front 12) ∙ e))

pub returns-then-front-lt-SECTION_LEN : goal.returns-then-front-lt-SECTION_LEN
returns-then-front-lt-SECTION_LEN g c captured =
    let front = c.args.front.now in
    let o = c.in-Some.order in
    let total = c.in-Some-sized.ensures.some in
    let one : 14 ≤ length front → two_at o 12 front ≡ 1 =
    elim c.else-front-ge14.branch [
      | else-front-ge14-via-then-front-ge14+else-read_u16-ne1 w ↦ λ there. sym (w.read_u16.ensures
          ∙ ap (number_in o 2) (take_rest front 12)) ∙ w.if-read_u16-ne1.false
      | else-front-ge14-via-else-front-ge14 w ↦ λ there. absurd (omega arith)
    ] in
    section_short front o c.if-front-lt12.false (sym c.in-Some.ensures) c.in-Some-sized.total total.0 total.1
    total.2 _ (c.requires.short c.if-front-lt-SECTION_LEN.true) c.if-front-lt-SECTION_LEN.true one

pub returns-in_err-close : goal.returns-in_err-close
returns-in_err-close g c captured =
    let front = c.args.front.now in
    let o = c.in-Some.order in
    let total = c.in-Some-sized.ensures.some in
    let len : length front ≡ 24 = omega (arith, c.requires.fits, c.if-front-lt-SECTION_LEN.false) in
    let one : two_at o 12 front ≡ 1 =
    elim c.else-front-ge14.branch [
      | else-front-ge14-via-then-front-ge14+else-read_u16-ne1 w ↦ sym (w.read_u16.ensures
          ∙ ap (number_in o 2) (take_rest front 12)) ∙ w.if-read_u16-ne1.false
      | else-front-ge14-via-else-front-ge14 w ↦ absurd (omega arith)
    ] in
    let p = err_from_is_err_and c.from_residual.result c.from_residual.ensures.1 in
    rw (p.1, p.2)
    (unclosed section_in (g.R.Read.remaining c.args.reader.now) front o c.in-Some-sized.total _ _
    (λ more fault. section_unclosed front o c.if-front-lt12.false (sym c.in-Some.ensures) c.in-Some-sized.total total.0
    total.1 total.2 more fault len one)
    c.in_err-close.ensures.fault)

pub returns : goal.returns
returns g c captured =
    let front = c.args.front.now in
    let o = c.in-Some.order in
    let total = c.in-Some-sized.ensures.some in
    let len : length front ≡ 24 = omega (arith, c.requires.fits, c.if-front-lt-SECTION_LEN.false) in
    let one : two_at o 12 front ≡ 1 =
    elim c.else-front-ge14.branch [
      | else-front-ge14-via-then-front-ge14+else-read_u16-ne1 w ↦ sym (w.read_u16.ensures
          ∙ ap (number_in o 2) (take_rest front 12)) ∙ w.if-read_u16-ne1.false
      | else-front-ge14-via-else-front-ge14 w ↦ absurd (omega arith)
    ] in
    let closed = c.in_ok-close.ensures.closed in
    subst (λ l. Completes section_in (g.R.Read.remaining c.args.reader.now)
    (g.R.Read.remaining c.close.new.reader) front
    (record { section = record { order = o; interfaces = l }; found = None })) (sym c.clear.ensures.items)
    (section_whole front o c.if-front-lt12.false (sym c.in-Some.ensures) c.in-Some-sized.total total.0 total.1 total.2
    (g.R.Read.remaining c.args.reader.now) _ closed.0 len one closed.2 closed.1)
