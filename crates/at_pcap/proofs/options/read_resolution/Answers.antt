use Rattle.std.proofs.Common.{◌≡◌, ◌∙◌, ap, sym, arith}
use Rattle.std.proofs.lemmas.List.{take_rest}
use Rattle.at_pcap.specs.Blocks.{two_at}
use Rattle.at_pcap.specs.Orders.{number_in}
use Rattle.at_pcap.proofs.OptionValues.{resolution_absent, resolution_cut, resolution_found, resolution_out}
use Rattle.at_pcap.proofs.OptionValues.{resolution_unsized}
use Rattle.at_pcap.proofs.options.read_resolution.Goals as goal

pub returns-then-read_u16-ne1-clause-fault : goal.returns-then-read_u16-ne1-clause-fault
returns-then-read_u16-ne1-clause-fault g c =
    let o = c.args.order in
    let head = c.args.head.now in
    resolution_unsized o head c.requires _
    (λ e. c.if-read_u16-ne1.true (c.read_u16.ensures ∙ ap (number_in o 2) (take_rest head 2) ∙ e))

pub returns-then-len-lt1-clause-fault : goal.returns-then-len-lt1-clause-fault
returns-then-len-lt1-clause-fault g c =
    let o = c.args.order in
    let head = c.args.head.now in
    let one : two_at o 2 head ≡ 1 =
    sym (c.read_u16.ensures ∙ ap (number_in o 2) (take_rest head 2)) ∙ c.if-read_u16-ne1.false in
    let read = c.in_ok-len.ensures in
    resolution_absent o head c.requires one _ _ c.fill.new.buffer c.in_ok-len.len read.bound read.bytes
    (read.end (omega (arith, c.fill.auto.buffer))) c.if-len-lt1.true

pub returns-in_default-clause-fault : goal.returns-in_default-clause-fault
returns-in_default-clause-fault g c =
    let o = c.args.order in
    let head = c.args.head.now in
    let one : two_at o 2 head ≡ 1 =
    sym (c.read_u16.ensures ∙ ap (number_in o 2) (take_rest head 2)) ∙ c.if-read_u16-ne1.false in
    let read = c.in_ok-len.ensures in
    resolution_out o head c.requires one _ _ c.fill.new.buffer c.in_ok-len.len read.bound read.bytes
    c.if-len-lt1.false (sym c.in_default.ensures)

pub returns-then-len-lt4-clause-fault : goal.returns-then-len-lt4-clause-fault
returns-then-len-lt4-clause-fault g c =
    let o = c.args.order in
    let head = c.args.head.now in
    let one : two_at o 2 head ≡ 1 =
    sym (c.read_u16.ensures ∙ ap (number_in o 2) (take_rest head 2)) ∙ c.if-read_u16-ne1.false in
    let read = c.in_ok-len.ensures in
    resolution_cut o head c.requires one _ _ c.fill.new.buffer c.in_ok-len.len read.bound read.bytes
    (read.end (omega (arith, c.fill.auto.buffer))) c.if-len-lt1.false c.if-len-lt4.true c.in-Some.resolution
    (sym c.in-Some.ensures)

pub returns-clause-found : goal.returns-clause-found
returns-clause-found g c =
    let o = c.args.order in
    let head = c.args.head.now in
    let one : two_at o 2 head ≡ 1 =
    sym (c.read_u16.ensures ∙ ap (number_in o 2) (take_rest head 2)) ∙ c.if-read_u16-ne1.false in
    let read = c.in_ok-len.ensures in
    resolution_found o head c.requires one _ _ c.fill.new.buffer c.in_ok-len.len read.bound read.bytes
    (omega (arith, c.fill.auto.buffer, read.bound)) c.in-Some.resolution (sym c.in-Some.ensures)
