use Rattle.std.proofs.Common.{◌≡◌, ◌∙◌, sym, arith}
use Rattle.at_pcap.specs.Blocks.{passed_in, resolution_in, two_at}
use Rattle.at_pcap.proofs.OptionLemmas.{break_of, is_other, is_resolution, length_in, option_end, option_over}
use Rattle.at_pcap.proofs.OptionLemmas.{option_short, part_of, sized_part}
use Rattle.at_pcap.proofs.options.read_option.Goals as goal

pub returns-then-len-lt-OPTION_LEN-clause-fault : goal.returns-then-len-lt-OPTION_LEN-clause-fault
returns-then-len-lt-OPTION_LEN-clause-fault g c =
    let o = c.args.order in
    let read = c.in_ok-len.ensures in
    let buffer = c.fill.new.buffer in
    let n = c.in_ok-len.len in
    let len = c.fill.auto.buffer in
    option_short o c.args.left c.args.resolution _ _ buffer n read.bound read.bytes
    (read.end (omega (arith, len, c.if-len-lt-OPTION_LEN.true))) c.if-len-lt-OPTION_LEN.true

pub returns-then-code-eq-END-clause-found : goal.returns-then-code-eq-END-clause-found
returns-then-code-eq-END-clause-found g c =
    let o = c.args.order in
    let read = c.in_ok-len.ensures in
    let buffer = c.fill.new.buffer in
    let n = c.in_ok-len.len in
    let len = c.fill.auto.buffer in
    option_end o c.args.left c.args.resolution _ _ buffer n read.bound read.bytes c.if-len-lt-OPTION_LEN.false len
    (sym c.read_u16-code.ensures ∙ c.if-code-eq-END.true)

pub returns-then-left-value_len-clause-fault : goal.returns-then-left-value_len-clause-fault
returns-then-left-value_len-clause-fault g c =
    let o = c.args.order in
    let read = c.in_ok-len.ensures in
    let buffer = c.fill.new.buffer in
    let n = c.in_ok-len.len in
    let len = c.fill.auto.buffer in
    let m : c.from-value_len.result ≡ two_at o 2 buffer =
    c.from-value_len.ensures ∙ c.read_u16.ensures ∙ length_in o buffer len in
    let less = c.if-left-value_len.true in
    option_over o c.args.left c.args.resolution _ _ buffer n read.bound read.bytes c.if-len-lt-OPTION_LEN.false len
    (λ e. c.if-code-eq-END.false (c.read_u16-code.ensures ∙ e)) (omega (arith, m, less))

pub returns-then-code-eq-TSRESOL-clause-found : goal.returns-then-code-eq-TSRESOL-clause-found
returns-then-code-eq-TSRESOL-clause-found g c =
    let o = c.args.order in
    let read = c.in_ok-len.ensures in
    let buffer = c.fill.new.buffer in
    let n = c.in_ok-len.len in
    let len = c.fill.auto.buffer in
    let m : c.from-value_len.result ≡ two_at o 2 buffer =
    c.from-value_len.ensures ∙ c.read_u16.ensures ∙ length_in o buffer len in
    let more = c.if-left-value_len.false in
    part_of o c.args.left c.args.resolution _ _ buffer n read.bound read.bytes c.if-len-lt-OPTION_LEN.false len
    (resolution_in o) _ c.read_resolution.result
    (is_resolution o c.args.left c.args.resolution _ _ buffer n read.bound read.bytes c.if-len-lt-OPTION_LEN.false len
    (λ e. c.if-code-eq-END.false (c.read_u16-code.ensures ∙ e)) (omega (arith, m, more))
    (sym c.read_u16-code.ensures ∙ c.if-code-eq-TSRESOL.true))
    (sized_part (resolution_in o) _ _ buffer c.read_resolution.result c.read_resolution.ensures.size
    c.read_resolution.ensures.found)

pub returns-then-code-eq-TSRESOL-clause-fault : goal.returns-then-code-eq-TSRESOL-clause-fault
returns-then-code-eq-TSRESOL-clause-fault g c =
    let o = c.args.order in
    let read = c.in_ok-len.ensures in
    let buffer = c.fill.new.buffer in
    let n = c.in_ok-len.len in
    let len = c.fill.auto.buffer in
    let m : c.from-value_len.result ≡ two_at o 2 buffer =
    c.from-value_len.ensures ∙ c.read_u16.ensures ∙ length_in o buffer len in
    let more = c.if-left-value_len.false in
    break_of o c.args.left c.args.resolution _ _ buffer n read.bound read.bytes c.if-len-lt-OPTION_LEN.false len
    (resolution_in o) c.read_resolution.result
    (is_resolution o c.args.left c.args.resolution _ _ buffer n read.bound read.bytes c.if-len-lt-OPTION_LEN.false len
    (λ e. c.if-code-eq-END.false (c.read_u16-code.ensures ∙ e)) (omega (arith, m, more))
    (sym c.read_u16-code.ensures ∙ c.if-code-eq-TSRESOL.true)) c.read_resolution.ensures.fault

pub returns-clause-found : goal.returns-clause-found
returns-clause-found g c =
    let o = c.args.order in
    let read = c.in_ok-len.ensures in
    let buffer = c.fill.new.buffer in
    let n = c.in_ok-len.len in
    let len = c.fill.auto.buffer in
    let m : c.from-value_len.result ≡ two_at o 2 buffer =
    c.from-value_len.ensures ∙ c.read_u16.ensures ∙ length_in o buffer len in
    let more = c.if-left-value_len.false in
    part_of o c.args.left c.args.resolution _ _ buffer n read.bound read.bytes c.if-len-lt-OPTION_LEN.false len
    (passed_in o c.args.resolution) _ c.read_other.result
    (is_other o c.args.left c.args.resolution _ _ buffer n read.bound read.bytes c.if-len-lt-OPTION_LEN.false len
    (λ e. c.if-code-eq-END.false (c.read_u16-code.ensures ∙ e)) (omega (arith, m, more))
    (λ e. c.if-code-eq-TSRESOL.false (c.read_u16-code.ensures ∙ e))) c.read_other.ensures.found

pub returns-clause-fault : goal.returns-clause-fault
returns-clause-fault g c =
    let o = c.args.order in
    let read = c.in_ok-len.ensures in
    let buffer = c.fill.new.buffer in
    let n = c.in_ok-len.len in
    let len = c.fill.auto.buffer in
    let m : c.from-value_len.result ≡ two_at o 2 buffer =
    c.from-value_len.ensures ∙ c.read_u16.ensures ∙ length_in o buffer len in
    let more = c.if-left-value_len.false in
    break_of o c.args.left c.args.resolution _ _ buffer n read.bound read.bytes c.if-len-lt-OPTION_LEN.false len
    (passed_in o c.args.resolution) c.read_other.result
    (is_other o c.args.left c.args.resolution _ _ buffer n read.bound read.bytes c.if-len-lt-OPTION_LEN.false len
    (λ e. c.if-code-eq-END.false (c.read_u16-code.ensures ∙ e)) (omega (arith, m, more))
    (λ e. c.if-code-eq-TSRESOL.false (c.read_u16-code.ensures ∙ e))) c.read_other.ensures.fault
