use Rattle.std.proofs.Common.{◌≡◌, ◌∙◌, ap, Ok}
use Rattle.std.proofs.lemmas.List.{take_rest}
use Rattle.at_pcap.specs.Blocks.{two_at}
use Rattle.at_pcap.specs.Orders.{number_in}
use Rattle.at_pcap.proofs.OptionValues.{passed_cut, passed_found}
use Rattle.at_pcap.proofs.options.read_other.Goals as goal

pub returns-then-not-branch-clause-fault : goal.returns-then-not-branch-clause-fault
returns-then-not-branch-clause-fault g c =
    let o = c.args.order in
    let head = c.args.head.now in
    let n : c.from.result ≡ two_at o 2 head =
    c.from.ensures ∙ c.read_u16.ensures ∙ ap (number_in o 2) (take_rest head 2) in
    let cut = c.in_ok-pass_over.ensures.cut (ap Ok c.if-not-branch.true) in
    passed_cut o c.args.resolution head c.from.result c.requires n _ cut.0 cut.1 cut.2

pub returns-clause-found : goal.returns-clause-found
returns-clause-found g c =
    let o = c.args.order in
    let head = c.args.head.now in
    let n : c.from.result ≡ two_at o 2 head =
    c.from.ensures ∙ c.read_u16.ensures ∙ ap (number_in o 2) (take_rest head 2) in
    let whole = c.in_ok-pass_over.ensures.whole (ap Ok c.if-not-branch.false) in
    passed_found o c.args.resolution head c.from.result c.requires n _ _ whole.0 whole.1 whole.2
