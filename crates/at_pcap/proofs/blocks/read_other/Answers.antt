use Rattle.std.proofs.lemmas.Result.{err_from_is_err_and}
use Rattle.at_pcap.specs.Blocks.{other_in}
use Rattle.at_pcap.specs.Steps.{section_of}
use Rattle.at_pcap.proofs.BlockLemmas.{other_unclosed, other_unsized, other_whole}
use Rattle.at_pcap.proofs.RuleLemmas.{unclosed}
use Rattle.at_pcap.proofs.blocks.read_other.Goals as goal

pub returns-in_default : goal.returns-in_default
returns-in_default g c captured =
    other_unsized (section_of c.args.section.now) c.args.front.now c.requires _ c.in_default.ensures.none

pub returns-in_err-close : goal.returns-in_err-close
returns-in_err-close g c captured =
    let s = section_of c.args.section.now in
    let front = c.args.front.now in
    let total = c.in-Some.ensures.some in
    let p = err_from_is_err_and c.from_residual.result c.from_residual.ensures.1 in
    rw (p.1, p.2)
    (unclosed (other_in s) _ front s.order c.in-Some.total _ _
    (other_unclosed s front c.requires c.in-Some.total total.0 total.1 total.2 (g.R.Read.remaining c.args.reader.now))
    c.in_err-close.ensures.fault)

pub returns : goal.returns
returns g c captured =
    let s = section_of c.args.section.now in
    let total = c.in-Some.ensures.some in
    let closed = c.in_ok-close.ensures.closed in
    other_whole s c.args.front.now c.requires c.in-Some.total total.0 total.1 total.2 _ _ closed.0 closed.2 closed.1
