use Rattle.std.proofs.Common.{sym, ◌∙◌}
use Rattle.std.proofs.lemmas.List.{take_rest}
use Rattle.at_frames.proofs.TagLemmas.{tagged_step, untagged}
use Rattle.at_frames.proofs.ethernet.after_tags.Goals as goal

pub loop-rest-preserved : goal.loop-rest-preserved
loop-rest-preserved c =
    let rest = c.loop-rest.rest.now in
    rw (take_rest rest 4)
    (sym (tagged_step rest (sym c.is_tagged.ensures ∙ c.loop-rest-test.true)) ∙ c.loop-rest.invariant)

pub returns : goal.returns
returns c =
    sym (untagged c.loop-rest.rest.now (sym c.is_tagged.ensures ∙ c.loop-rest-test.false)) ∙ c.loop-rest.invariant
