use Rattle.std.proofs.Common.{sym, ◌∙◌}
use Rattle.std.proofs.lemmas.Bool.{false≢true}
use Rattle.at_setup_lines.proofs.RuleLemmas.{begin_with, none_is, number_if, router_if, some_is, zones_if}
use Rattle.at_setup_lines.proofs.nodes.rule_broken_by.Goals as goal

pub returns-then-has_number-clause-broken : goal.returns-then-has_number-clause-broken
returns-then-has_number-clause-broken c = λ _ b.
    false≢true (sym (number_if c.args.nodes.now c.args.node.now b) ∙ sym c.has_number.ensures ∙ c.if-has_number.true)

pub returns-then-not-fits_zones-clause-broken : goal.returns-then-not-fits_zones-clause-broken
returns-then-not-fits_zones-clause-broken c = λ _ b.
    false≢true (sym c.if-not-fits_zones.true ∙ c.fits_zones.ensures ∙ zones_if c.args.nodes.now c.args.node.now b)

pub returns-else-not-fits_zones-clause-fits : goal.returns-else-not-fits_zones-clause-fits
returns-else-not-fits_zones-clause-fits c = λ none b node.
    begin_with c.args.nodes.now c.args.node.now b node c.if-nodes-ge-MAX_NODES.false
    (sym c.has_number.ensures ∙ c.if-has_number.false)
    (sym c.fits_zones.ensures ∙ c.if-not-fits_zones.false)
    (sym c.router_rule_broken_by.ensures ∙ none_is c.router_rule_broken_by.result none)

pub returns-else-not-fits_zones-clause-broken : goal.returns-else-not-fits_zones-clause-broken
returns-else-not-fits_zones-clause-broken c = λ some b.
    false≢true (sym (some_is c.router_rule_broken_by.result some) ∙ c.router_rule_broken_by.ensures
    ∙ router_if c.args.nodes.now c.args.node.now b)
