use Rattle.at_call_words.proofs.ItemLemmas.{bad_block, last_bytes, last_refused, next_bytes, no_bytes}
use Rattle.at_call_words.proofs.WordLemmas.{exit_of, lack_told}
use Rattle.at_call_words.proofs.call.items.push_bytes.Goals as goal

pub loop-block-init : goal.loop-block-init
loop-block-init g c = no_bytes c.args.digits.now c.args.items.now.items

pub loop-block-preserved : goal.loop-block-preserved
loop-block-preserved g c =
    let split = c.in-Some.ensures.cases in
    let said = c.in_ok-push_block.ensures.said in
    next_bytes c.args.digits.now c.loop-block.rest.now c.in-Some.block.now c.in-Some.after.now c.args.items.now.items
    c.loop-block.items.items c.push_block.new.items.items said.0
    c.loop-block.invariant split.1 split.2 split.0 said.1 said.2

pub returns-in_err-push_block-clause-only : goal.returns-in_err-push_block-clause-only
returns-in_err-push_block-clause-only g c =
    let split = c.in-Some.ensures.cases in
    lack_told _ _ c.push_block.result c.from_residual.result c.in_err-push_block.field-0.0 c.in_err-push_block.was
    (exit_of c.from_residual.result _ c.from_residual.ensures.1) c.push_block.ensures.only
    (bad_block c.args.digits.now c.loop-block.rest.now c.in-Some.block.now c.in-Some.after.now c.args.items.now.items
    c.loop-block.items.items c.loop-block.invariant split.1 split.2 split.0)

pub returns-clause-said : goal.returns-clause-said
returns-clause-said g c =
    last_bytes c.args.digits.now c.loop-block.rest.now c.args.items.now.items c.loop-block.items.items
    c.push_block-2.new.items.items c.loop-block.invariant c.push_block-2.result c.push_block-2.ensures.said

pub returns-clause-only : goal.returns-clause-only
returns-clause-only g c =
    last_refused c.args.digits.now c.loop-block.rest.now c.args.items.now.items c.loop-block.items.items
    c.loop-block.invariant c.push_block-2.result c.push_block-2.ensures.only
