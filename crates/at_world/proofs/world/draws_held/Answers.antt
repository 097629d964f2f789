use Rattle.std.proofs.Common.{◌≡◌, ◌∙◌, Some, sym, ap, arith}
use Rattle.at_ddp.proofs.TableLemmas.{found}
use Rattle.at_node.specs.Nodes.{NodeState}
use Rattle.at_nodes.specs.Nodes.{is_numbered}
use Rattle.at_world.proofs.WorldLemmas.{free_at, held_at}
use Rattle.at_world.proofs.world.draws_held.Goals as goal

pub bounds-nodes-place : goal.bounds-nodes-place
bounds-nodes-place g c = (found (is_numbered c.args.node) c.args.nodes.now c.args.place c.requires).within

pub offset_bounds-nodes-place : goal.offset_bounds-nodes-place
offset_bounds-nodes-place g c =
    omega (arith, (found (is_numbered c.args.node) c.args.nodes.now c.args.place c.requires).within)

pub returns-clause-held : goal.returns-clause-held
returns-clause-held g c = λ held.
    let f = found (is_numbered c.args.node) c.args.nodes.now c.args.place c.requires in
    let given = c.index-nodes-place.result in
    let same : given ≡ f.entry = c.index-nodes-place.is ∙ f.at given in
    held_at g.row.A.Denot c.args.nodes.now c.args.node c.args.input.now given c.draw_of-draw.result
    (f.first ∙ ap (λ (n : NodeState). Some n) (sym same)) c.draw_of-draw.ensures.found (sym held ∙ c.is_held.ensures)

pub returns-clause-free : goal.returns-clause-free
returns-clause-free g c = λ free.
    let f = found (is_numbered c.args.node) c.args.nodes.now c.args.place c.requires in
    let given = c.index-nodes-place.result in
    let same : given ≡ f.entry = c.index-nodes-place.is ∙ f.at given in
    free_at g.row.A.Denot c.args.nodes.now c.args.node c.args.input.now given c.draw_of-draw.result
    (f.first ∙ ap (λ (n : NodeState). Some n) (sym same)) c.draw_of-draw.ensures.only (sym free ∙ c.is_held.ensures)
