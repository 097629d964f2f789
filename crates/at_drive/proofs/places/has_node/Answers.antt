use Rattle.std.proofs.Common.{sym, ap, ◌∙◌}
use Rattle.std.specs.Prelude.{is_some}
use Rattle.at_ddp.proofs.TableLemmas.{found, not_found}
use Rattle.at_nodes.specs.Nodes.{is_numbered}
use Rattle.at_drive.proofs.NodeLemmas.{stands_found}
use Rattle.at_drive.proofs.places.has_node.Goals as goal

pub returns-in-Some : goal.returns-in-Some
returns-in-Some g c =
    let place = found (is_numbered c.args.number) c.args.nodes.now c.in-Some.field-0
    (sym c.place_of.ensures ∙ c.in-Some.is) in
    sym (stands_found c.args.number c.args.nodes.now ∙ ap is_some place.first)

pub returns-in-None : goal.returns-in-None
returns-in-None g c =
    let none = not_found (is_numbered c.args.number) 0 c.args.nodes.now (sym c.place_of.ensures ∙ c.in-None.is) in
    sym (stands_found c.args.number c.args.nodes.now ∙ ap is_some none)
