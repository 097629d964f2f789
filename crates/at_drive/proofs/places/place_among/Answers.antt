use Rattle.std.proofs.Common.{sym, ◌∙◌}
use Rattle.at_ddp.proofs.TableLemmas.{not_found}
use Rattle.at_nodes.specs.Nodes.{is_numbered}
use Rattle.at_drive.proofs.NodeLemmas.{some_stands}
use Rattle.at_drive.proofs.places.place_among.Goals as goal

pub unreachable-requires : goal.unreachable-requires
unreachable-requires g c =
    some_stands c.args.number c.args.nodes.now c.requires
    (not_found (is_numbered c.args.number) 0 c.args.nodes.now (sym c.place_of.ensures ∙ c.in-None.is))
