use Rattle.std.proofs.Common.{ap, ◌==◌, ◌∙◌}
use Rattle.std.specs.List.{list_any}
use Rattle.at_drive.proofs.NodeLemmas.{stands_by}
use Rattle.at_drive.proofs.driving.has.Goals as goal

pub returns : goal.returns
returns g c =
    c.is_among.ensures ∙ ap (list_any (λ n. n.node == c.args.number)) c.as_slice.ensures
    ∙ stands_by c.args.number c.args.setup.now.nodes
