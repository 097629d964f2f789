use Rattle.std.proofs.Common.{ap, map, ◌∙◌}
use Rattle.at_drive.specs.Drives.{Driven, number_of}
use Rattle.at_drive.specs.Steps.{stands_in}
use Rattle.at_drive.proofs.stepping.Drive.has.Goals as goal

pub returns : goal.returns
returns g c =
    c.has_node.ensures ∙ ap (λ l. stands_in (map number_of l) c.args.number) c.deref.ensures.value
    ∙ ap (λ (d : Driven). stands_in (map number_of d.nodes) c.args.number) c.self.view_is
