use Rattle.std.proofs.Common.{◌∙◌, map, sym, ap, subst}
use Rattle.at_drive.specs.Drives.{Driven as Nodes, number_of as node_number, opening_nodes_of}
use Rattle.at_drive.specs.Steps.{numbers_of}
use Rattle.at_drive_text.specs.Driven.{WasRead}
use Rattle.at_drive_text.proofs.CourseMoves.{not_opened}
use Rattle.at_drive_text.proofs.TellsLemmas.{begin_numbers}
use Rattle.at_drive_text.proofs.drive.drive_opened.Goals as goal

pub returns-in_default-clause-goes : goal.returns-in_default-clause-goes
returns-in_default-clause-goes g c =
    not_opened g.C.Cable.sends g.C.Cable.receives g.W.Paper.page g.E.Paper.page c.args.setup.now
    (g.L.Lines.left c.args.lines.now) g.L.Lines.may_fail (opening_nodes_of c.args.setup.now) c.args.cable.now
    c.args.diagnostics.now c.args.printer.now

pub drive_each-driven-requires-clause-nodes : goal.drive_each-driven-requires-clause-nodes
drive_each-driven-requires-clause-nodes g c = ap (λ (d : Nodes). map node_number d.nodes) c.in-Ok.ensures
    ∙ begin_numbers c.args.setup.now ∙ ap numbers_of (sym c.new-course.ensures.0)

pub drive_each-driven-requires-clause-read : goal.drive_each-driven-requires-clause-read
drive_each-driven-requires-clause-read g c =
    subst (λ s. WasRead s (g.L.Lines.left c.args.lines.now) g.L.Lines.may_fail) (sym c.new-course.ensures.0) c.requires
