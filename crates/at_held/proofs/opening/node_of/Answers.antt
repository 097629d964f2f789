use Rattle.std.proofs.Common.{Some, subst}
use Rattle.std.specs.declared.alloc.Global.{Global}
use Rattle.at_schedule.specs.Drafts.{IsLineFault}
use Rattle.at_held.proofs.OpeningLemmas.{no_schedule}
use Rattle.at_held.proofs.opening.node_of.Goals as goal

pub returns-in-Err-Line-clause-fault : goal.returns-in-Err-Line-clause-fault
returns-in-Err-Line-clause-fault c =
    no_schedule c.args.text.now c.in-Err-Line.field-0-0
    (subst (IsLineFault Global (Some c.args.text.now)) c.in-Err-Line.field-0-is c.in-Err-Line.ensures.fault)
