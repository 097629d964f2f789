use Rattle.std.proofs.Common.{subst, sym, ◌∙◌}
use Rattle.at_capture.proofs.AskedLemmas.{takes_answer, takes_asker, takes_other}
use Rattle.at_capture.specs.Asked.{IsAnswered}
use Rattle.at_capture.specs.Roles.{IsRole, PlaysRole}
use Rattle.at_capture.proofs.asked.take_role.Goals as goal

pub returns-in_ok-insert-in-Asks-clause-taken : goal.returns-in_ok-insert-in-Asks-clause-taken
returns-in_ok-insert-in-Asks-clause-taken g c before f recalls role here =
    takes_asker before f c.args.asked.now recalls c.insert.new.self c.in-Asks.question c.args.number
    (subst (IsRole (PlaysRole f)) c.in-Asks.is role) here c.in_ok-insert-in-Asks.ensures.updates

pub returns-in-Answers-clause-taken : goal.returns-in-Answers-clause-taken
returns-in-Answers-clause-taken g c before f recalls role here =
    let taken = takes_answer before f c.args.asked.now recalls c.in-Answers.question
    (subst (IsRole (PlaysRole f)) c.in-Answers.is role) in
    (subst (IsAnswered before f) (sym (c.copied.ensures ∙ c.get.ensures.value)) taken.0, taken.1)

pub returns-in-Neither-clause-taken : goal.returns-in-Neither-clause-taken
returns-in-Neither-clause-taken g c before f recalls role here =
    takes_other before f c.args.asked.now recalls (subst (IsRole (PlaysRole f)) c.in-Neither.is role)
