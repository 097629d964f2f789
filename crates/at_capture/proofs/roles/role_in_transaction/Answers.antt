use Rattle.std.proofs.Common.{sym, ap, ◌∙◌}
use Rattle.at_atp_frame.specs.Frames.{content}
use Rattle.at_capture.proofs.RoleLemmas.{no_role, one_role}
use Rattle.at_capture.specs.Questions.{transaction_role}
use Rattle.at_capture.specs.Roles.{TransactionRole}
use Rattle.at_capture.proofs.roles.role_in_transaction.Goals as goal

pub returns-in-Ok : goal.returns-in-Ok
returns-in-Ok c =
    let from = c.args.from in
    let to = c.args.to in
    let is = c.transaction_role.ensures in
    one_role (TransactionRole from to c.args.bytes.now) c.transaction_role.result
    (record { packet = content c.in-Ok.packet; spelled = c.in-Ok.ensures.found; is = is })
    (λ o h. is ∙ ap (transaction_role from to) (c.in-Ok.ensures.only h.packet h.spelled) ∙ sym h.is)

pub returns-in-Err : goal.returns-in-Err
returns-in-Err c = no_role (TransactionRole c.args.from c.args.to c.args.bytes.now)
    (λ r h. c.in-Err.ensures.only h.packet h.spelled)
