use Rattle.std.proofs.Common.{sym, ap, ◌∙◌}
use Rattle.at_capture.proofs.RoleLemmas.{no_role, one_role}
use Rattle.at_capture.specs.Questions.{lookup_role}
use Rattle.at_capture.specs.Roles.{LookupRole}
use Rattle.at_nbp.specs.Packets.{packet_content}
use Rattle.at_capture.proofs.roles.role_in_lookup.Goals as goal

pub returns-in-Ok : goal.returns-in-Ok
returns-in-Ok c =
    let to = c.args.to in
    let is = c.lookup_role.ensures in
    one_role (LookupRole to c.args.bytes.now) c.lookup_role.result
    (record { packet = packet_content c.in-Ok.packet; rest = _; begins = c.in-Ok.ensures.found; is = is })
    (λ o h. is ∙ ap (lookup_role to) (c.in-Ok.ensures.only h.packet h.rest h.begins).0 ∙ sym h.is)

pub returns-in-Err : goal.returns-in-Err
returns-in-Err c = no_role (LookupRole c.args.to c.args.bytes.now)
    (λ r h. c.in-Err.ensures.only h.packet h.rest h.begins)
