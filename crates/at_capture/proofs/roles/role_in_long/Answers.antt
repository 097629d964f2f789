use Rattle.at_capture.proofs.RoleLemmas.{in_bytes, no_role}
use Rattle.at_capture.specs.Roles.{BeginsRole}
use Rattle.at_ddp.specs.Datagram.{content}
use Rattle.at_frames.specs.declared.carried.Header.TheVariants.{Long}
use Rattle.at_capture.proofs.roles.role_in_long.Goals as goal

pub returns-in-Ok : goal.returns-in-Ok
returns-in-Ok c = in_bytes Long c.args.bytes.now (content c.in-Ok.datagram) _ c.role_of_datagram.result
    c.in-Ok.ensures.found c.in-Ok.ensures.only c.role_of_datagram.ensures

pub returns-in-Err : goal.returns-in-Err
returns-in-Err c = no_role (BeginsRole Long c.args.bytes.now)
    (λ r h. c.in-Err.ensures.only h.datagram h.rest h.begins)
