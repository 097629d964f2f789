use Rattle.at_capture.proofs.RoleLemmas.{in_frame, no_role}
use Rattle.at_capture.specs.Frames.{content}
use Rattle.at_capture.specs.Roles.{PlaysRole}
use Rattle.at_frames.specs.Carried.{load_of}
use Rattle.at_capture.proofs.roles.role_of.Goals as goal

pub returns-in-Ok : goal.returns-in-Ok
returns-in-Ok c = in_frame (content c.args.frame) (load_of c.in-Ok.carried) c.role_in.result c.in-Ok.ensures.found
    c.in-Ok.ensures.only c.role_in.ensures

pub returns-in-Err : goal.returns-in-Err
returns-in-Err c = no_role (PlaysRole (content c.args.frame)) (λ r h. c.in-Err.ensures.only h.load h.carries)
