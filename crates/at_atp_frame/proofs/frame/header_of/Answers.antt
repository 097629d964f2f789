use Rattle.std.proofs.Common.{refl}
use Rattle.at_atp_frame.specs.Frames.{spelled}
use Rattle.at_atp_frame.proofs.FrameLemmas.{bool_bit}
use Rattle.at_atp_frame.proofs.frame.header_of.Goals as goal

pub returns-in-Request : goal.returns-in-Request
unfolding spelled
returns-in-Request c = rw (c.in-Request.is, c.header.ensures, c.from.ensures, bool_bit) refl

pub returns-in-Response : goal.returns-in-Response
unfolding spelled
returns-in-Response c = rw (
  c.in-Response.is,
  c.header-in-Response.ensures,
  c.from-in-Response.ensures,
  c.from-in-Response-2.ensures,
  bool_bit
      c.in-Response.eom,
  bool_bit c.in-Response.sts,
) refl

pub returns-in-Release : goal.returns-in-Release
unfolding spelled
returns-in-Release c = rw (c.in-Release.is, c.header-in-Release.ensures) refl
