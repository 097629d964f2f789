use Rattle.std.proofs.Common.{subst, sym, ◌∙◌}
use Rattle.at_ddp.specs.Datagram.{BeginsWith}
use Rattle.at_packet.proofs.packet.decoded.Goals as goal

pub returns-in-Ok : goal.returns-in-Ok
returns-in-Ok c =
    let is = c.of.ensures.datagram in
    let rest = c.in-Ok.field-0-1.now in
    record {
      found = (rest, subst (λ d. BeginsWith c.args.bytes.now d rest) (sym is) c.in-Ok.ensures.found);
      protocol = c.of.ensures.protocol;
      only = λ d rest begins. is ∙ (c.in-Ok.ensures.only d rest begins).0;
      fault = record {};
    }

pub returns-in-Err : goal.returns-in-Err
returns-in-Err c = record {
  found = record {};
  protocol = record {};
  only = λ d rest begins. c.in-Err.ensures.only d rest begins;
  fault = c.in-Err.ensures.fault;
}
