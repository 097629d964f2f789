use Rattle.std.proofs.Common.{◌≡◌, ℕ, List, Some, inl, inr, refl, ◌∙◌}
use Rattle.at_ddp.specs.Fault as ddp
use Rattle.at_ddp.specs.declared.fault.DdpFault.{DdpFault}
use Rattle.at_ddp.specs.declared.fault.DdpFault.TheVariants as ddps
use Rattle.at_packet.specs.Bodies.{datagram_of}
use Rattle.at_node.specs.Hearing.{Hears, HearsIt}
use Rattle.at_event.specs.declared.service.Reply.TheVariants.{Later}
use Rattle.at_event.proofs.OutcomeLemmas.{comes_refused, comes_wider}
use Rattle.at_event.proofs.ServedLemmas.{not_served}
use Rattle.at_node.proofs.node.Node.hear.Goals as goal

-- each fault that stands has a number
ddp_number : (f : DdpFault) (input : List ℕ) → ddp.IsFirstFault f input → (n : ℕ) × (ddp.number_of f ≡ Some n)
ddp_number ddps.Short input h = (1, refl)
ddp_number ddps.BadLength input h = (2, refl)
ddp_number ddps.Truncated input h = (3, refl)
ddp_number ddps.BadSum input h = (4, refl)
ddp_number ddps.TooLong input h = (5, refl)
ddp_number ddps.NoMemory input h = absurd h.stands

pub returns-in-Err : goal.returns-in-Err
returns-in-Err g c =
    let number = ddp_number c.in-Err.fault c.args.packet.now c.in-Err.ensures.fault in (
      Later,
      comes_refused (Hears Later c.args.self.now c.args.packet.now) c.args.self.now c.args.out.now.items
          c.refused.result c.number.result number.0 (c.number.ensures ∙ number.1) c.refused.ensures.report
          (inr (record {
            fault = c.in-Err.fault;
            number = number.0;
            first = c.in-Err.ensures.fault;
            numbered = number.1;
            outcome = refl;
          })),
      not_served _ c.refused.result Later c.args.service.now c.refused.ensures.not_asked,
    )

pub returns-in-Ok : goal.returns-in-Ok
returns-in-Ok g c =
    let r = c.hear_body.ensures in (
      r.0,
      comes_wider (HearsIt r.0 c.args.self.now (datagram_of c.in-Ok.body.now))
          (Hears r.0 c.args.self.now c.args.packet.now) c.args.self.now c.args.out.now.items c.hear_body.result
          c.hear_body.new.self c.hear_body.new.out.items
          (λ o p. inl (record {
            datagram = datagram_of c.in-Ok.body.now;
            rest = c.in-Ok.ensures.found.0;
            begins = c.in-Ok.ensures.found.1;
            outcome = p;
          })) r.1,
      r.2,
    )
