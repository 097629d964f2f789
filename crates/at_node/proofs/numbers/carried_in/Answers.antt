use Rattle.std.proofs.Common.{sym, subst}
use Rattle.at_packet.specs.Bodies.{datagram_of}
use Rattle.at_node.specs.Numbers.{CarriesNumber}
use Rattle.at_node.proofs.NumberLemmas.{is_nowhere}
use Rattle.at_node.proofs.numbers.carried_in.Goals as goal

pub returns-in-Err : goal.returns-in-Err
returns-in-Err c node draw =
    (λ h. absurd (is_nowhere (node, draw) h), λ h. absurd (c.in-Err.ensures.only h.datagram h.rest h.begins))

pub returns-in-Ok : goal.returns-in-Ok
returns-in-Ok c node draw =
    let both = c.numbers_in.ensures node draw in (
      (λ h. record {
        datagram = datagram_of c.in-Ok.body.now;
        rest = c.in-Ok.ensures.found.0;
        begins = c.in-Ok.ensures.found.1;
        number = both.0 h;
      }),
      (λ h.
          let same = c.in-Ok.ensures.only h.datagram h.rest h.begins in
          both.1 (subst (λ d. CarriesNumber d node draw) (sym same) h.number)),
    )
