use Rattle.std.proofs.Common.{lit<, subst, sym}
use Rattle.at_ddp.specs.Datagram.{Content as Datagram}
use Rattle.at_node.specs.Numbers.{CarriesNumber}
use Rattle.at_node.proofs.BodyLemmas.{adsp_of, atp_of, nbp_of}
use Rattle.at_node.proofs.NumberLemmas.{is_first}
use Rattle.at_event.proofs.OutcomeLemmas.{when_some}
use Rattle.at_node.proofs.numbers.numbers_in.Goals as goal

pub returns-in-Atp : goal.returns-in-Atp
returns-in-Atp c node draw =
    let d : Datagram = c.in-Atp.packet in
    let its = atp_of c.args.body.now d c.in-Atp.is c.requires in (
      (λ h. subst (λ d. CarriesNumber d node draw) (sym its.0)
          (when_some c.tid_in.result (node, draw) (λ r. CarriesNumber d r.0 r.1)
          (is_first c.tid_in.result (node, draw) h) c.tid_in.ensures.found)),
      (λ h. (0, lit< tt, c.tid_in.ensures.only node draw (subst (λ d. CarriesNumber d node draw) its.0 h))),
    )

pub returns-in-Nbp : goal.returns-in-Nbp
returns-in-Nbp c node draw =
    let d : Datagram = c.in-Nbp.packet in
    let its = nbp_of c.args.body.now d c.in-Nbp.is c.requires in (
      (λ h. subst (λ d. CarriesNumber d node draw) (sym its.0)
          (when_some c.lookup_in.result (node, draw) (λ r. CarriesNumber d r.0 r.1)
          (is_first c.lookup_in.result (node, draw) h) c.lookup_in.ensures.found)),
      (λ h. (0, lit< tt, c.lookup_in.ensures.only node draw (subst (λ d. CarriesNumber d node draw) its.0 h))),
    )

pub returns-in-Adsp : goal.returns-in-Adsp
returns-in-Adsp c node draw =
    let d : Datagram = c.in-Adsp.packet in
    let its = adsp_of c.args.body.now d c.in-Adsp.is c.requires in
    let both = c.ends_in.ensures node draw in (
      (λ h. subst (λ d. CarriesNumber d node draw) (sym its.0) (both.0 h)),
      (λ h. both.1 (subst (λ d. CarriesNumber d node draw) its.0 h)),
    )
