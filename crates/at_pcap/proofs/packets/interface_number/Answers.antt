use Rattle.std.proofs.Common.{◌∙◌, ap, drop, inl, inr, sym}
use Rattle.std.proofs.lemmas.List.{take_rest}
use Rattle.at_pcap.specs.Orders.{number_in}
use Rattle.at_pcap.proofs.packets.interface_number.Goals as goal

pub returns-then-width-eq2 : goal.returns-then-width-eq2
returns-then-width-eq2 c =
    let o = c.args.order in
    let front = c.args.front.now in
    c.from.ensures ∙ c.read_u16.ensures ∙ ap (number_in o 2) (take_rest front 8)
    ∙ ap (λ n. number_in o n (drop 8 front)) (sym c.if-width-eq2.true)

pub returns-else-width-eq2 : goal.returns-else-width-eq2
returns-else-width-eq2 c =
    let o = c.args.order in
    let front = c.args.front.now in
    elim c.requires.width [
      | inl two ↦ absurd (c.if-width-eq2.false two)
      | inr four ↦ c.read_u32.ensures ∙ ap (number_in o 4) (take_rest front 8)
          ∙ ap (λ n. number_in o n (drop 8 front)) (sym four)
    ]
