use Rattle.std.proofs.Common.{rules, ◌≡◌, true, List, Some, refl, sym, ◌∙◌}
use Rattle.at_atp_frame.specs.Packets.{Packet}
use Rattle.at_atp_requester.specs.Answers.{is_wanted, whole, with_part}
use Rattle.at_atp_requester.specs.Arriving.{arrival_of}
use Rattle.at_atp_requester.proofs.StepLemmas.{effect_finished}
use Rattle.at_atp_requester.proofs.transaction.Transaction.hear.Goals as goal
use Rattle.at_ddp.proofs.CaseLemmas.{some_of}

pub returns-then-completes-clause-ok : goal.returns-then-completes-clause-ok
returns-then-completes-clause-ok g c =
    let wanted : is_wanted c.args.self.now.parts c.args.arriving.now.sequence_number ≡ true = search rules in
    let there : (packets : List Packet)
    × (whole (with_part c.args.self.now.parts c.args.arriving.now.sequence_number (arrival_of c.args.arriving.now))
    ≡ Some packets) =
    some_of _ (sym (c.completes.ensures (arrival_of c.args.arriving.now) refl) ∙ c.if-completes.true) in
    effect_finished c.args.self.now c.args.arriving.now.sequence_number
    (arrival_of c.args.arriving.now) c.args.arriving.now.sts there.0 c.finish.result c.finish.new.self
    c.args.out.now c.finish.new.out wanted there.1 (c.finish.ensures.ok there.0 there.1)
