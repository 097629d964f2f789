use Rattle.std.proofs.Common.{sym, ap, ◌∙◌}
use Rattle.std.proofs.lemmas.List.{take_rest}
use Rattle.at_adsp_end.specs.Cuts.{items_in}
use Rattle.at_adsp_end.proofs.ArrivalLemmas.{items_dropped}
use Rattle.at_adsp_end.proofs.arrival.new_items.Goals as goal

pub returns-in-Some : goal.returns-in-Some
returns-in-Some c =
    rw c.in-Some.is (ap (items_in c.args.end) (take_rest c.args.bytes.now c.in-Some.count)
    ∙ sym (items_dropped c.args.end c.args.bytes.now c.in-Some.count c.if-count-bytes.true))
