use Rattle.std.proofs.Common.{ap, ◌∙◌}
use Rattle.std.specs.Prelude.{find}
use Rattle.std.specs.List.{position_from}
use Rattle.at_atp_responder.specs.Records.{is_key}
use Rattle.at_atp_responder.proofs.KeyLemmas.{eq_key, no_position, position_by}
use Rattle.at_atp_responder.proofs.records.add.Goals as goal

pub push-requires-clause-fresh : goal.push-requires-clause-fresh
push-requires-clause-fresh g c = ap (position_from (eq_key c.args.key) 0) c.reserve.ensures.keys
    ∙ position_by c.args.key c.records.inside.table c.records.invariant
    ∙ no_position (is_key c.args.key) 0 c.records.inside.table.items
    (ap (find (is_key c.args.key)) c.records.view_is ∙ c.requires)
