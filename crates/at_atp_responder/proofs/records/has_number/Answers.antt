use Rattle.std.proofs.Common.{◌&&◌, ◌==◌}
use Rattle.at_atp_responder.specs.declared.reception.Key.{Key}
use Rattle.at_atp_responder.proofs.KeyLemmas.{any_keyed}
use Rattle.at_atp_responder.proofs.records.has_number.Goals as goal

pub returns : goal.returns
returns g c = rw (← c.records.view_is, c.is_among.ensures, c.keys.ensures)
    (any_keyed (λ (key : Key). (key.from.node == c.args.node) && (key.tid == c.args.tid)) c.records.inside.table
    c.records.invariant.keyed)
