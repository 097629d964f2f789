use Rattle.at_atp_responder.specs.Keys.{key_of}
use Rattle.at_atp_responder.specs.Records.{is_key}
use Rattle.at_atp_responder.proofs.KeyLemmas.{finds_key}
use Rattle.at_atp_responder.proofs.records.index_of.Goals as goal

pub returns : goal.returns
returns g c = rw (← c.records.view_is)
    (c.index_of.ensures.keyed key_of (is_key c.args.key) c.records.invariant.keyed (finds_key c.args.key))
