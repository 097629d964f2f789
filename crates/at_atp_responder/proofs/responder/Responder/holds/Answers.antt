use Rattle.std.proofs.Common.{ap, ◌∙◌}
use Rattle.std.specs.Prelude.{find, is_some}
use Rattle.at_atp_responder.specs.Records.{is_key}
use Rattle.at_atp_responder.proofs.RecordLemmas.{is_some_copied}
use Rattle.at_atp_responder.proofs.responder.Responder.holds.Goals as goal

pub returns : goal.returns
returns g c = c.is_some.ensures ∙ is_some_copied c.record_of.result
    ∙ ap is_some (c.record_of.ensures ∙ ap (find (is_key c.args.key)) (c.self.view_is))
