use Rattle.std.proofs.Common.{sym, ap, ◌∙◌}
use Rattle.at_atp_responder.specs.Records.{Record, is_key, is_kept, keeps_answer}
use Rattle.at_ddp.proofs.FoundLemmas.{entry_is}
use Rattle.at_ddp.proofs.TableLemmas.{found}
use Rattle.at_atp_responder.proofs.settling.is_kept_at.Goals as goal

pub at-requires : goal.at-requires
at-requires g c = rw c.records.view_is (found (is_key c.args.key) c.args.records.now c.args.index c.requires).within

pub returns : goal.returns
returns g c =
    let f = found (is_key c.args.key) c.args.records.now c.args.index c.requires in
    c.keeps_answer.ensures ∙ ap (λ (e : Record). keeps_answer e.state)
    (entry_is f c.at.result.now (rw c.records.view_is at c.at.ensures))
    ∙ ap is_kept (sym f.first)
