use Rattle.std.proofs.Common.{List, sym, ap, subst, ◌∙◌}
use Rattle.std.specs.Prelude.{find}
use Rattle.at_atp_frame.specs.Frames.{content}
use Rattle.at_atp_responder.specs.Records.{Record, is_key, received, release_came, IsTaken}
use Rattle.at_atp_responder.specs.declared.reception.Key.{Key}
use Rattle.at_atp_responder.proofs.RecordLemmas.{taken_release}
use Rattle.at_atp_responder.proofs.responder.Responder.receive.Goals as goal

pub returns-in-Release-clause-ok : goal.returns-in-Release-clause-ok
returns-in-Release-clause-ok g c =
    let key : Key = record { from = c.args.from; tid = c.in-Release.tid } in
    let reception = c.hear_release.ensures.reception
    ∙ ap (λ (rs : List Record). (release_came rs key (find (is_key key) rs)).reception) c.self.view_is in
    let after = c.hear_release.ensures.after
    ∙ ap (λ (rs : List Record). (release_came rs key (find (is_key key) rs)).after) c.self.view_is in
    subst (λ f. IsTaken (received c.args.self.now c.args.from (content f)) c.hear_release.result
    c.hear_release.new.records c.args.out.now c.args.out.now) (sym c.in-Release.is)
    (taken_release c.args.self.now c.hear_release.new.records key c.hear_release.result c.args.out.now reception
    after)
