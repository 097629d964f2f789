use Rattle.std.proofs.Common.{sym, ◌∙◌}
use Rattle.at_atp_responder.specs.Records.{is_key}
use Rattle.at_ddp.proofs.TableLemmas.{found, not_found}
use Rattle.at_atp_responder.proofs.RecordLemmas.{taken_new_in, taken_again, full_if, full_then, not_new}
use Rattle.at_atp_responder.proofs.RecordLemmas.{new_not_ignored, again_ignored, new_not_waiting, again_waiting}
use Rattle.at_atp_responder.proofs.records.hear_request.Goals as goal

pub repeat-requires : goal.repeat-requires
repeat-requires g c = (found (is_key c.args.key) c.args.records.now c.in-Some.index (sym c.index_of.ensures
    ∙ c.in-Some.is)).within

pub returns-in-None-clause-ok : goal.returns-in-None-clause-ok
returns-in-None-clause-ok g c =
    taken_new_in c.args.records.now c.add.new.records c.args.key c.args.xo c.args.bitmap c.add.result
    c.args.out.now
    (not_found (is_key c.args.key) 0 c.args.records.now (sym c.index_of.ensures ∙ c.in-None.is)) c.add.ensures.ok

pub returns-in-None-clause-full : goal.returns-in-None-clause-full
returns-in-None-clause-full g c =
    let none = not_found (is_key c.args.key) 0 c.args.records.now (sym c.index_of.ensures ∙ c.in-None.is) in (
      λ e. full_if c.args.records.now c.args.key none (c.add.ensures.full.0 e),
      λ h. c.add.ensures.full.1
          (full_then c.args.records.now c.args.key h),
    )

pub returns-in-Ok-clause-ok : goal.returns-in-Ok-clause-ok
returns-in-Ok-clause-ok g c =
    let f = found (is_key c.args.key) c.args.records.now c.in-Some.index (sym c.index_of.ensures ∙ c.in-Some.is) in
    taken_again c.args.records.now c.repeat.new.records c.args.key c.args.xo c.args.bitmap
    c.in-Ok.reception c.in-Some.index c.args.out.now c.repeat.new.out f c.in-Ok.ensures.ok

pub returns-in-Ok-clause-full : goal.returns-in-Ok-clause-full
returns-in-Ok-clause-full g c =
    let f = found (is_key c.args.key) c.args.records.now c.in-Some.index (sym c.index_of.ensures ∙ c.in-Some.is) in
    (λ e. absurd (cc e), λ h. absurd (not_new c.args.records.now c.args.key f.entry f.first h))

pub returns-in-Err-clause-full : goal.returns-in-Err-clause-full
returns-in-Err-clause-full g c =
    let f = found (is_key c.args.key) c.args.records.now c.in-Some.index (sym c.index_of.ensures ∙ c.in-Some.is) in
    (λ e. absurd (cc e), λ h. absurd (not_new c.args.records.now c.args.key f.entry f.first h))

pub returns-in-None-clause-ignored : goal.returns-in-None-clause-ignored
returns-in-None-clause-ignored g c =
    λ h. absurd (new_not_ignored c.args.records.now c.args.key c.args.xo c.args.bitmap
    (not_found (is_key c.args.key) 0 c.args.records.now (sym c.index_of.ensures ∙ c.in-None.is)) h)

pub returns-in-Err-clause-ignored : goal.returns-in-Err-clause-ignored
returns-in-Err-clause-ignored g c = λ h.
    let f = found (is_key c.args.key) c.args.records.now c.in-Some.index (sym c.index_of.ensures ∙ c.in-Some.is) in
    let again = again_ignored c.args.records.now c.args.key c.args.xo c.args.bitmap c.in-Some.index f h in
    c.in-Err.ensures.ignored f.entry again.0 again.1

pub returns-in-None-clause-waits : goal.returns-in-None-clause-waits
returns-in-None-clause-waits g c = λ h. absurd (new_not_waiting c.args.records.now c.args.key
    (not_found (is_key c.args.key) 0 c.args.records.now (sym c.index_of.ensures ∙ c.in-None.is)) h)

pub returns-in-Err-clause-waits : goal.returns-in-Err-clause-waits
returns-in-Err-clause-waits g c = λ h.
    let f = found (is_key c.args.key) c.args.records.now c.in-Some.index (sym c.index_of.ensures ∙ c.in-Some.is) in
    let waits = again_waiting c.args.records.now c.args.key c.in-Some.index f h in
    c.in-Err.ensures.waits f.entry waits.0 waits.1

pub add-requires : goal.add-requires
add-requires g c = not_found (is_key c.args.key) 0 c.args.records.now (sym c.index_of.ensures ∙ c.in-None.is)
