use Rattle.std.proofs.Common.{subst, sym}
use Rattle.at_event.specs.Kinds.{number_of}
use Rattle.at_print.specs.Refusals.{refusal_line}
use Rattle.at_print.specs.Reports.{DataText}
use Rattle.at_show.proofs.ShownLemmas.{tells_why}
use Rattle.at_show.proofs.show.show_data.Goals as goal

pub returns-in-Err-clause-printed : goal.returns-in-Err-clause-printed
returns-in-Err-clause-printed g c =
    let refused = c.in-Err.ensures.refused in (
      refusal_line (number_of c.in-Err.reason),
      refused.0,
      rw (refused.1, c.number.ensures) at c.show_refusal.ensures.printed,
    )

pub returns-in-Err-clause-told : goal.returns-in-Err-clause-told
returns-in-Err-clause-told g c =
    let IsText = DataText c.args.kind c.args.bytes.now in
    tells_why g.E.Paper.page IsText c.show_refusal.result c.number.result c.args.diagnostics.now
    c.show_refusal.new.diagnostics c.show_refusal.ensures.failed
    (subst (λ n. IsText (refusal_line n)) (sym c.number.ensures) c.in-Err.ensures.refused.0) c.show_refusal.ensures.told
