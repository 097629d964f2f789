use Rattle.at_capture.proofs.TallyLemmas.{other_more, refused_more, shown_more}
use Rattle.at_capture.proofs.tally.Tally.with.Goals as goal

pub returns-in-Shown : goal.returns-in-Shown
returns-in-Shown c verdicts is =
    let e = shown_more c.args.self verdicts is in
    cc (e, c.saturating_add-frames.ensures, c.saturating_add-datagrams.ensures)

pub returns-in-Refused : goal.returns-in-Refused
returns-in-Refused c verdicts is =
    let e = refused_more c.args.self verdicts is in
    cc (e, c.saturating_add-frames.ensures, c.saturating_add-datagrams.ensures)

pub returns-in-Other : goal.returns-in-Other
returns-in-Other c verdicts is =
    let e = other_more c.args.self verdicts is in
    cc (e, c.saturating_add-frames.ensures)
