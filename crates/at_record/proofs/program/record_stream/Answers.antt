use Rattle.std.proofs.Common.{[], ◌∙◌, Some, inl, inr, refl, subst, sym}
use Rattle.std.proofs.lemmas.Result.{err_from_is_err_and}
use Rattle.at_play.proofs.WholePlays.{fault_of, held_of}
use Rattle.at_print.proofs.PrintLemmas.{Prints-nothing}
use Rattle.at_record.proofs.PlayedLemmas.{said_of_read, unread}
use Rattle.at_schedule.specs.Drafts.{HoldsSetup}
use Rattle.at_record.proofs.program.record_stream.Goals as goal

pub record_events-requires-clause-held : goal.record_events-requires-clause-held
record_events-requires-clause-held g c =
    subst (λ bytes. HoldsSetup {A = g.row.A.Denot} (Some bytes) c.in_ok-setup.setup)
    (c.as_slice.ensures.value ∙ sym c.as_slice-2.ensures.value) c.in_ok-setup.ensures.said

pub returns-clause-told : goal.returns-clause-told
returns-clause-told g c =
    let A = g.row.A.Denot in
    let known = g.R.Read.remaining c.args.reader.now in
    let all = c.in_ok-bytes.bytes.items in
    let told = c.record_events.ensures in
    let setup = c.in_ok-setup.setup in
    let events = told.1 in (
      told.0,
      inr (record {
        setup = setup;
        held = held_of A setup known c.as_slice.result.now all c.in_ok-bytes.ensures.whole c.as_slice.ensures.value
            c.in_ok-setup.ensures.said;
        events = record {
          played = events.played;
          sends = events.sends;
          whole = said_of_read A setup known c.as_slice-2.result.now all c.record_events.result
              events.played c.in_ok-bytes.ensures.whole c.as_slice-2.ensures.value events.whole;
          tells = events.tells;
        };
        obeys = told.2;
        ranges = told.3;
      }),
      told.4,
    )

pub returns-in_err-bytes-clause-told : goal.returns-in_err-bytes-clause-told
returns-in_err-bytes-clause-told g c =
    let p = err_from_is_err_and c.from_residual.result c.from_residual.ensures.1 in (
      [],
      inl (
        unread g.row.A.Denot (g.R.Read.remaining c.args.reader.now) c.from_residual.result _ p.0 p.1 p.2
            (inl c.in_err-bytes.ensures.fault),
        refl,
        refl,
      ),
      Prints-nothing g.W.Paper.page c.args.printer.now,
    )

pub returns-in_err-setup-clause-told : goal.returns-in_err-setup-clause-told
returns-in_err-setup-clause-told g c =
    let known = g.R.Read.remaining c.args.reader.now in
    let p = err_from_is_err_and c.from_residual-in_err-setup.result c.from_residual-in_err-setup.ensures.1 in
    let fault = fault_of g.row.A.Denot known c.as_slice.result.now c.in_ok-bytes.bytes.items _
    c.in_ok-bytes.ensures.whole c.as_slice.ensures.value c.in_err-setup.ensures.fault in (
      [],
      inl (
        unread g.row.A.Denot known c.from_residual-in_err-setup.result _ p.0 p.1 p.2 (inr fault),
        refl,
        refl,
      ),
      Prints-nothing g.W.Paper.page c.args.printer.now,
    )
