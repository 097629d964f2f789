use Rattle.std.proofs.Common.{refl, sym, ap}
use Rattle.std.specs.Prelude.{◌&&◌}
use Rattle.at_ddp.specs.Address.{same_address}
use Rattle.at_adsp_end.specs.Ends.{is_opening}
use Rattle.at_adsp_end.specs.declared.change.EndChange.TheVariants.{Denied}
use Rattle.at_adsp_ends.specs.Tables.{has_id}
use Rattle.at_adsp_ends.proofs.Places.{end_at, named_at, none_at, test_at}
use Rattle.at_adsp_ends.proofs.MoveLemmas as move
use Rattle.at_adsp_ends.proofs.ends.Ends.hear_denial.Goals as goal

pub returns-in_default : goal.returns-in_default
returns-in_default g c =
    let none = none_at (has_id c.args.dest) c.self.inside.ends.items c.index_of.ensures.first c.in_default.is in
    rw (← c.self.view_is) (rw none record { answer = refl; state = refl })

pub returns-then-not-asks : goal.returns-then-not-asks
returns-then-not-asks g c =
    let q = end_at (has_id c.args.dest) c.self.invariant.0 c.index_of.ensures.first c.in-Some.is
    c.at-end.ensures in
    let shut = test_at q (λ x. is_opening x.phase && same_address x.asked c.args.from) c.at-end.ensures
    c.asks.ensures c.if-not-asks.true in
    rw (← c.self.view_is) (rw (q.first, shut) record { answer = refl; state = refl })

pub returns : goal.returns
returns g c =
    let q = end_at (has_id c.args.dest) c.self.invariant.0 c.index_of.ensures.first c.in-Some.is
    c.at-end.ensures in
    let live = test_at q (λ x. is_opening x.phase && same_address x.asked c.args.from) c.at-end.ensures
    c.asks.ensures c.if-not-asks.false in
    rw (← c.self.view_is) (rw (q.first, live) record {
      answer = ap Denied (sym (named_at q));
      state = move.freed_state q _ c.remove_at.new.self c.self.view_is c.remove_at.ensures;
    })
