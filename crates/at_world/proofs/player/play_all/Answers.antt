use Rattle.std.proofs.Common.{◌≡◌, ◌+◌, ◌∷◌, ◌++◌, [], ℕ, List, ◌∙◌, length, ap, arith, inr, refl, subst}
use Rattle.std.proofs.lemmas.List.{length-append, take_all}
use Rattle.at_world.specs.Plays.{opening_world, Follows}
use Rattle.at_world.specs.Safety.{Safely}
use Rattle.at_world.proofs.Following.{follows_more, plays_whole, stops}
use Rattle.at_world.proofs.LawfulSetups.{opening_few}
use Rattle.at_world.proofs.SafetyLemmas.{safely_more}
use Rattle.at_world.proofs.player.play_all.Goals as goal

-- one report more
one_longer : {R : Type 0} (rs : List R) (r : R) (at : ℕ) → length rs ≡ at → length (rs ++ r ∷ []) ≡ at + 1
one_longer rs r at is = length-append rs (r ∷ []) ∙ ap (λ n. n + 1) is

pub returns-in_default-clause-follows : goal.returns-in_default-clause-follows
returns-in_default-clause-follows g c =
    let says = c.unopened.ensures in
    (opening_world c.args.setup.now, (rw (says.at, says.reports) refl, says.sent), rw (says.fault, says.at) (inr refl))

pub returns-in_default-clause-safe : goal.returns-in_default-clause-safe
returns-in_default-clause-safe g c =
    let says = c.unopened.ensures in
    (opening_world c.args.setup.now, rw (says.at, says.reports) refl, says.sent)

pub returns-in_default-open-clause-follows : goal.returns-in_default-open-clause-follows
returns-in_default-open-clause-follows g c =
    let says = c.unopened-in_default-open.ensures in
    (opening_world c.args.setup.now, (rw (says.at, says.reports) refl, says.sent), rw (says.fault, says.at) (inr refl))

pub returns-in_default-open-clause-safe : goal.returns-in_default-open-clause-safe
returns-in_default-open-clause-safe g c =
    let says = c.unopened-in_default-open.ensures in
    (opening_world c.args.setup.now, rw (says.at, says.reports) refl, says.sent)

pub returns-in-Err-clause-follows : goal.returns-in-Err-clause-follows
returns-in-Err-clause-follows g c =
    let says = c.stopped.ensures in
    let both = stops g.row.A.Denot c.loop-at.world c.args.events.now c.loop-at.at c.index-events-at.result
    c.in-Err.fault c.step.new.self c.loop-at.invariant.3 c.loop-at-test.true c.index-events-at.is
    c.in-Err.ensures.not_played in (
      c.loop-at.world,
      (rw (says.at, says.reports) c.loop-at.invariant.0, says.sent ∙ both.1),
      rw (says.at, says.fault) both.0,
    )

pub loop-at-preserved : goal.loop-at-preserved
loop-at-preserved g c =
    let A = g.row.A.Denot in
    let played = c.in-Ok-step.ensures.played in
    let safe = c.in-Ok-step.ensures.safe in
    let keeps = safe.limits c.loop-at.invariant.2 in
    let w = opening_world c.args.setup.now in
    let events = c.args.events.now in
    let event = c.index-events-at.result in
    let reports = c.loop-at.reports.items in
    let new = c.step.new.self in
    let within = c.loop-at-test.true in
    rw (c.push.ensures.items, c.unwrap.ensures) (
      follows_more A w events c.loop-at.at event reports c.loop-at.world c.in-Ok-step.report new within
          c.index-events-at.is c.loop-at.invariant.0 played.0 played.1,
      safely_more A w events c.loop-at.at event reports c.loop-at.world c.in-Ok-step.report new within
          c.index-events-at.is c.loop-at.invariant.1 played.1 safe keeps,
      keeps.few_nodes,
      plays_whole A c.loop-at.world event c.in-Ok-step.report new played.1,
      one_longer c.loop-at.reports.items c.in-Ok-step.report c.loop-at.at c.loop-at.invariant.4,
      omega (arith, c.loop-at.invariant.5, c.push.ensures.capacity),
    )

pub loop-at-init : goal.loop-at-init
loop-at-init g c =
    rw (c.in-Ok.ensures.items, c.in-Ok-open.ensures)
    (refl, refl, opening_few g.row.A.Denot c.args.setup.now c.requires, refl, refl, c.in-Ok.ensures.capacity)

pub returns-clause-follows : goal.returns-clause-follows
returns-clause-follows g c =
    let says = c.transcript.ensures in
    let followed = subst (λ l. Follows (opening_world c.args.setup.now) l c.loop-at.reports.items c.loop-at.world)
    (take_all c.loop-at.at c.args.events.now c.loop-at-test.false) c.loop-at.invariant.0 in
    (c.loop-at.world, (rw says.reports followed, says.sent))

pub returns-in-Err-clause-safe : goal.returns-in-Err-clause-safe
returns-in-Err-clause-safe g c =
    let says = c.stopped.ensures in
    let both = stops g.row.A.Denot c.loop-at.world c.args.events.now c.loop-at.at c.index-events-at.result
    c.in-Err.fault c.step.new.self c.loop-at.invariant.3 c.loop-at-test.true c.index-events-at.is
    c.in-Err.ensures.not_played in
    (c.loop-at.world, rw (says.at, says.reports) c.loop-at.invariant.1, says.sent ∙ both.1)

pub returns-clause-safe : goal.returns-clause-safe
returns-clause-safe g c =
    let says = c.transcript.ensures in
    let safe = subst (λ l. Safely (opening_world c.args.setup.now) l c.loop-at.reports.items c.loop-at.world)
    (take_all c.loop-at.at c.args.events.now c.loop-at-test.false) c.loop-at.invariant.1 in
    (c.loop-at.world, rw says.reports safe, says.sent)
