use Rattle.std.proofs.Common.{◌∙◌, ◌≤◌, map, take, refl, sym, ap, subst, arith}
use Rattle.std.specs.Prelude.{slice_get}
use Rattle.std.proofs.lemmas.List.{take_all}
use Rattle.at_cable.specs.Calls.{last_count}
use Rattle.at_drive.specs.Drives.{Driven, Runs, noting, number_of, opening_drive}
use Rattle.at_drive.specs.Steps.{node_of, numbers_of, stands_in}
use Rattle.at_drive.proofs.CountLemmas.{all_counted}
use Rattle.at_drive.proofs.NodeLemmas.{begin_numbers}
use Rattle.at_drive.proofs.RunLemmas.{all_pass, left_alone, left_at, next_driven}
use Rattle.at_drive.proofs.driving.drive.Goals as goal
use Rattle.at_ddp.proofs.CaseLemmas.{if_err, if_ok}

pub returns-in_default-clause-driven : goal.returns-in_default-clause-driven
returns-in_default-clause-driven g c = (
  opening_drive c.args.setup.now,
  c.args.cable.now,
  (refl, refl),
  c.new-log.ensures,
  left_alone g.C.Cable.sends g.C.Cable.receives (slice_get c.args.steps.now 0) c.args.cable.now,
)

pub loop-at-init : goal.loop-at-init
loop-at-init g c = record {
  runs = (rw (c.in-Ok.ensures, c.new-log.ensures) refl, refl);
  numbers = ap (λ (d : Driven). map number_of d.nodes) c.in-Ok.ensures ∙ begin_numbers c.args.setup.now;
}

pub step-requires : goal.step-requires
step-requires g c =
    let step = c.index-steps-at.result in record {
      stands = ap (λ l. stands_in l (node_of step)) c.loop-at.invariant.numbers
          ∙ all_pass (λ x. stands_in (numbers_of c.args.setup.now) (node_of x)) c.args.steps.now c.loop-at.at step
          c.loop-at-test.true c.index-steps-at.is c.requires.stand;
    }

pub returns-then-is_err-clause-driven : goal.returns-then-is_err-clause-driven
returns-then-is_err-clause-driven g c =
    let err = sym c.is_err.ensures.value ∙ c.if-is_err.true in
    let stopped = if_err c.step.result _ err c.step.ensures.stopped in (
      noting c.loop-at.drive c.loop-at.log,
      c.loop-at.cable,
      c.loop-at.invariant.runs,
      stopped.1,
      left_at g.C.Cable.sends g.C.Cable.receives c.args.steps.now c.loop-at.at c.index-steps-at.result c.loop-at.cable
          c.step.new.cable c.loop-at-test.true c.index-steps-at.is stopped.2,
    )

pub loop-at-preserved : goal.loop-at-preserved
loop-at-preserved g c =
    let ok = sym c.is_err.ensures.value ∙ c.if-is_err.false in
    let driven = if_ok c.step.result _ ok c.step.ensures.driven in
    record {
      runs = next_driven g.C.Cable.sends g.C.Cable.receives c.args.steps.now c.loop-at.at c.index-steps-at.result
          (opening_drive c.args.setup.now) c.args.cable.now (noting c.loop-at.drive c.loop-at.log) c.loop-at.cable
          (noting c.step.new.self c.step.new.log) c.step.new.cable c.loop-at-test.true c.index-steps-at.is
          c.loop-at.invariant.runs driven;
      numbers = c.step.ensures.numbers ∙ c.loop-at.invariant.numbers;
    }

pub returns-clause-driven : goal.returns-clause-driven
returns-clause-driven g c =
    let all = subst
    (λ l. Runs g.C.Cable.sends g.C.Cable.receives 0 l (opening_drive c.args.setup.now) c.args.cable.now
    (noting c.loop-at.drive c.loop-at.log) c.loop-at.cable) (take_all c.loop-at.at c.args.steps.now
    c.loop-at-test.false) c.loop-at.invariant.runs in
    (noting c.loop-at.drive c.loop-at.log, all, refl)

pub returns-clause-counted : goal.returns-clause-counted
returns-clause-counted g c =
    let within : g.C.Cable.failed c.args.cable.now ≤ last_count = omega (
      arith,
      c.failures-failures.ensures,
      c.failures-failures.type_inv,
    ) in
    all_counted g.C.Cable.sends g.C.Cable.receives g.C.Cable.failed g.met.C.Cable.send_is_counted
    g.met.C.Cable.receive_is_counted 0 (take c.loop-at.at c.args.steps.now) (opening_drive c.args.setup.now)
    c.args.cable.now (noting c.loop-at.drive c.loop-at.log) c.loop-at.cable refl c.loop-at.invariant.runs within
