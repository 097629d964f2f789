use Rattle.std.proofs.Common.{[], refl, arith, le_refl}
use Rattle.std.proofs.KnownBytes.{Consumes-nil}
use Rattle.std.proofs.lemmas.Result.{err_from_is_err_and}
use Rattle.at_pcap.specs.OptionSteps.{setting_of}
use Rattle.at_pcap.proofs.OptionSequence.{options_broken, options_done, options_ended, options_next}
use Rattle.at_pcap.proofs.options.read_options.Goals as goal

pub loop-left-init : goal.loop-left-init
loop-left-init g c = record {
  even = c.requires;
  has = record {
    bytes = [];
    more = c.args.count;
    len = omega arith;
    enough = le_refl c.args.count;
    read = Consumes-nil _;
    is = λ rest. refl;
  };
}

pub returns-in_err-option-clause-fault : goal.returns-in_err-option-clause-fault
returns-in_err-option-clause-fault g c =
    let p = err_from_is_err_and c.from_residual.result c.from_residual.ensures.1 in
    rw (p.1, p.2)
    (options_broken c.args.count c.args.order _ _ c.loop-left.left c.loop-left.resolution c.loop-left.invariant.has
    c.loop-left-test.true _ c.in_err-option.ensures.fault)

pub loop-left-preserved : goal.loop-left-preserved
loop-left-preserved g c =
    let fits = rw c.in-Some.is at c.in_ok-option.ensures.fits in
    let least = rw c.in-Some.is at c.in_ok-option.ensures.least in
    let even = rw c.in-Some.is at c.in_ok-option.ensures.even in
    let before = c.loop-left.invariant.even in
    record {
      even = omega arith;
      has = options_next c.args.count c.args.order _ _ c.loop-left.left c.loop-left.resolution
          c.loop-left.invariant.has c.loop-left-test.true _ (setting_of c.in-Some.option) fits least
          (rw c.in-Some.is at c.in_ok-option.ensures.found);
    }

pub returns-in-None-clause-found : goal.returns-in-None-clause-found
returns-in-None-clause-found g c =
    let before = c.loop-left.invariant.even in
    let some = c.loop-left-test.true in
    options_ended c.args.count c.args.order _ _ c.loop-left.left c.loop-left.resolution c.loop-left.invariant.has
    c.loop-left-test.true _ (omega arith) (rw c.in-None.is at c.in_ok-option.ensures.found)

pub returns-clause-found : goal.returns-clause-found
returns-clause-found g c =
    options_done c.args.count c.args.order _ _ c.loop-left.left c.loop-left.resolution c.loop-left.invariant.has
    c.loop-left-test.false
