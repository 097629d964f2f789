use Rattle.std.proofs.Common.{◌∙◌, ◌/◌, ◌%◌, ℕ, List, sym, drop, get_or, refl, subst, arith, rules}
use Rattle.std.proofs.lemmas.List.{take_rest}
use Rattle.at_nbp.specs.Fault.{IsFirstFault, StandsAfterTuples}
use Rattle.at_nbp.specs.Packets.{HasCount}
use Rattle.at_nbp.proofs.PacketLemmas.{has_function, begins_with, first_in_tuples}
use Rattle.at_nbp.proofs.packet.parse.Goals as goal

pub returns-then-not-has_count-clause-fault : goal.returns-then-not-has_count-clause-fault
returns-then-not-has_count-clause-fault c =
    let input : List ℕ = c.args.input.now in
    let bad : ¬ HasCount c.in-Some.function c.from.result = λ h. absurd (grind (rules, c.has_count.ensures.1 h)) in
    record {
      function = c.in-Some.function;
      count = get_or input 0 0 % 16;
      id = get_or input 1 0;
      bytes = drop 2 input;
      named = has_function input c.in-Some.function (get_or input 0 0 / 16) (get_or input 0 0 % 16)
          (omega arith) refl refl c.in-Some.ensures.some;
      bad = λ h. bad (subst (HasCount c.in-Some.function) (sym c.from.ensures) h);
    }

pub returns-in_err-tuples-clause-fault : goal.returns-in_err-tuples-clause-fault
returns-in_err-tuples-clause-fault c =
    let input : List ℕ = c.args.input.now in
    let named = has_function input c.in-Some.function (get_or input 0 0 / 16) (get_or input 0 0 % 16)
    (omega arith) refl refl c.in-Some.ensures.some in
    let counted : HasCount c.in-Some.function (get_or input 0 0 % 16) =
    subst (HasCount c.in-Some.function) c.from.ensures (c.has_count.ensures.0 c.if-not-has_count.false) in
    let stands : IsFirstFault c.in_err-tuples.field-0.0 input =
    first_in_tuples c.in_err-tuples.field-0.0 input (drop 2 input) c.in-Some.function (get_or input 0 0 % 16)
    (get_or input 1 0) named counted
    (subst (StandsAfterTuples c.in_err-tuples.field-0.0 (get_or input 0 0 % 16))
    (take_rest input 2) c.in_err-tuples.ensures.fault) in
    search (rules, stands)

pub returns-clause-found : goal.returns-clause-found
returns-clause-found c =
    let input : List ℕ = c.args.input.now in
    let named = has_function input c.in-Some.function (get_or input 0 0 / 16) (get_or input 0 0 % 16)
    (omega arith) refl refl c.in-Some.ensures.some in
    let counted : HasCount c.in-Some.function (get_or input 0 0 % 16) =
    subst (HasCount c.in-Some.function) c.from.ensures (c.has_count.ensures.0 c.if-not-has_count.false) in
    let e = c.in_ok-tuples.ensures in
    begins_with input (drop 2 input) c.in_ok-tuples.rest.now c.in-Some.function (get_or input 0 0 % 16)
    (get_or input 1 0) _ named counted (omega (arith, c.type_inv.input 1)) e.each
    e.count (sym (take_rest input 2) ∙ e.found)
