use Rattle.std.proofs.Common.{◌≡◌, ◌∷◌, [], ◌++◌, ◌+◌, ◌≤◌, List, length, sym, ap, subst, ◌∙◌, arith}
use Rattle.std.proofs.lemmas.List.{length-append}
use Rattle.indexmap.specs.IndexSet.{insert_key}
use Rattle.at_nbp.specs.Lookups.{IsSearch, Search, all_joined}
use Rattle.at_nbp.specs.declared.find.Find.{Find}
use Rattle.at_nbp.proofs.FindLemmas.{grows}
use Rattle.at_nbp.proofs.KnownLemmas.{eq_find, put_in}
use Rattle.at_nbp.proofs.LookupLaws.{answered_lawful}
use Rattle.at_nbp.proofs.search.Search.hear.Given.{Over}
use Rattle.at_nbp.proofs.search.Search.hear.Goals as goal
use Rattle.at_nbp.proofs.search.Search.hear.Goals.{After-join_all, In-Some}

abbrev with_finds : (g : Over) → In-Some g → List Find → Search
with_finds g c finds = record { id = c.self.inside.id; pattern = c.self.inside.pattern; finds = finds }

-- the first find that joins goes last, and then those of the tuples after it
all : (g : Over) (c : In-Some g) → all_joined c.self.inside.pattern c.self.inside.finds.keys c.args.tuples.now
    ≡ all_joined c.self.inside.pattern (c.self.inside.finds.keys ++ c.in-Some.find ∷ []) c.next_joining.new.tuples
all g c = ap (all_joined c.self.inside.pattern c.self.inside.finds.keys) (sym c.iter-tuples.ensures)
    ∙ c.in-Some.ensures.passed

more : (g : Over) (c : In-Some g) → length c.self.inside.finds.keys + 1
    ≤ length (all_joined c.self.inside.pattern c.self.inside.finds.keys c.args.tuples.now)
more g c =
    let finds = c.self.inside.finds.keys in
    omega (
      arith,
      ap (length {A = Find}) (all g c),
      grows c.self.inside.pattern (finds ++ c.in-Some.find ∷ []) c.next_joining.new.tuples,
      length-append finds (c.in-Some.find ∷ []),
    )

finds_are : (g : Over) (c : After-join_all g)
    → all_joined c.self.inside.pattern c.self.inside.finds.keys c.args.tuples.now
    ≡ all_joined c.self.inside.pattern (c.self.inside.finds.keys ++ c.in-Some.find ∷ []) c.next_joining.new.tuples
    → c.join_all.new.finds.keys ≡ all_joined c.self.inside.pattern c.self.inside.finds.keys c.args.tuples.now
finds_are g c all =
    let pattern = c.self.inside.pattern in
    let finds = c.self.inside.finds.keys in
    let f = c.in-Some.find in
    let inserted : c.insert.new.self.keys ≡ insert_key eq_find finds f = rw c.unwrap.ensures at c.insert.ensures.keys
    ∙ ap (λ l. insert_key eq_find l f) c.reserve.ensures.keys in
    let put = put_in pattern finds c.insert.new.self.keys f c.in-Some.ensures.joins inserted in
    c.join_all.ensures ∙ ap (λ (l : List Find). all_joined pattern l c.next_joining.new.tuples) put
    ∙ sym all

pub returns-in_err-reserve-clause-none : goal.returns-in_err-reserve-clause-none
returns-in_err-reserve-clause-none g c =
    let grown = more g (goal.at.returns-in_err-reserve-clause-none g c).In-Some in
    rw (← c.self.view_is) (λ same. absurd (omega (arith, same, grown)))

pub overflow_sub-result : goal.overflow_sub-result
overflow_sub-result g c =
    let at = goal.at.overflow_sub-result g c in
    omega (
      arith,
      c.len.ensures.len,
      c.len-known.ensures.len,
      ap (length {A = Find}) (finds_are g at.After-join_all (all g at.In-Some)),
      more g at.In-Some,
    )

pub invariant_of-self-2 : goal.invariant_of-self-2
invariant_of-self-2 g c =
    let at = goal.at.invariant_of-self-2 g c in
    let before = with_finds g at.In-Some c.self.inside.finds.keys in
    subst (λ l. IsSearch (with_finds g at.In-Some l)) (sym (finds_are g at.After-join_all (all g at.In-Some)))
    (answered_lawful before c.args.tuples.now c.self.invariant)

pub returns-clause-state : goal.returns-clause-state
returns-clause-state g c =
    let at = goal.at.returns-clause-state g c in
    rw (← c.self.view_is) (ap (with_finds g at.In-Some) (finds_are g at.After-join_all (all g at.In-Some)))

pub returns-clause-count : goal.returns-clause-count
returns-clause-count g c =
    let at = goal.at.returns-clause-count g c in
    let are = ap (length {A = Find}) (finds_are g at.After-join_all (all g at.In-Some)) in
    let grown = more g at.In-Some in
    rw (← c.self.view_is) (omega (arith, c.len.ensures.len, c.len-known.ensures.len, are, grown))
