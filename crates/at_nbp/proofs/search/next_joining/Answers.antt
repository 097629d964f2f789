use Rattle.std.proofs.Common.{◌≡◌, ◌∷◌, length, sym, ap, ◌∙◌, arith}
use Rattle.at_nbp.specs.Lookups.{joins}
use Rattle.at_nbp.specs.Tuples.{Entry, content}
use Rattle.at_nbp.proofs.FindLemmas.{joined_next, passed_over}
use Rattle.at_nbp.proofs.UnreadLemmas.{fits_strings}
use Rattle.at_nbp.proofs.search.next_joining.Goals as goal

pub find_of-find-requires : goal.find_of-find-requires
find_of-find-requires g c = fits_strings (content c.in-Some.tuple) c.in-Some.ensures.lawful

pub loop-tuple-preserved : goal.loop-tuple-preserved
loop-tuple-preserved g c =
    let pattern = c.args.pattern.now in
    let finds = c.args.finds.now.keys in
    let f = c.find_of-find.result in
    let next : c.loop-tuple.tuples ≡ content c.in-Some.tuple ∷ c.take_next.new.self = c.in-Some.ensures.next in
    let misses = sym {b = joins pattern finds f} c.joins.ensures ∙ c.if-joins.false in (
      c.loop-tuple.invariant.0
          ∙ passed_over pattern finds c.loop-tuple.tuples c.take_next.new.self (content c.in-Some.tuple) f next
          c.find_of-find.ensures misses,
      omega (arith, c.loop-tuple.invariant.1, ap (length {A = Entry}) next),
    )

pub returns-then-joins-clause-passed : goal.returns-then-joins-clause-passed
returns-then-joins-clause-passed g c =
    let pattern = c.args.pattern.now in
    let finds = c.args.finds.now.keys in
    let f = c.find_of-find.result in
    let hits = sym {b = joins pattern finds f} c.joins.ensures ∙ c.if-joins.true in
    c.loop-tuple.invariant.0
    ∙ joined_next pattern finds c.loop-tuple.tuples c.take_next.new.self (content c.in-Some.tuple) f
    c.in-Some.ensures.next c.find_of-find.ensures hits
