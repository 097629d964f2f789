use Rattle.std.proofs.Common.{◌≡◌, ◌∷◌, [], ◌++◌, List, ap, ◌∙◌, sym, arith}
use Rattle.at_nbp.specs.Lookups.{all_joined}
use Rattle.at_nbp.specs.declared.find.Find.{Find}
use Rattle.at_nbp.proofs.KnownLemmas.{put_in}
use Rattle.at_nbp.proofs.search.join_all.Goals as goal

pub loop-find-preserved : goal.loop-find-preserved
loop-find-preserved g c =
    let pattern = c.args.pattern.now in
    let finds = c.loop-find.finds.keys in
    let left = c.next_joining.new.tuples in
    let put : c.insert.new.self.keys ≡ finds ++ c.in-Some.find ∷ [] =
    put_in pattern finds c.insert.new.self.keys c.in-Some.find c.in-Some.ensures.joins
    (rw c.unwrap.ensures at c.insert.ensures.keys) in
    let same : all_joined pattern finds c.loop-find.tuples ≡ all_joined pattern c.insert.new.self.keys left =
    ◌∙◌ {b = all_joined pattern (finds ++ c.in-Some.find ∷ []) left} c.in-Some.ensures.passed
    (ap (λ (l : List Find). all_joined pattern l left) (sym put)) in (
      c.loop-find.invariant.0 ∙ same,
      omega (arith, c.loop-find.invariant.1, c.in-Some.ensures.fewer, c.insert.ensures.spare),
    )
