use Rattle.std.proofs.Common.{◌≡◌, ◌+◌, ◌%◌, ◌++◌, ◌∷◌, [], Some, sym, ap, subst, ◌∙◌}
use Rattle.at_nbp.specs.Lookups.{AreLookups, Lookups, Search, beginning, next_id}
use Rattle.at_nbp.proofs.LookupLaws.{begun_lawful}
use Rattle.at_nbp.proofs.lookup.Lookup.start.Goals as goal

pub invariant_of-self-3 : goal.invariant_of-self-3
invariant_of-self-3 g c =
    let l : Lookups = record {
      own = c.self.inside.own;
      to = c.self.inside.to;
      function = c.self.inside.function;
      next = c.self.inside.next;
      searches = c.self.inside.searches.items;
    } in
    let s : Search = beginning c.in-Some.id c.args.pattern in
    let drawn : next_id l ≡ Some c.in-Some.id = ap next_id c.self.view_is ∙ sym c.next_id.ensures.id ∙ c.in-Some.is in
    let pushed : c.push.new.self.items ≡ l.searches ++ s ∷ [] = rw c.unwrap.ensures at c.push.ensures.items
    ∙ (λ i. c.reserve.ensures.items i ++ c.begin-search.ensures i ∷ []) in
    subst (λ searches. AreLookups (record l { next = (c.in-Some.id + 1) % 256; searches = searches })) (sym pushed)
    (begun_lawful l c.in-Some.id c.args.pattern drawn c.self.invariant)
