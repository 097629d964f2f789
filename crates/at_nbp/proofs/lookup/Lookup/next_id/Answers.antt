use Rattle.std.proofs.Common.{◌≡◌, ◌+◌, ◌%◌, None, length, arith, ap, rules, sym, ◌∙◌}
use Rattle.std.specs.List.{list_any}
use Rattle.at_nbp.specs.Lookups.{Lookups, free_id, has_id}
use Rattle.at_nbp.proofs.AskingLemmas.{tried}
use Rattle.at_nbp.proofs.lookup.Lookup.next_id.Goals as goal

pub returns-then-open-lt-MAX_LOOKUPS-clause-none : goal.returns-then-open-lt-MAX_LOOKUPS-clause-none
returns-then-open-lt-MAX_LOOKUPS-clause-none g c =
    let l : Lookups = record {
      own = c.self.inside.own;
      to = c.self.inside.to;
      function = c.self.inside.function;
      next = c.self.inside.next;
      searches = c.self.inside.searches.items;
    } in
    let few : length c.args.self.now.searches
    ≡ length l.searches = ap (λ (k : Lookups). length k.searches) (sym c.self.view_is) in
    let count : c.len-open.result
    ≡ length l.searches = omega (arith, c.len-open.ensures, c.self.inside.searches.ok.0) in (
      λ none.
          let tries : free_id (c.len-open.result + 1) l.next l.searches
          ≡ None = sym (c.first_free.ensures (λ id. (id + 1) % 256) (λ id. list_any (has_id id) l.searches)
          (λ n after h. search rules) (λ n is h. search rules)) ∙ none in
          let most = tried (c.len-open.result + 1) l.next l.searches
          (omega (arith, c.if-open-lt-MAX_LOOKUPS.true)) tries in
          absurd (omega (arith, most, count)),
      λ full. absurd (omega (arith, full, few, count, c.if-open-lt-MAX_LOOKUPS.true)),
    )
