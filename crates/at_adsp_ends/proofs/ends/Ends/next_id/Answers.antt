use Rattle.std.proofs.Common.{◌≡◌, ◌+◌, None, length, arith, ap, rules, sym, ◌∙◌}
use Rattle.std.specs.List.{list_any}
use Rattle.at_adsp_ends.proofs.Places.{table}
use Rattle.at_adsp_ends.specs.Tables.{EndTable, following, free_id, has_id}
use Rattle.at_adsp_ends.proofs.IdLemmas.{tried}
use Rattle.at_adsp_ends.proofs.ends.Ends.next_id.Goals as goal

pub returns-then-count-lt-MAX_ENDS-clause-none : goal.returns-then-count-lt-MAX_ENDS-clause-none
returns-then-count-lt-MAX_ENDS-clause-none g c =
    let t = table c.self.inside.listening c.self.inside.next c.self.inside.rooms c.self.inside.ends.items in
    let few : length c.args.self.now.ends ≡ length t.ends = ap (λ (k : EndTable). length k.ends) (sym c.self.view_is) in
    let count : c.len-count.result ≡ length t.ends = c.len-count.ensures.items in (
      λ none.
          let tries : free_id (c.len-count.result + 1) t.next t.ends
          ≡ None = sym (c.first_free.ensures following (λ id. list_any (has_id id) t.ends)
          (λ n after h. search rules) (λ n is h. search rules)) ∙ none in
          let most = tried (c.len-count.result + 1) t.next t.ends (omega (arith, c.if-count-lt-MAX_ENDS.true)) tries in
          absurd (omega (arith, most, count)),
      λ full. absurd (omega (arith, full, few, count, c.if-count-lt-MAX_ENDS.true)),
    )
