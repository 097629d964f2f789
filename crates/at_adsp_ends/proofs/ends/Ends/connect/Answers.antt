use Rattle.std.proofs.Common.{◌≡◌, ◌++◌, ◌∷◌, [], List, Some, nat_eq, refl, sym, ap, subst, ◌∙◌, arith}
use Rattle.std.specs.List.{position_from}
use Rattle.std.specs.Map.{lookup}
use Rattle.std.proofs.lemmas.List.Sums.{count_by-le-length}
use Rattle.at_adsp_end.specs.Ends.{EndState, connector}
use Rattle.at_adsp_ends.specs.Filed.{has_no_remote, id_of, named, same_key}
use Rattle.at_adsp_ends.specs.Tables.{AreEnds, following, next_id}
use Rattle.at_adsp_ends.proofs.FiledLemmas.{filed_pushed, fresh_key}
use Rattle.at_adsp_ends.proofs.IdLemmas.{next_drawn}
use Rattle.at_adsp_ends.proofs.Places.{table}
use Rattle.at_adsp_ends.proofs.TableLaws.{apart_none, made_lawful}
use Rattle.at_adsp_ends.proofs.ends.Ends.connect.Goals as goal

pub push-requires-clause-fresh : goal.push-requires-clause-fresh
push-requires-clause-fresh g c =
    let t = table c.self.inside.listening c.self.inside.next c.self.inside.rooms c.self.inside.ends.items in
    let drawn : next_id t ≡ Some c.in-Some.id = ap next_id c.self.view_is ∙ sym c.next_id.ensures.id ∙ c.in-Some.is in
    ap (position_from (nat_eq c.in-Some.id) 0) c.reserve.ensures.keys
    ∙ fresh_key c.self.invariant.1 c.in-Some.id (next_drawn t c.in-Some.id c.self.invariant.0.next drawn).drawn.free

pub invariant_of-self-2 : goal.invariant_of-self-2
invariant_of-self-2 g c =
    let t = table c.self.inside.listening c.self.inside.next c.self.inside.rooms c.self.inside.ends.items in
    let e : EndState = connector t.rooms c.in-Some.id c.args.to in
    let drawn : next_id t ≡ Some c.in-Some.id = ap next_id c.self.view_is ∙ sym c.next_id.ensures.id ∙ c.in-Some.is in
    let few = (next_drawn t c.in-Some.id c.self.invariant.0.next drawn).few in
    let keyed = rw (← c.reserve.ensures.keys, ← c.reserve.ensures.items) at c.self.invariant.1.keyed in
    let pushed : c.push.new.self.items ≡ t.ends ++ e ∷ [] = c.push.ensures.items
    ∙ (λ i. c.reserve.ensures.items i ++ c.in_ok-end.ensures i ∷ []) in
    rw (c.following-self-inside.ensures) (
      subst (λ (l : List EndState). AreEnds (record t { next = following c.in-Some.id; ends = l })) (sym pushed)
          (made_lawful t e c.self.invariant.0 drawn (apart_none t.ends e refl)),
      filed_pushed c.self.invariant.1 c.push.new.self (named c.reserve-2.new.self) _ e pushed
          (c.push.ensures.keyed id_of keyed (ap id_of c.in_ok-end.ensures))
          (λ r. ap (lookup (same_key (r.address, r.id))) c.reserve-2.ensures.entries) (λ r h. absurd (cc))
          (omega (arith, few, count_by-le-length has_no_remote t.ends, c.in_ok-reserve-2.ensures.ok)) (λ h. refl),
    )
