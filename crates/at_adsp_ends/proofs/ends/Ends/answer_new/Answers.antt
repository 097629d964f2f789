use Rattle.std.proofs.Common.{◌≡◌, ◌++◌, ◌∷◌, [], List, Some, None, cond, nat_eq, refl, sym, ap, subst, ◌∙◌, arith}
use Rattle.std.specs.Prelude.{find, if◌then◌else◌}
use Rattle.std.specs.List.{position_from}
use Rattle.std.specs.Map.{lookup}
use Rattle.std.proofs.lemmas.List.Sums.{count_by-le-length}
use Rattle.at_adsp_end.specs.Ends.{EndState, half_end, has_remote, same_remote}
use Rattle.at_adsp_end.specs.declared.remote.Remote.{Remote}
use Rattle.at_adsp_ends.specs.Filed.{has_no_remote, id_of, named, same_key}
use Rattle.at_adsp_ends.specs.Tables.{AreEnds, EndTable, following, next_id}
use Rattle.at_adsp_ends.proofs.FiledLemmas.{filed_pushed, fresh_key, remote_is}
use Rattle.at_adsp_ends.proofs.IdLemmas.{next_drawn}
use Rattle.at_adsp_ends.proofs.Places.{table}
use Rattle.at_adsp_ends.proofs.StepLemmas as steps
use Rattle.at_adsp_ends.proofs.TableLaws.{apart_new, made_lawful}
use Rattle.at_adsp_ends.proofs.ends.Ends.answer_new.Goals as goal

pub push-requires-clause-fresh : goal.push-requires-clause-fresh
push-requires-clause-fresh g c =
    let t = table c.self.inside.listening c.self.inside.next c.self.inside.rooms c.self.inside.ends.items in
    let drawn : next_id t ≡ Some c.in-Some.id =
    steps.listened_id t c.in-Some.id
    (ap (λ (k : EndTable). if k.listening then next_id k else None) c.self.view_is ∙ sym c.listening_id.ensures
    ∙ c.in-Some.is) in
    ap (position_from (nat_eq c.in-Some.id) 0) c.reserve.ensures.keys
    ∙ fresh_key c.self.invariant.1 c.in-Some.id (next_drawn t c.in-Some.id c.self.invariant.0.next drawn).drawn.free

pub invariant_of-self-2 : goal.invariant_of-self-2
invariant_of-self-2 g c =
    let t = table c.self.inside.listening c.self.inside.next c.self.inside.rooms c.self.inside.ends.items in
    let e : EndState = half_end t.rooms c.in-Some.id c.args.remote in
    let none : find (has_remote c.args.remote) t.ends ≡ None = rw (← c.self.view_is) at c.requires in
    let drawn : next_id t ≡ Some c.in-Some.id =
    steps.listened_id t c.in-Some.id
    (ap (λ (k : EndTable). if k.listening then next_id k else None) c.self.view_is ∙ sym c.listening_id.ensures
    ∙ c.in-Some.is) in
    let few = (next_drawn t c.in-Some.id c.self.invariant.0.next drawn).few in
    let keyed = rw (← c.reserve.ensures.keys, ← c.reserve.ensures.items) at c.self.invariant.1.keyed in
    let pushed : c.push.new.self.items ≡ t.ends ++ e ∷ [] = c.push.ensures.items
    ∙ (λ i. c.reserve.ensures.items i ++ c.in_ok-end.ensures i ∷ []) in
    rw (c.following-self-inside.ensures) (
      subst (λ (l : List EndState). AreEnds (record t { next = following c.in-Some.id; ends = l })) (sym pushed)
          (made_lawful t e c.self.invariant.0 drawn (apart_new t.ends e c.args.remote refl none)),
      filed_pushed c.self.invariant.1 c.push.new.self (named c.note.new.remotes) _ e pushed
          (c.push.ensures.keyed id_of keyed (ap id_of c.in_ok-end.ensures))
          (λ r. c.note.ensures.under r ∙ ap (λ es. cond (same_remote r c.args.remote) (Some c.in-Some.id)
          (lookup (same_key (r.address, r.id)) es)) c.reserve-2.ensures.entries)
          (λ r h. subst (λ (q : Remote). find (has_remote q) t.ends ≡ None) (sym (remote_is r c.args.remote h)) none)
          (omega (
            arith,
            few,
            count_by-le-length has_no_remote t.ends,
            c.in_ok-reserve-2.ensures.ok,
            c.note.ensures.room,
          ))
          (λ h. absurd (cc)),
    )
