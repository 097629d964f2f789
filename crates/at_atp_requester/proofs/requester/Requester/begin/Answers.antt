use Rattle.std.proofs.Common.{◌≡◌, ◌+◌, ◌%◌, ◌++◌, ◌∷◌, [], nat_eq, Some, sym, ap, subst, ◌∙◌}
use Rattle.std.specs.List.{position_from}
use Rattle.at_atp_requester.specs.Requests.{Requests, Transaction, IsRequester, next_number}
use Rattle.at_atp_requester.specs.Standing.{tid_of}
use Rattle.at_atp_requester.proofs.DifferLemmas.{begun_lawful}
use Rattle.at_atp_requester.proofs.OpenLemmas.{drawn_free}
use Rattle.at_atp_requester.proofs.StandingLemmas.{fresh_in}
use Rattle.at_atp_requester.proofs.requester.Requester.begin.Goals as goal

pub push-requires-clause-fresh : goal.push-requires-clause-fresh
push-requires-clause-fresh g c =
    let r : Requests = record { next = c.self.inside.next; standing = c.self.inside.standing.items } in
    let drawn : next_number r ≡ Some c.in-Some.tid = ap next_number c.self.view_is
    ∙ sym c.next_number.ensures.number ∙ c.in-Some.is in
    ap (position_from (nat_eq c.in-Some.tid) 0) c.reserve.ensures.keys
    ∙ fresh_in c.self.inside.standing c.in-Some.tid c.self.invariant.1 (drawn_free r c.in-Some.tid drawn)

pub invariant_of-self-2 : goal.invariant_of-self-2
invariant_of-self-2 g c =
    let r : Requests = record { next = c.self.inside.next; standing = c.self.inside.standing.items } in
    let t : Transaction = c.in_ok-transaction.transaction in
    let number : t.tid ≡ c.in-Some.tid = ap tid_of c.in_ok-transaction.ensures in
    let drawn : next_number r ≡ Some t.tid = ap next_number c.self.view_is ∙ sym c.next_number.ensures.number
    ∙ c.in-Some.is ∙ ap Some (sym number) in
    let pushed : c.push.new.self.items ≡ r.standing ++ t ∷ [] = c.push.ensures.items
    ∙ ap (λ l. l ++ t ∷ []) c.reserve.ensures.items in
    let filed = rw (← c.reserve.ensures.keys, ← c.reserve.ensures.items) at c.self.invariant.1 in (
      subst (λ n. IsRequester (record { next = (n + 1) % 65536; standing = c.push.new.self.items })) number
          (subst (λ l. IsRequester (record { next = (t.tid + 1) % 65536; standing = l })) (sym pushed)
          (begun_lawful r t drawn c.self.invariant.0)),
      c.push.ensures.keyed tid_of filed number,
    )
