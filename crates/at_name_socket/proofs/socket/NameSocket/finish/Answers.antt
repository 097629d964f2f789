use Rattle.std.proofs.Common.{sym, ap, subst, ◌∙◌}
use Rattle.at_nbp.specs.Lookups.{Lookups, closed}
use Rattle.at_name_socket.specs.NameSockets.{SocketState}
use Rattle.at_name_socket.proofs.SocketLemmas.{Plain, plain, plain_ends, plain_fault}
use Rattle.at_name_socket.proofs.socket.NameSocket.finish.Given.{Over}
use Rattle.at_name_socket.proofs.socket.NameSocket.finish.Goals as goal
use Rattle.at_name_socket.proofs.socket.NameSocket.finish.Goals.{In-None}

-- the lookup is no claim
plain_here : (g : Over) (c : In-None g) → Plain c.args.self.now c.args.id
plain_here g c = subst (λ (s : SocketState). Plain s c.args.id) c.self.view_is
    (plain _ c.args.id c.in_ok-count.count c.index_of.result c.deref.result.now
    (sym c.count.ensures ∙ c.in_ok-count.was) c.deref.ensures.value c.index_of.ensures c.in-None.is)

pub returns-in_err-finds-in-None-clause-refuses : goal.returns-in_err-finds-in-None-clause-refuses
returns-in_err-finds-in-None-clause-refuses g c =
    let p = plain_here g (goal.at.returns-in_err-finds-in-None-clause-refuses g c).In-None in
    rw (plain_fault c.args.self.now c.args.id p) tt

pub returns-in_ok-finds-in-None-clause-ok : goal.returns-in_ok-finds-in-None-clause-ok
returns-in_ok-finds-in-None-clause-ok g c =
    let s = c.args.self.now in
    let p = plain_here g (goal.at.returns-in_ok-finds-in-None-clause-ok g c).In-None in
    let lookups = rw c.unwrap.ensures at c.finish.ensures.ok in
    let over : Lookups → SocketState = λ l. record {
      table = c.self.inside.names;
      lookups = l;
      claims = c.self.inside.claims.items;
      neighbours = c.self.inside.neighbours;
    } in
    plain_ends g.row.A.Denot s _ c.args.id c.in_ok-finds-in-None.finds p c.in_ok-finds-in-None.ensures
    (ap over lookups ∙ ap (λ (t : SocketState). record t { lookups = closed t.lookups c.args.id }) c.self.view_is)

pub returns-in_ok-finds-in-None-clause-refuses : goal.returns-in_ok-finds-in-None-clause-refuses
returns-in_ok-finds-in-None-clause-refuses g c =
    let p = plain_here g (goal.at.returns-in_ok-finds-in-None-clause-refuses g c).In-None in
    rw (plain_fault c.args.self.now c.args.id p) tt
