use Rattle.std.proofs.Common.{◌≡◌, None, IsSome, refl, sym, ap, subst, Some, ◌∙◌}
use Rattle.at_name_socket.specs.NameSockets.{SocketState, finds_told}
use Rattle.at_name_socket.proofs.SocketLemmas.{Plain, claim_told, plain, plain_told}
use Rattle.at_ddp.proofs.CaseLemmas.{on_err}
use Rattle.at_name_socket.proofs.socket.NameSocket.finds_told.Given.{Over}
use Rattle.at_name_socket.proofs.socket.NameSocket.finds_told.Goals as goal
use Rattle.at_name_socket.proofs.socket.NameSocket.finds_told.Goals.{In-None}

-- the lookup is no claim
plain_here : (g : Over) (c : In-None g) → Plain c.args.self.now c.args.id
plain_here g c = subst (λ (s : SocketState). Plain s c.args.id) c.self.view_is
    (plain _ c.args.id c.in-Ok.count c.index_of.result c.deref.result.now
    (sym c.count.ensures ∙ c.in-Ok.is) c.deref.ensures.value c.index_of.ensures c.in-None.is)

pub returns-in-Some-clause-copy : goal.returns-in-Some-clause-copy
returns-in-Some-clause-copy g c =
    let s : SocketState = record {
      table = c.self.inside.names;
      lookups = c.self.inside.lookups;
      claims = c.self.inside.claims.items;
      neighbours = c.self.inside.neighbours;
    } in
    sym (subst (λ (t : SocketState). finds_told t c.args.id ≡ None) c.self.view_is
    (claim_told s c.args.id c.in-Ok.count c.index_of.result c.deref.result.now c.in-Some.field-0
    (sym c.count.ensures ∙ c.in-Ok.is) c.deref.ensures.value c.index_of.ensures c.in-Some.is))

pub returns-in_err-finds-in-None-clause-memory : goal.returns-in_err-finds-in-None-clause-memory
returns-in_err-finds-in-None-clause-memory g c =
    let p = plain_here g (goal.at.returns-in_err-finds-in-None-clause-memory g c).In-None in
    on_err c.from_residual.result (IsSome (finds_told c.args.self.now c.args.id))
    (subst IsSome (sym (plain_told c.args.self.now c.args.id p)) refl)

pub returns-in_ok-finds-in-None-clause-copy : goal.returns-in_ok-finds-in-None-clause-copy
returns-in_ok-finds-in-None-clause-copy g c =
    let p = plain_here g (goal.at.returns-in_ok-finds-in-None-clause-copy g c).In-None in
    ap Some c.in_ok-finds-in-None.ensures ∙ sym (plain_told c.args.self.now c.args.id p)
