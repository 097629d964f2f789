use Rattle.std.proofs.Common.{◌≡◌, Some, sym, ap, subst, ◌∙◌, arith}
use Rattle.std.specs.List.{position_from}
use Rattle.at_ddp.proofs.TableLemmas.{found}
use Rattle.at_nbp.specs.Lookups.{closed}
use Rattle.at_name_socket.specs.NameSockets.{SocketState, closing, is_claim}
use Rattle.at_name_socket.proofs.socket.NameSocket.close.Goals as goal

pub remove-requires : goal.remove-requires
remove-requires g c =
    let at = subst (λ (s : SocketState). position_from (is_claim c.args.id) 0 s.claims ≡ Some c.args.index)
    (sym c.self.view_is) c.requires.claim in
    omega (
      arith,
      (found (is_claim c.args.id) c.self.inside.claims.items c.args.index at).within,
      c.self.inside.claims.ok.0,
    )

pub returns : goal.returns
returns g c =
    let at = subst (λ (s : SocketState). position_from (is_claim c.args.id) 0 s.claims ≡ Some c.args.index)
    (sym c.self.view_is) c.requires.claim in
    let f = found (is_claim c.args.id) c.self.inside.claims.items c.args.index at in
    let lookups : c.finish.new.self
    ≡ closed c.self.inside.lookups c.args.id = rw c.unwrap.ensures at c.finish.ensures.ok in
    (λ i. record {
      table = c.self.inside.names;
      lookups = lookups i;
      claims = (c.remove.ensures.items ∙ sym f.gone_is) i;
      neighbours = c.self.inside.neighbours;
    })
    ∙ ap (λ s. closing s c.args.id) c.self.view_is
