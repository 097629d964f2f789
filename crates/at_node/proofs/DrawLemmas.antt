-- Which number a datagram makes a node draw.
use Rattle.std.proofs.Common.{◌≡◌, ℕ, Bool, true, false, List, Option, Some, None, refl, sym, ap, ◌∙◌}
use Rattle.std.specs.Prelude.{IfSome, ◌==◌, ◌&&◌, ◌||◌}
use Rattle.at_ddp.specs.Datagram.{Content as Datagram, BeginsWith}
use Rattle.at_ddp.specs.declared.address.Address.{Address}
use Rattle.at_ddp.specs.Protocols.{adsp_kind, atp_kind, nbp_kind}
use Rattle.at_event.specs.Seats.{is_for_all, is_mine}
use Rattle.at_stream_socket.specs.Hearing.{Makes}
use Rattle.at_zone_socket.specs.Turning.{HasTurn}
use Rattle.at_node.specs.Nodes.{NodeState}
use Rattle.at_node.specs.Numbers.{DrawsBy, DrawsHearing, DrawsIt}
use Rattle.at_node.specs.declared.numbers.Draw.{Draw}
use Rattle.at_node.specs.declared.numbers.Draw.TheVariants.{Conn, Lookup, Tid}
use Rattle.at_node.proofs.BodyLemmas.{is_for}

-- ---- by its protocol, which number

pub turn_of : (n : NodeState) (d : Datagram) (draw : Draw) → d.kind ≡ atp_kind → DrawsBy n d draw → (tid : ℕ)
    × HasTurn n.atp d tid × (draw ≡ Tid tid)
turn_of n d (Tid tid) its h = (tid, h.1, refl)
turn_of n d (Lookup id) its h = absurd h
turn_of n d (Conn id) its h = let both : atp_kind ≡ adsp_kind = sym its ∙ h.0 in absurd (cc)

pub end_of : (n : NodeState) (d : Datagram) (draw : Draw) → d.kind ≡ adsp_kind → DrawsBy n d draw → (id : ℕ)
    × Makes n.streams d id × (draw ≡ Conn id)
end_of n d (Tid tid) its h = let both : adsp_kind ≡ atp_kind = sym its ∙ h.0 in absurd (cc)
end_of n d (Lookup id) its h = absurd h
end_of n d (Conn id) its h = (id, h.1, refl)

-- ---- for which node

module _ (n : NodeState) where
  -- a datagram of no names is not for every node
  for_it : (kind : ℕ) (to : Address) → (kind == nbp_kind) ≡ false → (is_for_all n.seat kind to || is_mine n.seat to)
      ≡ true → is_mine n.seat to ≡ true
  for_it kind to other mine = ap (λ b. (b && (((to.net == n.seat.net) || (to.net == 0)) && (to.node == 255)))
      || is_mine n.seat to) (sym other) ∙ mine

  for_any : (b mine : Bool) → mine ≡ true → (b || mine) ≡ true
  for_any true mine is = refl
  for_any false mine is = is

  -- what draws is for this node alone
  pub mine_of : (d : Datagram) (draw : Draw) → is_for n.seat d ≡ true → DrawsBy n d draw → is_mine n.seat d.to ≡ true
  mine_of d (Tid tid) mine h = for_it d.kind d.to (ap (λ k. k == nbp_kind) h.0) mine
  mine_of d (Lookup id) mine h = absurd h
  mine_of d (Conn id) mine h = for_it d.kind d.to (ap (λ k. k == nbp_kind) h.0) mine

  pub for_me : (d : Datagram) → is_mine n.seat d.to ≡ true → is_for n.seat d ≡ true
  for_me d mine = for_any (is_for_all n.seat d.kind d.to) (is_mine n.seat d.to) mine

  pub it_draws : (d : Datagram) (r : Option Draw) → is_for n.seat d ≡ true → IfSome r (λ draw. DrawsBy n d draw)
      → IfSome r (λ draw. DrawsIt n d draw)
  it_draws d None mine h = tt
  it_draws d (Some draw) mine h = (mine_of d draw mine h, h)

  pub hearing_draws : (bytes : List ℕ) (d : Datagram) (rest : List ℕ) → BeginsWith bytes d rest → (r : Option Draw)
      → IfSome r (λ draw. DrawsIt n d draw) → IfSome r (λ draw. DrawsHearing n bytes draw)
  hearing_draws bytes d rest begins None h = tt
  hearing_draws bytes d rest begins (Some draw) h = record { datagram = d; rest = rest; begins = begins; draws = h }
