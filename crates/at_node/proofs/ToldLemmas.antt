-- What received bytes draw is what comes of them tells; and they move no node.
use Rattle.std.proofs.Common.{◌≡◌, ℕ, Bool, true, false, List, Some, None, inl, inr, refl, sym, ap, ◌∙◌}
use Rattle.std.specs.Prelude.{MatchBool}
use Rattle.at_ddp.specs.Datagram.{Content as Datagram}
use Rattle.at_event.specs.Outcomes.{Outcome, idle}
use Rattle.at_event.specs.Seats.{is_mine}
use Rattle.at_event.specs.declared.Report.{Report}
use Rattle.at_event.specs.declared.Report.TheVariants as report
use Rattle.at_event.specs.declared.service.Reply.{Reply}
use Rattle.at_node.specs.Hearing.{Hears, HearsIt}
use Rattle.at_node.specs.Nodes.{HearsMine, KeepsSeat, NodeState}
use Rattle.at_node.specs.Numbers.{DrawsBy, DrawsHearing, DrawsIt, IsTold, drawn_by}
use Rattle.at_node.specs.declared.numbers.Draw.{Draw}
use Rattle.at_node.specs.declared.numbers.Draw.TheVariants.{Conn, Lookup, Tid}
use Rattle.at_node.proofs.BodyLemmas.{is_for}
use Rattle.at_node.proofs.DrawLemmas.{for_me, mine_of}
use Rattle.at_node.proofs.Protocols.{mine_drawn, mine_stays}
use Rattle.at_node.proofs.Protocols.Streams.{MakingLaw, made_hears}
use Rattle.at_node.proofs.Protocols.Transactions.{BeginningLaw, turned_hears}

module _ (A : Type 0) (making : MakingLaw) (beginning : BeginningLaw A) (n : NodeState) where
  -- what has no effect but a report of no number tells none
  idle_tells : (r : Report A) → drawn_by r ≡ None → (o : Outcome A NodeState) → o ≡ idle n r → (draw : Draw)
      → drawn_by o.report ≡ Some draw → {P : Type 0} → P
  idle_tells r none o is draw told =
      let both : None ≡ Some draw = sym none ∙ sym (ap (λ (x : Outcome A NodeState). drawn_by x.report) is) ∙ told in
      absurd (cc)

  it_draws : (said : Reply A) (d : Datagram) (o : Outcome A NodeState) → HearsIt said n d o → (draw : Draw)
      → drawn_by o.report ≡ Some draw → DrawsIt n d draw
  it_draws said d o h draw told = go (is_for n.seat d) refl h
    where
      go : (b : Bool) → is_for n.seat d ≡ b → MatchBool b (HearsMine said n d o) (o ≡ idle n report.Ignored)
          → DrawsIt n d draw
      go true mine h =
          let draws = mine_drawn A said n d o making beginning h draw told in
          (mine_of n d draw mine draws, draws)
      go false mine h = idle_tells report.Ignored refl o h draw told

  pub tells_draws : (bytes : List ℕ) (draw : Draw) → IsTold A n bytes draw → DrawsHearing n bytes draw
  tells_draws bytes draw h = go h.hears
    where
      go : Hears h.said n bytes h.outcome → DrawsHearing n bytes draw
      go (inl it) = record {
        datagram = it.datagram;
        rest = it.rest;
        begins = it.begins;
        draws = it_draws h.said it.datagram h.outcome it.outcome draw h.tells;
      }
      go (inr fault) = idle_tells (report.Refused fault.number) refl h.outcome fault.outcome draw h.tells

  heard_by : (d : Datagram) (draw : Draw) → is_mine n.seat d.to ≡ true → DrawsBy n d draw → (said : Reply A)
      × (o : Outcome A NodeState) × HearsIt said n d o × (drawn_by o.report ≡ Some draw)
  heard_by d (Tid tid) mine t = turned_hears A beginning n d (for_me n d mine) t.0 tid t.1
  heard_by d (Lookup id) mine t = absurd t
  heard_by d (Conn id) mine t = made_hears A making n d (for_me n d mine) t.0 id t.1

  pub draws_tells : (bytes : List ℕ) (draw : Draw) → DrawsHearing n bytes draw → IsTold A n bytes draw
  draws_tells bytes draw h =
      let draws = h.draws in
      let heard = heard_by h.datagram draw draws.0 draws.1 in
      record {
        said = heard.0;
        outcome = heard.1;
        hears = inl (record { datagram = h.datagram; rest = h.rest; begins = h.begins; outcome = heard.2 });
        tells = heard.3;
      }

-- ---- the seat

it_stays : (A : Type 0) (said : Reply A) (n : NodeState) (d : Datagram) (o : Outcome A NodeState) → HearsIt said n d o
    → KeepsSeat n o
it_stays A said n d o = go (is_for n.seat d)
  where
    go : (b : Bool) → MatchBool b (HearsMine said n d o) (o ≡ idle n report.Ignored) → KeepsSeat n o
    go true h = mine_stays A said n d o h
    go false h = ap (λ (x : Outcome A NodeState). x.state.seat) h

pub bytes_stay : (A : Type 0) (said : Reply A) (n : NodeState) (bytes : List ℕ) (o : Outcome A NodeState)
    → Hears said n bytes o → KeepsSeat n o
bytes_stay A said n bytes o (inl h) = it_stays A said n h.datagram o h.outcome
bytes_stay A said n bytes o (inr h) = ap (λ (x : Outcome A NodeState). x.state.seat) h.outcome
