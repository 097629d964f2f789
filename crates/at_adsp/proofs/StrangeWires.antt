-- What happens in a network on the cable also happens, perhaps with other segments from strange addresses, where
-- numbers may be of any size.
use Rattle.std.proofs.Common.{◌≡◌, ℕ, ◌^◌, ◌<◌, ◌≤◌, Bool, true, false, ◌++◌, length, map, Option, Some, None}
use Rattle.std.proofs.Common.{refl, sym, ap, subst, ◌∙◌, lit<}
use Rattle.std.specs.Prelude.{find}
use Rattle.std.proofs.lemmas.Bool.{true≢false}
use Rattle.at_ddp.proofs.Octets.{same_both}
use Rattle.at_ddp.specs.declared.address.Address.{Address}
use Rattle.at_ddp.proofs.Alls.{all_found}
use Rattle.at_adsp_frame.specs.Segments.{Content}
use Rattle.at_adsp_end.specs.Ends.{EndState, has_remote, is_closed, is_open, is_remote}
use Rattle.at_adsp_end.specs.Positions.{whole, wire}
use Rattle.at_adsp_end.specs.declared.remote.Remote.{Remote}
use Rattle.at_adsp_end.specs.declared.change.EndChange.{EndChange}
use Rattle.at_adsp_ends.specs.Receiving.{received}
use Rattle.at_adsp_ends.specs.Tables.{Done, by_remote}
use Rattle.at_adsp.specs.Cables.{wire_numbered}
use Rattle.at_adsp.specs.Network.{Setting, Sent, Network, Happening, Connects, Listens, Closes, Writes, Reads, Resets}
use Rattle.at_adsp.specs.Network.{Ticks, Takes, Strange, Other}
use Rattle.at_ddp.specs.Posts.{packet_at, put, stamped}
use Rattle.at_adsp.specs.Network.{IsTimely, MakesInTime, does_with, done, is_end, takes, with_end}
use Rattle.at_adsp.specs.Orders.{whole_numbered}
use Rattle.at_adsp.specs.Streams.{Nothing}
use Rattle.at_adsp.specs.Wires.{wired_segment}
use Rattle.at_adsp.proofs.EndMoves.{open_is}
use Rattle.at_adsp.proofs.Flows.{FlowOf, Flows}
use Rattle.at_adsp.proofs.Lifts.{CanLift}
use Rattle.at_adsp.proofs.Mapped.{mapped}
use Rattle.at_adsp.proofs.Receptions.{own_remote}
use Rattle.at_adsp.proofs.Sound.{Knows, Reaches, Sound}
use Rattle.at_adsp.proofs.Steps.{found_passes, found_stands, stands_known}
use Rattle.at_adsp.proofs.LiftedSegments.{Alike, LiftedAt}
use Rattle.at_adsp.proofs.StrangeSegments.{received_lifts}
use Rattle.at_adsp.proofs.WireCalls.{wired_done, wired_table}
use Rattle.at_adsp.proofs.WireHistories.{names_none, timely_whole}
use Rattle.at_adsp.proofs.WireNetworks.{ComesNear, does_wired, done_wired, packet_wired, wired_made, wired_network}
use Rattle.at_adsp.proofs.WireNetworks.{wired_sent}
use Rattle.at_adsp.proofs.WireSegments.{HearsNear}
use Rattle.std.proofs.lemmas.Option.{same_Some}

-- whom an open end asked that hears what comes from there
pub asked_there : (setting : Setting) (events : ℕ) (n : Network) (at from : Address) (source : ℕ) (e : EndState)
    → Sound setting events n → by_remote (n.tables at) (record { address = from; id = source }) ≡ Some e
    → is_open e.phase ≡ true → e.asked ≡ from
asked_there setting events n at from source e sound is opened =
    let r : Remote = record { address = from; id = source } in
    let st = found_stands setting events n at (has_remote r) e sound is in
    let known : Reaches e.asked e.remote = subst (λ p. Knows p e.listener e.asked e.remote) (open_is e.phase opened)
    (stands_known setting events n at e sound st) in
    let remote = own_remote r e.asked e.remote known (found_passes setting events n at (has_remote r) e sound is) in
    let same : record { address = e.asked; id = known.0 } ≡ r = (let a = known.1 in let b = remote in cc) in
    ap (λ (x : Remote). x.address) same

remote_is : (r : Remote) (o : Option Remote) → is_remote r o ≡ true → o ≡ Some r
remote_is r None h = absurd (true≢false (sym h))
remote_is r (Some q) h = let both = same_both r.address q.address r.id q.id h in
    ap Some (λ i. record { address = sym both.0 i; id = sym both.1 i })

module _ (setting : Setting) (n : Network) (sound : Sound (whole_numbered setting) n.event n) (flow : FlowOf n.event n)
    (unread : (at : Address) (q : EndState → Bool) (e : EndState) → find q (n.tables at).ends ≡ Some e
    → length e.receiver.unread ≤ e.receiver.received) where
  abbrev C : Setting
  C = wire_numbered setting

  abbrev W : Setting
  W = whole_numbered setting

  -- while an end resets its stream it has nothing under way
  can_lift : (at : Address) (q : EndState → Bool) (e : EndState) → find q (n.tables at).ends ≡ Some e → is_open e.phase
      ≡ true → CanLift e
  can_lift at q e is opened = record { few = few; unread = unread at q e is }
    where
      few : e.sender.resetting ≡ true → length e.sender.unacknowledged < 2 ^ 31
      few resets =
          let st = found_stands W n.event n at q e sound is in
          let f = (all_found (Flows flow.logs) (is_end at e.id) n.made st.it flow.ends st.newest).0 in
          let w = f.writer in
          let here : is_closed st.it.last.phase ≡ false = ap (λ (x : EndState). is_closed x.phase) st.last
          ∙ ap is_closed (open_is e.phase opened) in
          let none = (w.writes here).nothing_sent (ap (λ (x : EndState). x.sender.resetting) st.last ∙ resets) in
          let many : length e.sender.unacknowledged
          ≡ 0 = ap (λ (x : EndState). length x.sender.unacknowledged) (sym st.last) ∙ ap length none in
          subst (λ k. k < 2 ^ 31) (sym many) (lit< tt)

  alike_does : (at : Address) (d k : Done EndChange) → Alike d (wired_done k)
      → does_with Nothing C (wired_network n) at d
      ≡ wired_network (does_with Nothing W n at k)
  alike_does at d k a =
      (λ i. record {
        event = n.event;
        tables = put (λ x. wired_table (n.tables x)) at (a.after i);
        made = with_end Nothing C n.event (map wired_made n.made) at (wired_table (n.tables at)) (a.changed i);
        sent = map (mapped wired_sent) n.sent ++ stamped n.event at (a.sent i);
      })
      ∙ does_wired setting Nothing n at k

  -- another happening does the same
  pub record LiftedTo (h : Happening) : Type 0 where
    pub happening : Happening
    pub same : done C (wired_network n) h ≡ wired_network (done W n happening)
    pub timely : IsTimely W n happening

  lifts_at : (at from : Address) (s : Content) → LiftedAt (n.tables at) from s
  lifts_at at from s = received_lifts (n.tables at) from s
      (λ e is opened. can_lift at (has_remote (record { address = from; id = s.source })) e is opened)

  -- no more is made than on the cable
  makes_lifted : (at from : Address) (s : Content) (l : LiftedAt (n.tables at) from s)
      → MakesInTime C (wired_network n) at from s → MakesInTime W n at from l.segment
  makes_lifted at from s l h id is = names_none n at id (h id (let a = l.alike in a.makes id is))

  -- what comes from one of our addresses is near the end that hears it
  abbrev pub NearIfOurs : Happening → Type 0
  NearIfOurs (Takes which) = (s : Sent) → packet_at n.sent which ≡ Some s → setting.ours s.from ≡ true
      → HearsNear (n.tables s.to) s.from s.packet s.packet.body
  NearIfOurs other = Unit {0}

  lift_takes : (which : ℕ) → NearIfOurs (Takes which) → IsTimely C (wired_network n) (Takes which)
      → LiftedTo (Takes which)
  lift_takes which near timely = go (packet_at n.sent which) refl
    where
      as_it_is : ((s : Sent) → packet_at n.sent which ≡ Some s → setting.ours s.from ≡ true) → LiftedTo (Takes which)
      as_it_is ours =
          let comes : ComesNear setting n (Takes which) = (λ s is. near s is (ours s is)) in
          record {
            happening = Takes which;
            same = done_wired setting n (Takes which) comes;
            timely = timely_whole setting n (Takes which) comes timely;
          }

      from_there : (s : Sent) → packet_at n.sent which ≡ Some s → (b : Bool) → setting.ours s.from ≡ b
          → LiftedTo (Takes which)
      from_there s is true ours = as_it_is
          (λ x there. let same : s ≡ x = same_Some s x (sym is ∙ there) in
          ap (λ (y : Sent). setting.ours y.from) (sym same) ∙ ours)
      from_there s is false strange =
          let l = lifts_at s.to s.from (wired_segment s.packet) in
          let here : packet_at (map (mapped wired_sent) n.sent) which ≡ Some (wired_sent s) = packet_wired n.sent which
          ∙ ap (mapped wired_sent) is in
          let t = timely (wired_sent s) here in
          record {
            happening = Strange s.to s.from l.segment;
            same =
                ap (takes C (wired_network n)) here
                ∙ alike_does s.to (received wire (wired_table (n.tables s.to)) s.from (wired_segment s.packet))
                (received whole (n.tables s.to) s.from l.segment) l.alike;
            timely = (t.0, strange, makes_lifted s.to s.from (wired_segment s.packet) l t.2);
          }

      go : (o : Option Sent) → packet_at n.sent which ≡ o → LiftedTo (Takes which)
      go None is = as_it_is (λ s there. absurd (cc))
      go (Some s) is = from_there s is (setting.ours s.from) refl

  -- the same happening, which nothing strange has part in
  kept : (h : Happening) → ComesNear setting n h → IsTimely C (wired_network n) h → LiftedTo h
  kept h comes timely = record {
    happening = h;
    same = done_wired setting n h comes;
    timely = timely_whole setting n h comes timely;
  }

  pub lift : (h : Happening) → NearIfOurs h → IsTimely C (wired_network n) h → LiftedTo h
  lift (Strange at from segment) near timely =
      let l = lifts_at at from segment in
      record {
        happening = Strange at from l.segment;
        same = alike_does at (received wire (wired_table (n.tables at)) from segment)
            (received whole (n.tables at) from l.segment) l.alike;
        timely = (timely.0, timely.1, makes_lifted at from segment l timely.2);
      }
  lift (Takes which) near timely = lift_takes which near timely
  lift (Connects at to) near timely = kept (Connects at to) tt timely
  lift (Listens at on) near timely = kept (Listens at on) tt timely
  lift (Closes at id) near timely = kept (Closes at id) tt timely
  lift (Writes at id items) near timely = kept (Writes at id items) tt timely
  lift (Reads at id count) near timely = kept (Reads at id count) tt timely
  lift (Resets at id) near timely = kept (Resets at id) tt timely
  lift (Ticks at id fires) near timely = kept (Ticks at id fires) tt timely
  lift (Other count) near timely = kept (Other count) tt timely
