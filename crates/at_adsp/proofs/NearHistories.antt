-- What is read on the cable was written in order, where no segment is far behind the end that sent it.
use Rattle.std.proofs.Common.{◌≡◌, ℕ, ◌+◌, ◌^◌, ◌<◌, ◌≤◌, List, [], ◌∷◌, Some, sym, ap, subst, ◌∙◌, arith, lit<}
use Rattle.std.specs.List.{AllByRecursion}
use Rattle.at_ddp.specs.declared.address.Address.{Address}
use Rattle.at_ddp.proofs.PostLemmas.{sent_at}
use Rattle.at_ddp.specs.Posts.{packet_at}
use Rattle.at_adsp_frame.specs.Segments.{Part, Reset}
use Rattle.at_adsp.specs.Cables.{wire_numbered}
use Rattle.at_adsp.specs.Nearness.{AllNear, HasWindows, gone, unsent, ComesNear as comes_soon}
use Rattle.at_adsp.specs.Network.{Setting, Made, Sent, Network, Happening, Connects, Listens, Closes, Writes, Reads}
use Rattle.at_adsp.specs.Network.{Resets, Ticks, Takes, Strange, Other, AllTimely, IsTimely, after, done, newest, tick}
use Rattle.at_adsp.specs.Orders.{IsNoReset, ReadsBeginnings, ReadsInOrder, whole_numbered}
use Rattle.at_adsp.proofs.EndMoves.{IsPlainPart}
use Rattle.at_adsp.proofs.FlowHistories.{history_flow, reads_in_order}
use Rattle.at_adsp.proofs.Gone.{SenderIs, history_pace, since}
use Rattle.at_adsp.proofs.GoneWires.{Alike, alike_now, gone_same}
use Rattle.at_adsp.proofs.Histories.{history_sound}
use Rattle.at_adsp.proofs.Mapped.{mapped}
use Rattle.at_adsp.proofs.StrangeWires.{NearIfOurs, lift}
use Rattle.at_adsp.proofs.Nears.{LiesNear}
use Rattle.at_adsp.proofs.PacedNetworks.{TellsHere, most_of}
use Rattle.at_adsp.proofs.Paces.{marks_of}
use Rattle.at_adsp.proofs.PlainHistories.{plain_begins}
use Rattle.at_adsp.proofs.Sound.{Fresh, Sound}
use Rattle.at_adsp.proofs.Slows.{TellsAll}
use Rattle.at_adsp.proofs.WireHistories.{fresh_wired, reads_wired}
use Rattle.at_adsp.proofs.WireNetworks.{newest_wired, packet_wired, wired_made, wired_network, wired_sent}
use Rattle.at_adsp.proofs.NearWires.{IsSoon, unread_here, takes_near}

-- ---- histories

-- The network on the cable is one whose numbers may be of any size. Only what comes from strange addresses may be
-- another there.
pub record IsLifted (setting : Setting) (history : List Happening) : Type 0 where
  pub lifted : List Happening
  pub alike : Alike setting history lifted
  pub timely : AllTimely (whole_numbered setting) lifted

tells_near : (part : Part) (gave first sent : ℕ) → sent < 2 ^ 31 → TellsAll gave (first + sent) part
    → LiesNear part gave first
tells_near Reset gave first sent lt h = omega (arith, lt, h)
tells_near other gave first sent lt h = tt

module _ (room : ℕ) (small : room < 2 ^ 16) (setting : Setting) (rooms : (at : Address)
    → (setting.rooms at).receive ≤ room)
  where
    abbrev C : Setting
    C = wire_numbered setting

    abbrev Whole : Setting
    Whole = whole_numbered setting

    module _ (history : List Happening) (w : IsLifted setting history) where
      same : after C history ≡ wired_network (after Whole w.lifted)
      same = alike_now setting history w.lifted w.alike

      sound : Sound Whole (after Whole w.lifted).event (after Whole w.lifted)
      sound = history_sound Whole w.lifted w.timely

      -- a segment is as near its end as on the cable
      soon : (which : ℕ) (s : Sent) → packet_at (after Whole w.lifted).sent which ≡ Some s
          → comes_soon C history (Takes which) → IsPlainPart s.packet.body → (m : Made)
          → SenderIs setting.ours (after Whole w.lifted).made s m → IsSoon (most_of room) (marks_of m.last) s.packet
      soon which s at near plain m is =
          let here : packet_at (after C history).sent which ≡ Some (wired_sent s) =
          ap (λ (x : Network). packet_at x.sent which) same ∙ packet_wired (after Whole w.lifted).sent which
          ∙ ap (mapped wired_sent) at in
          let there : newest (after C history).made s.from s.packet.source ≡ Some (wired_made m) =
          ap (λ (x : Network). newest x.made s.from s.packet.source) same
          ∙ newest_wired (after Whole w.lifted).made s.from s.packet.source ∙ ap (mapped wired_made) is.newest in
          let close = near (wired_sent s) here (wired_made m) there is.here in
          let counts = gone_same room small setting rooms history w.lifted w.alike w.timely s m is in
          let told = since room setting rooms w.lifted w.timely which s m at plain is in
          let a = counts.0 in
          let b = counts.1 in
          let sent = close.sent in
          let received = close.received in
          let gave = told.gave in
          let took = told.took in
          record {
            gave = omega (arith, gave, a, sent);
            took = omega (arith, took, b, received);
            exact = tells_near s.packet.body (marks_of m.last).gave s.packet.first (gone Whole unsent w.lifted s)
                (omega (arith, a, sent)) told.exact;
            count = told.count;
          }

      comes_near : (h : Happening) → IsTimely C (wired_network (after Whole w.lifted)) h → comes_soon C history h
          → NearIfOurs setting (after Whole w.lifted) sound (history_flow setting w.lifted w.timely)
          (unread_here room small setting (after Whole w.lifted) sound
          (history_pace room setting rooms w.lifted w.timely)) h
      comes_near (Takes which) timely near = λ s is ours.
          let u = timely (wired_sent s) (packet_wired (after Whole w.lifted).sent which ∙ ap (mapped wired_sent) is) in
          takes_near room small setting (after Whole w.lifted) sound
          (history_pace room setting rooms w.lifted w.timely) s
          (sent_at (TellsHere room (after Whole w.lifted).made
          (history_pace room setting rooms w.lifted w.timely).marks)
          (after Whole w.lifted).sent which s (history_pace room setting rooms w.lifted w.timely).sent is)
          (sent_at (Fresh Whole (after Whole w.lifted).made) (after Whole w.lifted).sent which s sound.sent is)
          (sym (fresh_wired (after Whole w.lifted).made s) ∙ u.1) u.0 ours (soon which s is near)
      comes_near (Strange at from segment) timely near = tt
      comes_near (Connects at to) timely near = tt
      comes_near (Listens at on) timely near = tt
      comes_near (Closes at id) timely near = tt
      comes_near (Writes at id items) timely near = tt
      comes_near (Reads at id count) timely near = tt
      comes_near (Resets at id) timely near = tt
      comes_near (Ticks at id fires) timely near = tt
      comes_near (Other count) timely near = tt

      lifted_more : (h : Happening) → IsTimely C (after C history) h → comes_soon C history h
          → IsLifted setting (h ∷ history)
      lifted_more h timely near =
          let now : IsTimely C (wired_network (after Whole w.lifted)) h = subst (λ
          (m : Network). IsTimely C m h) same timely in
          let l = lift setting (after Whole w.lifted) sound (history_flow setting w.lifted w.timely)
          (unread_here room small setting (after Whole w.lifted) sound
          (history_pace room setting rooms w.lifted w.timely)) h
          (comes_near h now near) now in
          record {
            lifted = l.happening ∷ w.lifted;
            alike = (ap (λ (m : Network). tick (done C m h)) same ∙ ap tick l.same, w.alike);
            timely = (l.timely, w.timely);
          }

    pub is_lifted : (history : List Happening) → AllTimely C history → AllNear C history → IsLifted setting history
    is_lifted [] timely near = record { lifted = []; alike = tt; timely = tt }
    is_lifted (h ∷ hs) timely near = lifted_more hs (is_lifted hs timely.1 near.1) h timely.0 near.0

pub near_reads : (setting : Setting) (history : List Happening) → HasWindows setting
    → AllTimely (wire_numbered setting) history → AllNear (wire_numbered setting) history →
    ReadsInOrder (after (wire_numbered setting) history)
near_reads setting history windows timely near =
    let w = is_lifted 65535 (lit< tt) setting (λ at. let lt = windows at in omega (arith, lt)) history timely near in
    subst ReadsInOrder (sym (alike_now setting history w.lifted w.alike))
    (reads_wired (after (whole_numbered setting) w.lifted) (reads_in_order setting w.lifted w.timely))

pub near_begins : (setting : Setting) (history : List Happening) → HasWindows setting
    → AllTimely (wire_numbered setting) history → AllNear (wire_numbered setting) history
    → AllByRecursion IsNoReset history →
    ReadsBeginnings (after (wire_numbered setting) history)
near_begins setting history windows timely near calm =
    plain_begins (wire_numbered setting) history (near_reads setting history windows timely near) calm
