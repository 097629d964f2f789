-- Where few segments are sent, no segment that comes is far behind the end that sent it.
use Rattle.std.proofs.Common.{◌≡◌, ℕ, ◌*◌, ◌^◌, ◌<◌, ◌≤◌, Bool, true, false, cond, List, [], ◌∷◌, length, replicate}
use Rattle.std.proofs.Common.{Option, Some, None, refl, sym, ap, subst, ◌∙◌, arith, lit<}
use Rattle.std.specs.Prelude.{Result, Ok, Err}
use Rattle.at_ddp.specs.Posts.{packet_at, stamped}
use Rattle.at_ddp.specs.declared.address.Address.{Address}
use Rattle.at_ddp.proofs.Alls.{all_found}
use Rattle.at_adsp_end.specs.Ends.{Receiver, has_opened}
use Rattle.at_adsp_end.specs.declared.fault.StreamFault.{StreamFault}
use Rattle.at_adsp_ends.specs.Calls.{closed_at, connected, read_at, reset_at, ticked_at, wrote}
use Rattle.at_adsp_ends.specs.Receiving.{received}
use Rattle.at_adsp_ends.specs.Tables.{Done, by_id, next_id}
use Rattle.at_adsp.specs.Cables.{few_segments, wire_numbered}
use Rattle.at_adsp.specs.Nearness.{AllNear, ComesNear, HasWindows, IsNear}
use Rattle.at_adsp.specs.Network.{Setting, Made, Sent, Network, Happening, Connects, Listens, Closes, Writes, Reads}
use Rattle.at_adsp.specs.Network.{Resets, Ticks, Takes, Strange, Other, AllTimely, IsTimely, after, calls_with}
use Rattle.at_adsp.specs.Network.{does_with}
use Rattle.at_adsp.specs.Network.{done, gave_up, is_end, is_fresh, newest, takes, wrote_first}
use Rattle.at_adsp.specs.Orders.{whole_numbered}
use Rattle.at_adsp.specs.Streams.{Deed, Nothing, Read}
use Rattle.at_adsp.proofs.Gone.{SenderIs, gone_below, history_pace}
use Rattle.at_adsp.proofs.GoneWires.{alike_now, gone_same}
use Rattle.at_adsp.proofs.Histories.{history_sound}
use Rattle.at_adsp.proofs.Logs.{length_both}
use Rattle.at_adsp.proofs.Mapped.{length_mapped, mapped}
use Rattle.at_adsp.proofs.NearHistories.{IsLifted, is_lifted}
use Rattle.at_adsp.proofs.PacedNetworks.{PaceOf, Paced}
use Rattle.at_adsp.proofs.Paces.{Marks, marks_of}
use Rattle.at_adsp.proofs.Sound.{Lawful, Sound}
use Rattle.at_adsp.proofs.WireHistories.{fresh_wired, some_mapped}
use Rattle.at_adsp.proofs.WireNetworks.{newest_wired, packet_wired, wired_made, wired_network, wired_sent}

-- what was sent stays
does_more : {X : Type 0} (deed : Deed) (setting : Setting) (n : Network) (at : Address) (d : Done X)
    → length n.sent ≤ length (does_with deed setting n at d).sent
does_more deed setting n at d = let m = length_both n.sent (stamped n.event at d.sent) in omega (arith, m)

calls_more : {X : Type 0} (deed : X → Deed) (setting : Setting) (n : Network) (at : Address)
    (r : Result (Done X) StreamFault) → length n.sent ≤ length (calls_with deed setting n at r).sent
calls_more deed setting n at (Err fault) = omega arith
calls_more deed setting n at (Ok d) = does_more (deed d.answer) setting n at d

takes_more : (setting : Setting) (n : Network) (o : Option Sent) → length n.sent ≤ length (takes setting n o).sent
takes_more setting n None = omega arith
takes_more setting n (Some s) =
    does_more Nothing setting n s.to (received setting.numbers (n.tables s.to) s.from s.packet)

done_more : (setting : Setting) (n : Network) (h : Happening) → length n.sent ≤ length (done setting n h).sent
done_more setting n (Connects at to) =
    calls_more (λ answer. Nothing) setting n at (connected (n.tables at) to (next_id (n.tables at)))
done_more setting n (Listens at on) = omega arith
done_more setting n (Closes at id) =
    calls_more (λ answer. Nothing) setting n at (closed_at setting.numbers (n.tables at) (by_id (n.tables at) id))
done_more setting n (Writes at id items) =
    calls_more (wrote_first items) setting n at (wrote setting.numbers (n.tables at) items (by_id (n.tables at) id))
done_more setting n (Reads at id count) =
    calls_more Read setting n at (read_at setting.numbers (n.tables at) count (by_id (n.tables at) id))
done_more setting n (Resets at id) =
    calls_more gave_up setting n at (reset_at setting.numbers (n.tables at) (by_id (n.tables at) id))
done_more setting n (Ticks at id tick) =
    calls_more (λ answer. Nothing) setting n at (ticked_at setting.numbers (n.tables at) tick (by_id (n.tables at) id))
done_more setting n (Takes which) = takes_more setting n (packet_at n.sent which)
done_more setting n (Strange at from segment) =
    does_more Nothing setting n at (received setting.numbers (n.tables at) from segment)
done_more setting n (Other count) = let m = length_both n.sent (replicate {A = Option Sent} count None) in
    omega (arith, m)

-- ---- how far ends have come

module _ (room : ℕ) (setting : Setting) (n : Network) (sound : Sound (whole_numbered setting) n.event n)
    (pace : PaceOf room setting.ours n.event n) (at : Address) (id : ℕ) (m : Made) (is : newest n.made at id ≡ Some m)
  where
    paced : Paced room setting.ours pace.marks m
    paced = (all_found (Paced room setting.ours pace.marks) (is_end at id) n.made m pace.ends is).0

    law : Lawful setting.ours m
    law = (all_found (Lawful setting.ours) (is_end at id) n.made m sound.lawful is).0

    -- each item that got a number was in a segment
    gave_few : (marks_of m.last).gave ≤ 573 * length n.sent
    gave_few =
        let p = paced in
        let same = ap (λ (k : Marks). k.gave) p.noted in
        let few = pace.few m.stream.birth in
        omega (arith, same, few)

    -- and an end received no more than its peer gave
    took_few : setting.ours m.stream.asked ≡ true → (marks_of m.last).took ≤ 573 * length n.sent
    took_few here = go (has_opened m.last.phase) refl
      where
        go : (c : Bool) → has_opened m.last.phase ≡ c → (marks_of m.last).took ≤ 573 * length n.sent
        go true opened =
            let l = law in
            let p = paced in
            let names = l.found opened (ap setting.ours l.asked ∙ here) in
            let peer = l.peer ∙ ap (λ c. cond c m.names None) opened ∙ names.1 in
            let f = p.follows names.0 peer in
            let most = f.received in
            let few = pace.few names.0 in
            omega (arith, most, few)
        go false opened =
            let p = paced in
            let none = p.begins opened in
            let received = ap (λ (x : Receiver). x.received) none.1 in
            omega (arith, received)

-- ---- histories

module _ (room : ℕ) (small : room < 2 ^ 16) (setting : Setting) (rooms : (at : Address)
    → (setting.rooms at).receive ≤ room)
  where
    abbrev C : Setting
    C = wire_numbered setting

    abbrev W : Setting
    W = whole_numbered setting

    module _ (history : List Happening) (w : IsLifted setting history)
        (few : length (after C history).sent ≤ few_segments) where
      same : after C history ≡ wired_network (after W w.lifted)
      same = alike_now setting history w.lifted w.alike

      fewer : length (after W w.lifted).sent ≤ few_segments
      fewer = subst (λ k. k ≤ few_segments) (ap (λ (x : Network). length x.sent) same
          ∙ length_mapped (mapped wired_sent) (after W w.lifted).sent) few

      near_there : (s : Sent) (m : Made) → SenderIs setting.ours (after W w.lifted).made s m → IsNear C history s
      near_there s m is =
          let sound = history_sound W w.lifted w.timely in
          let pace = history_pace room setting rooms w.lifted w.timely in
          let counts = gone_same room small setting rooms history w.lifted w.alike w.timely s m is in
          let below = gone_below room setting rooms w.lifted w.timely s m is in
          let gave = gave_few room setting (after W w.lifted) sound pace s.from s.packet.source m is.newest in
          let took = took_few room setting (after W w.lifted) sound pace s.from s.packet.source m is.newest is.here in
          let a = counts.0 in
          let b = counts.1 in
          let c = below.0 in
          let d = below.1 in
          let le = fewer in
          record { sent = omega (arith, a, c, gave, le); received = omega (arith, b, d, took, le) }

      comes_near : (h : Happening) → IsTimely C (after C history) h → ComesNear C history h
      comes_near (Takes which) timely = λ s at m is here.
          let sent = some_mapped wired_sent (packet_at (after W w.lifted).sent which) s
          (sym (packet_wired (after W w.lifted).sent which) ∙ ap (λ (x : Network). packet_at x.sent which)
          (sym same) ∙ at)
          in
          let there = some_mapped wired_made (newest (after W w.lifted).made s.from s.packet.source) m
          (sym (newest_wired (after W w.lifted).made s.from s.packet.source)
          ∙ ap (λ (x : Network). newest x.made s.from s.packet.source) (sym same) ∙ is) in
          let t = timely s at in
          let fresh = sym (fresh_wired (after W w.lifted).made sent.0)
          ∙ (λ i. is_fresh (ap (λ (x : Network). x.made) (sym same) i) (sent.1.1 i)) ∙ t.1 in
          let near = near_there sent.0 there.0
          (record {
            newest = ap (λ (x : Sent). newest (after W w.lifted).made x.from x.packet.source) sent.1.1 ∙ there.1.0;
            fresh = fresh;
            here = ap (λ (x : Made). setting.ours x.stream.asked) there.1.1 ∙ here;
          }) in
          let wired : IsNear C history (wired_sent sent.0) = record { sent = near.sent; received = near.received } in
          subst (λ (x : Sent). IsNear C history x) sent.1.1 wired
      comes_near (Strange at from segment) timely = tt
      comes_near (Connects at to) timely = tt
      comes_near (Listens at on) timely = tt
      comes_near (Closes at id) timely = tt
      comes_near (Writes at id items) timely = tt
      comes_near (Reads at id count) timely = tt
      comes_near (Resets at id) timely = tt
      comes_near (Ticks at id fires) timely = tt
      comes_near (Other count) timely = tt

    few_near : (history : List Happening) → AllTimely C history → length (after C history).sent ≤ few_segments
        → AllNear C history
    few_near [] timely few = tt
    few_near (h ∷ hs) timely few =
        let more = done_more C (after C hs) h in
        let less : length (after C hs).sent ≤ few_segments = omega (arith, few, more) in
        let near = few_near hs timely.1 less in
        (comes_near hs (is_lifted room small setting rooms hs timely.1 near) less h timely.0, near)

pub few_are_near : (setting : Setting) (history : List Happening) → HasWindows setting
    → AllTimely (wire_numbered setting) history → length (after (wire_numbered setting) history).sent ≤ few_segments →
    AllNear (wire_numbered setting) history
few_are_near setting history windows timely few =
    few_near 65535 (lit< tt) setting (λ at. let lt = windows at in omega (arith, lt)) history timely few
