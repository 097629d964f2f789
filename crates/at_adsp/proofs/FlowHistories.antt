-- What is read is what was written, in its order, after every timely history.
use Rattle.std.proofs.Common.{◌≡◌, ℕ, ◌+◌, Bool, true, false, cond, List, [], ◌∷◌, ◌++◌, replicate, Option, Some, None}
use Rattle.std.proofs.Common.{refl, sym, ap, subst, ◌∙◌}
use Rattle.std.proofs.lemmas.Bool.{eqb-true}
use Rattle.at_ddp.proofs.Alls.{all_found}
use Rattle.at_ddp.specs.declared.address.Address.{Address}
use Rattle.at_adsp.specs.Network.{Setting, Made, Sent, Network, Happening, Connects, Listens, Closes, Writes, Reads}
use Rattle.at_adsp.specs.Network.{Resets, Ticks, Takes, Strange, Other}
use Rattle.at_ddp.specs.Posts.{packet_at}
use Rattle.at_ddp.proofs.PostLemmas.{none_sent, sent_at, sent_both}
use Rattle.at_adsp.specs.Network.{AllTimely, IsTimely, after, birth_of, born, done, has_birth, named, newest, takes}
use Rattle.at_adsp.specs.Network.{tick}
use Rattle.at_adsp.specs.Orders.{ReadsInOrder, whole_numbered}
use Rattle.at_adsp.specs.Reading.{ReadsFrom}
use Rattle.at_adsp.proofs.FlowCalls.{closes_flow, connects_flow, reads_flow, resets_flow, ticks_flow, writes_flow}
use Rattle.at_adsp.proofs.FlowReceptions.{hears_flow}
use Rattle.at_adsp.proofs.Flows.{CarriesHere, FlowOf, Flows, flow_later}
use Rattle.at_adsp.proofs.Histories.{history_sound, same_event}
use Rattle.at_adsp.proofs.Logs.{flat}
use Rattle.at_adsp.proofs.Readers.{reading_is_from}
use Rattle.at_adsp.proofs.Sound.{HasPeer, Sound}
use Rattle.at_adsp.proofs.Steps.{later}

takes_flow : (setting : Setting) (n : Network) (which : ℕ) → Sound (whole_numbered setting) n.event n
    → FlowOf n.event n → IsTimely (whole_numbered setting) n (Takes which)
    → FlowOf (n.event + 1) (takes (whole_numbered setting) n (packet_at n.sent which))
takes_flow setting n which sound flow timely = go (packet_at n.sent which) refl
  where
    go : (o : Option Sent) → packet_at n.sent which ≡ o → FlowOf (n.event + 1) (takes (whole_numbered setting) n o)
    go None is = flow_later n flow
    go (Some s) is =
        let t = timely s is in
        hears_flow setting n s.to s.from s.packet sound flow
        (λ b same. sent_at (CarriesHere n.made flow.logs) n.sent which s flow.sent is t.1 b
        (of (setting.ours s.from) (birth_of (newest n.made s.from s.packet.source)) b same)) t.2
      where
        of : (c : Bool) (o : Option ℕ) (b : ℕ) → cond c o None ≡ Some b → o ≡ Some b
        of true o b h = h
        of false o b h = absurd (cc)

-- what comes from a strange address is from no peer
strange_flow : (setting : Setting) (n : Network) (from : Address) (source b : ℕ) → setting.ours from ≡ false
    → {A : Type 0} → named (whole_numbered setting) n.made (Some (record { address = from; id = source })) ≡ Some b → A
strange_flow setting n from source b strange h =
    absurd (let none : named (whole_numbered setting) n.made (Some (record { address = from; id = source }))
    ≡ None = ap (λ c. cond c (birth_of (newest n.made from source)) None) strange in cc)

done_flow : (setting : Setting) (n : Network) (h : Happening) → Sound (whole_numbered setting) n.event n
    → FlowOf n.event n → IsTimely (whole_numbered setting) n h
    → FlowOf (n.event + 1) (done (whole_numbered setting) n h)
done_flow setting n (Connects at to) sound flow timely =
    connects_flow (whole_numbered setting) n at to sound flow timely
done_flow setting n (Listens at on) sound flow timely = flow_later n flow
done_flow setting n (Closes at id) sound flow timely =
    closes_flow setting n at id (later (whole_numbered setting) n sound) (flow_later n flow)
done_flow setting n (Writes at id items) sound flow timely =
    writes_flow setting n at id (later (whole_numbered setting) n sound) (flow_later n flow) items
done_flow setting n (Reads at id count) sound flow timely =
    reads_flow setting n at id (later (whole_numbered setting) n sound) (flow_later n flow) count
done_flow setting n (Resets at id) sound flow timely =
    resets_flow setting n at id (later (whole_numbered setting) n sound) (flow_later n flow)
done_flow setting n (Ticks at id tick) sound flow timely =
    ticks_flow setting n at id (later (whole_numbered setting) n sound) (flow_later n flow) tick
done_flow setting n (Takes which) sound flow timely = takes_flow setting n which sound flow timely
done_flow setting n (Strange at from s) sound flow timely =
    hears_flow setting n at from s sound flow (λ b h. strange_flow setting n from s.source b timely.1 h) timely.2
done_flow setting n (Other count) sound flow timely =
    let f = flow_later n flow in
    record {
      logs = f.logs;
      none = f.none;
      ends = f.ends;
      sent = sent_both (CarriesHere n.made f.logs) n.sent (replicate count None) f.sent
          (none_sent (CarriesHere n.made f.logs) count);
    }

ticked_flow : (events : ℕ) (n : Network) → n.event ≡ events → FlowOf (events + 1) n → FlowOf (tick n).event (tick n)
ticked_flow events n same h = subst (λ k. FlowOf (k + 1) n) (sym same) h

pub history_flow : (setting : Setting) (history : List Happening) → AllTimely (whole_numbered setting) history
    → FlowOf (after (whole_numbered setting) history).event (after (whole_numbered setting) history)
history_flow setting [] timely = record { logs = λ b. []; none = λ b le. refl; ends = tt; sent = tt }
history_flow setting (h ∷ hs) timely =
    ticked_flow (after (whole_numbered setting) hs).event
    (done (whole_numbered setting) (after (whole_numbered setting) hs) h)
    (same_event (whole_numbered setting) (after (whole_numbered setting) hs) h)
    (done_flow setting (after (whole_numbered setting) hs) h (history_sound (whole_numbered setting) hs timely.1)
    (history_flow setting hs timely.1) timely.0)

-- ---- the law

reads_in_order_so : (setting : Setting) (events : ℕ) (n : Network) → Sound setting events n → FlowOf events n
    → ReadsInOrder n
reads_in_order_so setting events n sound flow = record { reads = reads }
  where
    reads : (birth : ℕ) (m : Made) (other : ℕ) → born n.made birth ≡ Some m → m.stream.peer ≡ Some other → (p : Made)
        × (born n.made other ≡ Some p) × ReadsFrom m.stream.read p.stream.written
    reads birth m other is peer =
        let h = (all_found (HasPeer n.made) (has_birth birth) n.made m sound.peers is).0 other peer in
        let r = (all_found (Flows flow.logs) (has_birth birth) n.made m flow.ends is).0 in
        let p = all_found (Flows flow.logs) (has_birth other) n.made h.peer flow.ends h.there in
        let same : h.peer.stream.birth ≡ other = eqb-true h.peer.stream.birth other p.1 in
        let w = p.0.writer in (
          h.peer,
          h.there,
          subst (ReadsFrom m.stream.read) (ap (λ b. flat (flow.logs b) ++ w.rest) (sym same) ∙ sym w.starts)
              (reading_is_from m.stream.read m.last.receiver.unread (flow.logs other) m.last.receiver.received w.rest
              (r.reader other peer)),
        )

pub reads_in_order : (setting : Setting) (history : List Happening) → AllTimely (whole_numbered setting) history
    → ReadsInOrder (after (whole_numbered setting) history)
reads_in_order setting history timely =
    reads_in_order_so (whole_numbered setting) (after (whole_numbered setting) history).event
    (after (whole_numbered setting) history) (history_sound (whole_numbered setting) history timely)
    (history_flow setting history timely)
