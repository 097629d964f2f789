-- What every timely history leaves true of a network of ends of streams.
use Rattle.std.proofs.Common.{◌≡◌, ℕ, ◌+◌, Bool, true, false, cond, List, [], ◌∷◌, Option, Some, None, ◌⊎◌, inl, inr}
use Rattle.std.proofs.Common.{refl, sym, ap, subst, ◌∙◌, arith}
use Rattle.std.specs.Prelude.{not, Result, Ok, Err}
use Rattle.std.proofs.lemmas.Bool.{eqb-true}
use Rattle.at_ddp.specs.declared.address.Address.{Address}
use Rattle.at_ddp.proofs.Alls.{all_found}
use Rattle.at_ddp.proofs.Octets.{same_both}
use Rattle.at_adsp_end.specs.Ends.{EndState, has_opened}
use Rattle.at_adsp_end.specs.declared.fault.StreamFault.{StreamFault}
use Rattle.at_adsp_ends.specs.Calls.{closed_at, connected, read_at, reset_at, ticked_at, wrote}
use Rattle.at_adsp_ends.specs.Tables.{Done, by_id, has_id, next_id}
use Rattle.at_adsp.specs.Network.{Setting, Made, Sent, Network, Happening, Connects, Listens, Closes, Writes, Reads}
use Rattle.at_adsp.specs.Network.{Resets, Ticks, Takes, Strange, Other}
use Rattle.at_ddp.specs.Posts.{packet_at}
use Rattle.at_ddp.proofs.PostLemmas.{sent_at}
use Rattle.at_adsp.specs.Network.{birth_of, born, has_birth, is_end, named, newest, calls_with, gave_up, wrote_first}
use Rattle.at_adsp.specs.Network.{takes, done, tick, after, IsTimely, AllTimely}
use Rattle.at_adsp.specs.Streams.{Deed, Nothing, Read}
use Rattle.at_adsp.specs.Pairs.{AreConnected, Asked, GivesPairs, IsPaired, number_of}
use Rattle.at_adsp.proofs.CallLemmas.{closes_sound, connects_sound, reads_sound, resets_sound, ticks_sound}
use Rattle.at_adsp.proofs.CallLemmas.{writes_sound}
use Rattle.at_adsp.proofs.Growth.{found_born}
use Rattle.at_adsp.proofs.HeardSegments.{hears_sound}
use Rattle.at_adsp.proofs.Sound.{Fresh, HasPeer, Lawful, Mutual, Sound, Stands, reached, Tells}
use Rattle.at_adsp.proofs.Steps.{foreign_sound, later, listens_sound}

takes_sound : (setting : Setting) (n : Network) (which : ℕ) → Sound setting n.event n
    → IsTimely setting n (Takes which) → Sound setting (n.event + 1) (takes setting n (packet_at n.sent which))
takes_sound setting n which sound timely = go (packet_at n.sent which) refl
  where
    go : (o : Option Sent) → packet_at n.sent which ≡ o → Sound setting (n.event + 1) (takes setting n o)
    go None is = later setting n sound
    go (Some s) is =
        let t = timely s is in
        hears_sound setting n s.to s.from s.packet sound t.0 t.2
        (by s (sent_at (Fresh setting n.made) n.sent which s sound.sent is t.1) (setting.ours s.from) refl)
      where
        by : (x : Sent) → Tells setting n.made x.from x.to x.packet.source x.packet.body → (b : Bool)
            → setting.ours x.from ≡ b →
            (setting.ours x.from ≡ false)
            ⊎ ((setting.ours x.from ≡ true) × Tells setting n.made x.from x.to x.packet.source x.packet.body)
        by x tells false e = inl e
        by x tells true e = inr (e, tells)

done_sound : (setting : Setting) (n : Network) (h : Happening) → Sound setting n.event n → IsTimely setting n h
    → Sound setting (n.event + 1) (done setting n h)
done_sound setting n (Connects at to) sound timely = connects_sound setting n at to sound timely
done_sound setting n (Listens at on) sound timely = listens_sound setting n at on (later setting n sound)
done_sound setting n (Closes at id) sound timely = closes_sound setting n at id (later setting n sound)
done_sound setting n (Writes at id items) sound timely = writes_sound setting n at id (later setting n sound) items
done_sound setting n (Reads at id count) sound timely = reads_sound setting n at id (later setting n sound) count
done_sound setting n (Resets at id) sound timely = resets_sound setting n at id (later setting n sound)
done_sound setting n (Ticks at id tick) sound timely = ticks_sound setting n at id (later setting n sound) tick
done_sound setting n (Takes which) sound timely = takes_sound setting n which sound timely
done_sound setting n (Strange at from s) sound timely = hears_sound setting n at from s sound timely.0 timely.2
    (inl timely.1)
done_sound setting n (Other count) sound timely = foreign_sound setting n count (later setting n sound)

-- ---- histories

-- no happening counts events but the tick
same_call : {X : Type 0} (deed : X → Deed) (setting : Setting) (n : Network) (at : Address)
    (r : Result (Done X) StreamFault) → (calls_with deed setting n at r).event ≡ n.event
same_call deed setting n at (Err fault) = refl
same_call deed setting n at (Ok d) = refl

pub same_event : (setting : Setting) (n : Network) (h : Happening) → (done setting n h).event ≡ n.event
same_event setting n (Connects at to) =
    same_call (λ answer. Nothing) setting n at (connected (n.tables at) to (next_id (n.tables at)))
same_event setting n (Closes at id) =
    same_call (λ answer. Nothing) setting n at (closed_at setting.numbers (n.tables at) (by_id (n.tables at) id))
same_event setting n (Writes at id items) =
    same_call (wrote_first items) setting n at (wrote setting.numbers (n.tables at) items (by_id (n.tables at) id))
same_event setting n (Reads at id count) =
    same_call Read setting n at (read_at setting.numbers (n.tables at) count (by_id (n.tables at) id))
same_event setting n (Resets at id) =
    same_call gave_up setting n at (reset_at setting.numbers (n.tables at) (by_id (n.tables at) id))
same_event setting n (Ticks at id tick) =
    same_call (λ answer. Nothing) setting n at (ticked_at setting.numbers (n.tables at) tick (by_id (n.tables at) id))
same_event setting n (Takes which) = go (packet_at n.sent which)
  where
    go : (o : Option Sent) → (takes setting n o).event ≡ n.event
    go None = refl
    go (Some s) = refl
same_event setting n other = refl

ticked : (setting : Setting) (events : ℕ) (n : Network) → n.event ≡ events → Sound setting (events + 1) n
    → Sound setting (tick n).event (tick n)
ticked setting events n same s =
    let t : Sound setting (n.event + 1) n = subst (λ k. Sound setting (k + 1) n) (sym same) s in
    record {
      births = t.births;
      past = t.past;
      lawful = t.lawful;
      peers = t.peers;
      sent = t.sent;
      standing = t.standing;
      differ = t.differ;
      next = t.next;
    }

pub history_sound : (setting : Setting) (history : List Happening) → AllTimely setting history
    → Sound setting (after setting history).event (after setting history)
history_sound setting [] timely =
    record {
      births = tt;
      past = tt;
      lawful = tt;
      peers = tt;
      sent = tt;
      standing = λ at. tt;
      differ = λ at. tt;
      next = λ at. omega arith;
    }
history_sound setting (h ∷ hs) timely =
    ticked setting (after setting hs).event (done setting (after setting hs) h)
    (same_event setting (after setting hs) h)
    (done_sound setting (after setting hs) h (history_sound setting hs timely.1) timely.0)

-- ---- the law

module _ (setting : Setting) (events : ℕ) (n : Network) (sound : Sound setting events n) where
  born_lawful : (birth : ℕ) (m : Made) → born n.made birth ≡ Some m → Lawful setting.ours m × (m.stream.birth ≡ birth)
  born_lawful birth m is = let found = all_found (Lawful setting.ours) (has_birth birth) n.made m sound.lawful is in
      (found.0, eqb-true m.stream.birth birth found.1)

  born_mutual : (birth : ℕ) (m : Made) (other : ℕ) → born n.made birth ≡ Some m → m.stream.peer ≡ Some other
      → Mutual n.made m other
  born_mutual birth m other is peer =
      (all_found (HasPeer n.made) (has_birth birth) n.made m sound.peers is).0 other peer

  -- what has a peer opened
  peer_opened : (m : Made) (other : ℕ) → Lawful setting.ours m → m.stream.peer ≡ Some other → has_opened m.last.phase
      ≡ true
  peer_opened m other l peer = go (has_opened m.last.phase) (sym l.peer ∙ peer)
    where
      go : (b : Bool) → cond b m.names None ≡ Some other → b ≡ true
      go true h = refl
      go false h = absurd (cc)

  -- one of two ends that have each other as remote asked the other
  one_asked : (m p : Made) → Lawful setting.ours m → Lawful setting.ours p → m.last.remote ≡ Some (number_of p)
      → p.last.remote ≡ Some (number_of m) → p.stream.listener ≡ not m.stream.listener → Asked m p ⊎ Asked p m
  one_asked m p l k names named turned = go m.stream.listener refl
    where
      there : (x y : Made) → Lawful setting.ours x → x.last.remote ≡ Some (number_of y) → x.stream.asked
          ≡ y.stream.owner
      there x y g is = sym g.asked
          ∙ sym (reached x.last.phase x.last.listener x.last.asked x.last.remote (number_of y) g.known is)

      go : (b : Bool) → m.stream.listener ≡ b → Asked m p ⊎ Asked p m
      go false is = inl (record { asks = is; listens = turned ∙ ap not is; there = there m p l names })
      go true is = inr (record { asks = turned ∙ ap not is; listens = is; there = there p m k named })

  connected_with : (m : Made) (other : ℕ) → Lawful setting.ours m → m.stream.peer ≡ Some other
      → (h : Mutual n.made m other) → AreConnected m h.peer
  connected_with m other l peer h =
      let p = born_lawful other h.peer h.there in
      record {
        peer = peer ∙ ap Some (sym p.1);
        opened = peer_opened m other l peer;
        names = h.names;
        named = h.named;
        asked = one_asked m h.peer l p.0 h.names h.named h.turned;
        back = h.back;
      }

  stands : (at : Address) (id : ℕ) (e : EndState) → by_id (n.tables at) id ≡ Some e → Stands setting n.made at e
      × (e.id ≡ id)
  stands at id e is = let found = all_found (Stands setting n.made at) (has_id id) (n.tables at).ends e
      (sound.standing at) is in (found.0, eqb-true e.id id found.1)

  paired : (at : Address) (id : ℕ) (e : EndState) → by_id (n.tables at) id ≡ Some e → has_opened e.phase ≡ true
      → setting.ours e.asked ≡ true → IsPaired n.made at e
  paired at id e is opened ours = record {
    it = it;
    peer = h.peer;
    last = s.last;
    number = λ i. record { address = own.0 i; id = own.1 i };
    paired = record {
      names = h.names;
      named = h.named;
      newest = (λ i. newest n.made (own.0 i) (own.1 i)) ∙ s.newest;
      peer_newest = go (newest n.made h.peer.stream.owner h.peer.stream.id) refl;
    };
    connected = connected_with it found.0 l peer h;
  }
    where
      s : Stands setting n.made at e
      s = (stands at id e is).0

      it : Made
      it = (stands at id e is).0.it

      l : Lawful setting.ours (stands at id e is).0.it
      l = (all_found (Lawful setting.ours) (is_end at e.id) n.made s.it sound.lawful s.newest).0

      own : ((stands at id e is).0.it.stream.owner ≡ at) × ((stands at id e is).0.it.stream.id ≡ e.id)
      own = same_both s.it.stream.owner at s.it.stream.id e.id
          (all_found (Lawful setting.ours) (is_end at e.id) n.made s.it sound.lawful s.newest).1

      was : has_opened (stands at id e is).0.it.last.phase ≡ true
      was = ap (λ (x : EndState). has_opened x.phase) s.last ∙ opened

      found : (b : ℕ) × ((stands at id e is).0.it.names ≡ Some b)
      found = l.found was (ap (λ (x : EndState). setting.ours x.asked) s.last ∙ ours)

      peer : (stands at id e is).0.it.stream.peer ≡ Some found.0
      peer = l.peer ∙ ap (λ c. cond c s.it.names None) was ∙ found.1

      h : Mutual n.made (stands at id e is).0.it found.0
      h = (all_found (HasPeer n.made) (is_end at e.id) n.made s.it sound.peers s.newest).0 found.0 peer

      go : (o : Option Made) → newest n.made h.peer.stream.owner h.peer.stream.id ≡ o → o ≡ Some h.peer
      go o there =
          of o there
          (ours_too (setting.ours h.peer.stream.owner) o
          (sym found.1 ∙ s.names ∙ ap (λ (x : EndState). named setting n.made x.remote) (sym s.last)
          ∙ ap (named setting n.made) h.names
          ∙ ap (λ x. cond (setting.ours h.peer.stream.owner) (birth_of x) None) there))
        where
          ours_too : (b : Bool) (o : Option Made) → Some found.0 ≡ cond b (birth_of o) None → Some found.0 ≡ birth_of o
          ours_too true o g = g
          ours_too false o g = absurd (cc)

          of : (o : Option Made) → newest n.made h.peer.stream.owner h.peer.stream.id ≡ o → Some found.0 ≡ birth_of o
              → o ≡ Some h.peer
          of None is b = absurd (cc)
          of (Some q) is b =
              let same : q.stream.birth ≡ found.0 = cc in
              sym (found_born (is_end h.peer.stream.owner h.peer.stream.id) q n.made events sound.births is)
              ∙ ap (born n.made) same ∙ h.there

  pub gives_pairs : GivesPairs setting n
  gives_pairs = record {
    standing = λ at id e is. let s = stands at id e is in
        (s.0.it, ap (newest n.made at) (sym s.1) ∙ s.0.newest, s.0.last);
    paired = paired;
    peers = λ birth m other is peer.
        let h = born_mutual birth m other is peer in
        (h.peer, h.there, connected_with m other (born_lawful birth m is).0 peer h);
    sole = λ birth m second q other is there a b.
        let h = born_mutual birth m other is a in
        let g = born_mutual second q other there b in
        let one : h.peer ≡ g.peer = (let x = h.there in let y = g.there in cc) in
        let names : Some m.stream.birth ≡ Some q.stream.birth = sym h.known ∙ ap (λ (x : Made). x.names) one
        ∙ g.known in
        let same : m.stream.birth ≡ q.stream.birth = cc in
        sym (born_lawful birth m is).1 ∙ same ∙ (born_lawful second q there).1;
  }

pub are_paired : (setting : Setting) (history : List Happening) → AllTimely setting history
    → GivesPairs setting (after setting history)
are_paired setting history timely = gives_pairs setting (after setting history).event (after setting history)
    (history_sound setting history timely)
