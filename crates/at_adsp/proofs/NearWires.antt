-- An end on the cable is near each segment that it hears, if no segment is far behind the end that sent it.
use Rattle.std.proofs.Common.{◌≡◌, ℕ, ◌+◌, ◌^◌, ◌<◌, ◌≤◌, Bool, true, false, cond, length, Option, Some, None, refl}
use Rattle.std.proofs.Common.{sym, ap, subst, ◌∙◌, arith}
use Rattle.std.specs.Prelude.{find}
use Rattle.std.proofs.lemmas.Bool.{eqb-true}
use Rattle.at_ddp.specs.declared.address.Address.{Address}
use Rattle.at_ddp.proofs.Alls.{all_found, found_passes as passes}
use Rattle.at_ddp.proofs.Octets.{same_both}
use Rattle.at_adsp_frame.specs.Segments.{Content, Part, Data, Probe, Open, Close, Reset, ResetAck, Advice}
use Rattle.at_adsp_frame.specs.declared.segment.OpenKind.TheVariants.{Request, Acknowledgement}
use Rattle.at_adsp_frame.specs.declared.segment.OpenKind.TheVariants.{RequestAndAcknowledgement, Denial}
use Rattle.at_adsp_end.specs.Ends.{EndState, Receiver, Sender, has_opened, has_remote, is_open}
use Rattle.at_adsp_end.specs.declared.remote.Remote.{Remote}
use Rattle.at_adsp_ends.specs.Tables.{EndTable, by_remote, has_id}
use Rattle.at_adsp.specs.Network.{Setting, Made, Sent, Network, birth_of, born, is_end, is_fresh, named, newest}
use Rattle.at_adsp.specs.Pairs.{number_of}
use Rattle.at_adsp.specs.Orders.{whole_numbered}
use Rattle.at_adsp.proofs.EndMoves.{IsPlainPart, open_is}
use Rattle.at_adsp.proofs.Fews.{count_of}
use Rattle.at_adsp.proofs.Gone.{SenderIs}
use Rattle.at_adsp.proofs.Growth.{found_born}
use Rattle.at_adsp.proofs.StrangeWires.{asked_there}
use Rattle.at_adsp.proofs.Nears.{IsNear, LiesNear}
use Rattle.at_adsp.proofs.PacedNetworks.{PaceOf, Paced, TellsHere, most_of}
use Rattle.at_adsp.proofs.Paces.{Follows, Keeps, Marks, marks_of}
use Rattle.at_adsp.proofs.Receptions.{own_remote}
use Rattle.at_adsp.proofs.Sound.{Fresh, HasPeer, Knows, Lawful, Mutual, Reaches, Sound, Stands, Tells, Told, reached}
use Rattle.at_adsp.proofs.Steps.{found_passes, found_stands, stands_known}
use Rattle.at_adsp.proofs.WireSegments.{HearsNear, OpensNear, OpensNearPart}
use Rattle.std.proofs.lemmas.Option.{same_Some}

-- an end that hears a segment has few more numbers under way than the segment tells
pub record IsSoon (most : ℕ) (m : Marks) (s : Content) : Type 0 where
  pub gave : m.gave < s.first + 2 ^ 31 + most
  pub took : m.took < s.next + 2 ^ 31 + most
  pub exact : LiesNear s.body m.gave s.first
  pub count : count_of s.body ≤ most

lies_less : (part : Part) (a b first : ℕ) → a ≤ b → LiesNear part b first → LiesNear part a first
lies_less Reset a b first le h = omega (arith, le, h)
lies_less other a b first le h = tt

module _ (room : ℕ) (small : room < 2 ^ 16) (setting : Setting) (n : Network)
    (sound : Sound (whole_numbered setting) n.event n) (pace : PaceOf room setting.ours n.event n) where
  abbrev W : Setting
  W = whole_numbered setting

  -- ---- ends and their peers

  pace_at : (q : Made → Bool) (m : Made) → find q n.made ≡ Some m → Paced room setting.ours pace.marks m
  pace_at q m is = (all_found (Paced room setting.ours pace.marks) q n.made m pace.ends is).0

  -- an end that names one of this birth follows it, or did nothing yet
  record Behind (m : Made) (b : ℕ) : Type 0 where
    gave : (pace.marks m.stream.birth).gave ≤ (pace.marks b).took + room
    took : (pace.marks m.stream.birth).took ≤ (pace.marks b).gave

  behind : (q : Made → Bool) (m : Made) (b : ℕ) → find q n.made ≡ Some m → m.names ≡ Some b → Behind m b
  behind q m b is names = go (has_opened m.last.phase) refl
    where
      law : Lawful W.ours m
      law = (all_found (Lawful W.ours) q n.made m sound.lawful is).0

      p : Paced room setting.ours pace.marks m
      p = pace_at q m is

      go : (c : Bool) → has_opened m.last.phase ≡ c → Behind m b
      go true opened =
          let l = law in
          let k = p in
          let f = k.follows b (l.peer ∙ ap (λ c. cond c m.names None) opened ∙ names) in
          let gave = ap (λ (x : Marks). x.gave) k.noted in
          let took = ap (λ (x : Marks). x.took) k.noted in
          let limit = f.limit in
          let received = f.received in
          record { gave = omega (arith, gave, limit); took = omega (arith, took, received) }
      go false opened =
          let k = p in
          let none = k.begins opened in
          let gave = ap (λ (x : Marks). x.gave) k.noted in
          let took = ap (λ (x : Marks). x.took) k.noted in
          let sent = ap (λ (x : Sender). x.front + length x.unacknowledged) none.0 in
          let received = ap (λ (x : Receiver). x.received) none.1 in
          record { gave = omega (arith, gave, sent); took = omega (arith, took, received) }

  -- no end has more unread than it received
  pub unread_here : (at : Address) (q : EndState → Bool) (e : EndState) → find q (n.tables at).ends ≡ Some e
      → length e.receiver.unread ≤ e.receiver.received
  unread_here at q e is =
      let st = found_stands W n.event n at q e sound is in
      let p = pace_at (is_end at e.id) st.it st.newest in
      let k = subst (λ (x : EndState). Keeps room (setting.ours x.asked) x) st.last p.keeps in
      k.unread

  -- ---- a segment that comes

  module _ (s : Sent) (h : TellsHere room n.made pace.marks s) (says : Fresh W n.made s)
      (fresh : is_fresh n.made s ≡ true) (ours : setting.ours s.to ≡ true) (from_ours : setting.ours s.from ≡ true)
      (soon : IsPlainPart s.packet.body → (m : Made) → SenderIs setting.ours n.made s m
      → IsSoon (most_of room) (marks_of m.last) s.packet) where
    abbrev t : EndTable
    t = n.tables s.to

    abbrev r : Remote
    r = record { address = s.from; id = s.packet.source }

    -- the end that sent it
    record Sender_is (b : ℕ) : Type 0 where
      it : Made
      newest : newest n.made s.from s.packet.source ≡ Some it
      birth : it.stream.birth ≡ b

    sender_is : (b : ℕ) (o : Option Made) → newest n.made s.from s.packet.source ≡ o → birth_of o ≡ Some b → Sender_is b
    sender_is b None is h = absurd (cc)
    sender_is b (Some m) is h = let same : m.stream.birth ≡ b = cc in record { it = m; newest = is; birth = same }

    hears_near : IsPlainPart s.packet.body → (e : EndState) → by_remote t r ≡ Some e → is_open e.phase ≡ true
        → IsNear e s.packet
    hears_near plain e is opened = near
      where
        st : Stands W n.made s.to e
        st = found_stands W n.event n s.to (has_remote r) e sound is

        law : Lawful W.ours st.it
        law = (all_found (Lawful W.ours) (is_end s.to e.id) n.made st.it sound.lawful st.newest).0

        owner : st.it.stream.owner ≡ s.to
        owner = (same_both st.it.stream.owner s.to st.it.stream.id e.id
            (all_found (Lawful W.ours) (is_end s.to e.id) n.made st.it sound.lawful st.newest).1).0

        known : Reaches e.asked e.remote
        known = subst (λ p. Knows p e.listener e.asked e.remote) (open_is e.phase opened)
            (stands_known W n.event n s.to e sound st)

        remote : e.remote ≡ Some r
        remote = own_remote r e.asked e.remote known (found_passes W n.event n s.to (has_remote r) e sound is)

        asked : e.asked ≡ s.from
        asked = asked_there W n.event n s.to s.from s.packet.source e sound is opened

        here : setting.ours e.asked ≡ true
        here = ap setting.ours asked ∙ from_ours

        was : has_opened st.it.last.phase ≡ true
        was = ap (λ (x : EndState). has_opened x.phase) st.last ∙ ap has_opened (open_is e.phase opened)

        found : (b : ℕ) × (st.it.names ≡ Some b)
        found = let l = law in l.found was (ap setting.ours (ap (λ (x : EndState). x.asked) st.last) ∙ here)

        birth_is : birth_of (newest n.made s.from s.packet.source) ≡ Some found.0
        birth_is = sym (ap (λ c. cond c (birth_of (newest n.made s.from s.packet.source)) None) from_ours)
            ∙ sym (ap (named W n.made) remote) ∙ sym st.names ∙ found.1

        sender : Sender_is found.0
        sender = sender_is found.0 (newest n.made s.from s.packet.source) refl birth_is

        peer : st.it.stream.peer ≡ Some found.0
        peer = let l = law in l.peer ∙ ap (λ c. cond c st.it.names None) was ∙ found.1

        joined : Mutual n.made st.it found.0
        joined = (all_found (HasPeer n.made) (is_end s.to e.id) n.made st.it sound.peers st.newest).0 found.0 peer

        sender_same : sender.it ≡ joined.peer
        sender_same =
            let w = sender in
            let x = joined in
            let there = found_born (is_end s.from s.packet.source) w.it n.made n.event sound.births w.newest in
            same_Some w.it x.peer (sym there ∙ ap (born n.made) w.birth ∙ x.there)

        same_names : sender.it.names ≡ Some st.it.stream.birth
        same_names = let x = joined in ap (λ (m : Made). m.names) sender_same ∙ x.known

        -- the sender asked this address, or was asked from here
        sender_ours : SenderIs setting.ours n.made s sender.it
        sender_ours =
            let w = sender in
            let x = joined in
            let its = (all_found (Lawful W.ours) (is_end s.from s.packet.source) n.made w.it sound.lawful w.newest).0 in
            let names : w.it.last.remote ≡ Some (number_of st.it) = ap (λ (m : Made). m.last.remote) sender_same
            ∙ x.named in
            let asked_here : st.it.stream.owner ≡ w.it.last.asked = reached w.it.last.phase w.it.last.listener
            w.it.last.asked w.it.last.remote (number_of st.it) its.known names in
            record {
              newest = w.newest;
              fresh = fresh;
              here = ap setting.ours (sym its.asked) ∙ ap setting.ours (sym asked_here) ∙ ap setting.ours owner ∙ ours;
            }

        near : IsNear e s.packet
        near =
            let w = sender in
            let p = pace_at (is_end s.to e.id) st.it st.newest in
            let f : Follows room (pace.marks found.0) e =
            subst (Follows room (pace.marks found.0)) st.last (p.follows found.0 peer) in
            let k : Keeps room (setting.ours e.asked) e =
            subst (λ (x : EndState). Keeps room (setting.ours x.asked) x) st.last p.keeps in
            let mine : pace.marks st.it.stream.birth ≡ marks_of e = p.noted ∙ ap marks_of st.last in
            let q = pace_at (is_end s.from s.packet.source) w.it w.newest in
            let its : pace.marks found.0 ≡ marks_of w.it.last = ap pace.marks (sym w.birth) ∙ q.noted in
            let tells = h.tells fresh found.0 birth_is in
            let back : Behind w.it st.it.stream.birth =
            behind (is_end s.from s.packet.source) w.it st.it.stream.birth w.newest same_names in
            let soon_ = soon plain w.it sender_ours in
            let a = ap (λ (m : Marks). m.gave) mine in
            let b = ap (λ (m : Marks). m.took) mine in
            let c = ap (λ (m : Marks). m.gave) its in
            let d = ap (λ (m : Marks). m.took) its in
            let i = ap (λ z. (pace.marks z).gave) w.birth in
            let j = ap (λ z. (pace.marks z).took) w.birth in
            let gave = back.gave in
            let took = back.took in
            let limit = f.limit in
            let received = f.received in
            let queue = k.queue here in
            let first = tells.first in
            let next = tells.next in
            let sent_soon = soon_.gave in
            let received_soon = soon_.took in
            let count = soon_.count in
            record {
              acked = record {
                on = omega (arith, next, took, j, a, queue, small);
                back = omega (arith, limit, d, received_soon, small);
              };
              on = omega (arith, first, gave, i, b, small);
              back = omega (arith, received, c, sent_soon, small);
              exact = lies_less s.packet.body e.receiver.received (marks_of w.it.last).gave s.packet.first
                  (omega (arith, received, c)) soon_.exact;
              count = omega (arith, count, small);
            }

    -- ---- an end that opens

    told_near : (dest : ℕ) (listener : Bool) → Told W n.made s.from s.to listener s.packet.source dest
        → OpensNear t s.from s.packet dest
    told_near dest listener told e is unopened asks =
        let st = found_stands W n.event n s.to (has_id dest) e sound is in
        let same : e.id ≡ dest = eqb-true e.id dest (passes (has_id dest) t.ends e is) in
        let names : told.it.names ≡ Some st.it.stream.birth = told.names
        ∙ ap (λ c. cond c (birth_of (newest n.made s.to dest)) None) ours
        ∙ ap (λ k. birth_of (newest n.made s.to k)) (sym same) ∙ ap birth_of st.newest in
        let back = behind (is_end s.from s.packet.source) told.it st.it.stream.birth told.newest names in
        let p = pace_at (is_end s.to e.id) st.it st.newest in
        let none = p.begins (ap (λ (x : EndState). has_opened x.phase) st.last ∙ unopened) in
        let gave = ap (λ (m : Marks). m.gave) p.noted in
        let zero_ : st.it.last.sender.front + length st.it.last.sender.unacknowledged
        ≡ 0 = ap (λ (x : Sender). x.front + length x.unacknowledged) none.0 in
        let now : e.sender.front + length e.sender.unacknowledged
        ≡ 0 = ap (λ (x : EndState). x.sender.front + length x.sender.unacknowledged) (sym st.last) ∙ zero_ in
        let tells = h.tells fresh told.it.stream.birth (ap birth_of told.newest) in
        let took = back.took in
        let next = tells.next in
        record { on = omega (arith, next, took, gave, zero_); back = omega (arith, now) }

    opens_part : (part : Part) → Tells W n.made s.from s.to s.packet.source part → OpensNearPart t s.from s.packet part
    opens_part (Open Acknowledgement dest) told = told_near dest false told
    opens_part (Open RequestAndAcknowledgement dest) told = told_near dest true told
    opens_part (Open Request dest) told = tt
    opens_part (Open Denial dest) told = tt
    opens_part (Data end bytes) told = tt
    opens_part Probe told = tt
    opens_part Close told = tt
    opens_part Reset told = tt
    opens_part ResetAck told = tt
    opens_part Advice told = tt

    pub takes_near : HearsNear t s.from s.packet s.packet.body
    takes_near = record { hears = hears_near; opens = opens_part s.packet.body (says fresh) }
