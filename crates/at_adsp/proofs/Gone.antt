-- How far ends went on since a segment was sent: what the segment tells is not far from where its end is, less that.
use Rattle.std.proofs.Common.{◌≡◌, ℕ, ◌+◌, ◌-◌, ◌<◌, ◌≤◌, Bool, true, false, cond, List, [], ◌∷◌, Option, Some, None}
use Rattle.std.proofs.Common.{refl, sym, ap, subst, ◌∙◌, arith}
use Rattle.std.specs.Prelude.{nat_le}
use Rattle.std.specs.List.{AllByRecursion}
use Rattle.std.proofs.lemmas.Bool.{leb-true, leb-false}
use Rattle.at_ddp.specs.Posts.{packet_at}
use Rattle.at_ddp.specs.declared.address.Address.{Address}
use Rattle.at_ddp.proofs.Alls.{all_found}
use Rattle.at_ddp.proofs.PostLemmas.{sent_at}
use Rattle.at_adsp_frame.specs.Segments.{Content, Part, Reset}
use Rattle.at_adsp_end.specs.Ends.{EndState}
use Rattle.at_adsp_end.specs.Positions.{Numbers, whole}
use Rattle.at_adsp.specs.Nearness.{expected, gone, unsent, went_on}
use Rattle.at_adsp.specs.Network.{Setting, Made, Sent, Network, Happening, AllTimely, after, done, is_end, is_fresh}
use Rattle.at_adsp.specs.Network.{newest}
use Rattle.at_adsp.specs.Network.{tick}
use Rattle.at_adsp.specs.Orders.{whole_numbered}
use Rattle.at_adsp.proofs.EndMoves.{IsPlainPart}
use Rattle.at_adsp.proofs.Fews.{count_of}
use Rattle.at_adsp.proofs.Histories.{history_sound, same_event}
use Rattle.at_adsp.proofs.Mapped.{mapped}
use Rattle.at_adsp.proofs.PacedNetworks.{Goes, IsLow, LowHere, PaceOf, PaceOn, Paced, most_of, whose}
use Rattle.at_adsp.proofs.PacedHistories.{done_pace, opening_pace}
use Rattle.at_adsp.proofs.Paces.{Marks, marks_of}
use Rattle.at_adsp.proofs.Slows.{TellsAll}
use Rattle.at_adsp.proofs.Sound.{Lawful, Sound}
use Rattle.std.proofs.lemmas.Option.{same_Some}

-- ---- histories

ticked_pace : (room : ℕ) (ours : Address → Bool) (events : ℕ) (n : Network) → n.event ≡ events
    → PaceOf room ours (events + 1) n → PaceOf room ours (tick n).event (tick n)
ticked_pace room ours events n same h = subst (λ k. PaceOf room ours (k + 1) n) (sym same) h

module _ (room : ℕ) (setting : Setting) (rooms : (at : Address) → (setting.rooms at).receive ≤ room) where
  abbrev W : Setting
  W = whole_numbered setting

  pub history_pace : (history : List Happening) → AllTimely W history
      → PaceOf room setting.ours (after W history).event (after W history)
  history_pace [] timely = opening_pace room setting rooms
  history_pace (h ∷ hs) timely =
      let on = done_pace room setting (after W hs) (history_sound W hs timely.1) (history_pace hs timely.1) h timely.0
      in
      ticked_pace room setting.ours (after W hs).event (done W (after W hs) h) (same_event W (after W hs) h) on.pace

  -- the newest event of a history
  pub last_pace : (h : Happening) (hs : List Happening) (timely : AllTimely W (h ∷ hs))
      → PaceOn room setting.ours (history_pace hs timely.1).marks (after W hs) (done W (after W hs) h)
  last_pace h hs timely =
      done_pace room setting (after W hs) (history_sound W hs timely.1) (history_pace hs timely.1) h timely.0

-- ---- the sender of a segment

-- the newest end with the number of a segment's sender, which is for one of our addresses
pub record SenderIs (ours : Address → Bool) (made : List Made) (s : Sent) (m : Made) : Type 0 where
  pub newest : newest made s.from s.packet.source ≡ Some m
  pub fresh : is_fresh made s ≡ true
  pub here : ours m.stream.asked ≡ true

-- how far it went on in one event
pub record WentOn (room : ℕ) (a b : Made) : Type 0 where
  pub gave : (marks_of a.last).gave ≤ (marks_of b.last).gave
  pub gave_few : (marks_of b.last).gave ≤ (marks_of a.last).gave + (room + room)
  pub took : (marks_of a.last).took ≤ (marks_of b.last).took
  pub took_few : (marks_of b.last).took ≤ (marks_of a.last).took + (room + room)

-- it was the newest before, too
pub record WasThere (room : ℕ) (ours : Address → Bool) (old : List Made) (s : Sent) (m : Made) : Type 0 where
  pub it : Made
  pub was : SenderIs ours old s it
  pub went : WentOn room it m

module _ (room : ℕ) (setting : Setting) (n new : Network) (lawful : AllByRecursion (Lawful setting.ours) new.made)
    (pace : PaceOf room setting.ours n.event n) (on : PaceOn room setting.ours pace.marks n new) where
  mapped_some : (o : Option Made) (w : ℕ × Address) → mapped whose o ≡ Some w → (m : Made) × (o ≡ Some m)
      × (whose m ≡ w)
  mapped_some None w h = absurd (cc)
  mapped_some (Some m) w h = (m, refl, same_Some (whose m) w h)

  pub was_there : (s : Sent) (m : Made) → s.event < n.event → SenderIs setting.ours new.made s m
      → WasThere room setting.ours n.made s m
  was_there s m lt is =
      let back = on.back s lt is.fresh in
      let w = mapped_some (newest n.made s.from s.packet.source) (whose m) (sym back.1 ∙ ap (mapped whose) is.newest) in
      let birth : w.0.stream.birth ≡ m.stream.birth = ap (λ (x : ℕ × Address). x.0) w.2 in
      let asked : w.0.stream.asked ≡ m.stream.asked = ap (λ (x : ℕ × Address). x.1) w.2 in
      let before = (all_found (Paced room setting.ours pace.marks) (is_end s.from s.packet.source) n.made w.0 pace.ends
      w.1).0 in
      let p = on.pace in
      let now = (all_found (Paced room setting.ours p.marks) (is_end s.from s.packet.source) new.made m p.ends
      is.newest).0 in
      let goes = (all_found (Goes room setting.ours pace.marks p.marks) (is_end s.from s.packet.source) new.made m
      on.goes is.newest).0 in
      let law = (all_found (Lawful setting.ours) (is_end s.from s.packet.source) new.made m lawful
      is.newest).0 in
      let slow = goes.slow (ap setting.ours law.asked ∙ is.here) in
      let rises = goes.rises in
      let was : pace.marks m.stream.birth ≡ marks_of w.0.last = ap pace.marks (sym birth) ∙ before.noted in
      let a = ap (λ (k : Marks). k.gave) was in
      let b = ap (λ (k : Marks). k.took) was in
      let c = ap (λ (k : Marks). k.gave) now.noted in
      let d = ap (λ (k : Marks). k.took) now.noted in
      let gave = rises.gave in
      let took = rises.took in
      let gave_few = slow.gave in
      let took_few = slow.took in
      record {
        it = w.0;
        was = record { newest = w.1; fresh = back.0; here = ap setting.ours asked ∙ is.here };
        went = record {
          gave = omega (arith, a, c, gave);
          gave_few = omega (arith, a, c, gave_few);
          took = omega (arith, b, d, took);
          took_few = omega (arith, b, d, took_few);
        };
      }

-- ---- what a segment tells

-- An end has given so many items numbers since it sent this, and received or passed so many. What a forward reset tells
-- is exact.
pub record IsSince (most sent received : ℕ) (m : Marks) (s : Content) : Type 0 where
  pub gave : m.gave ≤ s.first + sent + most
  pub took : m.took ≤ s.next + received + most
  pub exact : TellsAll m.gave (s.first + sent) s.body
  pub count : count_of s.body ≤ most

tells_on : (part : Part) (a b first sent : ℕ) → TellsAll a (first + sent) part
    → TellsAll b (first + (sent + (b - a))) part
tells_on Reset a b first sent h = omega (arith, h)
tells_on other a b first sent h = tt

tells_now : (part : Part) (gave first : ℕ) → TellsAll gave first part → TellsAll gave (first + 0) part
tells_now Reset gave first h = omega (arith, h)
tells_now other gave first h = tt

module _ (room : ℕ) (setting : Setting) (rooms : (at : Address) → (setting.rooms at).receive ≤ room) where
  abbrev Whole : Setting
  Whole = whole_numbered setting

  pub since : (history : List Happening) → AllTimely Whole history → (which : ℕ) (s : Sent) (m : Made)
      → packet_at (after Whole history).sent which ≡ Some s → IsPlainPart s.packet.body
      → SenderIs setting.ours (after Whole history).made s m →
      IsSince (most_of room) (gone Whole unsent history s) (gone Whole expected history s) (marks_of m.last) s.packet
  since [] timely which s m at plain is = absurd (let none = at in cc)
  since (h ∷ hs) timely which s m at plain is =
      go (λ x before was. since hs timely.1 which s x before plain was) (nat_le (after Whole hs).event s.event) refl
    where
      next_sound : Sound Whole (after Whole (h ∷ hs)).event (after Whole (h ∷ hs))
      next_sound = history_sound Whole (h ∷ hs) timely

      on : PaceOn room setting.ours (history_pace room setting rooms hs timely.1).marks (after Whole hs) (done Whole
          (after Whole hs) h)
      on = last_pace room setting rooms h hs timely

      past : s.event < (done Whole (after Whole hs) h).event + 1
      past = sent_at (λ (x : Sent). x.event < (after Whole (h ∷ hs)).event) (done Whole (after Whole hs) h).sent which s
          next_sound.past at

      same : (done Whole (after Whole hs) h).event ≡ (after Whole hs).event
      same = same_event Whole (after Whole hs) h

      go : ((x : Made) → packet_at (after Whole hs).sent which ≡ Some s
          → SenderIs setting.ours (after Whole hs).made s x
          → IsSince (most_of room) (gone Whole unsent hs s) (gone Whole expected hs s) (marks_of x.last) s.packet)
          → (c : Bool) → nat_le (after Whole hs).event s.event ≡ c →
          IsSince (most_of room)
          (cond c 0 (gone Whole unsent hs s + went_on whole unsent (newest (after Whole hs).made s.from s.packet.source)
          (newest (done Whole (after Whole hs) h).made s.from s.packet.source)))
          (cond c 0 (gone Whole expected hs s + went_on whole expected (newest
          (after Whole hs).made s.from s.packet.source)
          (newest (done Whole (after Whole hs) h).made s.from s.packet.source))) (marks_of m.last) s.packet
      go so_far true e =
          let le = leb-true (after Whole hs).event s.event e in
          let p = on.pace in
          let now = (all_found (Paced room setting.ours p.marks) (is_end s.from s.packet.source)
          (done Whole (after Whole hs) h).made m p.ends is.newest).0 in
          let law = (all_found (Lawful setting.ours) (is_end s.from s.packet.source) (done Whole
          (after Whole hs) h).made m
          next_sound.lawful is.newest).0 in
          let low = sent_at (LowHere room setting.ours (done Whole (after Whole hs) h).made p.marks
          (after Whole hs).event)
          (done Whole (after Whole hs) h).sent which s on.low at (omega
          (arith, le, past, same)) plain is.fresh m is.newest
          (ap setting.ours law.asked ∙ is.here) in
          let l : IsLow (most_of room) (marks_of m.last) s.packet =
          subst (λ k. IsLow (most_of room) k s.packet) now.noted low in
          let gave = l.gave in
          let took = l.took in
          record {
            gave = omega (arith, gave);
            took = omega (arith, took);
            exact = tells_now s.packet.body (marks_of m.last).gave s.packet.first l.exact;
            count = l.count;
          }
      go so_far false e =
          let lt = leb-false (after Whole hs).event s.event e in
          let w = was_there room setting (after Whole hs) (done Whole (after Whole hs) h) next_sound.lawful
          (history_pace room setting rooms hs timely.1) on s m lt is in
          let was = w.was in
          let ih = so_far w.it (on.before which s at lt) was in
          let gone_on : (number : Numbers → EndState → ℕ) →
          went_on whole number (newest (after Whole hs).made s.from s.packet.source)
          (newest (done Whole (after Whole hs) h).made s.from s.packet.source)
          ≡ number whole m.last - number whole w.it.last =
          (λ number i. went_on whole number (was.newest i) (is.newest i)) in
          let gave = ih.gave in
          let took = ih.took in
          let sent_on = gone_on unsent in
          let received_on = gone_on expected in
          record {
            gave = omega (arith, gave, sent_on);
            took = omega (arith, took, received_on);
            exact = subst (λ k. TellsAll (marks_of m.last).gave (s.packet.first +
                (gone Whole unsent hs s + k)) s.packet.body)
                (sym sent_on)
                (tells_on s.packet.body (marks_of w.it.last).gave (marks_of m.last).gave s.packet.first
                (gone Whole unsent hs s) ih.exact);
            count = ih.count;
          }

  -- an end went on by no more than it has come
  pub gone_below : (history : List Happening) → AllTimely Whole history → (s : Sent) (m : Made)
      → SenderIs setting.ours (after Whole history).made s m →
      (gone Whole unsent history s ≤ (marks_of m.last).gave) × (gone Whole expected history s ≤ (marks_of m.last).took)
  gone_below [] timely s m is = (omega arith, omega arith)
  gone_below (h ∷ hs) timely s m is =
      go (λ x was. gone_below hs timely.1 s x was) (nat_le (after Whole hs).event s.event) refl
    where
      went : (Numbers → EndState → ℕ) → ℕ
      went number = went_on whole number (newest (after Whole hs).made s.from s.packet.source)
          (newest (done Whole (after Whole hs) h).made s.from s.packet.source)

      go : ((x : Made) → SenderIs setting.ours (after Whole hs).made s x
          → (gone Whole unsent hs s ≤ (marks_of x.last).gave) × (gone Whole expected hs s ≤ (marks_of x.last).took))
          → (c : Bool) → nat_le (after Whole hs).event s.event ≡ c →
          (cond c 0 (gone Whole unsent hs s + went unsent) ≤ (marks_of m.last).gave)
          × (cond c 0 (gone Whole expected hs s + went expected) ≤ (marks_of m.last).took)
      go before true e = (omega arith, omega arith)
      go before false e =
          let lt = leb-false (after Whole hs).event s.event e in
          let w = was_there room setting (after Whole hs) (done Whole (after Whole hs) h)
          (history_sound Whole (h ∷ hs) timely).lawful (history_pace room setting rooms hs timely.1)
          (last_pace room setting rooms h hs timely) s m lt is in
          let was = w.was in
          let both = before w.it was in
          let sent = both.0 in
          let received = both.1 in
          let on = w.went in
          let gave = on.gave in
          let took = on.took in
          let a : went unsent ≡ (marks_of m.last).gave - (marks_of w.it.last).gave =
          (λ i. went_on whole unsent (was.newest i) (is.newest i)) in
          let b : went expected ≡ (marks_of m.last).took - (marks_of w.it.last).took =
          (λ i. went_on whole expected (was.newest i) (is.newest i)) in
          (omega (arith, sent, gave, a), omega (arith, received, took, b))
