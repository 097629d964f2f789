-- How far the ends of a network go on as one end changes.
use Rattle.std.proofs.Common.{◌≡◌, ℕ, ◌+◌, ◌*◌, ◌≤◌, Bool, true, false, cond, List, [], ◌∷◌, ◌++◌, length, Some, refl}
use Rattle.std.proofs.Common.{sym, ap, subst, ◌∙◌, arith}
use Rattle.std.specs.Prelude.{◌==◌, find}
use Rattle.std.specs.List.{AllByRecursion}
use Rattle.std.proofs.lemmas.Bool.{eqb-true, eq-eqb}
use Rattle.at_ddp.specs.Tables.{replaced}
use Rattle.at_ddp.specs.declared.address.Address.{Address}
use Rattle.at_ddp.proofs.Alls.{all_found}
use Rattle.at_adsp_frame.specs.Segments.{Content}
use Rattle.at_adsp_end.specs.Ends.{EndState, addressed, has_opened, no_receiver, no_sender}
use Rattle.at_adsp_ends.specs.Tables.{EndTable, by_id, moved, with_changed}
use Rattle.at_ddp.specs.Posts.{AllSent, put, stamped}
use Rattle.at_ddp.proofs.PostLemmas.{put_elsewhere, sent_both, sent_implied}
use Rattle.at_adsp.specs.Network.{Setting, Made, Sent, Network, birth_of, does_with, is_end, newest, noted_with}
use Rattle.at_adsp.specs.Streams.{Deed}
use Rattle.at_adsp.proofs.Changes.{Moves, fresh_same, made_is, newest_now, there}
use Rattle.at_adsp.proofs.EndMoves.{IsPlainPart}
use Rattle.at_adsp.proofs.Flows.{all_born}
use Rattle.at_adsp.proofs.Growth.{births_kept, found_below, of_found, unequal}
use Rattle.at_adsp.proofs.Paces.{Follows, Keeps, Marks, Rises, TellsFrom, TellsOf, follows_on, marks_of, rises_itself}
use Rattle.at_adsp.proofs.Paces.{tells_on}
use Rattle.at_adsp.proofs.Slows.{Advances, IsExact, IsSlow}
use Rattle.at_adsp.proofs.Sound.{Sound, Stands}
use Rattle.at_adsp.proofs.PacedNetworks.{Paced, TellsHere, Pace, PaceOf, length_sent, Goes, IsLow, most_of, LowHere}
use Rattle.at_adsp.proofs.PacedNetworks.{whose, Past, PaceOn, stamped_before, none_go, earlier_low}
use Rattle.std.proofs.lemmas.Option.{same_Some}

-- ---- one end goes on

abbrev with_marks : ℕ → Marks → (ℕ → Marks) → ℕ → Marks
with_marks b m marks c = cond (c == b) m (marks c)

marks_there : (b : ℕ) (m : Marks) (marks : ℕ → Marks) → with_marks b m marks b ≡ m
marks_there b m marks = ap (λ t. cond t m (marks b)) (eq-eqb b b refl)

marks_elsewhere : (b : ℕ) (m : Marks) (marks : ℕ → Marks) (c : ℕ) → (c == b) ≡ false → with_marks b m marks c ≡ marks c
marks_elsewhere b m marks c other = ap (λ t. cond t m (marks c)) other

marks_rise : (b : ℕ) (m : Marks) (marks : ℕ → Marks) → Rises (marks b) m → (c : ℕ)
    → Rises (marks c) (with_marks b m marks c)
marks_rise b m marks rises c = go (c == b) refl
  where
    go : (t : Bool) → (c == b) ≡ t → Rises (marks c) (cond t m (marks c))
    go true e = subst (λ d. Rises (marks d) m) (sym (eqb-true c b e)) rises
    go false e = rises_itself (marks c)

marks_below : (b : ℕ) (m : Marks) (marks : ℕ → Marks) (bound : ℕ) → m.gave ≤ bound
    → ((c : ℕ) → (marks c).gave ≤ bound) → (c : ℕ) → (with_marks b m marks c).gave ≤ bound
marks_below b m marks bound le all c = go (c == b)
  where
    go : (t : Bool) → (cond t m (marks c)).gave ≤ bound
    go true = le
    go false = all c

-- what an end tells in one event is low
low_of : (room : ℕ) (here : Bool) (e f : EndState) (s : Content) → here ≡ true → Keeps room here e
    → IsSlow (room + room) (marks_of e) (marks_of f) → TellsFrom e s → TellsOf room f.id (marks_of f) s
    → IsExact (marks_of f).gave s → IsPlainPart s.body → IsLow (most_of room) (marks_of f) s
low_of room here e f s is k slow from tells exact plain =
    let t = from plain in
    let first = t.first in
    let next = t.next in
    let gave = slow.gave in
    let took = slow.took in
    let queue = k.queue is in
    let upper = tells.first in
    record {
      gave = omega (arith, first, gave, queue);
      took = omega (arith, next, took);
      exact = exact;
      count = omega (arith, first, gave, queue, upper);
    }

module _ (room : ℕ) (deed : Deed) (setting : Setting) (n : Network) (at : Address) (e f : EndState)
    (sound : Sound setting (n.event + 1) n) (s : Stands setting n.made at e) (moves : Moves e f)
    (pace : PaceOf room setting.ours (n.event + 1) n) where
  pub paced : Paced room setting.ours pace.marks s.it
  paced = (all_found (Paced room setting.ours pace.marks) (is_end at f.id) n.made s.it pace.ends
      (there deed setting n at e f sound s moves)).0

  pub keeps_then : Keeps room (setting.ours e.asked) e
  keeps_then = let p = paced in subst (λ (x : EndState). Keeps room (setting.ours x.asked) x) s.last p.keeps

  abbrev new : Made
  new = noted_with deed setting n.made f s.it

  abbrev later : List Made
  later = replaced (is_end at f.id) (noted_with deed setting n.made f s.it) n.made

  module _ (out : List Content) (goes : Advances room (setting.ours e.asked) e f out)
      (begins : has_opened f.phase ≡ false → (f.sender ≡ no_sender) × (f.receiver ≡ no_receiver))
      (follows : (b : ℕ) → new.stream.peer ≡ Some b → Follows room (pace.marks b) f) (past : Past n) where
    abbrev marks : ℕ → Marks
    marks = with_marks s.it.stream.birth (marks_of f) pace.marks

    abbrev it_there : find (is_end at f.id) n.made ≡ Some s.it
    it_there = there deed setting n at e f sound s moves

    was : pace.marks s.it.stream.birth ≡ marks_of e
    was = let p = paced in p.noted ∙ ap marks_of s.last

    risen : (c : ℕ) → Rises (pace.marks c) (marks c)
    risen c = let g = goes.paces in marks_rise s.it.stream.birth (marks_of f) pace.marks
        (subst (λ m. Rises m (marks_of f)) (sym was) g.rises) c

    other_paced : (x : Made) → (x.stream.birth == s.it.stream.birth) ≡ false → Paced room setting.ours pace.marks x
        → Paced room setting.ours marks x
    other_paced x other h = record {
      noted = marks_elsewhere s.it.stream.birth (marks_of f) pace.marks x.stream.birth other ∙ h.noted;
      keeps = h.keeps;
      begins = h.begins;
      follows = λ b is. follows_on room (pace.marks b) (marks b) x.last (risen b) (h.follows b is);
    }

    new_paced : Paced room setting.ours marks new
    new_paced = let g = goes.paces in record {
      noted = marks_there s.it.stream.birth (marks_of f) pace.marks;
      keeps = subst (λ a. Keeps room (setting.ours a) f) (sym moves.asked) g.keeps;
      begins = begins;
      follows = λ b is. follows_on room (pace.marks b) (marks b) f (risen b) (follows b is);
    }

    -- ---- how far each went on

    other_goes : (x : Made) → (x.stream.birth == s.it.stream.birth) ≡ false
        → Goes room setting.ours pace.marks pace.marks x → Goes room setting.ours pace.marks marks x
    other_goes x other h =
        let same = marks_elsewhere s.it.stream.birth (marks_of f) pace.marks x.stream.birth other in
        record {
          rises = subst (Rises (pace.marks x.stream.birth)) (sym same) h.rises;
          slow = λ is. subst (IsSlow (room + room) (pace.marks x.stream.birth)) (sym same) (h.slow is);
        }

    new_goes : Goes room setting.ours pace.marks marks new
    new_goes = record {
      rises = risen s.it.stream.birth;
      slow = λ is.
          let here : setting.ours e.asked ≡ true = ap setting.ours (sym moves.asked) ∙ is in
          subst (λ m. IsSlow (room + room) m (marks s.it.stream.birth)) (sym was)
          (subst (IsSlow (room + room) (marks_of e))
          (sym (marks_there s.it.stream.birth (marks_of f) pace.marks)) (goes.slow here));
    }

    -- ---- what is told

    tells_still : (x : Sent) → TellsHere room n.made pace.marks x → TellsHere room later marks x
    tells_still x h = record {
      window = h.window;
      tells = λ fresh b is.
          let was = births_kept (is_end at f.id) (is_end x.from x.packet.source) s.it new n.made refl refl it_there in
          tells_on room x.packet.source (pace.marks b) (marks b) x.packet (risen b)
          (h.tells (fresh_same deed setting n at e f sound s moves x fresh) b (sym was ∙ is));
    }

    tells_now : (xs : List Content) → AllByRecursion (TellsOf room f.id (marks_of f)) xs
        → AllSent (TellsHere room later marks) (stamped n.event at (addressed f.asked xs))
    tells_now [] h = tt
    tells_now (x ∷ xs) h = (one, tells_now xs h.1)
      where
        one : TellsHere room later marks (record { event = n.event; from = at; to = f.asked; packet = x })
        one = let t = h.0 in record {
          window = t.window;
          tells = λ fresh b is.
              let it : Some s.it.stream.birth
              ≡ Some b = sym (ap (λ k. birth_of (newest later at k)) t.source
              ∙ ap birth_of (newest_now deed setting n at e f sound s moves)) ∙ is in
              let same : s.it.stream.birth ≡ b = cc in
              let tells : TellsOf room f.id (marks b) x =
              subst (λ c. TellsOf room f.id (marks c) x) same
              (subst (λ m. TellsOf room f.id m x) (sym (marks_there s.it.stream.birth (marks_of f) pace.marks)) t)
              in
              subst (λ i. TellsOf room i (marks b) x) (sym t.source) tells;
        }

    low_now : (xs : List Content) → AllByRecursion (TellsOf room f.id (marks_of f)) xs
        → AllByRecursion (TellsFrom e) xs → AllByRecursion (IsExact (marks_of f).gave) xs
        → AllSent (LowHere room setting.ours later marks n.event) (stamped n.event at (addressed f.asked xs))
    low_now [] tells from exact = tt
    low_now (x ∷ xs) tells from exact = (one, low_now xs tells.1 from.1 exact.1)
      where
        one : LowHere room setting.ours later marks n.event
            (record { event = n.event; from = at; to = f.asked; packet = x })
        one same plain fresh m is here =
            let t = tells.0 in
            let it : Some new ≡ Some m = sym (newest_now deed setting n at e f sound s moves)
            ∙ ap (newest later at) (sym t.source) ∙ is in
            let new_is : new ≡ m = same_Some new m it in
            let ours : setting.ours e.asked
            ≡ true = ap setting.ours (sym moves.asked ∙ ap (λ (y : Made). y.last.asked) new_is) ∙ here in
            let marked : marks m.stream.birth ≡ marks_of f = ap (λ (y : Made). marks y.stream.birth) (sym new_is)
            ∙ marks_there s.it.stream.birth (marks_of f) pace.marks in
            subst (λ k. IsLow (most_of room) k x) (sym marked)
            (low_of room (setting.ours e.asked) e f x ours keeps_then (goes.slow ours) from.0 t exact.0 plain)

    paces_so : Pace room setting.ours (n.event + 1) (put n.tables at (with_changed (n.tables at) f)) later
        (n.sent ++ stamped n.event at (addressed f.asked out))
    paces_so = let g = goes.paces in record {
      marks = marks;
      none = λ b le.
          let lt = found_below (is_end at f.id) s.it n.made (n.event + 1) sound.births it_there in
          marks_elsewhere s.it.stream.birth (marks_of f) pace.marks b
          (unequal s.it.stream.birth b (omega (arith, lt, le))) ∙ pace.none b le;
      ends = all_born (Paced room setting.ours pace.marks) (Paced room setting.ours marks) (is_end at f.id) s.it new
          n.made (n.event + 1) sound.births it_there other_paced new_paced pace.ends;
      sent =
          sent_both (TellsHere room later marks) n.sent (stamped n.event at (addressed f.asked out))
          (sent_implied (TellsHere room n.made pace.marks)
          (TellsHere room later marks) n.sent tells_still pace.sent)
          (tells_now out g.tells);
      few =
          let many = length_sent n.sent n.event at f.asked out in
          let sends = goes.sends in
          let before = pace.few s.it.stream.birth in
          let same = ap (λ (k : Marks). k.gave) was in
          marks_below s.it.stream.birth (marks_of f) pace.marks
          (573 * length (n.sent ++ stamped n.event at (addressed f.asked out)))
          (omega (arith, many, sends, before, same))
          (λ c. let le = pace.few c in omega (arith, le, many));
      rooms = put_elsewhere (λ a (t : EndTable). t.rooms.receive ≤ room) n.tables at (with_changed (n.tables at) f)
          (λ a other. pace.rooms a) (pace.rooms at);
    }

    on_so : {X : Type 0} (answer : X) → PaceOn room setting.ours pace.marks n
        (record (does_with deed setting n at (moved (n.tables at) answer f out)) { made = later })
    unfolding paces_so
    on_so answer = let g = goes.paces in record {
      pace = paces_so;
      goes = all_born (Goes room setting.ours pace.marks pace.marks) (Goes room setting.ours pace.marks marks)
          (is_end at f.id) s.it new n.made (n.event + 1) sound.births it_there other_goes new_goes
          (none_go room setting.ours pace.marks n.made);
      low =
          sent_both (LowHere room setting.ours later marks n.event) n.sent
          (stamped n.event at (addressed f.asked out)) (earlier_low room setting.ours later marks n past)
          (low_now out g.tells g.from goes.exact);
      back = λ x lt fresh. (
        fresh_same deed setting n at e f sound s moves x fresh,
        of_found whose (is_end at f.id) (is_end x.from x.packet.source) s.it new n.made refl refl it_there,
      );
      before = stamped_before n (record (does_with deed setting n at (moved
          (n.tables at) answer f out)) { made = later })
          at (addressed f.asked out) refl;
    }

    pub changed_pace : {X : Type 0} (answer : X) (old : EndState) → by_id (n.tables at) f.id ≡ Some old
        → PaceOn room setting.ours pace.marks n
        (does_with deed setting n at (moved (n.tables at) answer f out))
    changed_pace answer old found =
        subst (λ (l : List Made). PaceOn room setting.ours pace.marks n
        (record (does_with deed setting n at (moved (n.tables at) answer f out)) { made = l }))
        (sym (made_is deed setting n at e f sound s moves old found)) (on_so answer)
