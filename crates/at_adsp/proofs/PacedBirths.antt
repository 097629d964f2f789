-- How far the ends of a network have come as another end is made.
use Rattle.std.proofs.Common.{◌≡◌, ℕ, ◌+◌, ◌<◌, ◌≤◌, true, cond, List, [], ◌∷◌, ◌++◌, length, Option, Some, None, refl}
use Rattle.std.proofs.Common.{sym, ap, subst, ◌∙◌, arith}
use Rattle.std.specs.Prelude.{◌==◌, ◌&&◌}
use Rattle.std.specs.List.{AllByRecursion}
use Rattle.std.proofs.lemmas.Bool.{and_parts}
use Rattle.at_ddp.specs.declared.address.Address.{Address}
use Rattle.at_adsp_frame.specs.Segments.{Content}
use Rattle.at_adsp_end.specs.Ends.{EndState, Sender, addressed, no_receiver, no_sender}
use Rattle.at_adsp_ends.specs.Tables.{EndTable, by_id, made as made_end, with_end as with_one_more}
use Rattle.at_ddp.specs.Posts.{AllSent, put, stamped}
use Rattle.at_ddp.proofs.PostLemmas.{put_elsewhere, sent_both, sent_implied, sent_pairs}
use Rattle.at_adsp.specs.Network.{Setting, Made, Sent, Network, beginning, birth_of, dest_of, does, is_fresh, is_kept}
use Rattle.at_adsp.specs.Network.{joined, newest, noted}
use Rattle.at_adsp.specs.Streams.{Nothing}
use Rattle.at_adsp.proofs.Beginnings.{Begins, kept_before}
use Rattle.at_adsp.proofs.Finds.{none_finds}
use Rattle.at_adsp.proofs.Mapped.{mapped}
use Rattle.at_adsp.proofs.Paces.{Keeps, Marks, TellsOf, marks_of}
use Rattle.at_adsp.proofs.Sound.{Sound}
use Rattle.at_adsp.proofs.PacedNetworks.{Paced, TellsHere, Pace, PaceOf, length_sent, LowHere, whose, IsBack, PaceOn}
use Rattle.at_adsp.proofs.PacedNetworks.{stamped_before, none_go, earlier_low, AllOpen, open_low}

-- ---- an end is made

-- what an end tells that gave nothing yet, or what no end tells
pub record TellsNothing (room : ℕ) (s : Content) : Type 0 where
  pub window : s.window ≤ room
  pub tells : (m : Marks) → TellsOf room s.source m s

pub nothing_told : (room : ℕ) (made : List Made) (marks : ℕ → Marks) (event : ℕ) (from to : Address)
    (out : List Content) → AllByRecursion (TellsNothing room) out
    → AllSent (TellsHere room made marks) (stamped event from (addressed to out))
nothing_told room all marks event from to [] h = tt
nothing_told room all marks event from to (x ∷ xs) h = (
  let t = h.0 in record { window = t.window; tells = λ fresh b is. t.tells (marks b) },
  nothing_told room all marks
      event from to xs h.1,
)

module _ (room : ℕ) (setting : Setting) (n : Network) (at : Address) (e : EndState) (sound : Sound setting n.event n)
    (b : Begins setting n at e) (pace : PaceOf room setting.ours n.event n)
    (quiet : (e.sender ≡ no_sender) × (e.receiver ≡ no_receiver)) (keeps : Keeps room (setting.ours e.asked) e) where
  abbrev fresh_made : List Made
  fresh_made = noted setting (beginning n.event at e ∷ n.made) e (beginning n.event at e) ∷ n.made

  back_to : (x : Sent) → x.event < n.event → is_fresh fresh_made x ≡ true → IsBack n.made fresh_made x
  back_to x lt fresh =
      let both = and_parts (is_kept fresh_made x.event x.from x.packet.source)
      (is_kept fresh_made x.event x.to (dest_of x.packet.body)) fresh in
      let source = kept_before setting n at e sound b x.event x.from x.packet.source lt both.0 in
      let dest = kept_before setting n at e sound b x.event x.to (dest_of x.packet.body) lt both.1 in (
        (λ i. source.0 i && dest.0 i),
        ap (λ t. mapped whose (cond t (Some (noted setting (beginning n.event at e ∷ n.made) e
            (beginning n.event at e)))
            (newest n.made x.from x.packet.source))) source.1,
      )

  still : (x : Sent) → (x.event < n.event) × TellsHere room n.made pace.marks x → TellsHere room fresh_made pace.marks x
  still x h = record {
    window = (h.1).window;
    tells = λ fresh c is.
        let back = back_to x h.0 fresh in
        (h.1).tells back.0 c
        (sym (birth_whose (newest n.made x.from x.packet.source)) ∙ ap born_as (sym back.1)
        ∙ birth_whose (newest fresh_made x.from x.packet.source) ∙ is);
  }
    where
      born_as : Option (ℕ × Address) → Option ℕ
      born_as o = mapped (λ (w : ℕ × Address). w.0) o

      birth_whose : (o : Option Made) → born_as (mapped whose o) ≡ birth_of o
      birth_whose None = refl
      birth_whose (Some m) = refl

  made_so : (out : List Content) → AllByRecursion (TellsNothing room) out
      → Pace room setting.ours (n.event + 1) (put n.tables at (with_one_more (n.tables at) e)) fresh_made
      (n.sent ++ stamped n.event at (addressed e.asked out))
  made_so out nothing = record {
    marks = pace.marks;
    none = λ c le. pace.none c (omega (arith, le));
    ends = (new_paced, pace.ends);
    sent =
        sent_both (TellsHere room fresh_made pace.marks) n.sent (stamped n.event at (addressed e.asked out))
        (sent_implied (λ x. (x.event < n.event) × TellsHere room n.made pace.marks x)
        (TellsHere room fresh_made pace.marks) n.sent still
        (sent_pairs (λ x. x.event < n.event) (TellsHere room n.made pace.marks) n.sent sound.past pace.sent))
        (nothing_told room fresh_made pace.marks n.event at e.asked out nothing);
    few = λ c. let le = pace.few c in let many = length_sent n.sent n.event at e.asked out in omega (arith, le, many);
    rooms = put_elsewhere (λ a (t : EndTable). t.rooms.receive ≤ room) n.tables at (with_one_more (n.tables at) e)
        (λ a other. pace.rooms a) (pace.rooms at);
  }
    where
      zero_marks : marks_of e ≡ record { gave = 0; took = 0 }
      zero_marks = λ i. record {
        gave = (quiet.0 i).front + length (quiet.0 i).unacknowledged;
        took = (quiet.1 i).received;
      }

      new_paced : Paced room setting.ours pace.marks (noted setting (beginning n.event at e ∷ n.made) e
          (beginning n.event at e))
      new_paced = record {
        noted = pace.none n.event (omega arith) ∙ sym zero_marks;
        keeps = keeps;
        begins = λ unopened. quiet;
        follows = λ c is. let r = ap (λ (m : Marks). m.took) zero_marks in
            let q = ap (λ (x : Sender). x.front + length x.unacknowledged + x.credit) quiet.0 in
            record { received = omega (arith, r); limit = omega (arith, q) };
      }

  on_made : {X : Type 0} (answer : X) (out : List Content) → AllByRecursion (TellsNothing room) out → AllOpen out
      → PaceOn room setting.ours pace.marks n
      (record (does setting n at (made_end (n.tables at) answer e out)) { made = fresh_made })
  unfolding made_so
  on_made answer out nothing opens = record {
    pace = made_so out nothing;
    goes = none_go room setting.ours pace.marks fresh_made;
    low =
        sent_both (LowHere room setting.ours fresh_made pace.marks n.event) n.sent
        (stamped n.event at (addressed e.asked out)) (earlier_low room setting.ours fresh_made pace.marks n sound.past)
        (open_low room setting.ours fresh_made pace.marks n.event at e.asked out opens);
    back = back_to;
    before = stamped_before n (record (does setting n at (made_end (n.tables at) answer e out)) { made = fresh_made })
        at (addressed e.asked out) refl;
  }

  pub made_pace : {X : Type 0} (answer : X) (out : List Content) → AllByRecursion (TellsNothing room) out → AllOpen out
      → PaceOn room setting.ours pace.marks n
      (does setting n at (made_end (n.tables at) answer e out))
  made_pace answer out nothing opens =
      subst (λ (l : List Made). PaceOn room setting.ours pace.marks n
      (record (does setting n at (made_end (n.tables at) answer e out)) { made = l }))
      (sym made_is_new) (on_made answer out nothing opens)
    where
      made_is_new : joined Nothing setting n.event n.made at e (by_id (n.tables at) e.id) ≡ fresh_made
      made_is_new = ap (joined Nothing setting n.event n.made at e)
          (none_finds (λ x. x.id == e.id) (n.tables at).ends b.drawn.free)
