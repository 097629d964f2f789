-- How far an end of a network goes on where it moves quietly, or not at all.
use Rattle.std.proofs.Common.{◌≡◌, ℕ, ◌+◌, ◌≤◌, Bool, false, List, Some}
use Rattle.std.proofs.Common.{refl, sym, ap, subst, ◌∙◌, arith}
use Rattle.std.specs.Prelude.{find, ◌++◌}
use Rattle.std.specs.List.{AllByRecursion}
use Rattle.at_ddp.specs.declared.address.Address.{Address}
use Rattle.at_adsp_frame.specs.Segments.{Content}
use Rattle.at_adsp_end.specs.Ends.{EndState, addressed, has_opened}
use Rattle.at_adsp_ends.specs.Tables.{EndTable, moved}
use Rattle.at_ddp.specs.Posts.{put, stamped}
use Rattle.at_ddp.proofs.PostLemmas.{put_elsewhere, sent_both}
use Rattle.at_adsp.specs.Network.{Setting, Network, does_with}
use Rattle.at_adsp.specs.Streams.{Deed}
use Rattle.at_adsp.proofs.EndMoves.{Quiet, quiet_opened}
use Rattle.at_adsp.proofs.PacedBirths.{TellsNothing, nothing_told}
use Rattle.at_adsp.proofs.PacedEnds.{changed_pace, paced}
use Rattle.at_adsp.proofs.PacedNetworks.{AllOpen, LowHere, PaceOf, PaceOn, Paced, Past, TellsHere, earlier_low}
use Rattle.at_adsp.proofs.PacedNetworks.{length_sent, none_go, open_low, stamped_before}
use Rattle.at_adsp.proofs.Paces.{Follows, Keeps}
use Rattle.at_adsp.proofs.Slows.{Advances}
use Rattle.at_adsp.proofs.Sound.{Sound, Stands}
use Rattle.at_adsp.proofs.Steps.{moves, old, s as stood, same_peer}

-- ---- an end that moves quietly

module _ (room : ℕ) (deed : Deed) (setting : Setting) (n : Network) (at : Address) (q : EndState → Bool)
    (e f : EndState) (sound : Sound setting (n.event + 1) n) (is : find q (n.tables at).ends ≡ Some e)
    (quiet : Quiet e f) (pace : PaceOf room setting.ours (n.event + 1) n) where
  abbrev it : Stands setting n.made at e
  it = stood deed setting n at q e f sound is quiet

  was : Paced room setting.ours pace.marks (stood deed setting n at q e f sound is quiet).it
  was = paced room deed setting n at e f sound (stood deed setting n at q e f sound is quiet)
      (moves deed setting n at q e f sound is quiet) pace

  pub quiet_pace : {X : Type 0} (answer : X) (out : List Content)
      → (Keeps room (setting.ours e.asked) e → Advances room (setting.ours e.asked) e f out)
      → (has_opened f.phase ≡ false → (f.sender ≡ e.sender) × (f.receiver ≡ e.receiver)) →
      ((b : ℕ) → it.it.stream.peer ≡ Some b → Follows room (pace.marks b) e → Follows room (pace.marks b) f) → Past n
      → PaceOn room setting.ours pace.marks n (does_with deed setting n at (moved (n.tables at) answer f out))
  quiet_pace answer out goes begins follows past =
      let o = old deed setting n at q e f sound is quiet in
      let w = was in
      changed_pace room deed setting n at e f sound it (moves deed setting n at q e f sound is quiet) pace out
      (goes (subst (λ (x : EndState). Keeps room (setting.ours x.asked) x) it.last w.keeps))
      (λ unopened.
      let same = begins unopened in
      let none = w.begins (ap (λ (x : EndState). has_opened x.phase) it.last ∙ sym (quiet_opened e f quiet) ∙ unopened)
      in (
        same.0 ∙ ap (λ (x : EndState). x.sender) (sym it.last) ∙ none.0,
        same.1
            ∙ ap (λ (x : EndState). x.receiver) (sym it.last) ∙ none.1,
      ))
      (λ b peer. let p = sym (same_peer deed setting n at q e f sound is quiet)
      ∙ peer in follows b p (subst (Follows room (pace.marks b)) it.last (w.follows b p))) past
      answer o.0 o.1

-- ---- what changes no end

pub kept_pace : (room : ℕ) (ours : Address → Bool) (n : Network) (at to : Address) (t : EndTable) (out : List Content)
    → t.rooms.receive ≤ room → AllByRecursion (TellsNothing room) out → AllOpen out → Past n →
    (pace : PaceOf room ours (n.event + 1) n) →
    PaceOn room ours pace.marks n
    (record n { tables = put n.tables at t; sent = n.sent ++ stamped n.event at (addressed to out) })
kept_pace room ours n at to t out fits nothing opens past pace = record {
  pace = record {
    marks = pace.marks;
    none = pace.none;
    ends = pace.ends;
    sent = sent_both (TellsHere room n.made pace.marks) n.sent (stamped n.event at (addressed to out)) pace.sent
        (nothing_told room n.made pace.marks n.event at to out nothing);
    few = λ c. let le = pace.few c in let many = length_sent n.sent n.event at to out in omega (arith, le, many);
    rooms = put_elsewhere (λ a (x : EndTable). x.rooms.receive ≤ room) n.tables at t (λ a other. pace.rooms a) fits;
  };
  goes = none_go room ours pace.marks n.made;
  low = sent_both (LowHere room ours n.made pace.marks n.event) n.sent (stamped n.event at (addressed to out))
      (earlier_low room ours n.made pace.marks n past)
      (open_low room ours n.made pace.marks n.event at to out opens);
  back = λ s lt fresh. (fresh, refl);
  before = stamped_before n
      (record n { tables = put n.tables at t; sent = n.sent ++ stamped n.event at (addressed to out) }) at
      (addressed to out) refl;
}
