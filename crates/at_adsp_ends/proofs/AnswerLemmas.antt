-- What holds once an end gets its remote by an answer.
use Rattle.std.proofs.Common.{◌≡◌, ℕ, ◌+◌, ◌≤◌, Bool, true, false, cond, Option, Some, None, refl, sym, ap, subst, ◌∙◌}
use Rattle.std.proofs.Common.{set, arith}
use Rattle.std.specs.Prelude.{◌&&◌, find, is_none}
use Rattle.std.proofs.lemmas.Bool.{and_parts, true≢false}
use Rattle.std.proofs.lemmas.Option.{same_Some}
use Rattle.at_ddp.proofs.Alls.{all_at}
use Rattle.at_ddp.specs.Address.{same_address}
use Rattle.at_table.specs.Rows.{Rows, with_item}
use Rattle.at_adsp_end.specs.Ends.{EndState, has_remote, is_opening, is_remote, same_remote}
use Rattle.at_adsp_end.specs.declared.remote.Remote.{Remote}
use Rattle.at_adsp_end.specs.declared.rooms.Rooms.{Rooms}
use Rattle.at_adsp_ends.specs.Filed.{AreFiled}
use Rattle.at_adsp_ends.specs.Openings.{connected_to, is_answered}
use Rattle.at_adsp_ends.specs.Tables.{AreEnds}
use Rattle.at_adsp_ends.proofs.FiledLemmas.{AsksAlone, Lent, count_removed, filed_opened, own_remote}
use Rattle.at_adsp_ends.proofs.MoveLemmas.{Keeps}
use Rattle.at_adsp_ends.proofs.Places.{stands_at, table}
use Rattle.at_adsp_ends.proofs.TableLaws.{connected_lawful}

opening_too : (e : EndState) (r : Remote) (there : Option EndState) → is_answered e r there ≡ true
    → is_opening e.phase ≡ true
opening_too e r there h =
    let both = and_parts (is_opening e.phase && same_address e.asked r.address) (is_none there) h in
    (and_parts (is_opening e.phase) (same_address e.asked r.address) both.0).0

no_more : (b : Bool) → (b ≡ true → false ≡ true) → b ≡ false
no_more true h = absurd (true≢false (sym (h refl)))
no_more false h = refl

module _ {rows : Rows ℕ EndState} {under : Remote → Option ℕ} {room i : ℕ} {e : EndState}
    (lent : Lent rows under room i e) where
  -- an end that is answered has no remote yet, and so there is room for one
  pub alone : (r : Remote) (there : Option EndState) → is_answered e r there ≡ true → e.remote ≡ None
  alone r there h = all_at AsksAlone rows.items i e lent.filed.asking lent.at (opening_too e r there h)

  pub room_for_one : e.remote ≡ None → 1 ≤ room
  room_for_one none =
      let one = ap {B = ℕ} (λ o. cond (is_none o) 1 0) none in
      omega (arith, lent.filed.fits, count_removed rows.items i e lent.at, one)

  pub answered_lawful : {listening : Bool} {next : ℕ} {rooms : Rooms} → AreEnds (table listening next rooms rows.items)
      → (new : EndState) (r : Remote) → Keeps (connected_to e r) new → (later : Remote → Option ℕ) (left : ℕ)
      → e.remote ≡ None → find (has_remote r) rows.items ≡ None
      → ((s : Remote) → later s ≡ cond (same_remote s r) (Some e.id) (under s)) → room ≤ left + 1
      → AreEnds (table listening next rooms (set rows.items i new)) × AreFiled (with_item rows i new) later left
  answered_lawful {listening} {next} {rooms} laws new r k later left none fresh turns kept = (
    connected_lawful (table listening next rooms rows.items) i e new r laws (stands_at lent.at) k.id k.remote fresh,
    filed_opened lent new k.id later left none
        (λ s h. subst (λ (w : Remote). find (has_remote w) rows.items ≡ None)
        (same_Some r s (sym k.remote ∙ own_remote s new h)) fresh)
        (λ s. turns s ∙ (λ j. cond (is_remote s (sym k.remote j)) (Some (sym k.id j)) (under s)))
        (ap {B = ℕ} (λ o. cond (is_none o) 1 0) k.remote) kept (no_more (is_opening new.phase) k.phase),
  )
