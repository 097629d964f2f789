-- Where no stream is reset, what is read begins what was written.
use Rattle.std.proofs.Common.{◌≡◌, ℕ, true, List, [], ◌∷◌, ◌++◌, map, Option, Some, None, refl, ap, subst}
use Rattle.std.specs.Prelude.{Result, Ok, Err}
use Rattle.std.specs.List.{AllByRecursion}
use Rattle.std.proofs.lemmas.Bool.{false≢true}
use Rattle.at_ddp.specs.declared.address.Address.{Address}
use Rattle.at_ddp.proofs.Alls.{all_both, all_found, all_replaced}
use Rattle.at_adsp_end.specs.Ends.{EndState}
use Rattle.at_adsp_end.specs.declared.fault.StreamFault.{StreamFault}
use Rattle.at_adsp_end.specs.declared.item.Item.{Item}
use Rattle.at_adsp_ends.specs.Calls.{closed_at, connected, read_at, ticked_at, wrote}
use Rattle.at_adsp_ends.specs.Receiving.{received}
use Rattle.at_adsp_ends.specs.Tables.{Done, EndTable, by_id, next_id}
use Rattle.at_adsp.specs.Network.{Setting, Made, Sent, Network, Happening, Connects, Listens, Closes, Writes, Reads}
use Rattle.at_adsp.specs.Network.{Resets, Ticks, Takes, Strange, Other}
use Rattle.at_ddp.specs.Posts.{packet_at}
use Rattle.at_adsp.specs.Network.{AllTimely, after, calls_with, changed, done, has_birth, is_end, joined, newest}
use Rattle.at_adsp.specs.Network.{noted_with, takes, with_end, wrote_first}
use Rattle.at_adsp.specs.Orders.{IsNoReset, ReadsBeginnings, ReadsInOrder, whole_numbered}
use Rattle.at_adsp.specs.Reading.{NoReset, Put, ReadsFrom, Reset, Written, is_put, nothing, same, passes}
use Rattle.at_adsp.specs.Streams.{Deed, Nothing, Wrote, Read, GaveUp, written_after}
use Rattle.at_adsp.proofs.FlowHistories.{reads_in_order}
use Rattle.at_adsp.proofs.Logs.{puts_free}

-- ---- reading where nothing was reset

-- a reset stands in this list
no_reset_within : {A : Type 0} (before rest : List Written) → NoReset (before ++ Reset ∷ rest) → A
no_reset_within [] rest none = absurd (false≢true none.0)
no_reset_within (w ∷ before) rest none = no_reset_within before rest none.1

plain : {r : List Item} {w : List Written} → ReadsFrom r w → NoReset w → (rest : List Written) × (w ≡ map Put r ++ rest)
plain {w = w} nothing none = (w, refl)
plain (same {x} h) none = let more = plain h none.1 in (more.0, ap (λ l. Put x ∷ l) more.1)
plain (passes before ws is free h) none = no_reset_within before ws (subst NoReset is none)

-- ---- no stream is reset

abbrev IsPlain : Made → Type 0
IsPlain m = NoReset m.stream.written

abbrev IsNoGivingUp : Deed → Type 0
IsNoGivingUp GaveUp = ⊥
IsNoGivingUp other = Unit {0}

written_plain : (deed : Deed) (ws : List Written) → IsNoGivingUp deed → NoReset ws → NoReset (written_after deed ws)
written_plain Nothing ws calm h = h
written_plain (Wrote items) ws calm h = all_both (λ w. is_put w ≡ true) ws (map Put items) h (puts_free items)
written_plain (Read items) ws calm h = h
written_plain GaveUp ws calm h = absurd calm

changed_plain : (deed : Deed) (setting : Setting) (made : List Made) (at : Address) (e : EndState) (o : Option Made)
    → newest made at e.id ≡ o → IsNoGivingUp deed → AllByRecursion IsPlain made →
    AllByRecursion IsPlain (changed deed setting made at e o)
changed_plain deed setting made at e None is calm h = h
changed_plain deed setting made at e (Some m) is calm h =
    all_replaced IsPlain (is_end at e.id) (noted_with deed setting made e m) made h
    (written_plain deed m.stream.written calm (all_found IsPlain (is_end at e.id) made m h is).0)

joined_plain : (deed : Deed) (setting : Setting) (event : ℕ) (made : List Made) (at : Address) (e : EndState)
    (o : Option EndState) → IsNoGivingUp deed → AllByRecursion IsPlain made →
    AllByRecursion IsPlain (joined deed setting event made at e o)
joined_plain deed setting event made at e None calm h = (tt, h)
joined_plain deed setting event made at e (Some old) calm h =
    changed_plain deed setting made at e (newest made at e.id) refl calm h

with_plain : (deed : Deed) (setting : Setting) (event : ℕ) (made : List Made) (at : Address) (t : EndTable)
    (o : Option EndState) → IsNoGivingUp deed → AllByRecursion IsPlain made →
    AllByRecursion IsPlain (with_end deed setting event made at t o)
with_plain deed setting event made at t None calm h = h
with_plain deed setting event made at t (Some e) calm h =
    joined_plain deed setting event made at e (by_id t e.id) calm h

calls_plain : {X : Type 0} (deed : X → Deed) (setting : Setting) (n : Network) (at : Address)
    (r : Result (Done X) StreamFault) → ((x : X) → IsNoGivingUp (deed x)) → AllByRecursion IsPlain n.made →
    AllByRecursion IsPlain (calls_with deed setting n at r).made
calls_plain deed setting n at (Err fault) calm h = h
calls_plain deed setting n at (Ok d) calm h = with_plain (deed d.answer) setting n.event n.made at
    (n.tables at) d.changed (calm d.answer) h

takes_plain : (setting : Setting) (n : Network) (o : Option Sent) → AllByRecursion IsPlain n.made
    → AllByRecursion IsPlain (takes setting n o).made
takes_plain setting n None h = h
takes_plain setting n (Some s) h = with_plain Nothing setting n.event n.made s.to (n.tables s.to)
    (received setting.numbers (n.tables s.to) s.from s.packet).changed tt h

done_plain : (setting : Setting) (n : Network) (h : Happening) → IsNoReset h → AllByRecursion IsPlain n.made
    → AllByRecursion IsPlain (done setting n h).made
done_plain setting n (Connects at to) calm h =
    calls_plain (λ answer. Nothing) setting n at (connected (n.tables at) to (next_id (n.tables at))) (λ x. tt) h
done_plain setting n (Listens at on) calm h = h
done_plain setting n (Closes at id) calm h =
    calls_plain (λ answer. Nothing) setting n at (closed_at setting.numbers (n.tables at) (by_id (n.tables at) id))
    (λ x. tt) h
done_plain setting n (Writes at id items) calm h =
    calls_plain (wrote_first items) setting n at (wrote setting.numbers (n.tables at) items (by_id (n.tables at) id))
    (λ x. tt) h
done_plain setting n (Reads at id count) calm h =
    calls_plain Read setting n at (read_at setting.numbers (n.tables at) count (by_id (n.tables at) id)) (λ x. tt) h
done_plain setting n (Resets at id) calm h = absurd calm
done_plain setting n (Ticks at id tick) calm h =
    calls_plain (λ answer. Nothing) setting n at
    (ticked_at setting.numbers (n.tables at) tick (by_id (n.tables at) id)) (λ x. tt) h
done_plain setting n (Takes which) calm h = takes_plain setting n (packet_at n.sent which) h
done_plain setting n (Strange at from s) calm h = with_plain Nothing setting n.event n.made at (n.tables at)
    (received setting.numbers (n.tables at) from s).changed tt h
done_plain setting n (Other count) calm h = h

history_plain : (setting : Setting) (history : List Happening) → AllByRecursion IsNoReset history
    → AllByRecursion IsPlain (after setting history).made
history_plain setting [] calm = tt
history_plain setting (h ∷ hs) calm = done_plain setting (after setting hs) h calm.0 (history_plain setting hs calm.1)

-- ---- the law

-- where no stream is reset
pub plain_begins : (setting : Setting) (history : List Happening) → ReadsInOrder (after setting history)
    → AllByRecursion IsNoReset history → ReadsBeginnings (after setting history)
plain_begins setting history order calm = record {
  reads = λ birth m other is peer.
      let r = order.reads birth m other is peer in
      let none = (all_found IsPlain (has_birth other) (after setting history).made r.0
      (history_plain setting history calm) r.1).0 in
      let p = plain r.2 none in
      (r.0, r.1, p.0, p.1);
}

pub reads_beginnings : (setting : Setting) (history : List Happening) → AllTimely (whole_numbered setting) history
    → AllByRecursion IsNoReset history → ReadsBeginnings (after (whole_numbered setting) history)
reads_beginnings setting history timely calm =
    plain_begins (whole_numbered setting) history (reads_in_order setting history timely) calm
