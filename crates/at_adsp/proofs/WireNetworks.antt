-- What happens in a network of ends of streams is the same on the cable, where segments are near those that hear them.
use Rattle.std.proofs.Common.{◌≡◌, ℕ, zero, suc, Bool, true, false, cond, List, [], ◌∷◌, ◌++◌, map, replicate, Option}
use Rattle.std.proofs.Common.{Some, None, refl, sym, ap, ◌∙◌}
use Rattle.std.specs.Prelude.{is_none, slice_get, Result, Ok, Err}
use Rattle.at_ddp.specs.Address.{same_address}
use Rattle.at_ddp.specs.Tables.{replaced}
use Rattle.at_ddp.specs.declared.address.Address.{Address}
use Rattle.at_adsp_frame.specs.Segments.{Content}
use Rattle.at_adsp_end.specs.Ends.{EndState, has_opened}
use Rattle.at_adsp_end.specs.Positions.{whole, wire}
use Rattle.at_adsp_end.specs.declared.fault.StreamFault.{StreamFault}
use Rattle.at_adsp_end.specs.declared.remote.Remote.{Remote}
use Rattle.at_adsp_ends.specs.Calls.{closed_at, connected, listened, read_at, reset_at, ticked_at, wrote}
use Rattle.at_adsp_ends.specs.Receiving.{received}
use Rattle.at_adsp_ends.specs.Tables.{Done, EndTable, by_id, next_id}
use Rattle.at_adsp.specs.Cables.{wire_numbered}
use Rattle.at_adsp.specs.Network.{Setting, Made, Sent, Network, Happening, Connects, Listens, Closes, Writes, Reads}
use Rattle.at_adsp.specs.Network.{Resets, Ticks, Takes, Strange, Other}
use Rattle.at_ddp.specs.Posts.{packet_at, packet_of, put, stamped}
use Rattle.at_adsp.specs.Network.{beginning, birth_of, born, calls, calls_with, changed, does_with, done, gave_up}
use Rattle.at_adsp.specs.Network.{has_birth, is_end, joined, named, names_now, newest, noted_with, takes, with_end}
use Rattle.at_adsp.specs.Network.{wrote_first}
use Rattle.at_adsp.specs.Orders.{whole_numbered}
use Rattle.at_adsp.specs.Streams.{Deed, Nothing, Read, read_after, written_after}
use Rattle.at_adsp.specs.Wires.{wired, wired_segment}
use Rattle.at_adsp.proofs.Mapped.{find_mapped, get_mapped, mapped, replaced_mapped}
use Rattle.at_adsp.proofs.WireCalls.{closed_wired, connected_wired, id_wired, next_wired, reads_wired, resets_wired}
use Rattle.at_adsp.proofs.WireCalls.{ticks_wired, wired_done, wired_result, wired_table, wired_to, wrote_wired}
use Rattle.at_adsp.proofs.WireSegments.{HearsNear, received_wired}
use Rattle.std.proofs.lemmas.List.{map-append}

-- ---- a network as the cable has it

abbrev pub wired_made : Made → Made
wired_made m = record m { last = wired m.last }

abbrev pub wired_sent : Sent → Sent
wired_sent s = record s { packet = wired_segment s.packet }

abbrev pub wired_network : Network → Network
wired_network n = record {
  event = n.event;
  tables = λ at. wired_table (n.tables at);
  made = map wired_made n.made;
  sent = map (mapped wired_sent) n.sent;
}

pub newest_wired : (made : List Made) (at : Address) (id : ℕ) → newest (map wired_made made) at id
    ≡ mapped wired_made (newest made at id)
newest_wired made at id = find_mapped wired_made (is_end at id) (is_end at id) (λ m. refl) made

pub born_wired : (made : List Made) (birth : ℕ) → born (map wired_made made) birth ≡ mapped wired_made (born made birth)
born_wired made birth = find_mapped wired_made (has_birth birth) (has_birth birth) (λ m. refl) made

birth_wired : (o : Option Made) → birth_of (mapped wired_made o) ≡ birth_of o
birth_wired None = refl
birth_wired (Some m) = refl

pub packet_wired : (sent : List (Option Sent)) (which : ℕ) → packet_at (map (mapped wired_sent) sent) which
    ≡ mapped wired_sent (packet_at sent which)
packet_wired sent which = ap packet_of (get_mapped (mapped wired_sent) sent which) ∙ of (slice_get sent which)
  where
    of : (o : Option (Option Sent)) → packet_of (mapped (mapped wired_sent) o) ≡ mapped wired_sent (packet_of o)
    of None = refl
    of (Some x) = refl

none_wired : (count : ℕ) → map (mapped wired_sent) (replicate count None) ≡ replicate count None
none_wired zero = refl
none_wired (suc count) = ap (λ l. None ∷ l) (none_wired count)

stamped_wired : (event : ℕ) (from : Address) (out : List (Address × Content)) → stamped event from (map wired_to out)
    ≡ map (mapped wired_sent) (stamped event from out)
stamped_wired event from [] = refl
stamped_wired event from (x ∷ out) =
    ap (λ l. Some (record { event = event; from = from; to = x.0; packet = wired_segment x.1 }) ∷ l)
    (stamped_wired event from out)

module _ (setting : Setting) where
  abbrev C : Setting
  C = wire_numbered setting

  abbrev W : Setting
  W = whole_numbered setting

  -- ---- all ends that were made

  named_wired : (made : List Made) (r : Option Remote) → named C (map wired_made made) r ≡ named W made r
  named_wired made None = refl
  named_wired made (Some r) =
      ap (λ o. cond (setting.ours r.address) o None)
      (ap birth_of (newest_wired made r.address r.id) ∙ birth_wired (newest made r.address r.id))

  names_wired : (made : List Made) (e : EndState) (m : Made)
      → names_now C (map wired_made made) (wired e) (wired_made m) ≡ names_now W made e m
  names_wired made e m = ap (λ o. cond (is_none m.last.remote) o m.names) (named_wired made e.remote)

  noted_wired : (deed : Deed) (made : List Made) (e : EndState) (m : Made)
      → noted_with deed C (map wired_made made) (wired e) (wired_made m) ≡ wired_made (noted_with deed W made e m)
  noted_wired deed made e m = λ i. record {
    stream =
        record m.stream {
          peer = cond (has_opened e.phase) (names_wired made e m i) None;
          written = written_after deed m.stream.written;
          read = read_after deed m.stream.read;
        };
    last = wired e;
    names = names_wired made e m i;
  }

  changed_wired : (deed : Deed) (made : List Made) (at : Address) (e : EndState) (o : Option Made)
      → changed deed C (map wired_made made) at (wired e) (mapped wired_made o)
      ≡ map wired_made (changed deed W made at e o)
  changed_wired deed made at e None = refl
  changed_wired deed made at e (Some m) =
      ap (λ x. replaced (is_end at e.id) x (map wired_made made)) (noted_wired deed made e m)
      ∙ replaced_mapped wired_made (is_end at e.id) (is_end at e.id) (λ x. refl) (noted_with deed W made e m) made

  joined_wired : (deed : Deed) (event : ℕ) (made : List Made) (at : Address) (e : EndState) (o : Option EndState) →
      joined deed C event (map wired_made made) at (wired e) (mapped wired o)
      ≡ map wired_made (joined deed W event made at e o)
  joined_wired deed event made at e None =
      ap (λ m. m ∷ map wired_made made) (noted_wired Nothing (beginning event at e ∷ made) e (beginning event at e))
  joined_wired deed event made at e (Some old) = ap (changed deed C (map wired_made made) at (wired e))
      (newest_wired made at e.id) ∙ changed_wired deed made at e (newest made at e.id)

  end_wired : (deed : Deed) (event : ℕ) (made : List Made) (at : Address) (t : EndTable) (o : Option EndState) →
      with_end deed C event (map wired_made made) at (wired_table t) (mapped wired o)
      ≡ map wired_made (with_end deed W event made at t o)
  end_wired deed event made at t None = refl
  end_wired deed event made at t (Some e) = ap (joined deed C event (map wired_made made) at (wired e))
      (id_wired t e.id) ∙ joined_wired deed event made at e (by_id t e.id)

  put_wired : (f : Address → EndTable) (at : Address) (t : EndTable) (a : Address)
      → put (λ x. wired_table (f x)) at (wired_table t) a ≡ wired_table (put f at t a)
  put_wired f at t a = go (same_address at a)
    where
      go : (b : Bool) → cond b (wired_table t) (wired_table (f a)) ≡ wired_table (cond b t (f a))
      go true = refl
      go false = refl

  -- ---- what a call, a timer or a segment does

  pub does_wired : {X : Type 0} (deed : Deed) (n : Network) (at : Address) (d : Done X)
      → does_with deed C (wired_network n) at (wired_done d) ≡ wired_network (does_with deed W n at d)
  does_wired deed n at d = λ i. record {
    event = n.event;
    tables = λ a. put_wired n.tables at d.after a i;
    made = end_wired deed n.event n.made at (n.tables at) d.changed i;
    sent = (ap (λ l. map (mapped wired_sent) n.sent ++ l) (stamped_wired n.event at d.sent)
        ∙ sym (map-append (mapped wired_sent) n.sent (stamped n.event at d.sent))) i;
  }

  calls_wired : {X : Type 0} (deed : X → Deed) (n : Network) (at : Address) (r : Result (Done X) StreamFault)
      → calls_with deed C (wired_network n) at (wired_result r) ≡ wired_network (calls_with deed W n at r)
  calls_wired deed n at (Err fault) = refl
  calls_wired deed n at (Ok d) = does_wired (deed d.answer) n at d

  pub hears_wired : (n : Network) (at from : Address) (s : Content) → HearsNear (n.tables at) from s s.body →
      does_with Nothing C (wired_network n) at (received wire (wired_table (n.tables at)) from (wired_segment s))
      ≡ wired_network (does_with Nothing W n at (received whole (n.tables at) from s))
  hears_wired n at from s near =
      ap (does_with Nothing C (wired_network n) at) (received_wired (n.tables at) from s near)
      ∙ does_wired Nothing n at (received whole (n.tables at) from s)

  -- ---- what happens

  -- a segment that comes is near the end that hears it
  abbrev pub ComesNear : Network → Happening → Type 0
  ComesNear n (Takes which) = (s : Sent) → packet_at n.sent which ≡ Some s
      → HearsNear (n.tables s.to) s.from s.packet s.packet.body
  ComesNear n (Strange at from segment) = ⊥
  ComesNear n other = Unit {0}

  takes_wired : (n : Network) (o : Option Sent)
      → ((s : Sent) → o ≡ Some s → HearsNear (n.tables s.to) s.from s.packet s.packet.body)
      → takes C (wired_network n) (mapped wired_sent o) ≡ wired_network (takes W n o)
  takes_wired n None near = refl
  takes_wired n (Some s) near = hears_wired n s.to s.from s.packet (near s refl)

  pub done_wired : (n : Network) (h : Happening) → ComesNear n h → done C (wired_network n) h
      ≡ wired_network (done W n h)
  done_wired n (Connects at to) near =
      ap (λ o. calls C (wired_network n) at (connected (wired_table (n.tables at)) to o)) (next_wired (n.tables at))
      ∙ ap (calls C (wired_network n) at) (connected_wired (n.tables at) to (next_id (n.tables at)))
      ∙ calls_wired (λ answer. Nothing) n at (connected (n.tables at) to (next_id (n.tables at)))
  done_wired n (Listens at on) near = λ i. record {
    event = n.event;
    tables = λ a. put_wired n.tables at (listened (n.tables at) on) a i;
    made = map wired_made n.made;
    sent = map (mapped wired_sent) n.sent;
  }
  done_wired n (Closes at id) near =
      ap (λ o. calls C (wired_network n) at (closed_at wire (wired_table (n.tables at)) o)) (id_wired (n.tables at) id)
      ∙ ap (calls C (wired_network n) at) (closed_wired (n.tables at) (by_id (n.tables at) id))
      ∙ calls_wired (λ answer. Nothing) n at (closed_at whole (n.tables at) (by_id (n.tables at) id))
  done_wired n (Writes at id items) near =
      ap (λ o. calls_with (wrote_first items) C (wired_network n) at (wrote wire (wired_table (n.tables at)) items o))
      (id_wired (n.tables at) id)
      ∙ ap (calls_with (wrote_first items) C (wired_network n) at)
      (wrote_wired (n.tables at) items (by_id (n.tables at) id))
      ∙ calls_wired (wrote_first items) n at (wrote whole (n.tables at) items (by_id (n.tables at) id))
  done_wired n (Reads at id count) near =
      ap (λ o. calls_with Read C (wired_network n) at (read_at wire (wired_table (n.tables at)) count o))
      (id_wired (n.tables at) id)
      ∙ ap (calls_with Read C (wired_network n) at) (reads_wired (n.tables at) count (by_id (n.tables at) id))
      ∙ calls_wired Read n at (read_at whole (n.tables at) count (by_id (n.tables at) id))
  done_wired n (Resets at id) near =
      ap (λ o. calls_with gave_up C (wired_network n) at (reset_at wire (wired_table (n.tables at)) o))
      (id_wired (n.tables at) id)
      ∙ ap (calls_with gave_up C (wired_network n) at) (resets_wired (n.tables at) (by_id (n.tables at) id))
      ∙ calls_wired gave_up n at (reset_at whole (n.tables at) (by_id (n.tables at) id))
  done_wired n (Ticks at id tick) near =
      ap (λ o. calls C (wired_network n) at (ticked_at wire (wired_table (n.tables at)) tick o))
      (id_wired (n.tables at) id)
      ∙ ap (calls C (wired_network n) at) (ticks_wired (n.tables at) tick (by_id (n.tables at) id))
      ∙ calls_wired (λ answer. Nothing) n at (ticked_at whole (n.tables at) tick (by_id (n.tables at) id))
  done_wired n (Takes which) near = ap (takes C (wired_network n)) (packet_wired n.sent which)
      ∙ takes_wired n (packet_at n.sent which) near
  done_wired n (Strange at from segment) near = absurd near
  done_wired n (Other count) near = λ i. record {
    event = n.event;
    tables = λ a. wired_table (n.tables a);
    made = map wired_made n.made;
    sent = (ap (λ l. map (mapped wired_sent) n.sent ++ l) (sym (none_wired count))
        ∙ sym (map-append (mapped wired_sent) n.sent (replicate count None))) i;
  }
