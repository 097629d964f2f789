-- What a history on the cable leaves of what holds where numbers may be of any size.
use Rattle.std.proofs.Common.{◌≡◌, ℕ, List, map, Option, Some, None, refl, sym, ap, subst, ◌∙◌}
use Rattle.std.specs.Prelude.{◌==◌, ◌&&◌, ◌||◌}
use Rattle.at_ddp.specs.declared.address.Address.{Address}
use Rattle.at_adsp_frame.specs.Segments.{Content}
use Rattle.at_adsp_end.specs.declared.remote.Remote.{Remote}
use Rattle.at_adsp_end.specs.declared.change.EndChange.{EndChange}
use Rattle.at_adsp_ends.specs.Tables.{Done, by_remote}
use Rattle.at_adsp.specs.Cables.{wire_numbered}
use Rattle.at_adsp.specs.Network.{Setting, Made, Sent, Network, Happening, Connects, Listens, Closes, Writes, Reads}
use Rattle.at_adsp.specs.Network.{Resets, Ticks, Takes, Strange, Other}
use Rattle.at_adsp.specs.Network.{IsTimely, MakesInTime, NoneNames, born, dest_of, is_fresh, is_kept, is_no_later}
use Rattle.at_adsp.specs.Orders.{ReadsInOrder, whole_numbered}
use Rattle.at_adsp.specs.Reading.{ReadsFrom}
use Rattle.at_adsp.specs.Wires.{wired, wired_segment}
use Rattle.at_adsp.proofs.Mapped.{each_mapped, mapped}
use Rattle.at_adsp.proofs.WireCalls.{next_wired, remote_wired}
use Rattle.at_adsp.proofs.WireNetworks.{ComesNear, born_wired, packet_wired, wired_made, wired_network, wired_sent}
use Rattle.at_adsp.proofs.WireSegments.{HearsNear, received_wired}
use Rattle.std.proofs.lemmas.Option.{same_Some}

-- ---- histories in which no segment outlives its identifiers

kept_wired : (made : List Made) (event : ℕ) (at : Address) (id : ℕ) → is_kept (map wired_made made) event at id
    ≡ is_kept made event at id
kept_wired made event at id =
    ap (λ b. (id == 0) || b)
    (each_mapped wired_made (is_no_later event at id) (is_no_later event at id) (λ m. refl) made)

-- the body of a segment stays
pub fresh_wired : (made : List Made) (s : Sent) → is_fresh (map wired_made made) (wired_sent s) ≡ is_fresh made s
fresh_wired made s = λ i. kept_wired made s.event s.from s.packet.source i
    && kept_wired made s.event s.to (dest_of s.packet.body) i

none_mapped : {X Y : Type 0} (f : X → Y) (o : Option X) → mapped f o ≡ None → o ≡ None
none_mapped f None h = refl
none_mapped f (Some x) h = absurd (cc)

pub some_mapped : {X Y : Type 0} (f : X → Y) (o : Option X) (y : Y) → mapped f o ≡ Some y → (x : X)
    × ((o ≡ Some x) × (f x ≡ y))
some_mapped f None y h = absurd (cc)
some_mapped f (Some x) y h = (x, (refl, same_Some (f x) y h))

pub names_none : (n : Network) (at : Address) (id : ℕ) → NoneNames (wired_network n) at id → NoneNames n at id
names_none n at id h there =
    let r : Remote = record { address = at; id = id } in
    none_mapped wired (by_remote (n.tables there) r) (sym (remote_wired (n.tables there) r) ∙ h there)

module _ (setting : Setting) (n : Network) where
  abbrev C : Setting
  C = wire_numbered setting

  abbrev W : Setting
  W = whole_numbered setting

  pub makes_whole : (at from : Address) (s : Content) → HearsNear (n.tables at) from s s.body
      → MakesInTime C (wired_network n) at from (wired_segment s) → MakesInTime W n at from s
  makes_whole at from s near h id is =
      names_none n at id (h id (ap (λ (d : Done EndChange). d.answer) (received_wired (n.tables at) from s near) ∙ is))

  pub timely_whole : (h : Happening) → ComesNear setting n h → IsTimely C (wired_network n) h → IsTimely W n h
  timely_whole (Connects at to) near h = λ id is. names_none n at id (h id (next_wired (n.tables at) ∙ is))
  timely_whole (Listens at on) near h = tt
  timely_whole (Closes at id) near h = h
  timely_whole (Writes at id items) near h = h
  timely_whole (Reads at id count) near h = h
  timely_whole (Resets at id) near h = h
  timely_whole (Ticks at id tick) near h = h
  timely_whole (Takes which) near h = λ s is.
      let t = h (wired_sent s) (packet_wired n.sent which ∙ ap (mapped wired_sent) is) in
      (t.0, sym (fresh_wired n.made s) ∙ t.1, makes_whole s.to s.from s.packet (near s is) t.2)
  timely_whole (Strange at from segment) near h = absurd near
  timely_whole (Other count) near h = h

-- ---- the law

pub reads_wired : (n : Network) → ReadsInOrder n → ReadsInOrder (wired_network n)
reads_wired n h = record { reads = reads }
  where
    reads : (birth : ℕ) (m : Made) (other : ℕ) → born (map wired_made n.made) birth ≡ Some m → m.stream.peer
        ≡ Some other →
        (p : Made) × (born (map wired_made n.made) other ≡ Some p) × ReadsFrom m.stream.read p.stream.written
    reads birth m other is peer =
        let w = some_mapped wired_made (born n.made birth) m (sym (born_wired n.made birth) ∙ is) in
        let x : Made = w.0 in
        let same : x.stream ≡ m.stream = ap (λ (k : Made). k.stream) (w.1).1 in
        let r = h.reads birth x other (w.1).0 (ap (λ s. s.peer) same ∙ peer) in
        let p : Made = r.0 in (
          wired_made p,
          born_wired n.made other ∙ ap (mapped wired_made) r.1,
          subst (λ got. ReadsFrom got p.stream.written) (ap (λ s. s.read) same) r.2,
        )
