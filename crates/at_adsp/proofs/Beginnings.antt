-- What an end that is made leaves true of a network.
use Rattle.std.proofs.Common.{◌≡◌, ℕ, ◌+◌, ◌<◌, ◌≤◌, Bool, true, false, cond, List, [], ◌∷◌, Option, Some, None, refl}
use Rattle.std.proofs.Common.{sym, ap, subst, ◌∙◌, arith}
use Rattle.std.specs.Prelude.{map, nat_le, not, ◌==◌, ◌&&◌, ◌||◌}
use Rattle.std.specs.List.{AllByRecursion, list_all, list_any}
use Rattle.std.proofs.lemmas.Bool.{true≢false, and_parts, leb-true, eqb-true, eq-eqb, and_right}
use Rattle.at_ddp.specs.Address.{same_address}
use Rattle.at_ddp.specs.declared.address.Address.{Address}
use Rattle.at_ddp.proofs.Alls.{all_both, all_implied, all_pairs, none_passes, none_any}
use Rattle.at_ddp.proofs.Octets.{same_address_itself}
use Rattle.at_adsp_frame.specs.Segments.{Content}
use Rattle.at_adsp_end.specs.Ends.{EndState, addressed, has_opened, has_remote}
use Rattle.at_adsp_end.specs.declared.remote.Remote.{Remote}
use Rattle.at_adsp_ends.specs.Tables.{by_id, has_id, made, with_end}
use Rattle.at_adsp.specs.Connections.{streams}
use Rattle.at_ddp.specs.Posts.{stamped}
use Rattle.at_ddp.proofs.PostLemmas.{put_elsewhere, sent_both, sent_implied, sent_pairs, stamped_past}
use Rattle.at_adsp.specs.Network.{Setting, Made, Sent, Network, NoneNames, beginning, birth_of, dest_of, does, is_kept}
use Rattle.at_adsp.specs.Network.{is_no_later, joined, named, newest, noted}
use Rattle.at_adsp.specs.Streams.{Nothing}
use Rattle.at_adsp.proofs.Distinct.{IdsApart, IsDrawn, Others, differ_more}
use Rattle.at_adsp.proofs.Finds.{none_finds}
use Rattle.at_adsp.proofs.Growth.{born_more, itself}
use Rattle.at_adsp.proofs.Sayings.{Says, said_fresh}
use Rattle.at_adsp.proofs.Sound.{Fresh, HasPeer, IsKnown, Lawful, Sound, Stands, mutual_kept, tells_kept}
use Rattle.at_ddp.proofs.EqualLemmas.{apart}

-- an end that begins
pub record Begins (setting : Setting) (n : Network) (at : Address) (e : EndState) : Type 0 where
  pub drawn : IsDrawn (n.tables at) e.id
  pub known : IsKnown e
  pub unopened : has_opened e.phase ≡ false
  pub unnamed : NoneNames n at e.id

-- a segment that was sent before an identifier was drawn, and is in time after that, has another one
not_drawn : (p : Bool) (event sent : ℕ) → sent < event → (not p || nat_le event sent) ≡ true → p ≡ false
not_drawn false event sent lt h = refl
not_drawn true event sent lt h = let le = leb-true event sent h in absurd (omega arith)

module _ (setting : Setting) (n : Network) (at : Address) (e : EndState) (sound : Sound setting n.event n)
    (b : Begins setting n at e) where
  abbrev first : Made
  first = beginning n.event at e

  abbrev new : Made
  new = noted setting (beginning n.event at e ∷ n.made) e (beginning n.event at e)

  abbrev later : List Made
  later = noted setting (beginning n.event at e ∷ n.made) e (beginning n.event at e) ∷ n.made

  -- ---- other ends

  stands_kept : (a : Address) (x : EndState) → (same_address at a && (e.id == x.id)) ≡ false
      → has_remote (record { address = at; id = e.id }) x ≡ false → Stands setting n.made a x → Stands setting later a x
  stands_kept a x apart names t = record {
    it = t.it;
    newest = ap (λ c. cond c (Some new) (newest n.made a x.id)) apart ∙ t.newest;
    last = t.last;
    names = t.names ∙ sym (go x.remote refl names);
  }
    where
      go : (o : Option Remote) → x.remote ≡ o
          → has_remote (record { address = at; id = e.id }) (record x { remote = o }) ≡ false → named setting later o
          ≡ named setting n.made o
      go None is h = refl
      go (Some r) is h = ap (λ c. cond (setting.ours r.address)
          (birth_of (cond c (Some new) (newest n.made r.address r.id))) None) h

  stands_now : Stands setting later at e
  stands_now = record {
    it = new;
    newest = ap (λ c. cond c (Some new) (newest n.made at e.id))
        (λ i. same_address_itself at i && eq-eqb e.id e.id refl i);
    last = refl;
    names = go e.remote;
  }
    where
      here : (c : Bool) (o : Option Made) → birth_of (cond c (Some first) o) ≡ birth_of (cond c (Some new) o)
      here true o = refl
      here false o = refl

      go : (o : Option Remote) → named setting (first ∷ n.made) o ≡ named setting later o
      go None = refl
      go (Some r) = ap (λ o. cond (setting.ours r.address) o None)
          (here (same_address at r.address && (e.id == r.id)) (newest n.made r.address r.id))

  -- ---- segments that were sent before

  pub kept_before : (event : ℕ) (a : Address) (id : ℕ) → event < n.event → is_kept later event a id ≡ true
      → (is_kept n.made event a id ≡ true) × ((same_address at a && (e.id == id)) ≡ false)
  kept_before event a id lt h = go (id == 0) refl h
    where
      other : (c : Bool) → (e.id == 0) ≡ c → c ≡ false
      other false is = refl
      other true is = let zero_ = eqb-true e.id 0 is in let some = b.drawn.some in absurd (omega arith)

      go : (c : Bool) → (id == 0) ≡ c → (c || (is_no_later event a id new && list_all (is_no_later event a id) n.made))
          ≡ true →
          ((c || list_all (is_no_later event a id) n.made) ≡ true) × ((same_address at a && (e.id == id)) ≡ false)
      go true is g = (
        refl,
        and_right (same_address at a) (e.id == id)
            (ap (λ k. e.id == k) (eqb-true id 0 is) ∙ other (e.id == 0) refl),
      )
      go false is g =
          let both = and_parts (is_no_later event a id new) (list_all (is_no_later event a id) n.made) g in
          (both.1, not_drawn (same_address at a && (e.id == id)) n.event event lt both.0)

  fresh_kept : (x : Sent) → (x.event < n.event) × Fresh setting n.made x → Fresh setting later x
  fresh_kept x h = λ fresh.
      let both = and_parts (is_kept later x.event x.from x.packet.source)
      (is_kept later x.event x.to (dest_of x.packet.body)) fresh in
      let source = kept_before x.event x.from x.packet.source h.0 both.0 in
      let dest = kept_before x.event x.to (dest_of x.packet.body) h.0 both.1 in
      tells_kept setting n.made later x.from x.to x.packet.source x.packet.body
      (λ m is. (m, ap (λ c. cond c (Some new) (newest n.made x.from x.packet.source)) source.1 ∙ is, itself m))
      (λ d kind is.
      ap (λ c. cond (setting.ours x.to) (birth_of (cond c (Some new) (newest n.made x.to d))) None)
      (ap (λ k. same_address at x.to && (e.id == k)) (ap dest_of (sym is)) ∙ dest.1))
      (h.1 (λ i. source.0 i && dest.0 i))

  -- ---- the network

  peer_kept : (m : Made) → HasPeer n.made m → HasPeer later m
  peer_kept m h = λ c is. mutual_kept n.made later m m c
      (λ w there. (w, born_more new w n.made c sound.births there, itself w)) (itself m) (h c is)

  made_so : {X : Type 0} (answer : X) (sent : List Content) → AllByRecursion (Says e) sent
      → Sound setting (n.event + 1) (record (does setting n at (made (n.tables at) answer e sent)) { made = later })
  made_so answer sent says = record {
    births = (omega arith, sound.births);
    past =
        sent_both (λ x. x.event < n.event + 1) n.sent (stamped n.event at (addressed e.asked sent))
        (sent_implied (λ x. x.event < n.event) (λ x. x.event < n.event + 1) n.sent (λ x lt. omega arith) sound.past)
        (stamped_past n.event at (addressed e.asked sent));
    lawful = (lawful_new, sound.lawful);
    peers = (peers_new, all_implied (HasPeer n.made) (HasPeer later) n.made peer_kept sound.peers);
    sent =
        sent_both (Fresh setting later) n.sent (stamped n.event at (addressed e.asked sent))
        (sent_implied (λ x. (x.event < n.event) × Fresh setting n.made x) (Fresh setting later) n.sent fresh_kept
        (sent_pairs (λ x. x.event < n.event) (Fresh setting n.made) n.sent sound.past sound.sent))
        (said_fresh setting later at e n.event sent (lawful_new, sound.lawful) stands_now says);
    standing =
        put_elsewhere (λ a t. AllByRecursion (Stands setting later a) t.ends) n.tables at (with_end (n.tables at) e)
        (λ a other. all_implied (λ x. Stands setting n.made a x
        × (has_remote (record { address = at; id = e.id }) x ≡ false)) (Stands setting later a) (n.tables a).ends
        (λ x t. stands_kept a x (ap (λ c. c && (e.id == x.id)) other) t.1 t.0) (unnamed a))
        (all_both (Stands setting later at) (n.tables at).ends (e ∷ [])
        (all_implied (λ x. (Stands setting n.made at x × (has_remote (record { address = at; id = e.id }) x ≡ false))
        × Others e.id x) (Stands setting later at) (n.tables at).ends
        (λ x t. stands_kept at x (and_right (same_address at at) (e.id == x.id) (apart x.id e.id t.1)) t.0.1 t.0.0)
        (all_pairs (λ x. Stands setting n.made at x × (has_remote (record { address = at; id = e.id }) x ≡ false))
        (Others e.id) (n.tables at).ends (unnamed at)
        (none_any (has_id e.id) (n.tables at).ends b.drawn.free)))
        (stands_now, tt));
    differ =
        put_elsewhere (λ a t. IdsApart t.ends) n.tables at (with_end (n.tables at) e) (λ a other. sound.differ a)
        (differ_more e (n.tables at).ends (sound.differ at) b.drawn.free);
    next = put_elsewhere (λ a t. 1 ≤ t.next) n.tables at (with_end (n.tables at) e) (λ a other. sound.next a)
        (omega arith);
  }
    where
      lawful_new : Lawful setting.ours new
      lawful_new = record {
        id = refl;
        listener = refl;
        asked = refl;
        known = b.known;
        peer = refl;
        found = λ opened ours. absurd (true≢false (sym opened ∙ b.unopened));
      }

      peers_new : HasPeer later new
      peers_new c is = absurd (let none : new.stream.peer
          ≡ None = ap (λ d. cond d (named setting (first ∷ n.made) e.remote) None) b.unopened in cc)

      unnamed : (a : Address) → AllByRecursion
          (λ x. Stands setting n.made a x × (has_remote (record { address = at; id = e.id }) x ≡ false))
          (n.tables a).ends
      unnamed a = none_passes (Stands setting n.made a) (has_remote (record { address = at; id = e.id }))
          (n.tables a).ends (b.unnamed a) (sound.standing a)

  pub made_sound : {X : Type 0} (answer : X) (sent : List Content) → AllByRecursion (Says e) sent
      → Sound setting (n.event + 1) (does setting n at (made (n.tables at) answer e sent))
  made_sound answer sent says =
      subst (λ (l : List Made). Sound setting (n.event + 1)
      (record (does setting n at (made (n.tables at) answer e sent)) { made = l })) (sym made_is)
      (made_so answer sent says)
    where
      made_is : joined Nothing setting n.event n.made at e (by_id (n.tables at) e.id) ≡ later
      made_is = ap (joined Nothing setting n.event n.made at e)
          (none_finds (has_id e.id) (n.tables at).ends b.drawn.free)

-- its users see one end more
pub made_streams : {X : Type 0} (setting : Setting) (n : Network) (at : Address) (e : EndState) (answer : X)
    (sent : List Content) → list_any (has_id e.id) (n.tables at).ends ≡ false →
    streams (does setting n at (made (n.tables at) answer e sent))
    ≡ (noted setting (beginning n.event at e ∷ n.made) e (beginning n.event at e)).stream ∷ streams n
made_streams setting n at e answer sent free =
    ap (λ o. map (λ (m : Made). m.stream) (joined Nothing setting n.event n.made at e o))
    (none_finds (has_id e.id) (n.tables at).ends free)
