-- What a change of one end leaves true of a network.
use Rattle.std.proofs.Common.{◌≡◌, ℕ, ◌+◌, ◌<◌, ◌≤◌, Bool, true, false, cond, List, Option, Some, None, refl, sym, ap}
use Rattle.std.proofs.Common.{subst, ◌∙◌}
use Rattle.std.specs.Prelude.{find, is_none, ◌==◌, ◌&&◌, ◌||◌}
use Rattle.std.specs.List.{AllByRecursion, list_all}
use Rattle.at_ddp.specs.Address.{same_address}
use Rattle.at_ddp.specs.Tables.{replaced}
use Rattle.at_ddp.specs.declared.address.Address.{Address}
use Rattle.at_ddp.proofs.Alls.{all_found, all_implied, all_replaced}
use Rattle.at_ddp.proofs.Octets.{same_both}
use Rattle.at_adsp_frame.specs.Segments.{Content}
use Rattle.at_adsp_end.specs.Ends.{EndState, addressed, has_opened}
use Rattle.at_adsp_end.specs.declared.remote.Remote.{Remote}
use Rattle.at_adsp_ends.specs.Tables.{by_id, moved, with_changed}
use Rattle.at_ddp.specs.Posts.{stamped}
use Rattle.at_ddp.proofs.PostLemmas.{put_elsewhere, sent_both, sent_implied, stamped_past}
use Rattle.std.proofs.lemmas.Bool.{and_right, and_left}
use Rattle.at_adsp.specs.Network.{Setting, Made, Sent, Network, changed, dest_of, does_with, is_end, is_fresh}
use Rattle.at_adsp.specs.Network.{is_no_later, joined, named, names_now, newest, noted_with}
use Rattle.at_adsp.specs.Streams.{Deed}
use Rattle.at_adsp.proofs.Distinct.{IdsApart, all_moved, differ_replaced}
use Rattle.at_adsp.proofs.Finds.{all_same, apart_in, replaced_found}
use Rattle.at_adsp.proofs.Growth.{Grows, born_kept, fall_kept, itself, named_kept, newest_kept}
use Rattle.at_adsp.proofs.Sayings.{Says, said_fresh}
use Rattle.at_adsp.proofs.Sound.{Fresh, HasPeer, IsKnown, Lawful, Sound, Stands, mutual_kept, opened_reaches}
use Rattle.at_adsp.proofs.Sound.{tells_kept}
use Rattle.at_ddp.proofs.EqualLemmas.{apart}

-- an end moves: what it is stays, and so does its remote once it has one
pub record Moves (e f : EndState) : Type 0 where
  pub id : f.id ≡ e.id
  pub listener : f.listener ≡ e.listener
  pub asked : f.asked ≡ e.asked
  pub remote : (r : Remote) → e.remote ≡ Some r → f.remote ≡ Some r
  pub opened : has_opened e.phase ≡ true → has_opened f.phase ≡ true
  pub known : IsKnown f

-- ---- the end that was made, and what is noted of it now

module _ (deed : Deed) (setting : Setting) (n : Network) (at : Address) (e f : EndState)
    (sound : Sound setting (n.event + 1) n) (s : Stands setting n.made at e) (moves : Moves e f) where
  abbrev new : Made
  new = noted_with deed setting n.made f s.it

  abbrev later : List Made
  later = replaced (is_end at f.id) (noted_with deed setting n.made f s.it) n.made

  pub there : find (is_end at f.id) n.made ≡ Some s.it
  there = ap (newest n.made at) moves.id ∙ s.newest

  pub law : Lawful setting.ours s.it
  law = (all_found (Lawful setting.ours) (is_end at f.id) n.made s.it sound.lawful there).0

  pub own : (s.it.stream.owner ≡ at) × (s.it.stream.id ≡ f.id)
  own = same_both s.it.stream.owner at s.it.stream.id f.id
      (all_found (Lawful setting.ours) (is_end at f.id) n.made s.it sound.lawful there).1

  pub still : (r : Remote) → s.it.last.remote ≡ Some r → e.remote ≡ Some r
  still r h = ap (λ (x : EndState). x.remote) (sym s.last) ∙ h

  names_same : (r : Remote) → s.it.last.remote ≡ Some r → names_now setting n.made f s.it ≡ s.it.names
  names_same r h = ap (λ o. cond (is_none o) (named setting n.made f.remote) s.it.names) h

  peer_same : (b : ℕ) → s.it.stream.peer ≡ Some b → cond (has_opened f.phase) (names_now setting n.made f s.it) None
      ≡ Some b
  peer_same b h = go (has_opened s.it.last.phase) refl
    where
      was : (c : Bool) → has_opened s.it.last.phase ≡ c → s.it.stream.peer ≡ cond c s.it.names None
      was c is = law.peer ∙ ap (λ d. cond d s.it.names None) is

      go : (c : Bool) → has_opened s.it.last.phase ≡ c
          → cond (has_opened f.phase) (names_now setting n.made f s.it) None ≡ Some b
      go true is =
          let reaches = opened_reaches s.it.last.phase s.it.last.listener s.it.last.asked s.it.last.remote law.known
          is in
          ap (λ d. cond d (names_now setting n.made f s.it) None)
          (moves.opened (ap (λ (x : EndState). has_opened x.phase) (sym s.last) ∙ is))
          ∙ names_same (record { address = s.it.last.asked; id = reaches.0 }) reaches.1 ∙ sym (was true is) ∙ h
      go false is = absurd (let none = was false is in cc)

  pub grows : Grows s.it new
  grows = record {
    birth = refl;
    owner = refl;
    id = refl;
    listener = refl;
    asked = refl;
    remote = λ r h. moves.remote r (still r h);
    names = names_same;
    peer = peer_same;
  }

  -- ---- each end of a table, and each segment

  stands_kept : (a : Address) (x : EndState) → (same_address at a && (f.id == x.id)) ≡ false
      → Stands setting n.made a x → Stands setting later a x
  stands_kept a x apart t = record {
    it = t.it;
    newest =
        apart_in (is_end at f.id) (is_end a x.id) s.it new n.made there
        ((λ i. same_address (own.0 i) a && (own.1 i == x.id)) ∙ apart)
        ((λ i. same_address (own.0 i) a && (own.1 i == x.id)) ∙ apart) ∙ t.newest;
    last = t.last;
    names = t.names ∙ sym (named_kept setting (is_end at f.id) s.it new n.made grows there x.remote);
  }

  pub names_still : names_now setting n.made f s.it ≡ named setting n.made f.remote
  names_still = go s.it.last.remote refl
    where
      go : (o : Option Remote) → s.it.last.remote ≡ o → cond (is_none o) (named setting n.made f.remote) s.it.names
          ≡ named setting n.made f.remote
      go None h = refl
      go (Some r) h = s.names ∙ ap (named setting n.made) (still r h ∙ sym (moves.remote r (still r h)))

  pub newest_now : newest (replaced (is_end at f.id) (noted_with deed setting n.made f s.it) n.made) at f.id
      ≡ Some (noted_with deed setting n.made f s.it)
  newest_now = replaced_found (is_end at f.id) s.it new n.made there
      (all_found (Lawful setting.ours) (is_end at f.id) n.made s.it sound.lawful there).1

  stands_now : Stands setting later at f
  stands_now = record {
    it = new;
    newest = newest_now;
    last = refl;
    names = names_still ∙ sym (named_kept setting (is_end at f.id) s.it new n.made grows there f.remote);
  }

  pub fresh_same : (x : Sent) → is_fresh later x ≡ true → is_fresh n.made x ≡ true
  fresh_same x h = sym (λ i. ((x.packet.source == 0) || one i) && ((dest_of x.packet.body == 0) || two i)) ∙ h
    where
      one : list_all (is_no_later x.event x.from x.packet.source) later
          ≡ list_all (is_no_later x.event x.from x.packet.source) n.made
      one = all_same (is_no_later x.event x.from x.packet.source) (is_end at f.id) s.it new n.made refl there

      two : list_all (is_no_later x.event x.to (dest_of x.packet.body)) later
          ≡ list_all (is_no_later x.event x.to (dest_of x.packet.body)) n.made
      two = all_same (is_no_later x.event x.to (dest_of x.packet.body)) (is_end at f.id) s.it new n.made refl there

  fresh_kept : (x : Sent) → Fresh setting n.made x → Fresh setting later x
  fresh_kept x h = λ fresh.
      tells_kept setting n.made later x.from x.to x.packet.source x.packet.body
      (newest_kept (is_end at f.id) s.it new n.made grows there x.from x.packet.source)
      (λ dest kind e. named_kept setting (is_end at f.id) s.it new n.made grows there
      (Some (record { address = x.to; id = dest }))) (h (fresh_same x fresh))

  -- ---- the network

  abbrev Finds : Type 0
  Finds = has_opened f.phase ≡ true → setting.ours f.asked ≡ true → (b : ℕ) × (names_now setting n.made f s.it ≡ Some b)

  lawful_now : Finds → Lawful setting.ours new
  lawful_now finds = record {
    id = moves.id ∙ ap (λ (x : EndState). x.id) (sym s.last) ∙ law.id;
    listener = moves.listener ∙ ap (λ (x : EndState). x.listener) (sym s.last) ∙ law.listener;
    asked = moves.asked ∙ ap (λ (x : EndState). x.asked) (sym s.last) ∙ law.asked;
    known = moves.known;
    peer = refl;
    found = finds;
  }

  peer_kept : (m : Made) → HasPeer n.made m → HasPeer later m
  peer_kept m h = λ b is. mutual_kept n.made later m m b (born_kept (is_end at f.id) s.it new n.made grows there b)
      (itself m) (h b is)

  changed_so : {X : Type 0} (answer : X) (sent : List Content) → Finds → HasPeer n.made new
      → AllByRecursion (Says f) sent →
      Sound setting (n.event + 1)
      (record (does_with deed setting n at (moved (n.tables at) answer f sent)) { made = later })
  changed_so answer sent finds peers says = record {
    births = fall_kept (is_end at f.id) s.it new n.made (n.event + 1) refl there sound.births;
    past = sent_both (λ x. x.event < n.event + 1) n.sent (stamped n.event at (addressed f.asked sent)) sound.past
        (stamped_past n.event at (addressed f.asked sent));
    lawful = lawful_later;
    peers =
        all_replaced (HasPeer later) (is_end at f.id) new n.made
        (all_implied (HasPeer n.made) (HasPeer later) n.made peer_kept sound.peers) (peer_kept new peers);
    sent =
        sent_both (Fresh setting later) n.sent (stamped n.event at (addressed f.asked sent))
        (sent_implied (Fresh setting n.made) (Fresh setting later) n.sent fresh_kept sound.sent)
        (said_fresh setting later at f n.event sent lawful_later stands_now says);
    standing =
        put_elsewhere (λ a t. AllByRecursion (Stands setting later a) t.ends) n.tables at (with_changed (n.tables at) f)
        (λ a other. all_implied (Stands setting n.made a) (Stands setting later a) (n.tables a).ends
        (λ x t. stands_kept a x (and_left (same_address at a) (f.id == x.id) other) t) (sound.standing a))
        (all_moved (Stands setting n.made at) (Stands setting later at) f.id f (n.tables at).ends (sound.differ at)
        (λ x other t. stands_kept at x (and_right (same_address at at) (f.id == x.id) (apart x.id f.id other)) t)
        stands_now (sound.standing at));
    differ =
        put_elsewhere (λ a t. IdsApart t.ends) n.tables at (with_changed (n.tables at) f) (λ a other. sound.differ a)
        (differ_replaced f.id f (n.tables at).ends refl (sound.differ at));
    next = put_elsewhere (λ a t. 1 ≤ t.next) n.tables at (with_changed (n.tables at) f) (λ a other. sound.next a)
        (sound.next at);
  }
    where
      lawful_later : AllByRecursion (Lawful setting.ours) later
      lawful_later = all_replaced (Lawful setting.ours) (is_end at f.id) new n.made sound.lawful (lawful_now finds)

  pub made_is : (old : EndState) → by_id (n.tables at) f.id ≡ Some old
      → joined deed setting n.event n.made at f (by_id (n.tables at) f.id) ≡ later
  made_is old found = ap (joined deed setting n.event n.made at f) found ∙ ap (changed deed setting n.made at f) there

  pub changed_sound : {X : Type 0} (answer : X) (sent : List Content) (old : EndState) → by_id (n.tables at) f.id
      ≡ Some old → Finds → HasPeer n.made new → AllByRecursion (Says f) sent →
      Sound setting (n.event + 1) (does_with deed setting n at (moved (n.tables at) answer f sent))
  changed_sound answer sent old found finds peers says =
      subst (λ (l : List Made). Sound setting (n.event + 1)
      (record (does_with deed setting n at (moved (n.tables at) answer f sent)) { made = l }))
      (sym (made_is old found)) (changed_so answer sent finds peers says)
