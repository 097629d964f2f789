-- What an end that moves quietly, sends or is freed leaves true of a network.
use Rattle.std.proofs.Common.{◌≡◌, ℕ, ◌+◌, ◌<◌, ◌≤◌, Bool, true, false, cond, List, [], ◌∷◌, ◌++◌, Option, Some, None}
use Rattle.std.proofs.Common.{refl, sym, ap, subst, ◌∙◌, arith}
use Rattle.std.specs.Prelude.{find, map, replicate}
use Rattle.std.specs.List.{AllByRecursion}
use Rattle.std.proofs.lemmas.Bool.{eq-eqb}
use Rattle.at_ddp.specs.Tables.{replaced}
use Rattle.at_ddp.specs.declared.address.Address.{Address}
use Rattle.at_ddp.proofs.Alls.{all_found, all_without}
use Rattle.at_adsp_frame.specs.Segments.{Content}
use Rattle.at_adsp_end.specs.Ends.{EndState, addressed, denying, has_opened}
use Rattle.at_adsp_ends.specs.Calls.{listened}
use Rattle.at_adsp_ends.specs.Openings.{ignored}
use Rattle.at_adsp_ends.specs.Tables.{EndTable, by_id, freed, has_id, moved, stayed, without_end}
use Rattle.at_adsp.specs.Connections.{streams}
use Rattle.at_ddp.specs.Posts.{AllSent, put, stamped}
use Rattle.at_ddp.proofs.PostLemmas.{none_sent, put_elsewhere, sent_both, sent_implied, stamped_past}
use Rattle.at_adsp.specs.Network.{Setting, Made, Sent, Network, does, does_with, is_end, listens, named, names_now}
use Rattle.at_adsp.specs.Network.{newest, noted_with}
use Rattle.at_adsp.specs.Streams.{Stream, Deed, Nothing, has_number, read_after, with_deed, written_after}
use Rattle.at_adsp.proofs.Changes.{Moves, changed_sound, grows, law, made_is, names_still, there}
use Rattle.at_adsp.proofs.Distinct.{IdsApart, differ_without}
use Rattle.at_adsp.proofs.EndMoves.{Quiet, quiet_known, quiet_opened}
use Rattle.at_adsp.proofs.Growth.{fall_more, itself}
use Rattle.at_adsp.proofs.Sayings.{Says, said_fresh}
use Rattle.at_adsp.proofs.Sound.{Fresh, HasPeer, IsKnown, Lawful, Sound, Stands, mutual_kept}
use Rattle.at_ddp.proofs.TableLemmas.{found_too}
use Rattle.std.proofs.lemmas.Option.{same_Some}

pub later : (setting : Setting) (n : Network) → Sound setting n.event n → Sound setting (n.event + 1) n
later setting n s = record {
  births = fall_more n.event (n.event + 1) n.made (omega arith) s.births;
  past = sent_implied (λ x. x.event < n.event) (λ x. x.event < n.event + 1) n.sent (λ x lt. omega arith) s.past;
  lawful = s.lawful;
  peers = s.peers;
  sent = s.sent;
  standing = s.standing;
  differ = s.differ;
  next = s.next;
}

-- ---- an end of a table

pub found_stands : (setting : Setting) (events : ℕ) (n : Network) (at : Address) (q : EndState → Bool) (e : EndState)
    → Sound setting events n → find q (n.tables at).ends ≡ Some e → Stands setting n.made at e
found_stands setting events n at q e sound is =
    (all_found (Stands setting n.made at) q (n.tables at).ends e (sound.standing at) is).0

pub found_passes : (setting : Setting) (events : ℕ) (n : Network) (at : Address) (q : EndState → Bool) (e : EndState)
    → Sound setting events n → find q (n.tables at).ends ≡ Some e → q e ≡ true
found_passes setting events n at q e sound is =
    (all_found (Stands setting n.made at) q (n.tables at).ends e (sound.standing at) is).1

pub stands_known : (setting : Setting) (events : ℕ) (n : Network) (at : Address) (e : EndState)
    → Sound setting events n → Stands setting n.made at e → IsKnown e
stands_known setting events n at e sound s =
    subst IsKnown s.last ((all_found (Lawful setting.ours) (is_end at e.id) n.made s.it sound.lawful s.newest).0).known

-- an end stands under its identifier, or another does
pub found_id : (n : Network) (at : Address) (q : EndState → Bool) (e : EndState) (id : ℕ) → id ≡ e.id
    → find q (n.tables at).ends ≡ Some e → (old : EndState) × (by_id (n.tables at) id ≡ Some old)
found_id n at q e id same is =
    let more = found_too (has_id e.id) q e (n.tables at).ends is (eq-eqb e.id e.id refl) in
    (more.0, ap (by_id (n.tables at)) same ∙ more.1)

-- ---- what the user of an end does

-- its users see that one of them did this
map_deed : (at : Address) (id : ℕ) (deed : Deed) (m u : Made) (made : List Made) → u.stream
    ≡ record m.stream { written = written_after deed m.stream.written; read = read_after deed m.stream.read }
    → newest made at id ≡ Some m →
    map (λ (x : Made). x.stream) (replaced (is_end at id) u made)
    ≡ with_deed at id deed (map (λ (x : Made). x.stream) made)
map_deed at id deed m u [] same is = refl
map_deed at id deed m u (z ∷ zs) same is = go (λ g. map_deed at id deed m u zs same g) (is_end at id z) is
  where
    go : (newest zs at id ≡ Some m → map (λ (x : Made). x.stream) (replaced (is_end at id) u zs)
        ≡ with_deed at id deed (map (λ (x : Made). x.stream) zs)) → (b : Bool) →
        cond b (Some z) (newest zs at id) ≡ Some m
        → map (λ (x : Made). x.stream) (cond b (u ∷ zs) (z ∷ replaced (is_end at id) u zs))
        ≡ cond b (record z.stream {
          written = written_after deed z.stream.written;
          read = read_after deed z.stream.read;
        } ∷ map (λ (x : Made). x.stream) zs)
        (z.stream ∷ with_deed at id deed (map (λ (x : Made). x.stream) zs))
    go ih true g = ap (λ v. v ∷ map (λ (x : Made). x.stream) zs)
        (same ∙ ap (λ (x : Made). record
        x.stream { written = written_after deed x.stream.written; read = read_after deed x.stream.read })
        (sym (same_Some z m g)))
    go ih false g = ap (λ l. z.stream ∷ l) (ih g)

-- ---- an end that moves quietly

module _ (deed : Deed) (setting : Setting) (n : Network) (at : Address) (q : EndState → Bool) (e f : EndState)
    (sound : Sound setting (n.event + 1) n) (is : find q (n.tables at).ends ≡ Some e) (quiet : Quiet e f) where
  pub s : Stands setting n.made at e
  s = found_stands setting (n.event + 1) n at q e sound is

  pub moves : Moves e f
  moves = record {
    id = quiet.id;
    listener = quiet.listener;
    asked = quiet.asked;
    remote = λ r h. quiet.remote ∙ h;
    opened = λ h. quiet_opened e f quiet ∙ h;
    known = quiet_known e f quiet (stands_known setting (n.event + 1) n at e sound s);
  }

  same : names_now setting n.made f s.it ≡ s.it.names
  same = names_still deed setting n at e f sound s moves ∙ ap (named setting n.made) quiet.remote ∙ sym s.names

  was : Lawful setting.ours s.it
  was = law deed setting n at e f sound s moves

  pub open_too : has_opened f.phase ≡ has_opened s.it.last.phase
  open_too = quiet_opened e f quiet ∙ ap (λ (x : EndState). has_opened x.phase) (sym s.last)

  pub same_peer : cond (has_opened f.phase) (names_now setting n.made f s.it) None ≡ s.it.stream.peer
  same_peer = (λ i. cond (open_too i) (same i) None) ∙ sym was.peer

  finds : has_opened f.phase ≡ true → setting.ours f.asked ≡ true → (b : ℕ) × (names_now setting n.made f s.it ≡ Some b)
  finds opened ours =
      let more = was.found (sym open_too ∙ opened)
      (ap setting.ours (ap (λ (x : EndState). x.asked) s.last ∙ sym quiet.asked) ∙ ours) in
      (more.0, same ∙ more.1)

  peers : HasPeer n.made (noted_with deed setting n.made f s.it)
  peers b h =
      mutual_kept n.made n.made s.it (noted_with deed setting n.made f s.it) b (λ w found. (w, found, itself w))
      (grows deed setting n at e f sound s moves)
      ((all_found (HasPeer n.made) (is_end at f.id) n.made s.it sound.peers
      (there deed setting n at e f sound s moves)).0 b (sym same_peer ∙ h))

  pub old : (o : EndState) × (by_id (n.tables at) f.id ≡ Some o)
  old = found_id n at q e f.id quiet.id is

  pub quiet_so : {X : Type 0} (answer : X) (sent : List Content) → AllByRecursion (Says f) sent
      → Sound setting (n.event + 1) (does_with deed setting n at (moved (n.tables at) answer f sent))
  quiet_so answer sent says = changed_sound deed setting n at e f sound s moves answer sent old.0 old.1 finds peers says

  -- its users see what one of them did
  pub deed_streams : {X : Type 0} (answer : X) (sent : List Content)
      → streams (does_with deed setting n at (moved (n.tables at) answer f sent)) ≡ with_deed at f.id deed (streams n)
  deed_streams answer sent =
      ap (map (λ (m : Made). m.stream)) (made_is deed setting n at e f sound s moves old.0 old.1)
      ∙ map_deed at f.id deed s.it (noted_with deed setting n.made f s.it) n.made
      (λ i. record s.it.stream {
        peer = same_peer i;
        written = written_after deed s.it.stream.written;
        read = read_after deed s.it.stream.read;
      }) (there deed setting n at e f sound s moves)

pub no_deed : (at : Address) (id : ℕ) (ss : List Stream) → with_deed at id Nothing ss ≡ ss
no_deed at id [] = refl
no_deed at id (s ∷ ss) = go (no_deed at id ss) (has_number at id s)
  where
    go : with_deed at id Nothing ss ≡ ss → (b : Bool) → cond b (s ∷ ss) (s ∷ with_deed at id Nothing ss) ≡ s ∷ ss
    go ih true = refl
    go ih false = ap (λ l. s ∷ l) ih

-- its users see no change
pub quiet_streams : {X : Type 0} (setting : Setting) (n : Network) (at : Address) (q : EndState → Bool)
    (e f : EndState) → Sound setting (n.event + 1) n → find q (n.tables at).ends ≡ Some e → Quiet e f →
    (answer : X) (sent : List Content) → streams (does setting n at (moved (n.tables at) answer f sent)) ≡ streams n
quiet_streams setting n at q e f sound is quiet answer sent =
    deed_streams Nothing setting n at q e f sound is quiet answer sent ∙ no_deed at f.id (streams n)

pub deed_sound : {X : Type 0} (deed : Deed) (setting : Setting) (n : Network) (at : Address) (q : EndState → Bool)
    (e f : EndState) (answer : X) (sent : List Content) → Sound setting (n.event + 1) n →
    find q (n.tables at).ends ≡ Some e → Quiet e f → AllByRecursion (Says f) sent
    → Sound setting (n.event + 1) (does_with deed setting n at (moved (n.tables at) answer f sent))
deed_sound deed setting n at q e f answer sent sound is quiet says =
    quiet_so deed setting n at q e f sound is quiet answer sent says

pub quiet_sound : {X : Type 0} (setting : Setting) (n : Network) (at : Address) (q : EndState → Bool) (e f : EndState)
    (answer : X) (sent : List Content) → Sound setting (n.event + 1) n →
    find q (n.tables at).ends ≡ Some e → Quiet e f → AllByRecursion (Says f) sent
    → Sound setting (n.event + 1) (does setting n at (moved (n.tables at) answer f sent))
quiet_sound setting n at q e f answer sent sound is quiet says =
    quiet_so Nothing setting n at q e f sound is quiet answer sent says

-- ---- an end that sends, and does not change

same_put : (setting : Setting) (n : Network) (at : Address) (t : EndTable) (sent : List (Option Sent))
    → Sound setting (n.event + 1) n → AllByRecursion (Stands setting n.made at) t.ends → IdsApart t.ends → 1 ≤ t.next →
    AllSent (λ s. s.event < n.event + 1) sent → AllSent (Fresh setting n.made) sent
    → Sound setting (n.event + 1) (record n { tables = put n.tables at t; sent = n.sent ++ sent })
same_put setting n at t sent sound standing differ next past fresh = record {
  births = sound.births;
  past = sent_both (λ x. x.event < n.event + 1) n.sent sent sound.past past;
  lawful = sound.lawful;
  peers = sound.peers;
  sent = sent_both (Fresh setting n.made) n.sent sent sound.sent fresh;
  standing = put_elsewhere (λ a x. AllByRecursion (Stands setting n.made a) x.ends) n.tables at t
      (λ a other. sound.standing a) standing;
  differ = put_elsewhere (λ a x. IdsApart x.ends) n.tables at t (λ a other. sound.differ a) differ;
  next = put_elsewhere (λ a x. 1 ≤ x.next) n.tables at t (λ a other. sound.next a) next;
}

pub stayed_sound : {X : Type 0} (setting : Setting) (n : Network) (at : Address) (q : EndState → Bool) (e : EndState)
    (answer : X) (sent : List Content) → Sound setting (n.event + 1) n →
    find q (n.tables at).ends ≡ Some e → AllByRecursion (Says e) sent
    → Sound setting (n.event + 1) (does setting n at (stayed (n.tables at) answer e sent))
stayed_sound setting n at q e answer sent sound is says =
    same_put setting n at (n.tables at) (stamped n.event at (addressed e.asked sent)) sound (sound.standing at)
    (sound.differ at) (sound.next at)
    (stamped_past n.event at (addressed e.asked sent))
    (said_fresh setting n.made at e n.event sent sound.lawful
    (found_stands setting (n.event + 1) n at q e sound is) says)

pub ignored_sound : (setting : Setting) (n : Network) (at : Address) → Sound setting (n.event + 1) n
    → Sound setting (n.event + 1) (does setting n at (ignored (n.tables at)))
ignored_sound setting n at sound = same_put setting n at (n.tables at) [] sound (sound.standing at) (sound.differ at)
    (sound.next at) tt tt

pub turned_sound : {X : Type 0} (setting : Setting) (n : Network) (at : Address) (answer : X) (to : Address) (id : ℕ)
    → Sound setting (n.event + 1) n →
    Sound setting (n.event + 1)
    (does setting n at (record {
      answer = answer;
      after = n.tables at;
      changed = None;
      sent = (to, denying id) ∷ [];
    }))
turned_sound setting n at answer to id sound =
    same_put setting n at (n.tables at) (stamped n.event at ((to, denying id) ∷ [])) sound (sound.standing at)
    (sound.differ at) (sound.next at)
    (stamped_past n.event at ((to, denying id) ∷ [])) ((λ fresh. tt), tt)

pub freed_sound : {X : Type 0} (setting : Setting) (n : Network) (at : Address) (answer : X) (e : EndState)
    → Sound setting (n.event + 1) n → Sound setting (n.event + 1) (does setting n at (freed (n.tables at) answer e))
freed_sound setting n at answer e sound =
    same_put setting n at (without_end (n.tables at) e.id) [] sound
    (all_without (Stands setting n.made at) (has_id e.id) (n.tables at).ends (sound.standing at))
    (differ_without e.id (n.tables at).ends (sound.differ at)) (sound.next at) tt tt

pub listens_sound : (setting : Setting) (n : Network) (at : Address) (on : Bool) → Sound setting (n.event + 1) n
    → Sound setting (n.event + 1) (listens n at on)
listens_sound setting n at on sound = record {
  births = sound.births;
  past = sound.past;
  lawful = sound.lawful;
  peers = sound.peers;
  sent = sound.sent;
  standing = put_elsewhere (λ a x. AllByRecursion (Stands setting n.made a) x.ends) n.tables at
      (listened (n.tables at) on) (λ a other. sound.standing a) (sound.standing at);
  differ = put_elsewhere (λ a x. IdsApart x.ends) n.tables at (listened (n.tables at) on) (λ a other. sound.differ a)
      (sound.differ at);
  next = put_elsewhere (λ a x. 1 ≤ x.next) n.tables at (listened (n.tables at) on) (λ a other. sound.next a)
      (sound.next at);
}

-- foreign datagrams change nothing
pub foreign_sound : (setting : Setting) (n : Network) (count : ℕ) → Sound setting (n.event + 1) n
    → Sound setting (n.event + 1) (record n { sent = n.sent ++ replicate count None })
foreign_sound setting n count sound = record {
  births = sound.births;
  past = sent_both (λ x. x.event < n.event + 1) n.sent (replicate count None) sound.past
      (none_sent (λ x. x.event < n.event + 1) count);
  lawful = sound.lawful;
  peers = sound.peers;
  sent = sent_both (Fresh setting n.made) n.sent (replicate count None) sound.sent
      (none_sent (Fresh setting n.made) count);
  standing = sound.standing;
  differ = sound.differ;
  next = sound.next;
}
