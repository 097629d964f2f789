-- What an end that opens leaves true of a network: it has a peer, if it was opened by one of our ends.
use Rattle.std.proofs.Common.{◌≡◌, ℕ, ◌+◌, Bool, true, false, cond, List, [], ◌∷◌, Option, Some, None, ◌⊎◌, inl, inr}
use Rattle.std.proofs.Common.{refl, sym, ap, subst, ◌∙◌}
use Rattle.std.specs.Prelude.{map, not}
use Rattle.std.specs.List.{AllByRecursion}
use Rattle.std.proofs.lemmas.Bool.{true≢false}
use Rattle.at_ddp.specs.Tables.{replaced}
use Rattle.at_ddp.specs.declared.address.Address.{Address}
use Rattle.at_ddp.proofs.Alls.{all_found}
use Rattle.at_ddp.proofs.Octets.{same_both}
use Rattle.at_adsp_frame.specs.Segments.{Content}
use Rattle.at_adsp_end.specs.Ends.{EndState, has_opened}
use Rattle.at_adsp_end.specs.declared.remote.Remote.{Remote}
use Rattle.at_adsp_ends.specs.Tables.{by_id, moved}
use Rattle.at_adsp.specs.Connections.{streams}
use Rattle.at_adsp.specs.Network.{Setting, Made, Network, birth_of, does, is_end, named, names_now, newest, noted}
use Rattle.at_adsp.specs.Streams.{Nothing, with_peer}
use Rattle.at_adsp.proofs.Changes.{Moves, changed_sound, law, made_is, names_still, own, there}
use Rattle.at_adsp.proofs.Growth.{found_born}
use Rattle.at_adsp.proofs.Sayings.{Says}
use Rattle.at_adsp.proofs.Sound.{HasPeer, Lawful, Mutual, Sound, Stands, Told, connector_opened, reached}
use Rattle.std.proofs.lemmas.Option.{same_Some}

-- its users see that it has a peer
pub map_peer : (at : Address) (id : ℕ) (peer : Option ℕ) (m u : Made) (made : List Made) → u.stream
    ≡ record m.stream { peer = peer } → newest made at id ≡ Some m →
    map (λ (x : Made). x.stream) (replaced (is_end at id) u made)
    ≡ with_peer at id peer (map (λ (x : Made). x.stream) made)
map_peer at id peer m u [] same is = refl
map_peer at id peer m u (z ∷ zs) same is = go (λ g. map_peer at id peer m u zs same g) (is_end at id z) is
  where
    go : (newest zs at id ≡ Some m → map (λ (x : Made). x.stream) (replaced (is_end at id) u zs)
        ≡ with_peer at id peer (map (λ (x : Made). x.stream) zs)) → (b : Bool) →
        cond b (Some z) (newest zs at id) ≡ Some m
        → map (λ (x : Made). x.stream) (cond b (u ∷ zs) (z ∷ replaced (is_end at id) u zs))
        ≡ cond b (record z.stream { peer = peer } ∷ map (λ (x : Made). x.stream) zs)
        (z.stream ∷ with_peer at id peer (map (λ (x : Made). x.stream) zs))
    go ih true g = ap (λ v. v ∷ map (λ (x : Made). x.stream) zs)
        (same ∙ ap (λ (x : Made). record x.stream { peer = peer }) (sym (same_Some z m g)))
    go ih false g = ap (λ l. z.stream ∷ l) (ih g)

module _ (setting : Setting) (n : Network) (at : Address) (e f : EndState) (sound : Sound setting (n.event + 1) n)
    (s : Stands setting n.made at e) (moves : Moves e f) (r : Remote) (names : f.remote ≡ Some r) where
  now_named : names_now setting n.made f s.it ≡ named setting n.made (Some r)
  now_named = names_still Nothing setting n at e f sound s moves ∙ ap (named setting n.made) names

  -- at an address that is ours or not
  now_ours : (b : Bool) → setting.ours r.address ≡ b → names_now setting n.made f s.it
      ≡ cond b (birth_of (newest n.made r.address r.id)) None
  now_ours b is = now_named ∙ ap (λ c. cond c (birth_of (newest n.made r.address r.id)) None) is

  told_mutual : setting.ours at ≡ true → (t : Told setting n.made r.address at (not e.listener) r.id e.id)
      → Mutual n.made (noted setting n.made f s.it) t.it.stream.birth
  told_mutual ours t = record {
    peer = t.it;
    there = found_born (is_end r.address r.id) t.it n.made (n.event + 1) sound.births t.newest;
    names = names ∙ ap Some (λ i. record { address = sym number.0 i; id = sym number.1 i });
    named = t.remote ∙ ap Some (λ i. record { address = sym here.0 i; id = sym (here.1 ∙ moves.id) i });
    known = known;
    turned = t.listens ∙ ap not
        (ap (λ (x : EndState). x.listener) (sym s.last) ∙ (law Nothing setting n at e f sound s moves).listener);
    back = λ listens. (found.0).peer ∙ ap (λ c. cond c t.it.names None) (opened listens) ∙ known;
  }
    where
      found : Lawful setting.ours t.it × (is_end r.address r.id t.it ≡ true)
      found = all_found (Lawful setting.ours) (is_end r.address r.id) n.made t.it sound.lawful t.newest

      number : (t.it.stream.owner ≡ r.address) × (t.it.stream.id ≡ r.id)
      number = same_both t.it.stream.owner r.address t.it.stream.id r.id found.1

      here : (s.it.stream.owner ≡ at) × (s.it.stream.id ≡ f.id)
      here = own Nothing setting n at e f sound s moves

      known : t.it.names ≡ Some s.it.stream.birth
      known = t.names ∙ ap (λ c. cond c (birth_of (newest n.made at e.id)) None) ours ∙ ap birth_of s.newest

      opened : s.it.stream.listener ≡ true → has_opened t.it.last.phase ≡ true
      opened listens =
          let asks : t.it.last.listener ≡ false =
          (found.0).listener ∙ t.listens
          ∙ ap not (ap (λ (x : EndState). x.listener) (sym s.last)
          ∙ (law Nothing setting n at e f sound s moves).listener ∙ listens) in
          connector_opened t.it.last.phase t.it.last.listener t.it.last.asked t.it.last.remote
          (record { address = at; id = e.id }) (found.0).known asks t.remote

  -- what opens it comes from a strange address, or is an answer or an acknowledgement for it
  pub opened_sound : {X : Type 0} (answer : X) (sent : List Content) (old : EndState) → by_id (n.tables at) f.id
      ≡ Some old → setting.ours at ≡ true →
      (setting.ours r.address ≡ false)
      ⊎ ((setting.ours r.address ≡ true) × Told setting n.made r.address at (not e.listener) r.id e.id)
      → AllByRecursion (Says f) sent →
      Sound setting (n.event + 1) (does setting n at (moved (n.tables at) answer f sent))
  opened_sound answer sent old found here by says =
      changed_sound Nothing setting n at e f sound s moves answer sent old found (finds by) (peers by) says
    where
      finds : (setting.ours r.address ≡ false)
          ⊎ ((setting.ours r.address ≡ true) × Told setting n.made r.address at (not e.listener) r.id e.id)
          → has_opened f.phase ≡ true → setting.ours f.asked ≡ true →
          (b : ℕ) × (names_now setting n.made f s.it ≡ Some b)
      finds (inl strange) opened ours =
          absurd (true≢false (sym ours
          ∙ ap setting.ours (sym (reached f.phase f.listener f.asked f.remote r moves.known names)) ∙ strange))
      finds (inr t) opened ours = (t.1.it.stream.birth, now_ours true t.0 ∙ ap birth_of t.1.newest)

      peers : (setting.ours r.address ≡ false)
          ⊎ ((setting.ours r.address ≡ true) × Told setting n.made r.address at (not e.listener) r.id e.id)
          → HasPeer n.made (noted setting n.made f s.it)
      peers by b is = go (has_opened f.phase) is
        where
          of : (setting.ours r.address ≡ false)
              ⊎ ((setting.ours r.address ≡ true) × Told setting n.made r.address at (not e.listener) r.id e.id)
              → names_now setting n.made f s.it ≡ Some b → Mutual n.made (noted setting n.made f s.it) b
          of (inl strange) h = absurd (let none = now_ours false strange in cc)
          of (inr t) h =
              let births : Some t.1.it.stream.birth ≡ Some b = sym (now_ours true t.0 ∙ ap birth_of t.1.newest) ∙ h in
              let same : t.1.it.stream.birth ≡ b = cc in
              subst (Mutual n.made (noted setting n.made f s.it)) same (told_mutual here t.1)

          go : (c : Bool) → cond c (names_now setting n.made f s.it) None ≡ Some b
              → Mutual n.made (noted setting n.made f s.it) b
          go true h = of by h
          go false h = absurd (cc)

pub opened_streams : {X : Type 0} (setting : Setting) (n : Network) (at : Address) (e f : EndState)
    (sound : Sound setting (n.event + 1) n) (s : Stands setting n.made at e) (moves : Moves e f) (answer : X)
    (sent : List Content) (old : EndState) →
    by_id (n.tables at) f.id ≡ Some old → streams (does setting n at (moved (n.tables at) answer f sent))
    ≡ with_peer at f.id (noted setting n.made f s.it).stream.peer (streams n)
opened_streams setting n at e f sound s moves answer sent old found =
    ap (map (λ (m : Made). m.stream)) (made_is Nothing setting n at e f sound s moves old found)
    ∙ map_peer at f.id (noted setting n.made f s.it).stream.peer s.it (noted setting n.made f s.it) n.made refl
    (there Nothing setting n at e f sound s moves)
