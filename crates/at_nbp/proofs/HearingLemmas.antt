-- What packets that come leave true of a network: to lookups, to names, and to a router.
use Rattle.std.proofs.Common.{◌≡◌, ℕ, ◌<◌, ◌≤◌, Bool, true, false, cond, List, [], ◌∷◌, length, map, Option}
use Rattle.std.proofs.Common.{Some, None, refl, sym, subst}
use Rattle.std.specs.Prelude.{nat_le, not, ◌==◌, ◌&&◌, ◌||◌}
use Rattle.std.specs.List.{AllByRecursion, list_all}
use Rattle.std.proofs.lemmas.Bool.{true≢false, and_parts, eqb-true, leb-true}
use Rattle.at_ddp.specs.Address.{same_address}
use Rattle.at_ddp.specs.declared.address.Address.{Address}
use Rattle.at_nbp.specs.Lookups.{Search, answered, has_id, heard, is_reply, reply_came, search_of}
use Rattle.at_ddp.specs.Posts.{packet_at, stamped}
use Rattle.at_nbp.specs.Network.{Setting, Sent, Begun, Network, Happening, Hears, Answers, hears, reply_to}
use Rattle.at_nbp.specs.Network.{answers_with, answers, relays, after}
use Rattle.at_nbp.specs.Network.{is_no_later, is_fresh, IsTimely, AreMatches, IsAnswered, Stood, newest}
use Rattle.at_nbp.specs.Replies.{pattern_of}
use Rattle.at_nbp.specs.Relays.{relayed}
use Rattle.at_nbp.specs.Tuples.{Entry}
use Rattle.at_ddp.proofs.Alls.{all_implied, all_replaced, all_found}
use Rattle.at_ddp.proofs.PostLemmas.{sent_at}
use Rattle.at_nbp.proofs.LookupLaws.{heard_lawful}
use Rattle.at_nbp.proofs.NetworkLemmas.{Honest, AllHonest, FoundIn, Sound, looked_sound, sends_sound}
use Rattle.at_nbp.proofs.StoodLemmas.{stood_before, joined_stood, replies_stand}

-- ---- when a lookup began that a reply is for

all_pass : {X : Type 0} (p : X → Bool) (xs : List X) → list_all p xs ≡ true → AllByRecursion (λ x. p x ≡ true) xs
all_pass p [] h = tt
all_pass p (x ∷ xs) h = let both = and_parts (p x) (list_all p xs) h in (both.0, all_pass p xs both.1)

or_second : (a b : Bool) → a ≡ true → (not a || b) ≡ true → b ≡ true
or_second true b e h = h
or_second false b e h = absurd (true≢false (sym e))

-- a reply that comes before its identifier is drawn again was sent since the lookup began
sent_since : (all : List Begun) (s : Sent) (id : ℕ) (b : Begun) → is_fresh all s ≡ true → newest all s.to id ≡ Some b
    → id ≡ s.packet.id → b.event ≤ s.event
sent_since all s id b fresh is same =
    let found = all_found (λ x. is_no_later s.to s.packet.id s.event x ≡ true)
    (λ x. same_address x.who s.to && (x.id == id)) all b
    (all_pass (is_no_later s.to s.packet.id s.event) all fresh) is in
    let own : (same_address b.who s.to && (b.id == s.packet.id))
    ≡ true = subst (λ k. (same_address b.who s.to && (b.id == k)) ≡ true) same found.1 in
    leb-true b.event s.event
    (or_second (same_address b.who s.to && (b.id == s.packet.id)) (nat_le b.event s.event) own found.0)

module _ (setting : Setting) (history : List Happening) where
  -- ---- a packet that comes to lookups

  heard_found : (n : Network) (s : Sent) → Sound setting history n → Honest setting history s → is_fresh n.begun s
      ≡ true →
      AllByRecursion (FoundIn setting history n.begun s.to) (heard (n.lookups s.to) s.packet).after.searches
  heard_found n s sound honest fresh = go (is_reply s.packet.function) refl
    where
      all : AllByRecursion (FoundIn setting history n.begun s.to) (n.lookups s.to).searches
      all = sound.found s.to

      more : (x : Search) → has_id s.packet.id x ≡ true → is_reply s.packet.function ≡ true
          → FoundIn setting history n.begun s.to x →
          FoundIn setting history n.begun s.to (answered x s.packet.tuples)
      more x of replies f =
          let since = sent_since n.begun s x.id f.begun fresh f.newest (eqb-true x.id s.packet.id of) in
          record {
            begun = f.begun;
            newest = f.newest;
            pattern = f.pattern;
            stood = joined_stood setting history f.begun.event x.pattern x.finds s.packet.tuples f.stood
                (all_implied (Stood setting history s.event) (Stood setting history f.begun.event) s.packet.tuples
                (λ t. stood_before setting history s.event f.begun.event t since) (honest replies));
          }

      came : (o : Option Search) → search_of (n.lookups s.to) s.packet.id ≡ o → is_reply s.packet.function ≡ true →
          AllByRecursion (FoundIn setting history n.begun s.to) (reply_came (n.lookups s.to) s.packet o).after.searches
      came None e replies = all
      came (Some x) e replies =
          let found = all_found (FoundIn setting history n.begun s.to) (has_id s.packet.id)
          (n.lookups s.to).searches x all e in
          all_replaced (FoundIn setting history n.begun s.to) (has_id s.packet.id) (answered x s.packet.tuples)
          (n.lookups s.to).searches all (more x found.1 replies found.0)

      go : (b : Bool) → is_reply s.packet.function ≡ b →
          AllByRecursion (FoundIn setting history n.begun s.to)
          (reply_came (n.lookups s.to) s.packet
          (cond b (search_of (n.lookups s.to) s.packet.id) None)).after.searches
      go true e = came (search_of (n.lookups s.to) s.packet.id) refl e
      go false e = all

  pub hears_sound : (n : Network) (which : ℕ) → Sound setting history n → IsTimely n (Hears which)
      → Sound setting history (hears n (packet_at n.sent which))
  hears_sound n which sound timely = go (packet_at n.sent which) refl
    where
      go : (o : Option Sent) → packet_at n.sent which ≡ o → Sound setting history (hears n o)
      go None e = sound
      go (Some s) e =
          looked_sound setting history n s.to (heard (n.lookups s.to) s.packet).after sound
          (heard_lawful (n.lookups s.to) s.packet (sound.lawful s.to))
          (heard_found n s sound (sent_at (Honest setting history) n.sent which s sound.honest e) (timely s e))

  -- ---- a packet that comes to names, or to a router

  replies_honest : (event : ℕ) (at to : Address) (id : ℕ) (replies : List (List Entry))
      → AllByRecursion (AllByRecursion (Stood setting history event)) replies →
      AllHonest setting history (stamped event at (map (reply_to to id) replies))
  replies_honest event at to id [] h = tt
  replies_honest event at to id (r ∷ rs) h = ((λ _. h.0), replies_honest event at to id rs h.1)

  pub answers_sound : (n : Network) (which : ℕ) (at : Address) (replies : List (List Entry)) → n.event < length history
      → (after setting history).tables ≡ n.tables →
      Sound setting history n → IsAnswered n (Answers which at replies)
      → Sound setting history (answers n at replies (packet_at n.sent which))
  answers_sound n which at replies since now sound full = go (packet_at n.sent which) refl
    where
      with : (id : ℕ) (tuples : List Entry) → AreMatches (n.tables at) replies tuples
          → Sound setting history (answers_with n at id replies tuples)
      with id [] matches = sound
      with id (t ∷ ts) matches =
          sends_sound setting history n at (map (reply_to t.address id) replies) sound
          (replies_honest n.event at t.address id replies
          (replies_stand setting history n.tables n.event at (pattern_of t) replies now since
          (sound.own at) matches))

      go : (o : Option Sent) → packet_at n.sent which ≡ o → Sound setting history (answers n at replies o)
      go None e = sound
      go (Some s) e = with s.packet.id s.packet.tuples (full s e).1

  pub relays_sound : (n : Network) (at to : Address) (zone : List ℕ) (o : Option Sent) → Sound setting history n
      → Sound setting history (relays n at to zone o)
  relays_sound n at to zone None sound = sound
  relays_sound n at to zone (Some s) sound = sends_sound setting history n at ((to, relayed zone s.packet) ∷ []) sound
      ((λ e. absurd (true≢false (sym e))), tt)
