-- What is known of a network of names and lookups, and stays so as packets, names and lookups are added.
use Rattle.std.proofs.Common.{◌≡◌, ℕ, zero, suc, Bool, true, false, cond, List, [], ◌∷◌, ◌++◌, replicate, Option, Some}
use Rattle.std.proofs.Common.{None, refl, sym, subst, ◌∙◌}
use Rattle.std.specs.Prelude.{IfSome, ◌==◌, ◌&&◌}
use Rattle.std.specs.List.{AllByRecursion}
use Rattle.std.proofs.lemmas.Bool.{true≢false, eq-eqb, and_right}
use Rattle.std.proofs.lemmas.Cmp.{nat_eq_equiv}
use Rattle.at_ddp.specs.Address.{same_address}
use Rattle.at_ddp.specs.declared.address.Address.{Address}
use Rattle.at_nbp.specs.Lookups as lookups
use Rattle.at_nbp.specs.Lookups.{Lookups, Search, AreLookups, beginning, closed, has_id, is_question, is_reply, next_id}
use Rattle.at_nbp.specs.Lookups.{question}
use Rattle.at_ddp.specs.Posts.{put, stamped}
use Rattle.at_nbp.specs.Network.{Setting, Sent, Begun, Network, Happening, with_sent, with_names, asks, begins, retries}
use Rattle.at_nbp.specs.Network.{finishes, Stood, FindStood, newest}
use Rattle.at_nbp.specs.Packets.{Content}
use Rattle.at_nbp.specs.declared.function.Function.{Function}
use Rattle.at_nbp.specs.declared.function.Function.TheVariants.{BroadcastRequest, LookUp, Reply, ForwardRequest}
use Rattle.at_nbp.specs.declared.name.Name.{Name}
use Rattle.at_nbp.specs.declared.names.Registered.{Registered}
use Rattle.at_ddp.proofs.Alls.{all_implied, all_pairs, all_both, all_without, none_any}
use Rattle.at_ddp.proofs.Octets.{same_address-true, same_address_itself}
use Rattle.at_ddp.proofs.PostLemmas.{put_all}
use Rattle.at_nbp.proofs.LookupLaws.{begun_lawful, closed_lawful, drawn_free}
use Rattle.at_nbp.proofs.StoodLemmas.{stood_later, find_later}

-- the tuples of a reply that was sent stood since then
abbrev pub Honest : Setting → List Happening → Sent → Type 0
Honest setting history s = is_reply s.packet.function ≡ true
    → AllByRecursion (Stood setting history s.event) s.packet.tuples

abbrev pub AllHonest : Setting → List Happening → List (Option Sent) → Type 0
AllHonest setting history sent = AllByRecursion (λ (o : Option Sent). IfSome o (Honest setting history)) sent

-- a lookup is the newest of its identifier among those that began, and each of its finds stood since then
pub record FoundIn (setting : Setting) (history : List Happening) (all : List Begun) (who : Address)
    (s : Search) : Type 0 where
  pub begun : Begun
  pub newest : newest all who s.id ≡ Some begun
  pub pattern : s.pattern ≡ lookups.asked begun.pattern
  pub stood : AllByRecursion (FindStood setting history begun.event s.pattern) s.finds

-- a network at the end of a history: each table of names is that of its address, no reply says what never stood, and
-- the lookups are lawful and have found only what stood
pub record Sound (setting : Setting) (history : List Happening) (n : Network) : Type 0 where
  pub own : (at : Address) → (n.tables at).own ≡ at
  pub honest : AllHonest setting history n.sent
  pub lawful : (who : Address) → AreLookups (n.lookups who)
  pub found : (who : Address) → AllByRecursion (FoundIn setting history n.begun who) (n.lookups who).searches

-- ---- a question is no reply, and what has one false part is false

no_reply : (f : Function) → is_question f ≡ true → is_reply f ≡ true → ⊥
no_reply BroadcastRequest asks replies = true≢false (sym replies)
no_reply LookUp asks replies = true≢false (sym replies)
no_reply Reply asks replies = true≢false (sym asks)
no_reply ForwardRequest asks replies = true≢false (sym replies)

module _ (setting : Setting) (history : List Happening) where
  -- ---- one happening later

  pub sound_later : (h : Happening) (n : Network) → Sound setting history n → Sound setting (h ∷ history) n
  sound_later h n s = record {
    own = s.own;
    honest = all_implied (λ (o : Option Sent). IfSome o (Honest setting history))
        (λ (o : Option Sent). IfSome o (Honest setting (h ∷ history))) n.sent honest_later s.honest;
    lawful = s.lawful;
    found = λ who. all_implied (FoundIn setting history n.begun who) (FoundIn setting (h ∷ history) n.begun who)
        (n.lookups who).searches (found_later who) (s.found who);
  }
    where
      honest_later : (o : Option Sent) → IfSome o (Honest setting history) → IfSome o (Honest setting (h ∷ history))
      honest_later None g = tt
      honest_later (Some x) g = λ e.
          all_implied (Stood setting history x.event) (Stood setting (h ∷ history) x.event) x.packet.tuples
          (stood_later setting history h x.event) (g e)

      found_later : (who : Address) (x : Search) → FoundIn setting history n.begun who x
          → FoundIn setting (h ∷ history) n.begun who x
      found_later who x f = record {
        begun = f.begun;
        newest = f.newest;
        pattern = f.pattern;
        stood = all_implied (FindStood setting history f.begun.event x.pattern)
            (FindStood setting (h ∷ history) f.begun.event x.pattern) x.finds
            (find_later setting history h f.begun.event x.pattern) f.stood;
      }

  -- ---- what is sent, and tables of names and lookups that change

  pub sends_sound : (n : Network) (from : Address) (xs : List (Address × Content)) → Sound setting history n
      → AllHonest setting history (stamped n.event from xs) →
      Sound setting history (with_sent n from xs)
  sends_sound n from xs s honest = record {
    own = s.own;
    honest = all_both (λ (o : Option Sent). IfSome o (Honest setting history)) n.sent
        (stamped n.event from xs) s.honest honest;
    lawful = s.lawful;
    found = s.found;
  }

  asks_sound : (n : Network) (who : Address) (x : Search) → Sound setting history n
      → Sound setting history (asks n who x)
  asks_sound n who x s =
      sends_sound n who (((n.lookups who).to, question (n.lookups who) x) ∷ []) s
      ((λ e. absurd (no_reply (n.lookups who).function ((s.lawful who).asks) e)), tt)

  pub named_sound : (n : Network) (at : Address) (names : List Registered) → Sound setting history n
      → Sound setting history (with_names n at names)
  named_sound n at names s = record {
    own = put_all (λ a t. t.own ≡ a) n.tables at (record (n.tables at) { names = names }) s.own (s.own at);
    honest = s.honest;
    lawful = s.lawful;
    found = s.found;
  }

  pub looked_sound : (n : Network) (who : Address) (l : Lookups) → Sound setting history n → AreLookups l
      → AllByRecursion (FoundIn setting history n.begun who) l.searches →
      Sound setting history (record n { lookups = put n.lookups who l })
  looked_sound n who l s lawful found = record {
    own = s.own;
    honest = s.honest;
    lawful = put_all (λ a x. AreLookups x) n.lookups who l s.lawful lawful;
    found = put_all (λ a x. AllByRecursion (FoundIn setting history n.begun a) x.searches) n.lookups who l s.found
        found;
  }

  pub finishes_sound : (n : Network) (who : Address) (id : ℕ) → Sound setting history n
      → Sound setting history (finishes n who id)
  finishes_sound n who id s =
      looked_sound n who (closed (n.lookups who) id) s (closed_lawful (n.lookups who) id (s.lawful who))
      (all_without (FoundIn setting history n.begun who) (has_id id) (n.lookups who).searches (s.found who))

  -- ---- a lookup that begins

  -- others stay the newest of their identifiers
  found_kept : (all : List Begun) (b : Begun) (who : Address) (x : Search) → (same_address b.who who && (b.id == x.id))
      ≡ false → FoundIn setting history all who x →
      FoundIn setting history (b ∷ all) who x
  found_kept all b who x apart f =
      record { begun = f.begun; newest = rw apart f.newest; pattern = f.pattern; stood = f.stood }

  found_new : (all : List Begun) (event : ℕ) (who : Address) (id : ℕ) (pattern : Name) →
      FoundIn setting history (record { event = event; who = who; id = id; pattern = pattern } ∷ all) who
      (beginning id pattern)
  found_new all event who id pattern = record {
    begun = record { event = event; who = who; id = id; pattern = pattern };
    newest = rw (same_address_itself who, eq-eqb id id refl) refl;
    pattern = refl;
    stood = tt;
  }

  begun_sound : (n : Network) (who : Address) (pattern : Name) (id : ℕ) → next_id (n.lookups who) ≡ Some id
      → Sound setting history n →
      Sound setting history (begins n who pattern (Some id))
  begun_sound n who pattern id drawn s = record {
    own = s.own;
    honest = let asked = asks_sound n who (beginning id pattern) s in asked.honest;
    lawful = put_all (λ a x. AreLookups x) n.lookups who (lookups.begun (n.lookups who) (beginning id pattern)) s.lawful
        (begun_lawful (n.lookups who) id pattern drawn (s.lawful who));
    found = λ w. go w (same_address who w) refl;
  }
    where
      new : Begun
      new = record { event = n.event; who = who; id = id; pattern = pattern }

      here : AllByRecursion (FoundIn setting history (new ∷ n.begun) who)
          ((n.lookups who).searches ++ beginning id pattern ∷ [])
      here = all_both (FoundIn setting history (new ∷ n.begun) who) (n.lookups who).searches (beginning id pattern ∷ [])
          (all_implied (λ x. FoundIn setting history n.begun who x × (has_id id x ≡ false))
          (FoundIn setting history (new ∷ n.begun) who) (n.lookups who).searches
          (λ x h. found_kept n.begun new who x
          (and_right (same_address who who) (id == x.id) (nat_eq_equiv.symm id x.id ∙ h.1)) h.0)
          (all_pairs (FoundIn setting history n.begun who) (λ x. has_id id x ≡ false) (n.lookups who).searches
          (s.found who)
          (none_any (has_id id) (n.lookups who).searches (drawn_free (n.lookups who) id drawn))))
          (found_new n.begun n.event who id pattern, tt)

      go : (w : Address) (b : Bool) → same_address who w ≡ b →
          AllByRecursion (FoundIn setting history (new ∷ n.begun) w)
          (cond b (lookups.begun (n.lookups who) (beginning id pattern)) (n.lookups w)).searches
      go w true e =
          subst (λ a. AllByRecursion (FoundIn setting history (new ∷ n.begun) a)
          ((n.lookups who).searches ++ beginning id pattern ∷ [])) (same_address-true who w e) here
      go w false e = all_implied (FoundIn setting history n.begun w) (FoundIn setting history (new ∷ n.begun) w)
          (n.lookups w).searches
          (λ x h. found_kept n.begun new w x (λ i. e i && (id == x.id)) h) (s.found w)

  pub begins_sound : (n : Network) (who : Address) (pattern : Name) → Sound setting history n
      → Sound setting history (begins n who pattern (next_id (n.lookups who)))
  begins_sound n who pattern s = go (next_id (n.lookups who)) refl
    where
      go : (o : Option ℕ) → next_id (n.lookups who) ≡ o → Sound setting history (begins n who pattern o)
      go None e = s
      go (Some id) e = begun_sound n who pattern id e s

  pub retries_sound : (n : Network) (who : Address) (o : Option Search) → Sound setting history n
      → Sound setting history (retries n who o)
  retries_sound n who None s = s
  retries_sound n who (Some x) s = asks_sound n who x s

  -- foreign datagrams say nothing
  pub foreign_sound : (n : Network) (count : ℕ) → Sound setting history n
      → Sound setting history (record n { sent = n.sent ++ replicate count None })
  foreign_sound n count sound = record {
    own = sound.own;
    honest = all_both (λ (o : Option Sent). IfSome o (Honest setting history)) n.sent
        (replicate count None) sound.honest (none count);
    lawful = sound.lawful;
    found = sound.found;
  }
    where
      none : (count : ℕ) → AllHonest setting history (replicate count None)
      none zero = tt
      none (suc count) = (tt, none count)
