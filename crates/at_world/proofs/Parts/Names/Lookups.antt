-- The open lookups of the machine are those of the nodes, each with the moment since which it is open.
use Rattle.std.proofs.Common.{◌≡◌, ℕ, ◌+◌, Bool, true, false, cond, List, [], ◌∷◌, find, Option, Some, None, refl, sym}
use Rattle.std.proofs.Common.{ap, subst, ◌∙◌}
use Rattle.std.specs.Prelude.{filter, not, ◌==◌, ◌&&◌}
use Rattle.std.proofs.lemmas.Bool.{true≢false, and_parts, eq-eqb, eqb-true, and_left, and_right}
use Rattle.at_ddp.specs.Address.{same_address}
use Rattle.at_nbp.specs.Lookups.{asked}
use Rattle.at_nbp.specs.Network.{Begun, newest}
use Rattle.at_nbp.specs.declared.name.Name.{Name}
use Rattle.at_name_socket.specs.NameSockets.{names_of}
use Rattle.at_name_socket.specs.Sockets.{Change, Closes, Open, Opens, Stays, changed}
use Rattle.at_name_socket.specs.declared.claim.Claim.{Claim}
use Rattle.at_node.specs.declared.numbers.Draw.{Draw}
use Rattle.at_node.specs.declared.numbers.Draw.TheVariants.{Conn, Lookup as Identifier, Tid}
use Rattle.at_steps.specs.NameHappenings.{BeginsBy}
use Rattle.at_world.specs.Machine.NameGuards.{OpenLookup, is_lookup, lookup_of, without_lookup}

-- the machine has a lookup that is open at a node, with the moment after the event that drew its identifier
pub record IsKnown (net : ℕ) (lookups : List OpenLookup) (begun : List Begun) (k id : ℕ) (o : Open) : Type 0 where
  pub lookup : OpenLookup
  pub stands : lookup_of lookups k id ≡ Some lookup
  pub pattern : lookup.pattern ≡ o.pattern
  pub claim : lookup.claim ≡ o.claim
  pub began : Begun
  pub newest : newest begun (names_of net k) id ≡ Some began
  pub since : lookup.since ≡ began.event + 1

abbrev pub Known : ℕ → List OpenLookup → List Begun → ℕ → ℕ → Option Open → Type 0
Known net lookups begun k id None = Unit {0}
Known net lookups begun k id (Some o) = IsKnown net lookups begun k id o

-- ---- the lookups after a change at a node

abbrev pub lookups_after : List OpenLookup → ℕ → ℕ → Change → List OpenLookup
lookups_after ls since k Stays = ls
lookups_after ls since k (Opens id pattern claim) =
    record { node = k; id = id; pattern = asked pattern; claim = claim; since = since } ∷ ls
lookups_after ls since k (Closes id) = without_lookup ls k id

-- the event drew the identifier that the change opens, and no other
abbrev pub IsDrawn : Change → Option Draw → Type 0
IsDrawn (Opens id pattern claim) d = d ≡ Some (Identifier id)
IsDrawn change (Some (Identifier id)) = ⊥
IsDrawn change d = Unit {0}

-- ---- entries that are found

found_filtered : (k id : ℕ) (j other : ℕ) (ls : List OpenLookup)
    → ((l : OpenLookup) → is_lookup j other l ≡ true → is_lookup k id l ≡ false)
    → find (is_lookup j other) (filter (λ l. not (is_lookup k id l)) ls) ≡ find (is_lookup j other) ls
found_filtered k id j other [] apart = refl
found_filtered k id j other (l ∷ ls) apart = go (found_filtered k id j other ls apart) (is_lookup k id l) refl
  where
    go : find (is_lookup j other) (filter (λ x. not (is_lookup k id x)) ls) ≡ find (is_lookup j other) ls → (b : Bool)
        → is_lookup k id l ≡ b →
        find (is_lookup j other)
        (cond (not b) (l ∷ filter (λ x. not (is_lookup k id x)) ls) (filter (λ x. not (is_lookup k id x)) ls))
        ≡ find (is_lookup j other) (l ∷ ls)
    go ih false e = ap (λ (o : Option OpenLookup). cond (is_lookup j other l) (Some l) o) ih
    go ih true e = ih ∙ gone (is_lookup j other l) refl
      where
        gone : (b : Bool) → is_lookup j other l ≡ b → find (is_lookup j other) ls
            ≡ cond b (Some l) (find (is_lookup j other) ls)
        gone true f = absurd (true≢false (sym e ∙ apart l f))
        gone false f = refl

-- a lookup of another node, or under another identifier
apart_by : (k id j other : ℕ) → ((k == j) && (id == other)) ≡ false → (l : OpenLookup) → is_lookup j other l ≡ true
    → is_lookup k id l ≡ false
apart_by k id j other apart l is =
    let both = and_parts (l.node == j) (l.id == other) is in
    go (is_lookup k id l) refl both
  where
    go : (b : Bool) → is_lookup k id l ≡ b → ((l.node == j) ≡ true) × ((l.id == other) ≡ true) → b ≡ false
    go false e its = refl
    go true e its =
        let mine = and_parts (l.node == k) (l.id == id) e in
        let node : k ≡ j = sym (eqb-true l.node k mine.0) ∙ eqb-true l.node j its.0 in
        let same : id ≡ other = sym (eqb-true l.id id mine.1) ∙ eqb-true l.id other its.1 in
        absurd (true≢false (sym (λ i. eq-eqb k j node i && eq-eqb id other same i) ∙ apart))

-- ---- what stays, and what is new

-- the change is not of this lookup
abbrev pub IsAnother : Change → ℕ → ℕ → ℕ → Type 0
IsAnother Stays k j id = Unit {0}
IsAnother (Opens drawn pattern claim) k j id = ((k == j) && (drawn == id)) ≡ false
IsAnother (Closes ended) k j id = ((k == j) && (ended == id)) ≡ false

lookup_kept : (ls : List OpenLookup) (since k j id : ℕ) (change : Change) → IsAnother change k j id
    → lookup_of (lookups_after ls since k change) j id ≡ lookup_of ls j id
lookup_kept ls since k j id Stays another = refl
lookup_kept ls since k j id (Opens drawn pattern claim) another = rw another refl
lookup_kept ls since k j id (Closes ended) another = found_filtered k ended j id ls (apart_by k ended j id another)

pub same_sockets : (net k j : ℕ) → same_address (names_of net k) (names_of net j) ≡ (k == j)
same_sockets net k j = ap (λ b. b && (k == j) && true) (eq-eqb net net refl) ∙ go (k == j)
  where
    go : (b : Bool) → (b && true) ≡ b
    go true = refl
    go false = refl

newest_kept : (net event k j id : ℕ) (change : Change) (d : Option Draw) (before now : List Begun) → IsDrawn change d
    → BeginsBy event (names_of net k) d before now → IsAnother change k j id → newest now (names_of net j) id
    ≡ newest before (names_of net j) id
newest_kept net event k j id (Opens drawn pattern claim) None before now is begins another = absurd cc
newest_kept net event k j id (Opens drawn pattern claim) (Some (Tid t)) before now is begins another = absurd cc
newest_kept net event k j id (Opens drawn pattern claim) (Some (Conn t)) before now is begins another = absurd cc
newest_kept net event k j id (Opens drawn pattern claim) (Some (Identifier i)) before now is begins another =
    let same : i ≡ drawn = cc in
    let fails : (same_address (names_of net k) (names_of net j) && (i == id))
    ≡ false = (λ x. same_sockets net k j x && (same x == id)) ∙ another in
    ap (λ (l : List Begun). newest l (names_of net j) id) begins.1 ∙ (rw fails refl)
newest_kept net event k j id Stays None before now is begins another =
    ap (λ (l : List Begun). newest l (names_of net j) id) begins
newest_kept net event k j id Stays (Some (Tid t)) before now is begins another =
    ap (λ (l : List Begun). newest l (names_of net j) id) begins
newest_kept net event k j id Stays (Some (Conn t)) before now is begins another =
    ap (λ (l : List Begun). newest l (names_of net j) id) begins
newest_kept net event k j id Stays (Some (Identifier i)) before now is begins another = absurd is
newest_kept net event k j id (Closes ended) None before now is begins another =
    ap (λ (l : List Begun). newest l (names_of net j) id) begins
newest_kept net event k j id (Closes ended) (Some (Tid t)) before now is begins another =
    ap (λ (l : List Begun). newest l (names_of net j) id) begins
newest_kept net event k j id (Closes ended) (Some (Conn t)) before now is begins another =
    ap (λ (l : List Begun). newest l (names_of net j) id) begins
newest_kept net event k j id (Closes ended) (Some (Identifier i)) before now is begins another = absurd is

module _ (net event since : ℕ) (ls : List OpenLookup) (k : ℕ) (change : Change) (d : Option Draw)
    (before now : List Begun)
    (drawn : IsDrawn change d) (begins : BeginsBy event (names_of net k) d before now) where
  -- a lookup that the change is not of
  kept : (j id : ℕ) (o : Option Open) → IsAnother change k j id → Known net ls before j id o
      → Known net (lookups_after ls since k change) now j id o
  kept j id None another h = tt
  kept j id (Some o) another h = record {
    lookup = h.lookup;
    stands = lookup_kept ls since k j id change another ∙ h.stands;
    pattern = h.pattern;
    claim = h.claim;
    began = h.began;
    newest = newest_kept net event k j id change d before now drawn begins another ∙ h.newest;
    since = h.since;
  }

  -- one of another node
  pub of_others : (j id : ℕ) (o : Option Open) → (k == j) ≡ false → Known net ls before j id o
      → Known net (lookups_after ls since k change) now j id o
  of_others j id o apart h = kept j id o (another change) h
    where
      another : (c : Change) → IsAnother c k j id
      another Stays = tt
      another (Opens opened pattern claim) = and_left (k == j) (opened == id) apart
      another (Closes ended) = and_left (k == j) (ended == id) apart

-- the lookup that opens
opens : (net event since : ℕ) (ls : List OpenLookup) (k id : ℕ) (pattern : Name) (claim : Option Claim)
    (d : Option Draw)
    (before now : List Begun) → since ≡ event + 1 → d ≡ Some (Identifier id)
    → BeginsBy event (names_of net k) d before now →
    IsKnown net (lookups_after ls since k (Opens id pattern claim)) now k id
    (record { pattern = asked pattern; claim = claim })
opens net event since ls k id pattern claim None before now is drawn begins = absurd cc
opens net event since ls k id pattern claim (Some (Tid t)) before now is drawn begins = absurd cc
opens net event since ls k id pattern claim (Some (Conn t)) before now is drawn begins = absurd cc
opens net event since ls k id pattern claim (Some (Identifier i)) before now is drawn begins =
    let same : i ≡ id = cc in
    let here : (same_address (names_of net k) (names_of net k) && (i == id))
    ≡ true = λ x. (same_sockets net k k ∙ eq-eqb k k refl) x && eq-eqb i id same x in
    record {
      lookup = record { node = k; id = id; pattern = asked pattern; claim = claim; since = since };
      stands = rw (eq-eqb k k refl, eq-eqb id id refl) refl;
      pattern = refl;
      claim = refl;
      began = record { event = event; who = names_of net k; id = i; pattern = begins.0 };
      newest = ap (λ (l : List Begun). newest l (names_of net k) id) begins.1 ∙ (rw here refl);
      since = is;
    }

-- the lookups of the node itself
pub of_node : (net event since : ℕ) (ls : List OpenLookup) (k : ℕ) (change : Change) (d : Option Draw)
    (before now : List Begun) → since ≡ event + 1 → IsDrawn change d → BeginsBy event (names_of net k) d before now →
    (opened : ℕ → Option Open) → ((id : ℕ) → Known net ls before k id (opened id)) → (id : ℕ)
    → Known net (lookups_after ls since k change) now k id (changed change opened id)
of_node net event since ls k Stays d before now is drawn begins opened known id =
    kept net event since ls k Stays d before now drawn begins k id (opened id) tt (known id)
of_node net event since ls k (Opens new pattern claim) d before now is drawn begins opened known id =
    go (new == id) refl
  where
    go : (b : Bool) → (new == id) ≡ b
        → Known net (lookups_after ls since k (Opens new pattern claim)) now k id
        (cond b (Some (record { pattern = asked pattern; claim = claim })) (opened id))
    go true e = subst (λ i. IsKnown net (lookups_after ls since k (Opens new pattern claim)) now k i
        (record { pattern = asked pattern; claim = claim })) (eqb-true new id e)
        (opens net event since ls k new pattern claim d before now is drawn begins)
    go false e = kept net event since ls k (Opens new pattern claim) d before now drawn begins k id (opened id)
        (and_right (k == k) (new == id) e) (known id)
of_node net event since ls k (Closes ended) d before now is drawn begins opened known id = go (ended == id) refl
  where
    go : (b : Bool) → (ended == id) ≡ b
        → Known net (lookups_after ls since k (Closes ended)) now k id (cond b None (opened id))
    go true e = tt
    go false e = kept net event since ls k (Closes ended) d before now drawn begins k id (opened id)
        (and_right (k == k) (ended == id) e) (known id)
