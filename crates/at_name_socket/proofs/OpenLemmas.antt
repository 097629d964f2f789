-- Lists that gain or lose an entry, and what is open at a socket after that.
use Rattle.std.proofs.Common.{◌≡◌, ℕ, Bool, true, false, cond, List, [], ◌∷◌, ◌++◌, find, Option, Some, None, IsSome}
use Rattle.std.proofs.Common.{refl, sym, ap, subst, ◌∙◌}
use Rattle.std.specs.Option.{option_or}
use Rattle.std.specs.Prelude.{option_map, if◌then◌else◌, ◌==◌}
use Rattle.std.specs.List.{AllByRecursion, IsDistinct}
use Rattle.std.proofs.lemmas.Bool.{eqb-true, eq-eqb}
use Rattle.std.proofs.lemmas.List.Folds.{find-append}
use Rattle.at_ddp.specs.Tables.{replaced, without_first}
use Rattle.at_ddp.proofs.Alls.{all_both, all_implied, none_met}
use Rattle.at_ddp.proofs.DistinctLemmas.{differ_append}
use Rattle.at_nbp.specs.Lookups as lookups
use Rattle.at_nbp.specs.Lookups.{Lookups, Search, beginning, has_id}
use Rattle.at_nbp.specs.Lookups.{search_of}
use Rattle.at_nbp.specs.declared.name.Name.{Name}
use Rattle.at_name_socket.specs.NameSockets.{SocketState, any_pattern, claim_begun, is_claim}
use Rattle.at_name_socket.specs.Sockets.{IsClaim, IsSocket, Open, Opens, changed, claim_of, open_at}
use Rattle.at_name_socket.specs.declared.claim.Claim.{Claim}
use Rattle.at_ddp.proofs.EqualLemmas.{apart}

-- ---- entries that are found

pub none_found : {X : Type 0} (p : X → Bool) (xs : List X) → AllByRecursion (λ x. p x ≡ false) xs → find p xs ≡ None
none_found p [] each = refl
none_found p (x ∷ xs) each = rw each.0 (none_found p xs each.1)

-- what fails a test is found without the first that passes it
pub found_without : {X : Type 0} (p q : X → Bool) (xs : List X) → ((x : X) → p x ≡ true → q x ≡ false)
    → find q (without_first p xs) ≡ find q xs
found_without p q [] apart = refl
found_without {X} p q (x ∷ xs) apart = go (found_without p q xs apart) (p x) refl
  where
    go : find q (without_first p xs) ≡ find q xs → (b : Bool) → p x ≡ b → find q (cond b xs (x ∷ without_first p xs))
        ≡ find q (x ∷ xs)
    go ih true e = rw (apart x e) refl
    go ih false e = ap (λ (o : Option X). cond (q x) (Some x) o) ih

-- without the first that passes a test, none is left of those that differ
pub without_all : {X : Type 0} (same : X → X → Bool) (p : X → Bool) (xs : List X)
    → ((x y : X) → p x ≡ true → same x y ≡ false → p y ≡ false) → IsDistinct same xs →
    AllByRecursion (λ x. p x ≡ false) (without_first p xs)
unfolding IsDistinct
without_all same p [] apart h = tt
without_all same p (x ∷ xs) apart h = go (without_all same p xs apart h.1) (p x) refl
  where
    go : AllByRecursion (λ y. p y ≡ false) (without_first p xs) → (b : Bool) → p x ≡ b
        → AllByRecursion (λ y. p y ≡ false) (cond b xs (x ∷ without_first p xs))
    go ih true e = all_implied (λ y. same x y ≡ false) (λ y. p y ≡ false) xs (λ y g. apart x y e g) h.0
    go ih false e = (e, ih)

-- one in the place of another that looks the same
pub found_replaced : {X Y : Type 0} (p q : X → Bool) (look : X → Y) (y : X) (xs : List X)
    → ((x : X) → find p xs ≡ Some x → (q y ≡ q x) × (look y ≡ look x)) →
    option_map look (find q (replaced p y xs)) ≡ option_map look (find q xs)
found_replaced p q look y [] same = refl
found_replaced {X} {Y} p q look y (x ∷ xs) same = go (found_replaced p q look y xs) (p x) refl same
  where
    here : (b : Bool) → q x ≡ b → q y ≡ b → look y ≡ look x → option_map look (cond (q y) (Some y) (find q xs))
        ≡ option_map look (cond (q x) (Some x) (find q xs))
    here true e f g = rw (e, f) (ap (λ (z : Y). Some z) g)
    here false e f g = rw (e, f) refl

    there : (b : Bool) → option_map look (find q (replaced p y xs)) ≡ option_map look (find q xs)
        → option_map look (cond b (Some x) (find q (replaced p y xs))) ≡ option_map look (cond b (Some x) (find q xs))
    there true g = refl
    there false g = g

    go : (((z : X) → find p xs ≡ Some z → (q y ≡ q z) × (look y ≡ look z)) → option_map look (find q (replaced p y xs))
        ≡ option_map look (find q xs)) → (b : Bool) → p x ≡ b →
        ((z : X) → cond b (Some x) (find p xs) ≡ Some z → (q y ≡ q z) × (look y ≡ look z))
        → option_map look (find q (cond b (y ∷ xs) (x ∷ replaced p y xs))) ≡ option_map look (find q (x ∷ xs))
    go ih true e f = let both = f x refl in here (q x) refl both.0 both.1
    go ih false e f = there (q x) (ih f)

-- ---- identifiers

pub other_search : (id other : ℕ) → (id == other) ≡ false → (l : Search) → has_id id l ≡ true → has_id other l ≡ false
other_search id other apart l h = ap (λ n. n == other) (eqb-true l.id id h) ∙ apart

pub other_claim : (id other : ℕ) → (id == other) ≡ false → (c : Claim) → is_claim id c ≡ true → is_claim other c ≡ false
other_claim id other apart c h = ap (λ n. n == other) (eqb-true c.id id h) ∙ apart

pub apart_search : (id : ℕ) (a b : Search) → has_id id a ≡ true → has_id a.id b ≡ false → has_id id b ≡ false
apart_search id a b h apart = ap (λ n. b.id == n) (sym (eqb-true a.id id h)) ∙ apart

pub apart_claim : (id : ℕ) (a b : Claim) → is_claim id a ≡ true → is_claim a.id b ≡ false → is_claim id b ≡ false
apart_claim id a b h apart = ap (λ n. b.id == n) (sym (eqb-true a.id id h)) ∙ apart

-- an identifier without a lookup has no claim
pub unclaimed : (s : SocketState) (id : ℕ) → IsSocket s → search_of s.lookups id ≡ None → claim_of s id ≡ None
unclaimed s id is none =
    none_found (is_claim id) s.claims (all_implied (IsClaim s) (λ c. is_claim id c ≡ false) s.claims fails is.claims)
  where
    go : (c : Claim) (b : Bool) → is_claim id c ≡ b → IsSome (search_of s.lookups c.id) → b ≡ false
    go c false e some = refl
    go c true e some = let gone : search_of s.lookups c.id ≡ None = ap (search_of s.lookups) (eqb-true c.id id e)
        ∙ none in absurd cc

    fails : (c : Claim) → IsClaim s c → is_claim id c ≡ false
    fails c h = go c (is_claim id c) refl h.stands

-- ---- a lookup that begins

abbrev pub with_claim : Option Claim → Search → Open
with_claim claim l = record { pattern = l.pattern; claim = claim }

-- the lookups with one more
more : (l : Lookups) (id : ℕ) (pattern : Name) (other : ℕ) → search_of l id ≡ None →
    search_of (lookups.begun l (beginning id pattern)) other
    ≡ cond (id == other) (Some (beginning id pattern)) (search_of l other)
more l id pattern other none = find-append (has_id other) l.searches (beginning id pattern ∷ []) ∙ go (id == other) refl
  where
    kept : (o : Option Search) → option_or o None ≡ o
    kept None = refl
    kept (Some x) = refl

    go : (b : Bool) → (id == other) ≡ b → option_or (search_of l other) (cond b (Some (beginning id pattern)) None)
        ≡ cond b (Some (beginning id pattern)) (search_of l other)
    go true e = ap (λ (o : Option Search). option_or o (Some (beginning id pattern)))
        (ap (search_of l) (sym (eqb-true id other e)) ∙ none)
    go false e = kept (search_of l other)

stands_more : (l : Lookups) (id : ℕ) (pattern : Name) (other : ℕ) → search_of l id ≡ None → IsSome (search_of l other)
    → IsSome (search_of (lookups.begun l (beginning id pattern)) other)
stands_more l id pattern other none some = subst IsSome (sym (more l id pattern other none)) (go (id == other))
  where
    go : (b : Bool) → IsSome (cond b (Some (beginning id pattern)) (search_of l other))
    go true = refl
    go false = some

-- a lookup and a claim, if it is one, with an identifier that is free
abbrev pub with_lookup : SocketState → ℕ → Name → List Claim → SocketState
with_lookup s id pattern claims = record s { lookups = lookups.begun s.lookups (beginning id pattern); claims = claims }

opened : (s : SocketState) (id : ℕ) (pattern : Name) (claims : List Claim) (claim : Option Claim)
    → search_of s.lookups id ≡ None →
    ((other : ℕ) → find (is_claim other) claims ≡ cond (id == other) claim (claim_of s other)) → (other : ℕ) →
    open_at (with_lookup s id pattern claims) other ≡ changed (Opens id pattern claim) (open_at s) other
opened s id pattern claims claim none are other =
    (λ i. option_map (with_claim (are other i)) (more s.lookups id pattern other none i)) ∙ go (id == other)
  where
    go : (b : Bool) → option_map (with_claim (cond b claim (claim_of s other)))
        (cond b (Some (beginning id pattern)) (search_of s.lookups other))
        ≡ (if b then Some (record { pattern = lookups.asked pattern; claim = claim }) else open_at s other)
    go true = refl
    go false = refl

pub found_opens : (s : SocketState) (id : ℕ) (pattern : Name) → IsSocket s → search_of s.lookups id ≡ None
    → (other : ℕ) →
    open_at (record s { lookups = lookups.begun s.lookups (beginning id pattern) }) other
    ≡ changed (Opens id pattern None) (open_at s) other
found_opens s id pattern is none = opened s id pattern s.claims None none (λ other. go other (id == other) refl)
  where
    go : (other : ℕ) (b : Bool) → (id == other) ≡ b → claim_of s other ≡ cond b None (claim_of s other)
    go other true e = ap (claim_of s) (sym (eqb-true id other e)) ∙ unclaimed s id is none
    go other false e = refl

pub claim_opens : (s : SocketState) (id : ℕ) (object kind : List ℕ) (socket : ℕ) → IsSocket s → search_of s.lookups id
    ≡ None → (other : ℕ) → open_at (claim_begun s id object kind socket) other
    ≡ changed (Opens id (any_pattern object kind)
    (Some (record { id = id; object = object; kind = kind; socket = socket }))) (open_at s) other
claim_opens s id object kind socket is none = opened s id (any_pattern object kind) (s.claims ++ claim ∷ [])
    (Some claim) none (λ other. find-append (is_claim other) s.claims (claim ∷ []) ∙ go other (id == other) refl)
  where
    claim : Claim
    claim = record { id = id; object = object; kind = kind; socket = socket }

    kept : (o : Option Claim) → option_or o None ≡ o
    kept None = refl
    kept (Some x) = refl

    go : (other : ℕ) (b : Bool) → (id == other) ≡ b → option_or (claim_of s other) (cond b (Some claim) None)
        ≡ cond b (Some claim) (claim_of s other)
    go other true e = ap (λ (o : Option Claim). option_or o (Some claim))
        (ap (claim_of s) (sym (eqb-true id other e)) ∙ unclaimed s id is none)
    go other false e = kept (claim_of s other)

claims_more : (s : SocketState) (id : ℕ) (pattern : Name) (claims : List Claim) → search_of s.lookups id ≡ None
    → AllByRecursion (IsClaim s) s.claims → AllByRecursion (IsClaim (with_lookup s id pattern claims)) s.claims
claims_more s id pattern claims none = all_implied (IsClaim s) (IsClaim (with_lookup s id pattern claims)) s.claims
    (λ c h. record {
      object = h.object;
      kind = h.kind;
      socket = h.socket;
      stands = stands_more s.lookups id pattern c.id none h.stands;
    })

pub found_lawful : (s : SocketState) (id : ℕ) (pattern : Name) → IsSocket s → search_of s.lookups id ≡ None
    → IsSocket (record s { lookups = lookups.begun s.lookups (beginning id pattern) })
found_lawful s id pattern is none =
    record {
      differ = is.differ;
      claims = claims_more s id pattern s.claims none is.claims;
      zone = is.zone;
      neighbours = is.neighbours;
    }

pub claim_lawful : (s : SocketState) (id : ℕ) (object kind : List ℕ) (socket : ℕ) → IsSocket s → search_of s.lookups id
    ≡ None → IsClaim (claim_begun s id object kind socket)
    (record { id = id; object = object; kind = kind; socket = socket }) →
    IsSocket (claim_begun s id object kind socket)
claim_lawful s id object kind socket is none new =
    let claim : Claim = record { id = id; object = object; kind = kind; socket = socket } in
    let apart : AllByRecursion (λ (c : Claim). (id == c.id) ≡ false) s.claims =
    all_implied (λ (c : Claim). is_claim id c ≡ false) (λ (c : Claim). (id == c.id) ≡ false) s.claims
    (λ c h. apart c.id id h) (none_met (is_claim id) s.claims (unclaimed s id is none)) in
    record {
      differ = differ_append (λ (a b : Claim). is_claim a.id b) s.claims claim is.differ apart;
      claims = all_both (IsClaim (claim_begun s id object kind socket)) s.claims (claim ∷ [])
          (claims_more s id (any_pattern object kind) (s.claims ++ claim ∷ []) none is.claims) (new, tt);
      zone = is.zone;
      neighbours = is.neighbours;
    }

pub stands_begun : (l : Lookups) (id : ℕ) (pattern : Name) → search_of l id ≡ None
    → IsSome (search_of (lookups.begun l (beginning id pattern)) id)
stands_begun l id pattern none = subst IsSome (sym (more l id pattern id none)) (rw (eq-eqb id id refl) refl)
