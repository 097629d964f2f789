-- What is open at a socket once a lookup ends, names come and go, and replies come.
use Rattle.std.proofs.Common.{◌≡◌, ℕ, Bool, true, false, cond, List, [], ◌∷◌, find, Option, Some, None, IsSome}
use Rattle.std.proofs.Common.{refl, sym, ap, subst, ◌∙◌}
use Rattle.std.specs.Prelude.{option_map, if◌then◌else◌, ◌==◌}
use Rattle.std.specs.List.{AllByRecursion}
use Rattle.std.proofs.lemmas.Bool.{eqb-true}
use Rattle.at_ddp.specs.Tables.{without_first}
use Rattle.at_ddp.proofs.Alls.{all_implied, all_without}
use Rattle.at_ddp.proofs.DistinctLemmas.{differ_without}
use Rattle.at_nbp.specs.Lookups.{AreLookups, Lookups, Search, answered, closed, has_id, heard, is_reply}
use Rattle.at_nbp.specs.Lookups.{reply_came, search_of}
use Rattle.at_nbp.specs.NameTables.{Table}
use Rattle.at_nbp.specs.Packets.{Content}
use Rattle.at_nbp.specs.Tuples.{IsString}
use Rattle.at_nbp.specs.declared.name.Name.{Name}
use Rattle.at_name_socket.specs.NameSockets.{SocketState, closing, is_claim}
use Rattle.at_name_socket.specs.Sockets.{Closes, IsClaim, IsSocket, changed, claim_of, open_at}
use Rattle.at_name_socket.specs.declared.claim.Claim.{Claim}
use Rattle.at_name_socket.proofs.OpenLemmas.{none_found, found_without, without_all, found_replaced}
use Rattle.at_name_socket.proofs.OpenLemmas.{other_search, other_claim, apart_search, apart_claim, with_claim}
use Rattle.at_ddp.proofs.EqualLemmas.{apart}

pub closes_open : (s : SocketState) (id : ℕ) → IsSocket s → AreLookups s.lookups → (other : ℕ)
    → open_at (closing s id) other ≡ changed (Closes id) (open_at s) other
closes_open s id is lawful other = go (id == other) refl
  where
    go : (b : Bool) → (id == other) ≡ b → open_at (closing s id) other ≡ (if b then None else open_at s other)
    go true e =
        let gone : search_of (closed s.lookups id) id
        ≡ None = none_found (has_id id) (without_first (has_id id) s.lookups.searches)
        (without_all (λ (a b : Search). has_id a.id b) (has_id id) s.lookups.searches
        (apart_search id) lawful.differ) in
        ap (option_map (with_claim (find (is_claim other) (without_first (is_claim id) s.claims))))
        (ap (search_of (closed s.lookups id)) (sym (eqb-true id other e)) ∙ gone)
    go false e =
        let kept : search_of (closed s.lookups id) other
        ≡ search_of s.lookups other = found_without (has_id id) (has_id other) s.lookups.searches
        (other_search id other e) in
        let claim : find (is_claim other) (without_first (is_claim id) s.claims)
        ≡ claim_of s other = found_without (is_claim id) (is_claim other) s.claims (other_claim id other e) in
        λ i. option_map (with_claim (claim i)) (kept i)

pub closes_lawful : (s : SocketState) (id : ℕ) → IsSocket s → IsSocket (closing s id)
closes_lawful s id is = record {
  differ = differ_without (λ (a b : Claim). is_claim a.id b) (is_claim id) s.claims is.differ;
  claims = all (without_first (is_claim id) s.claims) (all_without (IsClaim s) (is_claim id) s.claims is.claims)
      (without_all (λ (a b : Claim). is_claim a.id b) (is_claim id) s.claims (apart_claim id) is.differ);
  zone = is.zone;
  neighbours = is.neighbours;
}
  where
    stays : (c : Claim) → IsClaim s c → is_claim id c ≡ false → IsClaim (closing s id) c
    stays c h differs = record {
      object = h.object;
      kind = h.kind;
      socket = h.socket;
      stands = subst IsSome (sym
          (found_without (has_id id) (has_id c.id) s.lookups.searches (other_search id c.id (apart c.id id differs))))
          h.stands;
    }

    all : (ds : List Claim) → AllByRecursion (IsClaim s) ds → AllByRecursion (λ d. is_claim id d ≡ false) ds
        → AllByRecursion (IsClaim (closing s id)) ds
    all [] h g = tt
    all (d ∷ ds) h g = (stays d h.0 g.0, all ds h.1 g.1)

-- ---- names that come and go, and replies

-- the names of the table play no part in what is open
pub named_lawful : (s : SocketState) (table : Table) → IsSocket s → table.zone ≡ s.table.zone
    → IsSocket (record s { table = table })
named_lawful s table is zone = record {
  differ = is.differ;
  claims = all_implied (IsClaim s) (IsClaim (record s { table = table })) s.claims
      (λ c h. record { object = h.object; kind = h.kind; socket = h.socket; stands = h.stands }) is.claims;
  zone = subst IsString (sym zone) is.zone;
  neighbours = is.neighbours;
}

-- a reply changes what was found alone
looks : (l : Lookups) (p : Content) (other : ℕ)
    → option_map (λ (x : Search). x.pattern) (search_of (heard l p).after other)
    ≡ option_map (λ (x : Search). x.pattern) (search_of l other)
looks l p other = go (is_reply p.function)
  where
    came : (o : Option Search) → search_of l p.id ≡ o
        → option_map (λ (x : Search). x.pattern) (search_of (reply_came l p o).after other)
        ≡ option_map (λ (x : Search). x.pattern) (search_of l other)
    came None e = refl
    came (Some x) e = found_replaced (has_id p.id) (has_id other) (λ (y : Search). y.pattern)
        (answered x p.tuples) l.searches
        (λ z g. let same : x ≡ z = cc in (ap (has_id other) same, ap (λ (y : Search). y.pattern) same))

    go : (b : Bool) → option_map (λ (x : Search). x.pattern)
        (search_of (reply_came l p (cond b (search_of l p.id) None)).after other)
        ≡ option_map (λ (x : Search). x.pattern) (search_of l other)
    go true = came (search_of l p.id) refl
    go false = refl

by_pattern : (claim : Option Claim) (a b : Option Search) → option_map (λ (x : Search). x.pattern) a
    ≡ option_map (λ (x : Search). x.pattern) b →
    option_map (with_claim claim) a ≡ option_map (with_claim claim) b
by_pattern claim None None h = refl
by_pattern claim None (Some y) h = absurd cc
by_pattern claim (Some x) None h = absurd cc
by_pattern claim (Some x) (Some y) h = let same : x.pattern
    ≡ y.pattern = cc in ap (λ (p : Name). Some (with_claim claim (record x { pattern = p }))) same

pub reply_opens : (s : SocketState) (p : Content) (other : ℕ)
    → open_at (record s { lookups = (heard s.lookups p).after }) other ≡ open_at s other
reply_opens s p other = by_pattern (claim_of s other) (search_of (heard s.lookups p).after other)
    (search_of s.lookups other) (looks s.lookups p other)

pub reply_lawful : (s : SocketState) (p : Content) → IsSocket s
    → IsSocket (record s { lookups = (heard s.lookups p).after })
reply_lawful s p is = record {
  differ = is.differ;
  claims = all_implied (IsClaim s) (IsClaim (record s { lookups = (heard s.lookups p).after })) s.claims
      (λ c h. record {
        object = h.object;
        kind = h.kind;
        socket = h.socket;
        stands = go (search_of (heard s.lookups p).after c.id) (search_of s.lookups c.id)
            (looks s.lookups p c.id) h.stands;
      }) is.claims;
  zone = is.zone;
  neighbours = is.neighbours;
}
  where
    go : (a b : Option Search) → option_map (λ (x : Search). x.pattern) a ≡ option_map (λ (x : Search). x.pattern) b
        → IsSome b → IsSome a
    go None None h some = some
    go None (Some y) h some = absurd cc
    go (Some x) b h some = refl
