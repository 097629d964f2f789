-- What steps of lookups rest on: who has a name, and what was found.
use Rattle.std.proofs.Common.{◌≡◌, inl, inr, ℕ, ◌≤◌, true, List, [], ◌∷◌, find, length, Option}
use Rattle.std.proofs.Common.{Some, None, refl, sym, ap, subst, ◌∙◌, arith}
use Rattle.std.specs.Prelude.{option_map}
use Rattle.std.specs.List.{AllByRecursion, IsDistinct}
use Rattle.at_nbp.specs.Lookups.{IsSearch, Search, same_find}
use Rattle.at_nbp.specs.NameTables.{Table, is_called, own_find}
use Rattle.at_nbp.specs.Names.{is_match}
use Rattle.at_nbp.specs.Network.{Begun}
use Rattle.at_nbp.specs.declared.find.Find.{Find as Found}
use Rattle.at_nbp.specs.declared.name.Name.{Name}
use Rattle.at_nbp.specs.declared.names.Registered.{Registered}
use Rattle.at_name_socket.specs.NameSockets.{SocketState, standing, taker}
use Rattle.at_name_socket.specs.declared.claim.Claim.{Claim as Claimed}
use Rattle.at_world.specs.Machine.NameGuards.{Directory, Finds, IsTaken, OpenLookup, NameMachine, Stood, lookup_of}

-- a lookup of the machine that is open at a node, and may have found this
pub record IsOpenHere (m : NameMachine) (k id : ℕ) (claim : Option Claimed) (finds : List Found) : Type 0 where
  pub lookup : OpenLookup
  pub stands : lookup_of m.lookups k id ≡ Some lookup
  pub claims : lookup.claim ≡ claim
  pub tells : Finds m.past lookup finds

pub some_begun : (a b : Begun) → Some a ≡ Some b → a ≡ b
some_begun a b h = cc

pub finds_are : (past : List Directory) (l : OpenLookup) (looked : Search) (finds : List Found) → l.pattern ≡ looked.pattern
    → looked.finds ≡ finds → IsSearch looked → AllByRecursion (Stood past l.since looked.pattern) looked.finds
    → Finds past l finds
finds_are past l looked finds pattern is lawful stood = record {
  lawful = record {
    few = subst (λ (fs : List Found). length fs ≤ 256) is lawful.few;
    match = subst (AllByRecursion (λ (f : Found). is_match l.pattern f.name ≡ true)) is
        (subst (λ (p : Name). AllByRecursion (λ (f : Found). is_match p f.name ≡ true) looked.finds)
        (sym pattern) lawful.match);
    differ = subst (IsDistinct same_find) is lawful.differ;
  };
  stood = subst (AllByRecursion (Stood past l.since l.pattern)) is
      (subst (λ (p : Name). AllByRecursion (Stood past l.since p) looked.finds) (sym pattern) stood);
}

-- the first of what was found
first_found : (past : List Directory) (l : OpenLookup) (f : Found) (fs : List Found) → Finds past l (f ∷ fs)
    → Finds past l (f ∷ [])
unfolding IsDistinct
first_found past l f fs all = let lawful = all.lawful in let match = lawful.match in let stood = all.stood in
    record { lawful = record { few = omega arith; match = (match.0, tt); differ = (tt, tt) }; stood = (stood.0, tt) }

-- who has the name of a claim
pub taken_by : (m : NameMachine) (k : ℕ) (l : OpenLookup) (claim : Claimed) (owner : Found) (s : SocketState) → s.table
    ≡ m.names k → (finds : List Found) → Finds m.past l finds → taker s finds claim ≡ Some owner
    → IsTaken m k l claim owner
taken_by m k l claim owner s own (f ∷ fs) tells is = let same : f
    ≡ owner = cc in inl (subst (λ g. Finds m.past l (g ∷ [])) same (first_found m.past l f fs tells))
taken_by m k l claim owner s own [] tells is = inr (go (standing s claim) refl is)
  where
    go : (o : Option Registered) → standing s claim ≡ o → option_map (own_find s.table) o ≡ Some owner
        → (name : Registered) × (find (is_called claim.object claim.kind) (m.names k).names ≡ Some name)
        × (owner ≡ own_find (m.names k) name)
    go None there g = absurd cc
    go (Some name) there g =
        let same : own_find s.table name ≡ owner = cc in (
          name,
          ap (λ (y : Table). find (is_called claim.object claim.kind) y.names) (sym own) ∙ there,
          sym same
              ∙ ap (λ (y : Table). own_find y name) own,
        )
