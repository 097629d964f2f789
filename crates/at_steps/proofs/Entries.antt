-- What a node sends is as the network of its protocol has it.
use Rattle.std.proofs.Common.{◌≡◌, ℕ, false, List, [], ◌∷◌, map, length, None, refl}
use Rattle.std.specs.Prelude.{◌==◌, replicate}
use Rattle.std.specs.List.{AllByRecursion}
use Rattle.at_ddp.specs.Posts.{stamped}
use Rattle.at_ddp.specs.declared.address.Address.{Address}
use Rattle.at_event.specs.Outcomes.{Outgoing, sent_by}
use Rattle.at_steps.specs.Entries.{Coding, AreEntries}

-- packets of the protocol
pub entries_of : {X : Type 0} (c : Coding X) (event : ℕ) (own : Address) (xs : List (Address × X))
    → AreEntries c event (sent_by own c.kind (map (λ (x : Address × X). (x.0, c.bytes x.1)) xs)) (stamped event own xs)
entries_of c event own [] = tt
entries_of c event own (x ∷ xs) = ((refl, refl), entries_of c event own xs)

-- datagrams of other protocols
pub entries_foreign : {X : Type 0} (c : Coding X) (event : ℕ) (out : List Outgoing)
    → AllByRecursion (λ (o : Outgoing). (o.kind == c.kind) ≡ false) out
    → AreEntries c event out (replicate (length out) None)
entries_foreign c event [] all = tt
entries_foreign c event (o ∷ out) all = (all.0, entries_foreign c event out all.1)
