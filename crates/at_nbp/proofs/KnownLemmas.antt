-- The finds of a lookup as a set: a find is in it if it is the same as one that is known.
use Rattle.std.proofs.Common.{◌≡◌, ◌&&◌, ◌||◌, Bool, true, false, List, [], ◌∷◌, ◌++◌, length, refl, ap, ◌∙◌}
use Rattle.std.specs.Prelude.{nat_eq, nat_lt, not, if◌then◌else◌}
use Rattle.std.specs.Cmp.Lexicographic.{pointwise}
use Rattle.std.specs.List.{list_any}
use Rattle.std.proofs.lemmas.Bool.{and_parts, not-true}
use Rattle.indexmap.specs.IndexSet.{insert_key}
use Rattle.at_nbp.specs.Lookups.{joins, same_find}
use Rattle.at_nbp.specs.Names.{is_match}
use Rattle.at_nbp.specs.declared.find.Find.{Find}
use Rattle.at_nbp.specs.declared.name.Name.{Name}

-- finds as the code compares them
abbrev pub eq_find : Find → Find → Bool
eq_find a b =
    (pointwise nat_eq a.name.object b.name.object
    && (pointwise nat_eq a.name.kind b.name.kind && pointwise nat_eq a.name.zone b.name.zone))
    && ((nat_eq a.address.net b.address.net
    && (nat_eq a.address.node b.address.node && nat_eq a.address.socket b.address.socket))
    && nat_eq a.enumerator b.enumerator)

regrouped : (o k z n d s e : Bool)
    → ((o && (k && z)) && ((n && (d && s)) && e)) ≡ ((((o && k) && z) && ((n && d) && s)) && e)
regrouped false k z n d s e = refl
regrouped true false z n d s e = refl
regrouped true true false n d s e = refl
regrouped true true true false d s e = refl
regrouped true true true true d s e = refl

pub same_as : (a b : Find) → eq_find a b ≡ same_find a b
same_as a b = regrouped (pointwise nat_eq a.name.object b.name.object) (pointwise nat_eq a.name.kind b.name.kind)
    (pointwise nat_eq a.name.zone b.name.zone) (nat_eq a.address.net b.address.net)
    (nat_eq a.address.node b.address.node) (nat_eq a.address.socket b.address.socket)
    (nat_eq a.enumerator b.enumerator)

pub known_as : (f : Find) (finds : List Find) → list_any (eq_find f) finds ≡ list_any (same_find f) finds
known_as f [] = refl
known_as f (x ∷ xs) = λ j. same_as f x j || known_as f xs j

-- ---- a find that is put in

-- what joins is new, so it goes last
pub put_in : (pattern : Name) (finds later : List Find) (f : Find) → joins pattern finds f ≡ true
    → later ≡ insert_key eq_find finds f → later ≡ finds ++ f ∷ []
put_in pattern finds later f joins is =
    let outer = and_parts (is_match pattern f.name && not (list_any (same_find f) finds)) (nat_lt (length finds) 256)
    joins in
    let inner = and_parts (is_match pattern f.name) (not (list_any (same_find f) finds)) outer.0 in
    let new : list_any (eq_find f) finds ≡ false = known_as f finds
    ∙ not-true (list_any (same_find f) finds) inner.1 in
    is ∙ ap (λ b. if b then finds else finds ++ f ∷ []) new
