-- Timers that are added to a list, part by part.
use Rattle.std.proofs.Common.{◌≡◌, ◌+◌, List, ◌++◌, length, Result, Ok, Err, Vec, vec_len}
use Rattle.std.proofs.Common.{sym, ap, subst, ◌∙◌, arith, append_assoc, length-append}
use Rattle.std.specs.Prelude.{IsErr, OnErr, OnOk}
use Rattle.std.proofs.lemmas.Bool.{true≢false}
use Rattle.at_event.specs.declared.Timer.{Timer}
use Rattle.at_node.specs.Timers.{Adds}

module _ {Z E : Type 0} where
  -- some timers were added, and then others
  pub adds_both : (xs ys : List Timer) (u : Unit {0}) (r : Result (Unit {0}) E) (a b c : Vec Timer Z)
      → Adds {E = E} xs (Ok u) a b → Adds ys r b c → Adds (xs ++ ys) r a c
  adds_both xs ys u r a b c first then = record {
    all = all r then.all;
    some = some r then.some;
    grows = let g = first.grows in let h = then.grows in omega (arith, g, h);
    memory = λ room. then.memory
        (let g = first.grows in let n = (first.all).1 in let l = length-append xs ys in omega (arith, g, n, l, room));
  }
    where
      all : (r : Result (Unit {0}) E)
          → OnOk r ((c.items ≡ b.items ++ ys) × (vec_len c ≡ vec_len b + length ys))
          → OnOk r ((c.items ≡ a.items ++ (xs ++ ys)) × (vec_len c ≡ vec_len a + length (xs ++ ys)))
      all (Ok v) h = (
        h.0 ∙ ap (λ (l : List Timer). l ++ ys) (first.all).0 ∙ append_assoc a.items xs ys,
        (let n = (first.all).1 in let m = h.1 in let l = length-append xs ys in omega (arith, n, m, l)),
      )
      all (Err e) h = tt

      some : (r : Result (Unit {0}) E) → OnErr r ((front : List Timer) × (c.items ≡ b.items ++ front))
          → OnErr r ((front : List Timer) × (c.items ≡ a.items ++ front))
      some (Ok v) h = tt
      some (Err e) h =
          (xs ++ h.0, h.1 ∙ ap (λ (l : List Timer). l ++ h.0) (first.all).0 ∙ append_assoc a.items xs h.0)

  -- there was no memory for the first of them
  pub adds_begun : (xs ys : List Timer) (e : E) (r : Result (Unit {0}) E) (a b : Vec Timer Z) → IsErr r
      → Adds {E = E} xs (Err e) a b → Adds (xs ++ ys) r a b
  adds_begun xs ys e (Ok u) a b bad first = absurd (true≢false (sym bad))
  adds_begun xs ys e (Err f) a b bad first = record {
    all = tt;
    some = first.some;
    grows = first.grows;
    memory = λ room. first.memory (let l = length-append xs ys in omega (arith, l, room));
  }

  -- what was added is the same list otherwise written
  pub adds_as : (xs ys : List Timer) (r : Result (Unit {0}) E) (a b : Vec Timer Z) → xs ≡ ys → Adds xs r a b
      → Adds ys r a b
  adds_as xs ys r a b same h = subst (λ (l : List Timer). Adds l r a b) same h
