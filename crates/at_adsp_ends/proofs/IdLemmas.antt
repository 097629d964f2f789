-- Connection identifiers that are drawn.
use Rattle.std.proofs.Common.{◌≡◌, ℕ, ◌+◌, ◌<◌, ◌≤◌, Bool, true, false, cond, List}
use Rattle.std.proofs.Common.{length, Some, None, refl, arith}
use Rattle.std.specs.Prelude.{nat_lt}
use Rattle.std.specs.List.{list_any}
use Rattle.std.proofs.lemmas.Bool.Decides.{nat_tests}
use Rattle.at_ddp.proofs.NumberLemmas.{below_tries, is_free, round_without_0}
use Rattle.at_adsp_end.specs.Ends.{EndState}
use Rattle.at_adsp_ends.specs.Tables.{EndTable, IsId, following, free_id, has_id, next_id}

pub following_id : (id : ℕ) → IsId (following id)
following_id id = record { some = omega arith; fits = omega arith }

-- what is drawn is an identifier that no end has
pub record Drawn (id : ℕ) (ends : List EndState) : Type 0 where
  pub is : IsId id
  pub free : list_any (has_id id) ends ≡ false

pub drawn_from : (tries first id : ℕ) (ends : List EndState) → IsId first → free_id tries first ends ≡ Some id
    → Drawn id ends
drawn_from tries first id ends fits h =
    let d = is_free following (λ n. list_any (has_id n) ends) IsId (λ n is. following_id n) tries first id fits h in
    record { is = d.0; free = d.1 }

pub record DrawnNext (id : ℕ) (t : EndTable) : Type 0 where
  pub drawn : Drawn id t.ends
  pub few : length t.ends < 16

pub next_drawn : (t : EndTable) (id : ℕ) → IsId t.next → next_id t ≡ Some id → DrawnNext id t
next_drawn t id fits h = go (nat_lt (length t.ends) 16) refl h
  where
    go : (b : Bool) → nat_lt (length t.ends) 16 ≡ b → cond b (free_id (length t.ends + 1) t.next t.ends) None ≡ Some id
        → DrawnNext id t
    go true few g = record {
      drawn = drawn_from (length t.ends + 1) t.next id t.ends fits g;
      few = grind (arith, nat_tests, few);
    }
    go false few g = absurd (cc)

pub tried : (tries first : ℕ) (ends : List EndState) → tries ≤ 65535 → free_id tries first ends ≡ None
    → tries ≤ length ends
tried tries first ends few none =
    below_tries following 65535 round_without_0 (λ (e : EndState). e.id) tries first ends few none

-- no identifier is left only if 16 ends stand
pub none_left : (t : EndTable) → next_id t ≡ None → 16 ≤ length t.ends
none_left t none = go (nat_lt (length t.ends) 16) refl none
  where
    go : (b : Bool) → nat_lt (length t.ends) 16 ≡ b → cond b (free_id (length t.ends + 1) t.next t.ends) None ≡ None
        → 16 ≤ length t.ends
    go true few h =
        let less : length t.ends < 16 = grind (arith, nat_tests, few) in
        let most = tried (length t.ends + 1) t.next t.ends (omega (arith, less)) h in
        absurd (omega (arith, most))
    go false full h = grind (arith, nat_tests, full)
