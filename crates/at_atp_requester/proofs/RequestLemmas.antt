-- The numbers that a requester draws.
use Rattle.std.proofs.Common.{◌≡◌, ℕ, ◌+◌, ◌%◌, ◌<◌, ◌≤◌, Bool, true, false, cond, List}
use Rattle.std.proofs.Common.{length, None, IsSome, refl, arith}
use Rattle.std.specs.Prelude.{nat_lt}
use Rattle.std.proofs.lemmas.Bool.Decides.{nat_tests}
use Rattle.at_atp_requester.specs.Requests.{Requests, Transaction, draw_from, next_number}
use Rattle.at_ddp.proofs.NumberLemmas.{one_is_left, round_16}

-- ---- a number is left if fewer are open than are tried

pub draws_one : (tries first : ℕ) (l : List Transaction) → tries ≤ 65536 → length l < tries
    → IsSome (draw_from tries first l)
draws_one tries first l few more =
    one_is_left (λ n. (n + 1) % 65536) 65536 round_16 (λ (t : Transaction). t.tid) tries first l few more

pub number_left : (r : Requests) → length r.standing < 32 → IsSome (next_number r)
number_left r few = go (nat_lt (length r.standing) 32) refl
  where
    go : (b : Bool) → nat_lt (length r.standing) 32 ≡ b
        → IsSome (cond b (draw_from (length r.standing + 1) r.next r.standing) None)
    go true e = draws_one (length r.standing + 1) r.next r.standing (omega (arith, few)) (omega arith)
    go false e = absurd (grind (arith, nat_tests, e, few))
