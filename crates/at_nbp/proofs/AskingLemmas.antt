-- Packets with one tuple, and the identifiers that they get.
use Rattle.std.proofs.Common.{◌≡◌, ◌≢◌, ℕ, zero, suc, ◌+◌, ◌%◌, ◌<◌, ◌≤◌, Bool, true, false, cond, List, [], ◌∷◌}
use Rattle.std.proofs.Common.{length, None, refl, ap, append-nil, arith}
use Rattle.std.proofs.lemmas.Bool.Decides.{nat_tests}
use Rattle.std.specs.Prelude.{nat_lt}
use Rattle.std.specs.Prelude.{All, IfErr, IsErrOf, IsOk, Result, Ok, Err}
use Rattle.std.specs.List.{flat_map}
use Rattle.at_ddp.proofs.NumberLemmas.{below_tries, round_8}
use Rattle.at_nbp.specs.Lookups.{Lookups, Search, free_id, next_id}
use Rattle.at_nbp.specs.Packets.{Content, HasCount, spelling}
use Rattle.at_nbp.specs.Tuples.{Entry, FitsStrings, tuple_spelling}
use Rattle.at_nbp.specs.declared.fault.NbpFault.{NbpFault}
use Rattle.at_nbp.specs.declared.fault.NbpFault.TheVariants.{BadCount, BadString, NoMemory}
use Rattle.at_nbp.specs.declared.function.Function.{Function}
use Rattle.at_nbp.specs.declared.function.Function.TheVariants.{BroadcastRequest, LookUp, Reply, ForwardRequest}
use Rattle.at_nbp.proofs.ListLemmas.{short_tuple}
use Rattle.at_nbp.proofs.PacketLemmas.{length_spelling}

-- a packet of any function may have one tuple
pub one_counts : (f : Function) → HasCount f 1
one_counts BroadcastRequest = refl
one_counts LookUp = refl
one_counts Reply = omega arith
one_counts ForwardRequest = refl

pub one_fits : (t : Entry) → FitsStrings t → All FitsStrings (t ∷ [])
one_fits t short zero d lt = short
one_fits t short (suc k) d lt = absurd (omega (arith, lt))

pub one_len : (f : Function) (id : ℕ) (t : Entry) → FitsStrings t
    → length (spelling (record { function = f; id = id; tuples = t ∷ [] })) ≤ 106
one_len f id t short =
    let p : Content = record { function = f; id = id; tuples = t ∷ [] } in
    let one : length (flat_map tuple_spelling p.tuples)
    ≡ length (tuple_spelling t) = ap (length {A = ℕ}) (append-nil (tuple_spelling t)) in
    omega (arith, length_spelling p, one, short_tuple t short)

-- a call that refuses for three reasons alone succeeds if none of them stands
pub none_refuses : {X : Type 0} (r : Result X NbpFault) → (IsErrOf r BadCount → ⊥) → (IsErrOf r BadString → ⊥)
    → (IsErrOf r NoMemory → ⊥) →
    IfErr r (λ fault. fault ≢ BadCount → fault ≢ BadString → fault ≡ NoMemory) → IsOk r
none_refuses (Ok x) count string memory only = refl
none_refuses {X} (Err e) count string memory only =
    let as_error : NbpFault → Result X NbpFault = λ fault. Err fault in
    absurd (memory (ap as_error (only (λ same. count (ap as_error same)) (λ same. string (ap as_error same)))))

-- ---- identifiers

pub tried : (tries first : ℕ) (searches : List Search) → tries ≤ 256 → free_id tries first searches ≡ None
    → tries ≤ length searches
tried tries first searches few none =
    below_tries (λ id. (id + 1) % 256) 256 round_8 (λ (s : Search). s.id) tries first searches few none

-- no identifier is left only if 8 lookups are open
pub none_left : (l : Lookups) → next_id l ≡ None → 8 ≤ length l.searches
none_left l none = go (nat_lt (length l.searches) 8) refl none
  where
    go : (b : Bool) → nat_lt (length l.searches) 8 ≡ b
        → cond b (free_id (length l.searches + 1) l.next l.searches) None ≡ None → 8 ≤ length l.searches
    go true few h =
        let less : length l.searches < 8 = grind (arith, nat_tests, few) in
        let most = tried (length l.searches + 1) l.next l.searches (omega (arith, less)) h in
        absurd (omega (arith, most))
    go false full h = grind (arith, nat_tests, full)
