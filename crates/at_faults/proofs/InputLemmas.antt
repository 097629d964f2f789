-- What a reader gave, read by read.
use Rattle.std.proofs.Common.{◌≡◌, ℕ, ◌+◌, ◌<◌, ◌≤◌, List, [], ◌++◌, length, IfSome, take, refl, sym, append-nil, arith}
use Rattle.std.specs.Prelude.{Option, None, Some}
use Rattle.std.specs.Io.KnownBytes.{Consumes, IsAtEnd}
use Rattle.std.proofs.KnownBytes.{Consumes-all, Consumes-trans, Consumes-whole}
use Rattle.std.proofs.lemmas.List.{length-append, length-take-le}

-- a read of nothing at the end leaves what was read as all that there was
pub all_read : (first last end : Option (List ℕ)) (bytes part : List ℕ) (n : ℕ) → Consumes first last bytes
    → Consumes last end (take n part) → n ≡ 0 → IsAtEnd end → IfSome first (λ all. bytes ≡ all)
all_read first last end bytes part n before read none over =
    let same : bytes ≡ [] ++ (bytes ++ take n part) = rw none (sym (append-nil bytes)) in
    Consumes-all first end (bytes ++ take n part) [] bytes
    (Consumes-trans first last end bytes (take n part) before read) over same

-- if more was read than may be, there was more than may be
pub much_read : (first last : Option (List ℕ)) (bytes : List ℕ) (most : ℕ) → Consumes first last bytes
    → most < length bytes → IfSome first (λ all. most < length all)
much_read None last bytes most read much = tt
much_read (Some all) None bytes most read much = absurd read
much_read (Some all) (Some left) bytes most read much =
    let same : length all ≡ length (bytes ++ left) = rw read refl in
    omega (arith, much, same, length-append bytes left)

-- a read of more than is left of the most that may be read
pub over_read : (first last end : Option (List ℕ)) (bytes part : List ℕ) (n most : ℕ) → Consumes first last bytes
    → Consumes last end (take n part) → n ≤ length part → most < length bytes + n
    → IfSome first (λ all. most < length all)
over_read first last end bytes part n most before read fits much =
    much_read first end (bytes ++ take n part) most (Consumes-trans first last end bytes (take n part) before read)
    (omega (arith, much, length-append bytes (take n part), length-take-le n part fits))

-- so many bytes were read that this much of the most that may be read is left
abbrev pub IsLeft : Option (List ℕ) → Option (List ℕ) → ℕ → Type 0
IsLeft first last left = (read : List ℕ) × (length read + left ≡ 67108864) × Consumes first last read

-- a read of some of it leaves the rest
pub part_read : (first last end : Option (List ℕ)) (part : List ℕ) (left n rest : ℕ) → IsLeft first last left
    → Consumes last end (take n part) → n ≤ length part → rest + n ≡ left → IsLeft first end rest
part_read first last end part left n rest before read fits is = (
  before.0 ++ take n part,
  omega (arith, before.1, length-append before.0 (take n part), length-take-le n part fits, is),
  Consumes-trans first last end before.0 (take n part) before.2 read,
)

-- at the end no more was read than may be
pub few_read : (first last end : Option (List ℕ)) (part : List ℕ) (left n : ℕ) → IsLeft first last left
    → Consumes last end (take n part) → n ≡ 0 → IsAtEnd end → IfSome first (λ all. length all ≤ 67108864)
few_read first last end part left n before read none over =
    let all = before.0 ++ take n part in
    let same : all ≡ before.0 = rw none (append-nil before.0) in
    Consumes-whole first end all (λ xs. length xs ≤ 67108864)
    (Consumes-trans first last end before.0 (take n part) before.2 read) over (rw same (omega (arith, before.1)))
