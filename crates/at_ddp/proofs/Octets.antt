-- Bytes, 16-bit numbers, parts of lists, and addresses: lemmas for every crate.
use Rattle.std.proofs.Common.{◌≡◌, ℕ, ◌+◌, ◌-◌, ◌*◌, ◌/◌, ◌%◌, ◌^◌, ◌<◌, List, [], ◌∷◌, ◌++◌, length, get_or, take}
use Rattle.std.proofs.Common.{drop, true, refl, ap, ◌∙◌, arith}
use Rattle.std.specs.List.{All}
use Rattle.std.proofs.lemmas.List.{get_or-drop, take_rest}
use Rattle.std.proofs.lemmas.List.Elements.{All-from_get_or}
use Rattle.std.proofs.Math.Nat.{add-zero}
use Rattle.byteorder.specs.Endian.{big_number}
use Rattle.std.specs.Prelude.{◌==◌, ◌&&◌}
use Rattle.std.proofs.lemmas.Bool.{and_parts, eq-eqb, eqb-true}
use Rattle.at_ddp.specs.Address.{same_address}
use Rattle.at_ddp.specs.declared.address.Address.{Address}

-- each is a byte, also past the end
abbrev pub InBytes : List ℕ → Type 0
InBytes bytes = (i : ℕ) → get_or bytes i 0 < 256

pub high_byte : (a b : ℕ) → a < 256 → b < 256 → (256 * a + b) / 256 % 256 ≡ a
high_byte a b ha hb = omega arith

pub low_byte : (a b : ℕ) → b < 256 → (256 * a + b) % 256 ≡ b
low_byte a b hb = omega arith

-- two 16-bit numbers with the same bytes are equal
pub same_number : (m n : ℕ) → m < 2 ^ 16 → n < 2 ^ 16 → m / 256 % 256 ≡ n / 256 % 256 → m % 256 ≡ n % 256 → m ≡ n
same_number m n hm hn high low = omega arith

pub head_of : {X : Type 0} (a b : X) (xs ys : List X) → a ∷ xs ≡ b ∷ ys → a ≡ b
head_of a b xs ys e = cc

pub tail_of : {X : Type 0} (a b : X) (xs ys : List X) → a ∷ xs ≡ b ∷ ys → xs ≡ ys
tail_of a b xs ys e = cc

-- if two lists are equal and their first parts have the same length, the parts are equal
pub append_parts : (a b x y : List ℕ) → length a ≡ length b → a ++ x ≡ b ++ y → (a ≡ b) × (x ≡ y)
append_parts [] [] x y len e = (refl, e)
append_parts [] (n ∷ ns) x y len e = absurd (omega arith)
append_parts (m ∷ ms) [] x y len e = absurd (omega arith)
append_parts (m ∷ ms) (n ∷ ns) x y len e =
    let head = head_of m n (ms ++ x) (ns ++ y) e in
    let tails = append_parts ms ns x y (omega arith) (tail_of m n (ms ++ x) (ns ++ y) e) in
    let front : ms ≡ ns = tails.0 in
    (cc, tails.1)

-- the number that `read_u16` returns at a place
pub number_in : (i : ℕ) (input : List ℕ) (n : ℕ) → n ≡ big_number 2 (take (length input - i) (drop i input)) → n
    ≡ 256 * get_or input i 0 + get_or input (i + 1) 0
number_in i input n e =
    let first : get_or (drop i input) 0 0 ≡ get_or input i 0 = rw (get_or-drop i input 0 0, add-zero i) refl in
    let second : get_or (drop i input) 1 0 ≡ get_or input (i + 1) 0 = get_or-drop i input 1 0 in
    let whole : n ≡ big_number 2 (drop i input) = e ∙ ap (big_number 2) (take_rest input i) in
    omega arith

-- a list of bytes
pub bytes_of : (bytes : List ℕ) → InBytes bytes → All (λ b. b < 256) bytes
bytes_of bytes fits = All-from_get_or (λ b. b < 256) bytes 0 (λ i _. fits i)

-- addresses for which the test is true are equal
pub same_address-true : (a b : Address) → same_address a b ≡ true → a ≡ b
same_address-true a b h =
    let outer = and_parts ((a.net == b.net) && (a.node == b.node)) (a.socket == b.socket) h in
    let inner = and_parts (a.net == b.net) (a.node == b.node) outer.0 in
    λ i. record {
      net = eqb-true a.net b.net inner.0 i;
      node = eqb-true a.node b.node inner.1 i;
      socket = eqb-true a.socket b.socket outer.1 i;
    }

-- a number of an address: both are the same
pub same_both : (a b : Address) (m n : ℕ) → (same_address a b && (m == n)) ≡ true → (a ≡ b) × (m ≡ n)
same_both a b m n h = let both = and_parts (same_address a b) (m == n) h in
    (same_address-true a b both.0, eqb-true m n both.1)

pub same_address_itself : (a : Address) → same_address a a ≡ true
same_address_itself a = rw (eq-eqb a.net a.net refl, eq-eqb a.node a.node refl, eq-eqb a.socket a.socket refl) refl
