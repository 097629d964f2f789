-- Datagrams with the short header, read and at fault.
use Rattle.std.proofs.Common.{◌≡◌, inl, inr, ℕ, ◌+◌, ◌-◌, ◌*◌, ◌/◌, ◌%◌, ◌<◌, ◌≤◌, List, [], ◌∷◌, ◌++◌}
use Rattle.std.proofs.Common.{length}
use Rattle.std.proofs.Common.{get_or, take, drop, Bor, Result, Ok, Err, refl, sym, ap, subst, ◌∙◌, arith}
use Rattle.std.specs.Prelude.{IfErr, IfOk, IsOkAnd}
use Rattle.std.proofs.lemmas.List.{length-append, length-take, take-append-drop}
use Rattle.std.proofs.lemmas.List.Elements.{All-drop, All-take}
use Rattle.std.proofs.Math.Seq.{drop-append-add}
use Rattle.at_ddp.specs.Datagram.{Content, content}
use Rattle.at_ddp.specs.Fault.{stated_length}
use Rattle.at_ddp.specs.declared.datagram.Datagram.{Datagram}
use Rattle.at_ddp.proofs.Octets.{InBytes, append_parts, bytes_of, high_byte, low_byte, same_number}
use Rattle.at_frames.specs.Short.{BeginsWithShort, short_content, short_header}
use Rattle.at_frames.specs.ShortFaults.{IsFirstFault, Stands}
use Rattle.at_frames.specs.declared.short_fault.ShortFault.{ShortFault}
use Rattle.at_frames.specs.declared.short_fault.ShortFault.TheVariants.{Short, BadLength, Truncated}

-- the fields of an input of a stated length, between these nodes
abbrev pub fields_of : ℕ → ℕ → List ℕ → Content
fields_of to from input =
    short_content to from (get_or input 2 0) (get_or input 3 0) (get_or input 4 0)
    (take (stated_length input - 5) (drop 5 input))

begins : (to from b0 b1 b2 b3 b4 : ℕ) (more : List ℕ) (len : ℕ) → InBytes (b0 ∷ b1 ∷ b2 ∷ b3 ∷ b4 ∷ more) → len ≤ 586
    → len ≤ length more → len + 5 ≡ (256 * b0 + b1) % 1024
    → BeginsWithShort to from (b0 ∷ b1 ∷ b2 ∷ b3 ∷ b4 ∷ more) (short_content to from b2 b3 b4 (take len more))
    (drop len more)
begins to from b0 b1 b2 b3 b4 more len fits few enough is =
    let all : List ℕ = b0 ∷ b1 ∷ b2 ∷ b3 ∷ b4 ∷ more in
    let word : (256 * b0 + b1) / 1024 * 1024 + (5 + length (take len more)) ≡ 256 * b0 + b1 =
    omega (arith, length-take len more, fits 0, fits 1) in
    record {
      upper = (256 * b0 + b1) / 1024;
      to_socket = b2;
      from_socket = b3;
      kind = b4;
      bytes = take len more;
      is = refl;
      upper_fits = omega (arith, fits 0, fits 1);
      to_fits = fits 2;
      from_fits = fits 3;
      kind_fits = fits 4;
      bytes_fit = All-take (λ b. b < 256) len more (All-drop (λ b. b < 256) 5 all (bytes_of all fits));
      few = omega (arith, length-take len more);
      parts = sym (rw (
        word,
        high_byte b0 b1 (fits 0) (fits 1),
        low_byte b0 b1 (fits 1),
        take-append-drop len more,
      ) refl);
    }

-- what is read is there
pub is_there : (to from : ℕ) (input : List ℕ) → InBytes input → 5 ≤ length input → 5 ≤ stated_length input
    → stated_length input ≤ 591 → stated_length input ≤ length input
    → BeginsWithShort to from input (fields_of to from input) (drop (stated_length input) input)
is_there to from (b0 ∷ b1 ∷ b2 ∷ b3 ∷ b4 ∷ more) fits long low high enough =
    let len : ℕ = (256 * b0 + b1) % 1024 - 5 in
    let is : (256 * b0 + b1) % 1024 ≡ 5 + len = omega arith in
    let rest : drop ((256 * b0 + b1) % 1024) (b0 ∷ b1 ∷ b2 ∷ b3 ∷ b4 ∷ more) ≡ drop len more =
    ap (λ n. drop n (b0 ∷ b1 ∷ b2 ∷ b3 ∷ b4 ∷ more)) is
    ∙ drop-append-add (b0 ∷ b1 ∷ b2 ∷ b3 ∷ b4 ∷ []) more len in
    rw rest (begins to from b0 b1 b2 b3 b4 more len fits (omega arith) (omega arith) (omega arith))
is_there to from _ fits long low high enough = absurd (omega arith)

-- one datagram is there
pub one_reading : (to from : ℕ) (input : List ℕ) (d e : Content) (x y : List ℕ) → BeginsWithShort to from input d x
    → BeginsWithShort to from input e y → (d ≡ e) × (x ≡ y)
one_reading to from input d e x y p q =
    let same = sym p.parts ∙ q.parts in
    let at : (i : ℕ) → get_or (short_header p.upper (length p.bytes) p.to_socket p.from_socket p.kind ++ (p.bytes
    ++ x)) i 0
    ≡ get_or (short_header q.upper (length q.bytes) q.to_socket q.from_socket q.kind ++ (q.bytes ++ y)) i 0 =
    λ i. ap (λ (l : List ℕ). get_or l i 0) same in
    let upper = p.upper_fits in
    let upper' = q.upper_fits in
    let few = p.few in
    let few' = q.few in
    let word = same_number (p.upper * 1024 + (5 + length p.bytes)) (q.upper * 1024 + (5 + length q.bytes))
    (omega arith) (omega arith) (at 0) (at 1) in
    let len : length p.bytes ≡ length q.bytes = omega (arith, word) in
    let to_socket : p.to_socket ≡ q.to_socket = at 2 in
    let from_socket : p.from_socket ≡ q.from_socket = at 3 in
    let kind : p.kind ≡ q.kind = at 4 in
    let ends : (p.bytes ≡ q.bytes) × (x ≡ y) = append_parts p.bytes q.bytes x y len (ap (drop 5) same) in (
      p.is ∙ (λ i. short_content to from (to_socket i) (from_socket i) (kind i) (ends.0 i)) ∙ sym q.is,
      ends.1,
    )

stated_in : (upper to from kind : ℕ) (bytes rest : List ℕ) → upper < 64 → length bytes ≤ 586
    → stated_length (short_header upper (length bytes) to from kind ++ (bytes ++ rest)) ≡ 5 + length bytes
stated_in upper to from kind bytes rest fits few = omega arith

length_in : (upper to from kind : ℕ) (bytes rest : List ℕ)
    → length (short_header upper (length bytes) to from kind ++ (bytes ++ rest)) ≡ 5 + length bytes + length rest
length_in upper to from kind bytes rest = omega (arith, length-append bytes rest)

no_fault_in : (upper to from kind : ℕ) (bytes rest : List ℕ) → upper < 64 → length bytes ≤ 586 → (fault : ShortFault)
    → Stands fault (short_header upper (length bytes) to from kind ++ (bytes ++ rest)) → ⊥
no_fault_in upper to from kind bytes rest fits few Short h =
    omega (arith, length_in upper to from kind bytes rest)
no_fault_in upper to from kind bytes rest fits few BadLength (inl low) =
    omega (arith, stated_in upper to from kind bytes rest fits few)
no_fault_in upper to from kind bytes rest fits few BadLength (inr high) =
    omega (arith, stated_in upper to from kind bytes rest fits few)
no_fault_in upper to from kind bytes rest fits few Truncated h =
    omega (arith, stated_in upper to from kind bytes rest fits few, length_in upper to from kind bytes rest)

-- what is there has no fault
pub no_fault : (to from : ℕ) (input : List ℕ) (d : Content) (rest : List ℕ) → BeginsWithShort to from input d rest
    → (fault : ShortFault) → Stands fault input → ⊥
no_fault to from input d rest p fault h =
    no_fault_in p.upper p.to_socket p.from_socket p.kind p.bytes rest p.upper_fits p.few fault
    (subst (Stands fault) p.parts h)

-- what is there is not refused, and is not another datagram
pub only_that : (to from : ℕ) (input : List ℕ) (r : Result (Datagram × Bor (List ℕ)) ShortFault)
    → IfOk r (λ x. BeginsWithShort to from input (content x.0) x.1.now) → IfErr r (λ fault. IsFirstFault fault input)
    → (d : Content) (rest : List ℕ) → BeginsWithShort to from input d rest
    → IsOkAnd r (λ x. (content x.0 ≡ d) × (x.1.now ≡ rest))
only_that to from input (Ok x) found fault d rest begins =
    one_reading to from input (content x.0) d x.1.now rest found begins
only_that to from input (Err e) found fault d rest begins =
    absurd (no_fault to from input d rest begins e fault.stands)
