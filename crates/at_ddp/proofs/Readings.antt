-- What is read is spelled so, and nothing that is spelled is refused.
use Rattle.std.proofs.Common.{◌≡◌, ◌⊎◌, inl, inr, ℕ, ◌+◌, ◌-◌, ◌*◌, ◌/◌, ◌%◌, ◌^◌, ◌<◌, ◌≤◌, List, [], ◌∷◌, ◌++◌}
use Rattle.std.proofs.Common.{length, get_or, take, drop, refl, sym, ap, subst, ◌∙◌, arith}
use Rattle.std.proofs.lemmas.List.{take-append-drop, length-append, length-take}
use Rattle.std.proofs.lemmas.List.Elements.{All-take, All-drop}
use Rattle.std.proofs.Math.Seq.{drop-append-add, take-append-add, take-append_seam}
use Rattle.std.specs.Prelude.{slice_range}
use Rattle.at_ddp.specs.Sum.{sum_of}
use Rattle.at_ddp.specs.Datagram.{Content, AreBytes, after_sum, spelling, IsLawful, HasRightSum, BeginsWith}
use Rattle.at_ddp.specs.Fault.{number_at, stated_length, Stands}
use Rattle.at_ddp.specs.declared.fault.DdpFault.{DdpFault}
use Rattle.at_ddp.specs.declared.fault.DdpFault.TheVariants.{Short, BadLength, Truncated, BadSum, TooLong, NoMemory}
use Rattle.at_ddp.proofs.Octets.{InBytes, bytes_of, high_byte, low_byte}

-- ---- what is read is spelled so

-- the header and the data, spelled again
read_back : (b0 b1 b2 b3 b4 b5 b6 b7 b8 b9 b10 b11 b12 : ℕ) (more : List ℕ) (len : ℕ)
    → InBytes (b0 ∷ b1 ∷ b2 ∷ b3 ∷ b4 ∷ b5 ∷ b6 ∷ b7 ∷ b8 ∷ b9 ∷ b10 ∷ b11 ∷ b12 ∷ more) →
    len ≤ length more → len + 13 ≡ (256 * b0 + b1) % 1024 →
    spelling ((256 * b0 + b1) / 2 ^ 14)
    (record {
      hops = (256 * b0 + b1) / 1024 % 16;
      sum = 256 * b2 + b3;
      to = record { net = 256 * b4 + b5; node = b8; socket = b10 };
      from = record { net = 256 * b6 + b7; node = b9; socket = b11 };
      kind = b12;
      data_ = take len more;
    })
    ++ drop len more
    ≡ b0 ∷ b1 ∷ b2 ∷ b3 ∷ b4 ∷ b5 ∷ b6 ∷ b7 ∷ b8 ∷ b9 ∷ b10 ∷ b11 ∷ b12 ∷ more
unfolding spelling
read_back b0 b1 b2 b3 b4 b5 b6 b7 b8 b9 b10 b11 b12 more len fits enough is =
    let word : (256 * b0 + b1) / 2 ^ 14 * 2 ^ 14 + (256 * b0 + b1) / 1024 % 16 * 2 ^ 10 + (13 + length (take len more))
    ≡ 256 * b0 + b1 = omega (arith, length-take len more, fits 0, fits 1) in
    rw (
      word,
      high_byte b0 b1 (fits 0) (fits 1),
      low_byte b0 b1 (fits 1),
      high_byte b2 b3 (fits 2) (fits 3),
      low_byte b2 b3 (fits 3),
      high_byte b4 b5 (fits 4) (fits 5),
      low_byte b4 b5 (fits 5),
      high_byte b6 b7 (fits 6) (fits 7),
      low_byte b6 b7 (fits 7),
      take-append-drop len more,
    ) refl

-- the fields of an input of a stated length
abbrev pub fields_of : List ℕ → Content
fields_of input = record {
  hops = number_at 0 input / 1024 % 16;
  sum = number_at 2 input;
  to = record { net = number_at 4 input; node = get_or input 8 0; socket = get_or input 10 0 };
  from = record { net = number_at 6 input; node = get_or input 9 0; socket = get_or input 11 0 };
  kind = get_or input 12 0;
  data_ = take (stated_length input - 13) (drop 13 input);
}

begins : (b0 b1 b2 b3 b4 b5 b6 b7 b8 b9 b10 b11 b12 : ℕ) (more : List ℕ) (len : ℕ) →
    InBytes (b0 ∷ b1 ∷ b2 ∷ b3 ∷ b4 ∷ b5 ∷ b6 ∷ b7 ∷ b8 ∷ b9 ∷ b10 ∷ b11 ∷ b12 ∷ more) → len ≤ 586 → len ≤ length more
    → len + 13 ≡ (256 * b0 + b1) % 1024 →
    (256 * b2 + b3 ≡ 0) ⊎ (256 * b2 + b3
    ≡ sum_of (take (9 + len) (b4 ∷ b5 ∷ b6 ∷ b7 ∷ b8 ∷ b9 ∷ b10 ∷ b11 ∷ b12 ∷ more))) →
    BeginsWith (b0 ∷ b1 ∷ b2 ∷ b3 ∷ b4 ∷ b5 ∷ b6 ∷ b7 ∷ b8 ∷ b9 ∷ b10 ∷ b11 ∷ b12 ∷ more)
    (record {
      hops = (256 * b0 + b1) / 1024 % 16;
      sum = 256 * b2 + b3;
      to = record { net = 256 * b4 + b5; node = b8; socket = b10 };
      from = record { net = 256 * b6 + b7; node = b9; socket = b11 };
      kind = b12;
      data_ = take len more;
    })
    (drop len more)
begins b0 b1 b2 b3 b4 b5 b6 b7 b8 b9 b10 b11 b12 more len fits small enough is summed =
    let d : Content = record {
      hops = (256 * b0 + b1) / 1024 % 16;
      sum = 256 * b2 + b3;
      to = record { net = 256 * b4 + b5; node = b8; socket = b10 };
      from = record { net = 256 * b6 + b7; node = b9; socket = b11 };
      kind = b12;
      data_ = take len more;
    } in
    let all : List ℕ = b0 ∷ b1 ∷ b2 ∷ b3 ∷ b4 ∷ b5 ∷ b6 ∷ b7 ∷ b8 ∷ b9 ∷ b10 ∷ b11 ∷ b12 ∷ more in
    let are_bytes : AreBytes (take len more) =
    All-take (λ b. b < 256) len more (All-drop (λ b. b < 256) 13 all (bytes_of all fits)) in
    let cells = take-append-add (b4 ∷ b5 ∷ b6 ∷ b7 ∷ b8 ∷ b9 ∷ b10 ∷ b11 ∷ b12 ∷ []) more len in
    let rest : b4 ∷ b5 ∷ b6 ∷ b7 ∷ b8 ∷ b9 ∷ b10 ∷ b11 ∷ b12 ∷ take len more
    ≡ after_sum d = sym (rw (
      high_byte b4 b5 (fits 4) (fits 5),
      low_byte b4 b5 (fits 5),
      high_byte b6 b7 (fits 6)
          (fits 7),
      low_byte b6 b7 (fits 7),
    ) refl) in
    record {
      bytes = spelling ((256 * b0 + b1) / 2 ^ 14) d;
      spelled = record {
        lawful = record {
          hops = omega arith;
          sum = omega (arith, fits 2, fits 3);
          to = record { net = omega (arith, fits 4, fits 5); node = fits 8; socket = fits 10 };
          from = record { net = omega (arith, fits 6, fits 7); node = fits 9; socket = fits 11 };
          kind = fits 12;
          bytes = are_bytes;
          len = omega (arith, length-take len more);
        };
        free = (256 * b0 + b1) / 2 ^ 14;
        in_two_bits = omega (arith, fits 0, fits 1);
        fields = refl;
      };
      summed = elim summed [ inl none ↦ inl none | inr right ↦ inr (right ∙ ap sum_of (cells ∙ rest)) ];
      follows = sym (read_back b0 b1 b2 b3 b4 b5 b6 b7 b8 b9 b10 b11 b12 more len fits enough is);
    }

pub is_spelled : (input : List ℕ) → InBytes input → 13 ≤ length input → 13 ≤ stated_length input
    → stated_length input ≤ 599 → stated_length input ≤ length input →
    (number_at 2 input ≡ 0) ⊎ (number_at 2 input ≡ sum_of (slice_range input 4 (stated_length input)))
    → BeginsWith input (fields_of input) (drop (stated_length input) input)
is_spelled (b0 ∷ b1 ∷ b2 ∷ b3 ∷ b4 ∷ b5 ∷ b6 ∷ b7 ∷ b8 ∷ b9 ∷ b10 ∷ b11 ∷ b12 ∷ more) fits long low high enough summed =
    let len : ℕ = (256 * b0 + b1) % 1024 - 13 in
    let is : (256 * b0 + b1) % 1024 ≡ 13 + len = omega arith in
    let cut : (256 * b0 + b1) % 1024 - 4 ≡ 9 + len = omega arith in
    let rest : drop ((256 * b0 + b1) % 1024) (b0 ∷ b1 ∷ b2 ∷ b3 ∷ b4 ∷ b5 ∷ b6 ∷ b7 ∷ b8 ∷ b9 ∷ b10 ∷ b11 ∷ b12 ∷ more)
    ≡ drop len more =
    ap (λ n. drop n (b0 ∷ b1 ∷ b2 ∷ b3 ∷ b4 ∷ b5 ∷ b6 ∷ b7 ∷ b8 ∷ b9 ∷ b10 ∷ b11 ∷ b12 ∷ more)) is
    ∙ drop-append-add (b0 ∷ b1 ∷ b2 ∷ b3 ∷ b4 ∷ b5 ∷ b6 ∷ b7 ∷ b8 ∷ b9 ∷ b10 ∷ b11 ∷ b12 ∷ []) more len in
    rw rest (begins b0 b1 b2 b3 b4 b5 b6 b7 b8 b9 b10 b11 b12 more len fits (omega arith) (omega arith) (omega arith)
    (rw cut at summed))
is_spelled _ fits long low high enough summed = absurd (omega arith)

-- ---- what is spelled has no fault

stated_in : (free : ℕ) (d : Content) (rest : List ℕ) → free < 4 → IsLawful d → stated_length (spelling free d ++ rest)
    ≡ 13 + length d.data_
unfolding spelling
stated_in free d rest f ok = let hops = ok.hops in let len = ok.len in omega arith

sum_in : (free : ℕ) (d : Content) (rest : List ℕ) → IsLawful d → number_at 2 (spelling free d ++ rest) ≡ d.sum
unfolding spelling
sum_in free d rest ok = let sum = ok.sum in omega arith

after_sum_in : (free : ℕ) (d : Content) (rest : List ℕ) → slice_range (spelling free d ++ rest) 4 (13 + length d.data_)
    ≡ after_sum d
unfolding spelling
after_sum_in free d rest =
    let len : 13 + length d.data_ - 4 ≡ length (after_sum d) = omega arith in
    ap (λ n. take n (after_sum d ++ rest)) len ∙ take-append_seam (after_sum d) rest

length_in : (free : ℕ) (d : Content) (rest : List ℕ) → length (spelling free d ++ rest)
    ≡ 13 + length d.data_ + length rest
unfolding spelling
length_in free d rest = omega (arith, length-append d.data_ rest)

no_fault_in : (free : ℕ) (d : Content) (rest : List ℕ) → free < 4 → IsLawful d → HasRightSum d → (fault : DdpFault)
    → Stands fault (spelling free d ++ rest) → ⊥
no_fault_in free d rest f ok summed Short h = omega (arith, length_in free d rest)
no_fault_in free d rest f ok summed BadLength h =
    let len = ok.len in elim
    h [ inl low ↦ omega (arith, stated_in free d rest f ok) | inr high ↦ omega (arith, stated_in free d rest f ok) ]
no_fault_in free d rest f ok summed Truncated h = omega (arith, length_in free d rest, stated_in free d rest f ok)
no_fault_in free d rest f ok summed BadSum h =
    elim summed [
      | inl none ↦ h.0 (sum_in free d rest ok ∙ none)
      | inr right ↦ h.1 (sum_in free d rest ok ∙ right
          ∙ ap sum_of (sym (ap (slice_range (spelling free d ++ rest) 4) (stated_in free d rest f ok)
          ∙ after_sum_in free d rest)))
    ]
no_fault_in free d rest f ok summed TooLong h = h
no_fault_in free d rest f ok summed NoMemory h = h

pub no_fault : (input : List ℕ) (d : Content) (rest : List ℕ) → BeginsWith input d rest → (fault : DdpFault)
    → ¬ Stands fault input
no_fault input d rest p fault h =
    let whole : input ≡ spelling p.spelled.free d ++ rest = p.follows ∙ ap (λ b. b ++ rest) p.spelled.fields in
    no_fault_in p.spelled.free d rest p.spelled.in_two_bits p.spelled.lawful p.summed fault
    (subst (Stands fault) whole h)
