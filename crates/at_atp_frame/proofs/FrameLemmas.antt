-- What is read is spelled so, what is spelled has no fault and is one packet, and what is written is spelled.
use Rattle.std.proofs.Common.{lit<, ◌≡◌, ℕ, ◌+◌, ◌*◌, ◌/◌, ◌%◌, ◌<◌, ◌≤◌, Bool, true, false, List}
use Rattle.std.proofs.Common.{[], ◌∷◌, ◌++◌, length, get_or, refl, sym, ap, ◌∙◌, arith}
use Rattle.std.proofs.lemmas.List.{length-append}
use Rattle.std.proofs.lemmas.List.Elements.{All-take, All-drop}
use Rattle.std.specs.Prelude.{◌==◌, bit_and}
use Rattle.std.proofs.lemmas.Nat.Bits.{and_high_mask}
use mir.Val.{bool_byte}
use Rattle.at_ddp.proofs.Octets.{InBytes, bytes_of, high_byte, low_byte}
use Rattle.at_ddp.proofs.BitLemmas.{bit-eqb, bit-lt}
use Rattle.at_ddp.specs.Bits.{bit}
use Rattle.at_atp_frame.specs.Frames.{Content, Request, Response, Release, AreParts}
use Rattle.at_atp_frame.specs.Frames.{packet, SpellsRequest, SpellsResponse, SpellsRelease, Spells}
use Rattle.at_atp_frame.specs.Reading.{request_of, response_of, tid_in}
use Rattle.at_atp_frame.specs.Fault.{Stands, function_of}
use Rattle.at_atp_frame.specs.declared.fault.AtpFault.{AtpFault}
use Rattle.at_atp_frame.specs.declared.fault.AtpFault.TheVariants.{ShortAtp, BadFunction, BadSequence, AtpTooLong, Full}
use Rattle.at_atp_frame.specs.declared.fault.AtpFault.TheVariants.{NoSuch, EmptyAnswer, StillPending, Gone, NoMemory}

-- a flag as the code makes a number of it
pub bool_bit : (b : Bool) → bool_byte b ≡ bit b
bool_bit true = refl
bool_bit false = refl

-- ---- masks of the control byte

-- the mask of the function, the two highest bits
pub function_bits : (n : ℕ) → n < 256 → bit_and n 192 ≡ n / 64 * 64
function_bits n h = and_high_mask 8 6 (omega arith) n h

-- ---- what is read is spelled so

-- the number, the user bytes and the data, as they stand
parts_in : (b0 b1 b2 b3 b4 b5 b6 b7 : ℕ) (more : List ℕ) → InBytes (b0 ∷ b1 ∷ b2 ∷ b3 ∷ b4 ∷ b5 ∷ b6 ∷ b7 ∷ more)
    → length more ≤ 578 → AreParts (256 * b2 + b3) (b4 ∷ b5 ∷ b6 ∷ b7 ∷ []) more
parts_in b0 b1 b2 b3 b4 b5 b6 b7 more fits len =
    let all : List ℕ = b0 ∷ b1 ∷ b2 ∷ b3 ∷ b4 ∷ b5 ∷ b6 ∷ b7 ∷ more in
    let are_bytes = bytes_of all fits in
    record {
      tid_fits = omega (arith, fits 2, fits 3);
      four = refl;
      user_bytes = All-take (λ b. b < 256) 4 (b4 ∷ b5 ∷ b6 ∷ b7 ∷ more) (All-drop (λ b. b < 256) 4 all are_bytes);
      data_bytes = All-drop (λ b. b < 256) 8 all are_bytes;
      data_fits = len;
    }

tid_back : (b0 b1 b2 b3 : ℕ) (more : List ℕ) → b2 < 256 → b3 < 256 → packet b0 b1 (256 * b2 + b3) more
    ≡ b0 ∷ b1 ∷ b2 ∷ b3 ∷ more
tid_back b0 b1 b2 b3 more h2 h3 = rw (high_byte b2 b3 h2 h3, low_byte b2 b3 h3) refl

pub request_is_spelled : (input : List ℕ) → InBytes input → 8 ≤ length input → length input ≤ 8 + 578
    → function_of input ≡ 1 → Spells input (request_of input)
request_is_spelled (b0 ∷ b1 ∷ b2 ∷ b3 ∷ b4 ∷ b5 ∷ b6 ∷ b7 ∷ more) fits long short is =
    let control : 64 + 32 * bit (b0 / 32 % 2 == 1) + 8 * (b0 / 8 % 4) + b0 % 8
    ≡ b0 = omega (arith, bit-eqb (b0 / 32 % 2) (omega arith)) in
    record {
      mask_fits = fits 1;
      parts = parts_in b0 b1 b2 b3 b4 b5 b6 b7 more fits (omega arith);
      free = b0 / 8 % 4;
      in_two_bits = omega arith;
      low = b0 % 8;
      in_three_bits = omega arith;
      is_timer = refl;
      fields = sym (ap (λ c. packet c b1 (256 * b2 + b3) (b4 ∷ b5 ∷ b6 ∷ b7 ∷ more)) control
          ∙ tid_back b0 b1 b2 b3 (b4 ∷ b5 ∷ b6 ∷ b7 ∷ more) (fits 2) (fits 3));
    }
request_is_spelled _ fits long short is = absurd (omega arith)

pub response_is_spelled : (input : List ℕ) → InBytes input → 8 ≤ length input → length input ≤ 8 + 578
    → function_of input ≡ 2 → get_or input 1 0 ≤ 7 → Spells input (response_of input)
response_is_spelled (b0 ∷ b1 ∷ b2 ∷ b3 ∷ b4 ∷ b5 ∷ b6 ∷ b7 ∷ more) fits long short is place =
    let control : 128 + 32 * (b0 / 32 % 2) + 16 * bit (b0 / 16 % 2 == 1) + 8 * bit (b0 / 8 % 2 == 1) + b0 % 8 ≡ b0 =
    omega (arith, bit-eqb (b0 / 16 % 2) (omega arith), bit-eqb (b0 / 8 % 2) (omega arith)) in
    record {
      place_fits = place;
      parts = parts_in b0 b1 b2 b3 b4 b5 b6 b7 more fits (omega arith);
      free = b0 / 32 % 2;
      in_one_bit = omega arith;
      low = b0 % 8;
      in_three_bits = omega arith;
      fields = sym (ap (λ c. packet c b1 (256 * b2 + b3) (b4 ∷ b5 ∷ b6 ∷ b7 ∷ more)) control
          ∙ tid_back b0 b1 b2 b3 (b4 ∷ b5 ∷ b6 ∷ b7 ∷ more) (fits 2) (fits 3));
    }
response_is_spelled _ fits long short is place = absurd (omega arith)

pub release_is_spelled : (input : List ℕ) → InBytes input → 8 ≤ length input → length input ≤ 8 + 578
    → function_of input ≡ 3 → Spells input (Release (tid_in input))
release_is_spelled (b0 ∷ b1 ∷ b2 ∷ b3 ∷ more) fits long short is = record {
  tid_fits = omega (arith, fits 2, fits 3);
  free = b0 % 64;
  in_six_bits = omega arith;
  second = b1;
  is_byte = fits 1;
  rest = more;
  rest_bytes = All-drop (λ b. b < 256) 4 (b0 ∷ b1 ∷ b2 ∷ b3 ∷ more) (bytes_of (b0 ∷ b1 ∷ b2 ∷ b3 ∷ more) fits);
  whole_header = omega arith;
  rest_fits = omega arith;
  fields =
      let control : 192 + b0 % 64 ≡ b0 = omega arith in
      sym (ap (λ c. packet c b1 (256 * b2 + b3) more) control ∙ tid_back b0 b1 b2 b3 more (fits 2) (fits 3));
}
release_is_spelled _ fits long short is = absurd (omega arith)

-- ---- what is spelled has no fault

-- the fields of a packet's bytes that the faults look at
pub record Shows (input : List ℕ) (function second len : ℕ) : Type 0 where
  pub control : function_of input ≡ function
  pub at_one : get_or input 1 0 ≡ second
  pub size : length input ≡ 4 + len

shows : (input : List ℕ) (control second tid : ℕ) (rest : List ℕ) (function : ℕ) → input
    ≡ packet control second tid rest → control / 64 ≡ function → Shows input function second (length rest)
shows input control second tid rest function is c = rw is (record { control = c; at_one = refl; size = omega arith })

no_fault_shown : (input : List ℕ) (function second len : ℕ) → Shows input function second len → 4 ≤ len → len ≤ 582
    → 0 < function → (function ≡ 2 → second ≤ 7) → (fault : AtpFault) → Stands fault input → ⊥
no_fault_shown input function second len s long short some place ShortAtp h = omega (arith, s.size)
no_fault_shown input function second len s long short some place BadFunction h = omega (arith, s.control)
no_fault_shown input function second len s long short some place BadSequence h =
    let low = place (sym s.control ∙ h.0) in omega (arith, s.at_one, h.1)
no_fault_shown input function second len s long short some place AtpTooLong h = omega (arith, s.size)
no_fault_shown input function second len s long short some place Full h = h
no_fault_shown input function second len s long short some place NoSuch h = h
no_fault_shown input function second len s long short some place EmptyAnswer h = h
no_fault_shown input function second len s long short some place StillPending h = h
no_fault_shown input function second len s long short some place Gone h = h
no_fault_shown input function second len s long short some place NoMemory h = h

request_control : (xo : Bool) (free low : ℕ) → free < 4 → low < 8 → (64 + 32 * bit xo + 8 * free + low) / 64 ≡ 1
request_control xo free low f l = omega (arith, bit-lt xo)

response_control : (free : ℕ) (eom sts : Bool) (low : ℕ) → free < 2 → low < 8
    → (128 + 32 * free + 16 * bit eom + 8 * bit sts + low) / 64 ≡ 2
response_control free eom sts low f l = omega (arith, bit-lt eom, bit-lt sts)

pub apart12 : ◌≡◌ {A = ℕ} 1 2 → ⊥
apart12 e = omega arith

pub apart13 : ◌≡◌ {A = ℕ} 1 3 → ⊥
apart13 e = omega arith

pub apart23 : ◌≡◌ {A = ℕ} 2 3 → ⊥
apart23 e = omega arith

pub shows_request : (input : List ℕ) (mask : ℕ) (xo : Bool) (timer tid : ℕ) (user bytes : List ℕ)
    → SpellsRequest input mask xo timer tid user bytes → Shows input 1 mask (length (user ++ bytes))
shows_request input mask xo timer tid user bytes s =
    shows input _ mask tid (user ++ bytes) 1 s.fields (request_control xo s.free s.low s.in_two_bits s.in_three_bits)

pub shows_response : (input : List ℕ) (place : ℕ) (eom sts : Bool) (tid : ℕ) (user bytes : List ℕ)
    → SpellsResponse input place eom sts tid user bytes → Shows input 2 place (length (user ++ bytes))
shows_response input place eom sts tid user bytes s = shows input _ place tid (user ++ bytes) 2 s.fields
    (response_control s.free eom sts s.low s.in_one_bit s.in_three_bits)

pub shows_release : (input : List ℕ) (tid : ℕ) (s : SpellsRelease input tid) → Shows input 3 s.second (length s.rest)
shows_release input tid s = shows input _ s.second tid s.rest 3 s.fields (let six = s.in_six_bits in omega arith)

pub no_fault : (input : List ℕ) (f : Content) → Spells input f → (fault : AtpFault) → ¬ Stands fault input
no_fault input (Request mask xo timer tid user bytes) s fault h =
    let both = length-append user bytes in
    let four = s.parts.four in
    let fits = s.parts.data_fits in
    no_fault_shown input 1 mask (length (user ++ bytes)) (shows_request input mask xo timer tid user bytes s)
    (omega arith) (omega arith) (lit< tt) (λ e. absurd (apart12 e)) fault h
no_fault input (Response place eom sts tid user bytes) s fault h =
    let both = length-append user bytes in
    let four = s.parts.four in
    let fits = s.parts.data_fits in
    no_fault_shown input 2 place (length (user ++ bytes)) (shows_response input place eom sts tid user bytes s)
    (omega arith) (omega arith) (lit< tt) (λ _. s.place_fits) fault h
no_fault input (Release tid) s fault h =
    no_fault_shown input 3 s.second (length s.rest) (shows_release input tid s) s.whole_header s.rest_fits (lit< tt)
    (λ e. absurd (apart23 (sym e))) fault h
