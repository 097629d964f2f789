-- No bytes spell two packets, and what is written is spelled and fits a datagram.
use Rattle.std.proofs.Common.{lit<, lit≤, ◌≡◌, ℕ, ◌+◌, ◌*◌, ◌/◌, ◌%◌, ◌^◌, ◌<◌, ◌≤◌, Bool, true, false, List}
use Rattle.std.proofs.Common.{[], ◌∷◌, ◌++◌, length, get_or, drop, refl, sym, ap, ◌∙◌, arith}
use Rattle.std.proofs.lemmas.List.{length-append}
use Rattle.std.proofs.lemmas.List.Elements.{All-replicate, All-cons, All-append}
use Rattle.std.proofs.lemmas.Bool.Decides.{nat_tests}
use Rattle.at_ddp.specs.Datagram.{AreBytes}
use Rattle.at_ddp.proofs.Octets.{same_number, append_parts}
use Rattle.at_ddp.proofs.BitLemmas.{bit-lt, bit_inj}
use Rattle.at_ddp.specs.Bits.{bit}
use Rattle.at_atp_frame.specs.Frames.{Content, Request, Response, Release, read_timer, IsTimer, IsLawful}
use Rattle.at_atp_frame.specs.Frames.{packet, Spells, spelled}
use Rattle.at_atp_frame.proofs.FrameLemmas.{Shows, apart12, apart13, apart23, shows_request, shows_response}
use Rattle.at_atp_frame.proofs.FrameLemmas.{shows_release}

same_packet : (c s tid : ℕ) (rest : List ℕ) (c' s' tid' : ℕ) (rest' : List ℕ) → tid < 2 ^ 16 → tid' < 2 ^ 16
    → packet c s tid rest ≡ packet c' s' tid' rest' → (c ≡ c') × (s ≡ s') × (tid ≡ tid') × (rest ≡ rest')
same_packet c s tid rest c' s' tid' rest' h h' e =
    let at : (i : ℕ) → get_or (packet c s tid rest) i 0
    ≡ get_or (packet c' s' tid' rest') i 0 = λ i. ap (λ (l : List ℕ). get_or l i 0) e in
    (at 0, at 1, same_number tid tid' h h' (at 2) (at 3), ap (drop 4) e)

same_request : (x x' f f' l l' : ℕ) → x < 2 → x' < 2 → f < 4 → f' < 4 → l < 8 → l' < 8 → 64 + 32 * x + 8 * f + l
    ≡ 64 + 32 * x' + 8 * f' + l' → (x ≡ x') × (l ≡ l')
same_request x x' f f' l l' a a' b b' c c' e = (omega arith, omega arith)

same_response : (f f' m m' s s' l l' : ℕ) → f < 2 → f' < 2 → m < 2 → m' < 2 → s < 2 → s' < 2 → l < 8 → l' < 8
    → 128 + 32 * f + 16 * m + 8 * s + l ≡ 128 + 32 * f' + 16 * m' + 8 * s' + l' → (m ≡ m') × (s ≡ s')
same_response f f' m m' s s' l l' a a' b b' c c' d d' e = (omega arith, omega arith)

-- the functions of two spellings of one packet are the same
one_function : (input : List ℕ) (f g second second' len len' : ℕ) → Shows input f second len
    → Shows input g second' len' → f ≡ g
one_function input f g second second' len len' p q = sym p.control ∙ q.control

pub one_packet : (input : List ℕ) (f g : Content) → Spells input f → Spells input g → f ≡ g
one_packet input (Request mask xo timer tid user bytes) (Request mask' xo' timer' tid' user' bytes') p q =
    let parts = same_packet _ mask tid (user ++ bytes) _ mask' tid' (user' ++ bytes') p.parts.tid_fits q.parts.tid_fits
    (sym p.fields ∙ q.fields) in
    let bits = same_request (bit xo) (bit xo') p.free q.free p.low q.low (bit-lt xo)
    (bit-lt xo') p.in_two_bits q.in_two_bits p.in_three_bits q.in_three_bits parts.0 in
    let ends = append_parts user user' bytes bytes' (p.parts.four ∙ sym q.parts.four) parts.3 in
    let same_xo = bit_inj xo xo' bits.0 in
    let same_timer : timer ≡ timer' = sym p.is_timer ∙ (λ i. read_timer (same_xo i) (bits.1 i)) ∙ q.is_timer in
    λ i. Request (parts.1 i) (same_xo i) (same_timer i) (parts.2 i) (ends.0 i) (ends.1 i)
one_packet input (Response place eom sts tid user bytes) (Response place' eom' sts' tid' user' bytes') p q =
    let parts = same_packet _ place tid (user ++ bytes) _ place' tid'
    (user' ++ bytes') p.parts.tid_fits q.parts.tid_fits (sym p.fields ∙ q.fields) in
    let bits = same_response p.free q.free (bit eom) (bit eom') (bit sts)
    (bit sts') p.low q.low p.in_one_bit q.in_one_bit (bit-lt eom) (bit-lt eom') (bit-lt sts)
    (bit-lt sts') p.in_three_bits q.in_three_bits parts.0 in
    let ends = append_parts user user' bytes bytes' (p.parts.four ∙ sym q.parts.four) parts.3 in
    λ i. Response (parts.1 i) (bit_inj eom eom' bits.0 i) (bit_inj sts sts' bits.1 i) (parts.2 i) (ends.0 i) (ends.1 i)
one_packet input (Release tid) (Release tid') p q =
    let parts = same_packet _ p.second tid p.rest _ q.second tid' q.rest p.tid_fits q.tid_fits
    (sym p.fields ∙ q.fields) in
    λ i. Release (parts.2 i)
one_packet input (Request mask xo timer tid user bytes) (Response place eom sts tid' user' bytes') p q =
    absurd (apart12 (one_function input 1 2 _ _ _ _ (shows_request input mask xo timer tid user bytes p)
    (shows_response input place eom sts tid' user' bytes' q)))
one_packet input (Request mask xo timer tid user bytes) (Release tid') p q =
    absurd (apart13 (one_function input 1 3 _ _ _ _ (shows_request input mask xo timer tid user bytes p)
    (shows_release input tid' q)))
one_packet input (Response place eom sts tid user bytes) (Request mask xo timer tid' user' bytes') p q =
    absurd (apart12 (one_function input 1 2 _ _ _ _ (shows_request input mask xo timer tid' user' bytes' q)
    (shows_response input place eom sts tid user bytes p)))
one_packet input (Response place eom sts tid user bytes) (Release tid') p q =
    absurd (apart23 (one_function input 2 3 _ _ _ _ (shows_response input place eom sts tid user bytes p)
    (shows_release input tid' q)))
one_packet input (Release tid) (Request mask xo timer tid' user' bytes') p q =
    absurd (apart13 (one_function input 1 3 _ _ _ _ (shows_request input mask xo timer tid' user' bytes' q)
    (shows_release input tid p)))
one_packet input (Release tid) (Response place eom sts tid' user' bytes') p q =
    absurd (apart23 (one_function input 2 3 _ _ _ _ (shows_response input place eom sts tid' user' bytes' q)
    (shows_release input tid p)))

-- ---- what is written is spelled

written_timer : (xo : Bool) (timer : ℕ) → IsTimer xo timer → timer < 8 × (read_timer xo timer ≡ timer)
written_timer true timer h = (omega arith, grind (arith, nat_tests))
written_timer false timer h = (omega arith, sym h)

pub written_is_read : (f : Content) → IsLawful f → Spells (spelled f) f
unfolding spelled
written_is_read (Request mask xo timer tid user bytes) ok =
    let t = written_timer xo timer ok.1 in
    let control : 64 + 32 * bit xo + timer ≡ 64 + 32 * bit xo + 8 * 0 + timer = omega arith in
    record {
      mask_fits = ok.0;
      parts = ok.2;
      free = 0;
      in_two_bits = lit< tt;
      low = timer;
      in_three_bits = t.0;
      is_timer = t.1;
      fields = ap (λ c. packet c mask tid (user ++ bytes)) control;
    }
written_is_read (Response place eom sts tid user bytes) ok =
    let control : 128 + 16 * bit eom + 8 * bit sts ≡ 128 + 32 * 0 + 16 * bit eom + 8 * bit sts + 0 = omega arith in
    record {
      place_fits = ok.0;
      parts = ok.1;
      free = 0;
      in_one_bit = lit< tt;
      low = 0;
      in_three_bits = lit< tt;
      fields = ap (λ c. packet c place tid (user ++ bytes)) control;
    }
written_is_read (Release tid) ok = record {
  tid_fits = ok;
  free = 0;
  in_six_bits = lit< tt;
  second = 0;
  is_byte = lit< tt;
  rest = 0 ∷ 0 ∷ 0 ∷ 0 ∷ [];
  rest_bytes = All-replicate (λ b. b < 256) 4 0 (lit< tt);
  whole_header = lit≤ tt;
  rest_fits = lit≤ tt;
  fields = refl;
}

-- ---- what is written fits a datagram

packet_bytes : (control second tid : ℕ) (rest : List ℕ) → control < 256 → second < 256 → AreBytes rest
    → AreBytes (packet control second tid rest)
packet_bytes control second tid rest c s r =
    let number = All-cons (λ b. b < 256) (tid / 256 % 256) (tid % 256 ∷ rest) (omega arith)
    (All-cons (λ b. b < 256) (tid % 256) rest (omega arith) r) in
    All-cons (λ b. b < 256) control (second ∷ tid / 256 % 256 ∷ tid % 256 ∷ rest) c
    (All-cons (λ b. b < 256) second (tid / 256 % 256 ∷ tid % 256 ∷ rest) s number)

timer-lt : (xo : Bool) (timer : ℕ) → IsTimer xo timer → timer ≤ 4
timer-lt true timer h = h
timer-lt false timer h = omega arith

pub written_fits : (f : Content) → IsLawful f → AreBytes (spelled f) × (length (spelled f) ≤ 586)
unfolding spelled
written_fits (Request mask xo timer tid user bytes) ok =
    let p = ok.2 in
    let four = p.four in
    let fits = p.data_fits in (
      packet_bytes (64 + 32 * bit xo + timer) mask tid (user ++ bytes)
          (omega (arith, bit-lt xo, timer-lt xo timer ok.1)) ok.0
          (All-append (λ b. b < 256) user bytes p.user_bytes p.data_bytes),
      omega (arith, length-append user bytes),
    )
written_fits (Response place eom sts tid user bytes) ok =
    let p = ok.1 in
    let four = p.four in
    let fits = p.data_fits in (
      packet_bytes (128 + 16 * bit eom + 8 * bit sts) place tid (user ++ bytes) (omega (arith, bit-lt eom, bit-lt sts))
          (omega (arith, ok.0)) (All-append (λ b. b < 256) user bytes p.user_bytes p.data_bytes),
      omega (arith, length-append user bytes),
    )
written_fits (Release tid) ok = (
  packet_bytes 192 0 tid (0 ∷ 0 ∷ 0 ∷ 0 ∷ []) (lit< tt) (lit< tt) (All-replicate (λ b. b < 256) 4 0 (lit< tt)),
  lit≤
      tt,
)
