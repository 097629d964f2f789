-- What is written as a frame of EtherTalk is carried, and datagrams lie within their frames.
use Rattle.std.proofs.Common.{◌≡◌, inl, ℕ, ◌+◌, ◌^◌, ◌<◌, ◌≤◌, List, [], ◌++◌, length, take}
use Rattle.std.proofs.Common.{refl}
use Rattle.std.proofs.Common.{sym, ap, ◌∙◌, arith, append_assoc}
use Rattle.std.specs.Int.{to_be_bytes, w16}
use Rattle.std.proofs.lemmas.List.{length-append}
use Rattle.std.proofs.Math.Seq.{take-append_seam}
use Rattle.at_ddp.specs.Fault.{number_at}
use Rattle.at_frames.specs.Carries.{Carries}
use Rattle.at_frames.specs.EtherTalk.{ethertalk_header, ethertalk_load}
use Rattle.at_frames.specs.Llc.{datagram_snap}

-- the first bytes, as many as the front has, are the front
front_of : (front rest : List ℕ) (n : ℕ) → n ≡ length front → take n (front ++ rest) ≡ front
front_of front rest n is = ap (λ m. take m (front ++ rest)) is ∙ take-append_seam front rest

snapped : (bytes padding : List ℕ) → take (8 + length bytes) (datagram_snap ++ (bytes ++ padding))
    ≡ datagram_snap ++ bytes
snapped bytes padding =
    ap (take (8 + length bytes)) (sym (append_assoc datagram_snap bytes padding))
    ∙ front_of (datagram_snap ++ bytes) padding (8 + length bytes) (sym (length-append datagram_snap bytes))

word_read : (n : ℕ) (rest : List ℕ) → n < 2 ^ 16 → number_at 0 (to_be_bytes w16 n ++ rest) ≡ n
word_read n rest fits = omega arith

parted : (to from word more : List ℕ) (bytes padding : List ℕ)
    → (to ++ from ++ word ++ more) ++ (bytes ++ padding) ≡ to ++ (from ++ ([] ++ (word ++ (more ++ (bytes
    ++ padding)))))
parted to from word more bytes padding = simp append_assoc

pub written_is_carried : (to from bytes padding : List ℕ) → length to ≡ 6 → length from ≡ 6 → length bytes ≤ 1492
    → Carries 1 (ethertalk_header to from (length bytes) ++ (bytes ++ padding)) (ethertalk_load to from bytes)
written_is_carried to from bytes padding to_len from_len few =
    let rest = datagram_snap ++ (bytes ++ padding) in
    let typed = to_be_bytes w16 (8 + length bytes) ++ rest in
    let kind : number_at 0 typed ≡ 8 + length bytes = word_read (8 + length bytes) rest (omega arith) in
    inl (
      refl,
      record {
        to = to;
        from = from;
        tags = [];
        typed = typed;
        to_len = to_len;
        from_len = from_len;
        each = tt;
        parts = parted to from (to_be_bytes w16 (8 + length bytes)) datagram_snap bytes padding;
        has_type = omega arith;
        behind = inl (
          omega (arith, kind),
          record {
            carried = refl;
            between = refl;
            long = refl;
            behind = ap (λ n. take n rest) kind ∙ snapped bytes padding;
          },
        );
      },
    )
