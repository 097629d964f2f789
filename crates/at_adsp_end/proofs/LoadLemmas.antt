-- What packets ask of memory.
use Rattle.std.proofs.Common.{◌≡◌, ℕ, suc, ◌+◌, true, false, List, [], ◌∷◌, ◌++◌, length, refl}
use Rattle.std.proofs.Common.{sym, ap, ◌∙◌, arith}
use Rattle.std.proofs.lemmas.Bool.{true≢false}
use Rattle.at_ddp.specs.Outbox.{Outbox}
use Rattle.at_ddp.specs.Sending.{bytes_in}
use Rattle.at_ddp.specs.declared.address.Address.{Address}
use Rattle.at_adsp_frame.specs.Segments.{Content, Data, fields_of, spelled}
use Rattle.at_adsp_end.specs.Cuts.{Piece, bytes_of, items_of, numbered}
use Rattle.at_adsp_end.specs.Ends.{EndState, addressed, packet, spelled_all}
use Rattle.at_adsp_end.specs.Loads.{HasRoomTo, IsLoad}
use Rattle.at_adsp_end.specs.Positions.{wire}
use Rattle.at_adsp_end.specs.declared.load.Load.{Load}

-- the length of a segment
abbrev pub IsSpelledSo : Type 0
IsSpelledSo = (s : Content) → length (spelled s) ≡ 13 + length (fields_of s.body)

-- ---- two lists of packets

packets_both : (to : Address) (xs ys : List Content) → length (spelled_all (addressed to (xs ++ ys)))
    ≡ length (spelled_all (addressed to xs)) + length (spelled_all (addressed to ys))
packets_both to [] ys = omega arith
packets_both to (x ∷ xs) ys = let e = packets_both to xs ys in omega (arith, e)

bytes_both : (to : Address) (xs ys : List Content) → bytes_in (spelled_all (addressed to (xs ++ ys)))
    ≡ bytes_in (spelled_all (addressed to xs)) + bytes_in (spelled_all (addressed to ys))
bytes_both to [] ys = omega arith
bytes_both to (x ∷ xs) ys = let e = bytes_both to xs ys in omega (arith, e)

pub room_less : (box : Outbox) (to : Address) (xs ys : List Content) → HasRoomTo box to (xs ++ ys) → HasRoomTo box to xs
room_less box to xs ys h =
    let n = packets_both to xs ys in
    let m = bytes_both to xs ys in
    record { places = omega (arith, h.places, n); bytes = omega (arith, h.bytes, n, m) }

pub room_swap : (box : Outbox) (to : Address) (xs ys : List Content) → HasRoomTo box to (xs ++ ys)
    → HasRoomTo box to (ys ++ xs)
room_swap box to xs ys h =
    let n = packets_both to xs ys in
    let m = bytes_both to xs ys in
    let n' = packets_both to ys xs in
    let m' = bytes_both to ys xs in
    record { places = omega (arith, h.places, n, n'); bytes = omega (arith, h.bytes, n, m, n', m') }

-- ---- loads

pub load_plus : (a b c : Load) (to : Address) (xs ys : List Content) → c.packets ≡ a.packets + b.packets → c.bytes
    ≡ a.bytes + b.bytes → IsLoad a to xs → IsLoad b to ys → IsLoad c to (xs ++ ys)
load_plus a b c to xs ys packets bytes x y =
    let n = packets_both to xs ys in
    let m = bytes_both to xs ys in
    record {
      packets = omega (arith, packets, x.packets, y.packets, n);
      bytes = omega (arith, bytes, x.bytes, y.bytes, m);
    }

-- ---- the load of numbered pieces

numbered_packets : (to : Address) (e : EndState) (p : ℕ) (ps : List Piece)
    → length (spelled_all (addressed to (numbered wire e p ps))) ≡ length ps
numbered_packets to e p [] = refl
numbered_packets to e p (x ∷ ps) = ap suc (numbered_packets to e (p + length (items_of x)) ps)

numbered_bytes : (to : Address) (e : EndState) (p : ℕ) (ps : List Piece) → IsSpelledSo
    → bytes_in (spelled_all (addressed to (numbered wire e p ps))) ≡ bytes_of ps
numbered_bytes to e p [] law = refl
numbered_bytes to e p (x ∷ ps) law =
    let l = law (packet e (wire.at p) true (Data x.end x.bytes)) in
    let more = numbered_bytes to e (p + length (items_of x)) ps law in
    omega (arith, l, more)

pub numbered_load : (load : Load) (to : Address) (e : EndState) (p : ℕ) (ps : List Piece) → IsSpelledSo → load.packets
    ≡ length ps → load.bytes ≡ bytes_of ps → IsLoad load to (numbered wire e p ps)
numbered_load load to e p ps law packets bytes = record {
  packets = packets ∙ sym (numbered_packets to e p ps);
  bytes = bytes ∙ sym (numbered_bytes to e p ps law);
}

-- what succeeds does not fail
pub failed : {X : Type 0} → false ≡ true → X
failed is = absurd (true≢false (sym is))
