use Rattle.std.proofs.Common.{◌≡◌, ℕ, List, [], ◌∷◌, ◌++◌, drop, refl, sym, ap, ◌∙◌, zero-add}
use borrow.Rule.Slice.PartMut.{put_mid, mid_of}
use Rattle.at_pcap.specs.Captures.{file_header_bytes, magic_of}
use Rattle.at_pcap.specs.Orders.{bytes_in}
use Rattle.at_pcap.specs.declared.order.Order.{Order}
use Rattle.at_pcap.specs.declared.order.Order.TheVariants.{Big, Little}
use Rattle.at_pcap.proofs.written.encode_file_header.Goals as goal

written : (o : Order) (magic longest link_type : ℕ) (a b c d e : List ℕ)
    → a ≡ bytes_in o 4 magic ++ (0 ∷ 0 ∷ 0 ∷ 0 ∷ 0 ∷ 0 ∷ 0 ∷ 0 ∷ 0 ∷ 0 ∷ 0 ∷ 0 ∷ 0 ∷ 0 ∷ 0 ∷ 0 ∷ 0 ∷ 0 ∷ 0 ∷ 0 ∷ [])
    → b ≡ bytes_in o 2 2 ++ drop 2 (mid_of 4 20 a)
    → c ≡ bytes_in o 2 4 ++ drop 2 (mid_of 6 18 (put_mid 4 20 a b))
    → d ≡ bytes_in o 4 longest ++ drop 4 (mid_of 16 8 (put_mid 6 18 (put_mid 4 20 a b) c))
    → e ≡ bytes_in o 4 link_type ++ drop 4 (mid_of 20 4 (put_mid 16 8 (put_mid 6 18 (put_mid 4 20 a b) c) d))
    → put_mid 20 4 (put_mid 16 8 (put_mid 6 18 (put_mid 4 20 a b) c) d) e
    ≡ bytes_in o 4 magic ++ bytes_in o 2 2 ++ bytes_in o 2 4
    ++ (0 ∷ 0 ∷ 0 ∷ 0 ∷ 0 ∷ 0 ∷ 0 ∷ 0 ∷ bytes_in o 4 longest) ++ bytes_in o 4 link_type
written Big magic longest link_type a b c d e p q r s t = rw (t, s, r, q, p) refl
written Little magic longest link_type a b c d e p q r s t = rw (t, s, r, q, p) refl

pub returns : goal.returns
unfolding file_header_bytes
returns c =
    let h = c.args.file_header in
    let o = h.order in
    let front = bytes_in o 4 (magic_of h.precision) ++ bytes_in o 2 2 ++ bytes_in o 2 4
    ++ (0 ∷ 0 ∷ 0 ∷ 0 ∷ 0 ∷ 0 ∷ 0 ∷ 0 ∷ bytes_in o 4 c.args.longest) in
    written o (magic_of h.precision) c.args.longest c.from.result _ _ _ _ _
    (rw c.magic_number.ensures at c.write_u32.ensures) c.write_u16.ensures c.write_u16-2.ensures
    c.write_u32-2.ensures c.write_u32-3.ensures
    ∙ ap (λ n. front ++ bytes_in o 4 n) (c.from.ensures ∙ sym (zero-add h.link_type))
