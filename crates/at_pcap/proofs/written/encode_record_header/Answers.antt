use Rattle.std.proofs.Common.{◌≡◌, ℕ, List, [], ◌∷◌, ◌++◌, drop, refl}
use borrow.Rule.Slice.PartMut.{put_mid, mid_of}
use Rattle.at_pcap.specs.Captures.{header_bytes}
use Rattle.at_pcap.specs.Orders.{bytes_in}
use Rattle.at_pcap.specs.declared.order.Order.{Order}
use Rattle.at_pcap.specs.declared.order.Order.TheVariants.{Big, Little}
use Rattle.at_pcap.specs.declared.records.RecordHeader.{RecordHeader}
use Rattle.at_pcap.proofs.written.encode_record_header.Goals as goal

written : (o : Order) (s : RecordHeader) (a b c d : List ℕ)
    → a ≡ bytes_in o 4 s.seconds ++ (0 ∷ 0 ∷ 0 ∷ 0 ∷ 0 ∷ 0 ∷ 0 ∷ 0 ∷ 0 ∷ 0 ∷ 0 ∷ 0 ∷ [])
    → b ≡ bytes_in o 4 s.fraction ++ drop 4 (mid_of 4 12 a)
    → c ≡ bytes_in o 4 s.captured ++ drop 4 (mid_of 8 8 (put_mid 4 12 a b))
    → d ≡ bytes_in o 4 s.original ++ drop 4 (mid_of 12 4 (put_mid 8 8 (put_mid 4 12 a b) c))
    → put_mid 12 4 (put_mid 8 8 (put_mid 4 12 a b) c) d ≡ header_bytes o s
unfolding header_bytes
written Big s a b c d p q r t = rw (t, r, q, p) refl
written Little s a b c d p q r t = rw (t, r, q, p) refl

pub returns : goal.returns
returns c =
    written c.args.order c.args.header _ _ _ _ c.write_u32.ensures c.write_u32-2.ensures c.write_u32-3.ensures
    c.write_u32-4.ensures
