-- What is written is read as what was written.
use Rattle.std.proofs.Common.{◌≡◌, ℕ, zero, suc, ◌/◌, ◌%◌, ◌^◌, ◌<◌, List, [], ◌∷◌, ◌++◌, length, refl, sym, arith}
use Rattle.std.proofs.Common.{append-nil}
use Rattle.std.specs.Prelude.{All, None}
use Rattle.at_pcap.specs.Captures.{IsFileHeader, IsRecord, Record, written_file_header}
use Rattle.at_pcap.specs.Orders.{bytes_in}
use Rattle.at_pcap.specs.Readings.{IsCapture, records_bytes}
use Rattle.at_pcap.specs.declared.order.Order.{Order}
use Rattle.at_pcap.specs.declared.order.Order.TheVariants.{Big, Little}
use Rattle.at_pcap.specs.declared.file_header.FileHeader.{FileHeader}

cons_all : (b : ℕ) (bytes : List ℕ) → b < 256 → All (λ n. n < 256) bytes → All (λ n. n < 256) (b ∷ bytes)
cons_all b bytes low each zero d k = low
cons_all b bytes low each (suc i) d k = each i d (omega (arith, k))

none_all : All (λ (n : ℕ). n < 256) []
none_all i d k = absurd (omega (arith, k))

fit_four : (a b c d : ℕ) → a < 256 → b < 256 → c < 256 → d < 256 → All (λ n. n < 256) (a ∷ b ∷ c ∷ d ∷ [])
fit_four a b c d p q r s =
    cons_all a (b ∷ c ∷ d ∷ []) p (cons_all b (c ∷ d ∷ []) q (cons_all c (d ∷ []) r (cons_all d [] s none_all)))

four_all : (o : Order) (n : ℕ) → All (λ b. b < 256) (bytes_in o 4 n)
four_all Big n =
    fit_four (n / 16777216 % 256) (n / 65536 % 256) (n / 256 % 256) (n % 256) (omega arith) (omega arith)
    (omega arith) (omega arith)
four_all Little n =
    fit_four (n % 256) (n / 256 % 256) (n / 65536 % 256) (n / 16777216 % 256) (omega arith) (omega arith)
    (omega arith) (omega arith)

four_len : (o : Order) (n : ℕ) → length (bytes_in o 4 n) ≡ 4
four_len Big n = refl
four_len Little n = refl

two_zeros : (bytes : List ℕ) → All (λ n. n < 256) bytes → All (λ n. n < 256) (0 ∷ 0 ∷ bytes)
two_zeros bytes each = cons_all 0 (0 ∷ bytes) (omega arith) (cons_all 0 bytes (omega arith) each)

eight_zeros : (bytes : List ℕ) → All (λ n. n < 256) bytes → All (λ n. n < 256) (0 ∷ 0 ∷ 0 ∷ 0 ∷ 0 ∷ 0 ∷ 0 ∷ 0 ∷ bytes)
eight_zeros bytes each =
    two_zeros (0 ∷ 0 ∷ 0 ∷ 0 ∷ 0 ∷ 0 ∷ bytes) (two_zeros (0 ∷ 0 ∷ 0 ∷ 0 ∷ bytes) (two_zeros (0 ∷ 0 ∷ bytes)
    (two_zeros bytes each)))

written_file_header_is : (h : FileHeader) (longest : ℕ) → h.link_type < 2 ^ 16
    → IsFileHeader (written_file_header h longest) h
written_file_header_is h longest low = record {
  minor = 4;
  ignored = 0 ∷ 0 ∷ 0 ∷ 0 ∷ 0 ∷ 0 ∷ 0 ∷ 0 ∷ bytes_in h.order 4 longest;
  upper = 0;
  minor_fits = omega arith;
  ignored_len = omega (arith, four_len h.order longest);
  ignored_fits = eight_zeros (bytes_in h.order 4 longest) (four_all h.order longest);
  upper_fits = omega arith;
  link_fits = low;
  fields = refl;
}

pub written_is_read : (h : FileHeader) (longest : ℕ) (ps : List Record) → h.link_type < 2 ^ 16 → All IsRecord ps
    → IsCapture (written_file_header h longest ++ records_bytes h.order ps) h ps [] None
written_is_read h longest ps low each = record {
  begins = record {
    front = written_file_header h longest;
    file_header = written_file_header_is h longest low;
    each = each;
    parts = sym (append-nil (written_file_header h longest ++ records_bytes h.order ps));
  };
  ends = refl;
}
