-- No spelling begins another, and what is written is spelled.
use Rattle.std.proofs.Common.{lit<, ◌≡◌, inr, ℕ, ◌+◌, ◌*◌, ◌^◌, ◌<◌, ◌≤◌, List, ◌++◌, length, get_or, drop, refl, sym}
use Rattle.std.proofs.Common.{ap, ◌∙◌, arith}
use Rattle.at_ddp.specs.Datagram.{Content, written, canonical, spelling, IsAddress, AreBytes, IsLawful, Spells}
use Rattle.at_ddp.specs.Datagram.{BeginsWith}
use Rattle.at_ddp.specs.declared.address.Address.{Address}
use Rattle.at_ddp.proofs.Octets.{same_number, append_parts}
use Rattle.at_ddp.proofs.SumLemmas.{sum_of-lt}

-- if the first words are equal, so are their three parts
same_word : (f f' h h' l l' : ℕ) → f < 4 → f' < 4 → h < 16 → h' < 16 → l ≤ 586 → l' ≤ 586
    → f * 2 ^ 14 + h * 2 ^ 10 + (13 + l) ≡ f' * 2 ^ 14 + h' * 2 ^ 10 + (13 + l') → (f ≡ f') × (h ≡ h') × (l ≡ l')
same_word f f' h h' l l' a a' b b' c c' e = (omega arith, omega arith, omega arith)

same_fields : (a b : Address) → a.net ≡ b.net → a.node ≡ b.node → a.socket ≡ b.socket → a ≡ b
same_fields a b net node socket = λ i. record { net = net i; node = node i; socket = socket i }

same_content : (d e : Content) → d.hops ≡ e.hops → d.sum ≡ e.sum → d.to ≡ e.to → d.from ≡ e.from → d.kind ≡ e.kind
    → d.data_ ≡ e.data_ → d ≡ e
same_content d e hops sum to from kind bytes =
    λ i. record { hops = hops i; sum = sum i; to = to i; from = from i; kind = kind i; data_ = bytes i }

pub two_spellings : (free free' : ℕ) (d e : Content) (x y : List ℕ) → free < 4 → free' < 4 → IsLawful d → IsLawful e →
    spelling free d ++ x ≡ spelling free' e ++ y → (free ≡ free') × (d ≡ e) × (x ≡ y)
unfolding spelling
two_spellings free free' d e x y h h' ok ok' same =
    let at : (i : ℕ) → get_or (spelling free d ++ x) i 0
    ≡ get_or (spelling free' e ++ y) i 0 = λ i. ap (λ (l : List ℕ). get_or l i 0) same in
    let word = same_number (free * 2 ^ 14 + d.hops * 2 ^ 10 + (13 + length d.data_))
    (free' * 2 ^ 14 + e.hops * 2 ^ 10 + (13 + length e.data_)) (omega arith) (omega arith) (at 0) (at 1) in
    let parts = same_word free free' d.hops e.hops (length d.data_)
    (length e.data_) h h' ok.hops ok'.hops ok.len ok'.len word in
    let sum = same_number d.sum e.sum ok.sum ok'.sum (at 2) (at 3) in
    let to = same_fields d.to e.to (same_number d.to.net e.to.net ok.to.net ok'.to.net (at 4) (at 5)) (at 8) (at 10) in
    let from = same_fields d.from e.from (same_number d.from.net e.from.net ok.from.net ok'.from.net (at 6) (at 7))
    (at 9) (at 11) in
    let ends : (d.data_ ≡ e.data_) × (x ≡ y) = append_parts d.data_ e.data_ x y parts.2 (ap (drop 13) same) in
    (parts.0, same_content d e parts.1 sum to from (at 12) ends.0, ends.1)

pub one_reading : (input : List ℕ) (d e : Content) (x y : List ℕ) → BeginsWith input d x → BeginsWith input e y
    → (d ≡ e) × (x ≡ y)
one_reading input d e x y p q =
    let both : spelling p.spelled.free d ++ x ≡ spelling q.spelled.free e ++ y =
    sym (p.follows ∙ ap (λ b. b ++ x) p.spelled.fields) ∙ q.follows ∙ ap (λ b. b ++ y) q.spelled.fields in
    let same = two_spellings p.spelled.free q.spelled.free d e x y p.spelled.in_two_bits q.spelled.in_two_bits
    p.spelled.lawful q.spelled.lawful both in
    (same.1, same.2)

-- the protocol stands at one place in every spelling
pub the_protocol_is_read_as_written : (to from : Address) (kind : ℕ) (bytes rest : List ℕ) (d : Content)
    → BeginsWith (canonical to from kind bytes) d rest → d.kind ≡ kind
unfolding spelling
the_protocol_is_read_as_written to from kind bytes rest d p =
    let same : spelling 0 (written to from kind bytes) ≡ spelling p.spelled.free d ++ rest = p.follows
    ∙ ap (λ b. b ++ rest) p.spelled.fields in
    ap (λ (l : List ℕ). get_or l 12 0) (sym same)

pub what_is_written_is_read : (to from : Address) (kind : ℕ) (bytes rest : List ℕ) → IsAddress to → IsAddress from
    → kind < 256 → AreBytes bytes → length bytes ≤ 586
    → BeginsWith (canonical to from kind bytes ++ rest) (written to from kind bytes) rest
what_is_written_is_read to from kind bytes rest to_ok from_ok kind_ok are_bytes len = record {
  bytes = canonical to from kind bytes;
  spelled = record {
    lawful = record {
      hops = lit< tt;
      sum = sum_of-lt _;
      to = to_ok;
      from = from_ok;
      kind = kind_ok;
      bytes = are_bytes;
      len = len;
    };
    free = 0;
    in_two_bits = lit< tt;
    fields = refl;
  };
  summed = inr refl;
  follows = refl;
}

pub no_spelling_begins_another : (a b x y : List ℕ) (d e : Content) → Spells a d → Spells b e → a ++ x ≡ b ++ y
    → (a ≡ b) × (d ≡ e)
no_spelling_begins_another a b x y d e p q same =
    let both : spelling p.free d ++ x ≡ spelling q.free e ++ y = sym (ap (λ l. l ++ x) p.fields) ∙ same
    ∙ ap (λ l. l ++ y) q.fields in
    let parts = two_spellings p.free q.free d e x y p.in_two_bits q.in_two_bits p.lawful q.lawful both in
    (p.fields ∙ (λ i. spelling (parts.0 i) (parts.1 i)) ∙ sym q.fields, parts.1)
