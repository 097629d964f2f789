-- Blocks by their type, and blocks that are passed over.
use Rattle.std.proofs.Common.{◌≡◌, ◌≢◌, ◌⊎◌, ℕ, ◌+◌, ◌-◌, ◌%◌, ◌<◌, ◌≤◌, ◌==◌, Bool, true, false, List, ◌++◌, length}
use Rattle.std.proofs.Common.{sym, ap, subst, ◌∙◌, arith, Result, Ok, Err, if◌then◌else◌}
use Rattle.std.specs.Prelude.{Option, None}
use Rattle.std.specs.Io.KnownBytes.{Consumes}
use Rattle.std.proofs.lemmas.Bool.{cond-false, ne_eqb}
use Rattle.std.proofs.lemmas.List.{length-append}
use Rattle.std.proofs.lemmas.Bool.Decides.{nat_tests}
use Rattle.at_pcap.specs.Blocks.{Block, Section, block_in, by_kind, four_at, interface_in, is_section, other_in}
use Rattle.at_pcap.specs.Blocks.{section_in, sized, simple_in, numbered_in}
use Rattle.at_pcap.specs.Orders.{number_in}
use Rattle.at_pcap.specs.Steps.{Breaks, front_len, Completes, IsClosing, IsUnclosed, ReadsBlock}
use Rattle.at_pcap.specs.declared.frame.FrameHeader.{FrameHeader}
use Rattle.at_pcap.specs.declared.order.Order.{Order}
use Rattle.at_pcap.specs.declared.order.Order.TheVariants.{Big}
use Rattle.at_pcap.specs.declared.fault.CaptureFault.{CaptureFault}
use Rattle.at_pcap.specs.declared.fault.CaptureFault.TheVariants.{BadBlock, CutCapture}
use Rattle.at_pcap.specs.declared.fault.ReadError.{ReadError}
use Rattle.at_pcap.specs.declared.fault.ReadError.TheVariants as error
use Rattle.at_pcap.proofs.RuleLemmas.{breaks_any, closed_not, closed_whole, four_before, four_front, needs_cut}
use Rattle.at_pcap.proofs.RuleLemmas.{needs_there, sized_is, sized_no}

-- ---- what is read, by another definition of it

pub reads_by : (reads other : List ℕ → Result Block CaptureFault) (known left : Option (List ℕ)) (front : List ℕ)
    (t : Section) (captured : List ℕ) (result : Result (Option FrameHeader) ReadError)
    → ((more : List ℕ) → other (front ++ more) ≡ reads (front ++ more))
    → ReadsBlock reads known left front t captured result → ReadsBlock other known left front t captured result
reads_by reads other known left front t captured (Ok h) same c =
    record { more = c.more; read = c.read; is = same c.more ∙ c.is; whole = c.whole }
reads_by reads other known left front t captured (Err (error.Fault f)) same c =
    record { more = c.more; all = c.all; is = same c.more ∙ c.is }
reads_by reads other known left front t captured (Err (error.Unreadable why)) same c = tt
reads_by reads other known left front t captured (Err error.NoMemory) same c = tt

-- the front and these bytes are as long as the front says
pub whole_of : (o : Order) (front more : List ℕ) (total : ℕ) → 8 ≤ length front → total ≡ four_at o 4 front
    → length front + length more ≡ total → length (front ++ more) ≡ four_at o 4 (front ++ more)
whole_of o front more total long is sum =
    length-append front more ∙ sum ∙ is ∙ sym (four_before o 4 front more (omega arith))

-- ---- the total length in the front

pub sized_front : {A : Type 0} (o : Order) (least : ℕ) (front more : List ℕ) (next : Result A CaptureFault) (total : ℕ)
    → 8 ≤ length front → total ≡ four_at o 4 front → total % 4 ≡ 0 → least ≤ total
    → sized o least (front ++ more) next ≡ next
sized_front o least front more next total long is even enough =
    sized_is o least (front ++ more) next total (four_before o 4 front more (omega arith) ∙ sym is) even enough

pub unsized_front : {A : Type 0} (o : Order) (least : ℕ) (front more : List ℕ) (next : Result A CaptureFault)
    → 8 ≤ length front → (four_at o 4 front % 4 ≢ 0) ⊎ (four_at o 4 front < least)
    → sized o least (front ++ more) next ≡ Err BadBlock
unsized_front o least front more next long wrong =
    let same = four_before o 4 front more (omega arith) in
    sized_no o least (front ++ more) next
    (subst (λ n. (n % 4 ≢ 0) ⊎ (n < least)) (sym same) wrong)

-- ---- any other block

module _ (s : Section) (front : List ℕ) (len : length front ≡ 8) where
  pub other_unsized : (known : Option (List ℕ))
      → (four_at s.order 4 front % 4 ≢ 0) ⊎ (four_at s.order 4 front < 12) → Breaks (other_in s) known front BadBlock
  unfolding other_in
  other_unsized known wrong = breaks_any (other_in s) known front BadBlock
      (λ more. unsized_front s.order 12 front more _ (omega arith) wrong)

  module _ (total : ℕ) (is : total ≡ four_at s.order 4 front) (even : total % 4 ≡ 0) (enough : 12 ≤ total) where
    pub other_whole : (known left : Option (List ℕ)) (more : List ℕ) → Consumes known left more
        → IsClosing s.order total (total - 8) more
        → Completes (other_in s) known left front (record { section = s; found = None })
    unfolding other_in
    other_whole known left more read closing =
        let closed_len = closing.len in
        record {
          more = more;
          read = read;
          is = sized_front s.order 12 front more _ total (omega arith) is even enough
              ∙ closed_whole s.order front more _ total (total - 8) (omega arith) (sym is) (omega arith) (omega arith)
              closing;
          whole = whole_of s.order front more total (omega arith) is (omega arith);
        }

    pub other_unclosed : (known : Option (List ℕ)) (more : List ℕ) (fault : CaptureFault)
        → IsUnclosed s.order total (total - 8) fault more → other_in s (front ++ more) ≡ Err fault
    unfolding other_in
    other_unclosed known more fault wrong =
        sized_front s.order 12 front more _ total (omega arith) is even enough
        ∙ closed_not s.order front more _ total (total - 8) fault (omega arith) (sym is) (omega arith) (omega arith)
        wrong

-- ---- by the type

pub kind_other : (kind : ℕ) (s : Section) (bytes : List ℕ) → kind ≢ 1 → kind ≢ 6 → kind ≢ 2 → kind ≢ 3
    → by_kind kind s bytes ≡ other_in s bytes
kind_other kind s bytes a b c d =
    cond-false (kind == 1) (interface_in s bytes) _ (ne_eqb kind 1 a)
    ∙ cond-false (kind == 6) (numbered_in 4 s bytes) _ (ne_eqb kind 6 b)
    ∙ cond-false (kind == 2) (numbered_in 2 s bytes) _ (ne_eqb kind 2 c)
    ∙ cond-false (kind == 3) (simple_in s bytes) _ (ne_eqb kind 3 d)

pub block_short : (s : Section) (front : List ℕ) → length front < 8 → block_in s front ≡ Err CutCapture
unfolding block_in
block_short s front short = needs_cut 8 front _ short

block_long : (s : Section) (front more : List ℕ) (section : Bool) → 8 ≤ length front → is_section front ≡ section
    → block_in s (front ++ more)
    ≡ (if section then section_in (front ++ more) else by_kind (number_in s.order 4 (front ++ more)) s (front ++ more))
unfolding block_in
block_long s front more section long is =
    needs_there 8 (front ++ more) _ (omega (arith, length-append front more))
    ∙ ap (λ b. if b then section_in (front ++ more) else
    by_kind (number_in s.order 4 (front ++ more)) s (front ++ more))
    (ap (λ n. n == 168627466) (four_front Big front more (omega arith)) ∙ is)

pub block_of_section : (s : Section) (front more : List ℕ) → 8 ≤ length front → is_section front ≡ true
    → block_in s (front ++ more) ≡ section_in (front ++ more)
block_of_section s front more long is = block_long s front more true long is

pub block_of_kind : (s : Section) (front more : List ℕ) → 8 ≤ length front → is_section front ≡ false
    → block_in s (front ++ more) ≡ by_kind (number_in s.order 4 front) s (front ++ more)
block_of_kind s front more long is =
    block_long s front more false long is
    ∙ ap (λ n. by_kind n s (front ++ more)) (four_front s.order front more (omega arith))

-- a front is 8 bytes at least
pub front_of_8 : (o : Order) (front : List ℕ) → length front < 8 → length front < front_len o front
front_of_8 o front short = grind (arith, nat_tests)
