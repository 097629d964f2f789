-- Rules of a block, and numbers in the front of bytes that go on.
use Rattle.std.proofs.Common.{◌≡◌, ◌≢◌, ◌⊎◌, inl, inr, ℕ, ◌+◌, ◌-◌, ◌%◌, ◌<◌, ◌≤◌, ◌==◌, not, nat_lt, Bool, true, false}
use Rattle.std.proofs.Common.{List, [], ◌++◌, length, drop, refl, sym, ap, ◌∙◌, arith, append-nil, Result, Ok, Err}
use Rattle.std.proofs.Common.{zero, suc}
use Rattle.std.specs.Prelude.{Option, Some, None}
use Rattle.std.specs.Io.KnownBytes.{Consumes, IsAtEnd}
use Rattle.std.proofs.lemmas.Bool.{cases_Bool, cond-false, cond-true, eq-eqb, le-ltb, lt-ltb, ne_eqb}
use Rattle.std.proofs.lemmas.Bool.{not_from_false, not_from_true}
use Rattle.std.proofs.lemmas.List.{drop-append-le, drop-drop, drop_at, get_or_append_left, length-append, length-drop}
use Rattle.byteorder.specs.Endian.{big_from, little_from}
use Rattle.at_pcap.specs.Blocks.{closed, four_at, needs, refuse, sized, two_at}
use Rattle.at_pcap.specs.Faults.{AreAll}
use Rattle.at_pcap.specs.Orders.{number_in}
use Rattle.at_pcap.specs.Steps.{Breaks, IsClosing, IsUnclosed, TellsBreak, TellsUnclosed}
use Rattle.at_pcap.specs.declared.order.Order.{Order}
use Rattle.at_pcap.specs.declared.order.Order.TheVariants.{Big, Little}
use Rattle.at_pcap.specs.declared.fault.CaptureFault.{CaptureFault}
use Rattle.at_pcap.specs.declared.fault.CaptureFault.TheVariants.{BadBlock, CutCapture, NoCapture, BadVersion}
use Rattle.at_pcap.specs.declared.fault.CaptureFault.TheVariants.{RecordTooLong, NoInterface, BadResolution}
use Rattle.at_pcap.specs.declared.fault.ReadError.{ReadError}
use Rattle.at_pcap.specs.declared.fault.ReadError.TheVariants as error
use Rattle.at_pcap.proofs.RecordLemmas.{all_of}

-- ---- numbers

big_front : (i n : ℕ) (a b : List ℕ) → i + n ≤ length a → big_from i n (a ++ b) ≡ big_from i n a
big_front i zero a b long = refl
big_front i (suc n) a b long =
    let byte = get_or_append_left a b 0 i (omega arith) in
    let rest = big_front (suc i) n a b (omega arith) in rw (byte, rest) refl

little_front : (i n : ℕ) (a b : List ℕ) → i + n ≤ length a → little_from i n (a ++ b) ≡ little_from i n a
little_front i zero a b long = refl
little_front i (suc n) a b long =
    let byte = get_or_append_left a b 0 i (omega arith) in
    let rest = little_front (suc i) n a b (omega arith) in rw (byte, rest) refl

number_front : (o : Order) (n : ℕ) (a b : List ℕ) → n ≤ length a → number_in o n (a ++ b) ≡ number_in o n a
number_front Big n a b long = big_front 0 n a b (omega arith)
number_front Little n a b long = little_front 0 n a b (omega arith)

pub number_before : (o : Order) (n i : ℕ) (a b : List ℕ) → i + n ≤ length a
    → number_in o n (drop i (a ++ b)) ≡ number_in o n (drop i a)
number_before o n i a b long =
    ap (number_in o n) (drop-append-le i a b (omega arith))
    ∙ number_front o n (drop i a) b (omega (arith, length-drop i a))

-- the same of 4 and of 2 bytes
pub four_front : (o : Order) (a b : List ℕ) → 4 ≤ length a → number_in o 4 (a ++ b) ≡ number_in o 4 a
four_front o a b long = number_front o 4 a b long

pub two_front : (o : Order) (a b : List ℕ) → 2 ≤ length a → number_in o 2 (a ++ b) ≡ number_in o 2 a
two_front o a b long = number_front o 2 a b long

pub four_before : (o : Order) (i : ℕ) (a b : List ℕ) → i + 4 ≤ length a → four_at o i (a ++ b) ≡ four_at o i a
four_before o i a b long = number_before o 4 i a b long

pub two_before : (o : Order) (i : ℕ) (a b : List ℕ) → i + 2 ≤ length a → two_at o i (a ++ b) ≡ two_at o i a
two_before o i a b long = number_before o 2 i a b long

pub four_behind : (o : Order) (i : ℕ) (a b : List ℕ) (n : ℕ) → length a ≡ n → four_at o (n + i) (a ++ b) ≡ four_at o i b
four_behind o i a b n len = ap (number_in o 4) (sym (drop-drop i n (a ++ b)) ∙ ap (drop i) (drop_at a b n len))

-- the total length again, counted from the front or from behind it
again_is : (o : Order) (front more : List ℕ) (total left : ℕ) → length front + left ≡ total → 4 ≤ left
    → four_at o (total - 4) (front ++ more) ≡ four_at o (left - 4) more
again_is o front more total left sum enough =
    let at : total - 4 ≡ length front + (left - 4) = omega arith in
    ap (λ n. four_at o n (front ++ more)) at ∙ four_behind o (left - 4) front more (length front) refl

-- ---- rules

module _ {A : Type 0} where
  pub needs_there : (count : ℕ) (bytes : List ℕ) (next : Result A CaptureFault) → count ≤ length bytes
      → needs count bytes next ≡ next
  needs_there count bytes next h =
      cond-false (nat_lt (length bytes) count) (Err CutCapture) next (le-ltb (length bytes) count h)

  pub needs_cut : (count : ℕ) (bytes : List ℕ) (next : Result A CaptureFault) → length bytes < count
      → needs count bytes next ≡ Err CutCapture
  needs_cut count bytes next h =
      cond-true (nat_lt (length bytes) count) (Err CutCapture) next (lt-ltb (length bytes) count h)

  pub kept : (broken : Bool) (fault : CaptureFault) (next : Result A CaptureFault) → broken ≡ false
      → refuse broken fault next ≡ next
  kept broken fault next h = cond-false broken (Err fault) next h

  pub broken_by : (broken : Bool) (fault : CaptureFault) (next : Result A CaptureFault) → broken ≡ true
      → refuse broken fault next ≡ Err fault
  broken_by broken fault next h = cond-true broken (Err fault) next h

  -- two numbers that are to be equal
  pub kept_equal : (a b : ℕ) (fault : CaptureFault) (next : Result A CaptureFault) → a ≡ b
      → refuse (not (a == b)) fault next ≡ next
  kept_equal a b fault next h = kept (not (a == b)) fault next (not_from_true (a == b) (eq-eqb a b h))

  pub broken_unequal : (a b : ℕ) (fault : CaptureFault) (next : Result A CaptureFault) → a ≢ b
      → refuse (not (a == b)) fault next ≡ Err fault
  broken_unequal a b fault next h = broken_by (not (a == b)) fault next (not_from_false (a == b) (ne_eqb a b h))

  -- a number that is not to be below another
  pub kept_above : (a b : ℕ) (fault : CaptureFault) (next : Result A CaptureFault) → b ≤ a
      → refuse (nat_lt a b) fault next ≡ next
  kept_above a b fault next h = kept (nat_lt a b) fault next (le-ltb a b h)

  pub broken_below : (a b : ℕ) (fault : CaptureFault) (next : Result A CaptureFault) → a < b
      → refuse (nat_lt a b) fault next ≡ Err fault
  broken_below a b fault next h = broken_by (nat_lt a b) fault next (lt-ltb a b h)

  -- ---- the total length

  pub sized_is : (o : Order) (least : ℕ) (bytes : List ℕ) (next : Result A CaptureFault) (total : ℕ)
      → four_at o 4 bytes ≡ total → total % 4 ≡ 0 → least ≤ total → sized o least bytes next ≡ next
  sized_is o least bytes next total is even enough =
      let n = four_at o 4 bytes in
      kept_equal (n % 4) 0 BadBlock (refuse (nat_lt n least) BadBlock next) (ap (λ m. m % 4) is ∙ even)
      ∙ kept_above n least BadBlock next (omega (arith, is))

  pub sized_no : (o : Order) (least : ℕ) (bytes : List ℕ) (next : Result A CaptureFault)
      → (four_at o 4 bytes % 4 ≢ 0) ⊎ (four_at o 4 bytes < least) → sized o least bytes next ≡ Err BadBlock
  sized_no o least bytes next (inl odd) =
      broken_unequal (four_at o 4 bytes % 4) 0 BadBlock (refuse (nat_lt (four_at o 4 bytes) least) BadBlock next) odd
  sized_no o least bytes next (inr small) =
      let n = four_at o 4 bytes in
      let inner = refuse (nat_lt n least) BadBlock next in
      elim (cases_Bool (not (n % 4 == 0))) [
        | inl odd ↦ broken_by (not (n % 4 == 0)) BadBlock inner odd
        | inr even ↦ kept (not (n % 4 == 0)) BadBlock inner even ∙ broken_below n least BadBlock next small
      ]

  -- ---- the end of a block

  -- the same by the total length as a number
  closed_by : Order → List ℕ → A → ℕ → Result A CaptureFault
  closed_by o bytes whole n = needs n bytes (refuse (not (four_at o (n - 4) bytes == n)) BadBlock (Ok whole))

  pub closed_whole : (o : Order) (front more : List ℕ) (whole : A) (total left : ℕ) → 8 ≤ length front
      → four_at o 4 front ≡ total → length front + left ≡ total → 4 ≤ left → IsClosing o total left more
      → closed o (front ++ more) whole ≡ Ok whole
  unfolding closed_by
  closed_whole o front more whole total left long is sum enough closing =
      let bytes = front ++ more in
      let len = closing.len in
      let rest = refuse (not (four_at o (total - 4) bytes == total)) BadBlock (Ok whole) in
      ap (closed_by o bytes whole) (four_before o 4 front more (omega arith) ∙ is)
      ∙ needs_there total bytes rest (omega (arith, length-append front more, len))
      ∙ kept_equal (four_at o (total - 4) bytes) total BadBlock (Ok whole)
      (again_is o front more total left sum enough ∙ closing.again)

  pub closed_not : (o : Order) (front more : List ℕ) (whole : A) (total left : ℕ) (fault : CaptureFault)
      → 8 ≤ length front → four_at o 4 front ≡ total → length front + left ≡ total → 4 ≤ left
      → IsUnclosed o total left fault more → closed o (front ++ more) whole ≡ Err fault
  unfolding closed_by
  closed_not o front more whole total left CutCapture long is sum enough short =
      let bytes = front ++ more in
      ap (closed_by o bytes whole) (four_before o 4 front more (omega arith) ∙ is)
      ∙ needs_cut total bytes (refuse (not (four_at o (total - 4) bytes == total)) BadBlock (Ok whole))
      (omega (arith, length-append front more, short))
  closed_not o front more whole total left BadBlock long is sum enough other =
      let bytes = front ++ more in
      let there = other.0 in
      ap (closed_by o bytes whole) (four_before o 4 front more (omega arith) ∙ is)
      ∙ needs_there total bytes (refuse (not (four_at o (total - 4) bytes == total)) BadBlock (Ok whole))
      (omega (arith, length-append front more, there))
      ∙ broken_unequal (four_at o (total - 4) bytes) total BadBlock (Ok whole)
      (λ e. other.1 (sym (again_is o front more total left sum enough) ∙ e))
  closed_not o front more whole total left NoCapture long is sum enough no_fault = absurd no_fault
  closed_not o front more whole total left BadVersion long is sum enough no_fault = absurd no_fault
  closed_not o front more whole total left RecordTooLong long is sum enough no_fault = absurd no_fault
  closed_not o front more whole total left NoInterface long is sum enough no_fault = absurd no_fault
  closed_not o front more whole total left BadResolution long is sum enough no_fault = absurd no_fault

  -- the bytes end before the block does
  pub closed_cut : (o : Order) (bytes : List ℕ) (whole : A) → length bytes < four_at o 4 bytes
      → closed o bytes whole ≡ Err CutCapture
  closed_cut o bytes whole short =
      needs_cut (four_at o 4 bytes) bytes
      (refuse (not (four_at o (four_at o 4 bytes - 4) bytes == four_at o 4 bytes)) BadBlock (Ok whole)) short

  -- ---- faults

  -- a fault of the front, whatever follows
  pub breaks_any : (reads : List ℕ → Result A CaptureFault) (known : Option (List ℕ)) (front : List ℕ)
      (fault : CaptureFault) → ((more : List ℕ) → reads (front ++ more) ≡ Err fault) → Breaks reads known front fault
  breaks_any reads None front fault is = record { more = []; all = tt; is = is [] }
  breaks_any reads (Some xs) front fault is = record { more = xs; all = refl; is = is xs }

  -- nothing follows the front
  pub breaks_end : (reads : List ℕ → Result A CaptureFault) (known : Option (List ℕ)) (front : List ℕ)
      (fault : CaptureFault) → IsAtEnd known → reads front ≡ Err fault → Breaks reads known front fault
  breaks_end reads None front fault over is =
      record { more = []; all = tt; is = ap reads (append-nil front) ∙ is }
  breaks_end reads (Some xs) front fault over is =
      record { more = []; all = over; is = ap reads (append-nil front) ∙ is }

  -- a fault behind bytes that were read
  pub breaks_behind : (reads : List ℕ → Result A CaptureFault) (known left : Option (List ℕ)) (front mid more : List ℕ)
      (fault : CaptureFault) → Consumes known left mid → AreAll left more → reads (front ++ (mid ++ more)) ≡ Err fault
      → Breaks reads known front fault
  breaks_behind reads known left front mid more fault read are is =
      record { more = mid ++ more; all = all_of known left mid more read are; is = is }

-- some bytes are all that is left
pub any_rest : (known : Option (List ℕ)) → (more : List ℕ) × AreAll known more
any_rest None = ([], tt)
any_rest (Some xs) = (xs, refl)

pub end_rest : (known : Option (List ℕ)) → IsAtEnd known → AreAll known []
end_rest None over = tt
end_rest (Some xs) over = over

-- what comes of a block that is not closed as it should be, behind bytes that were read
pub unclosed_behind : {A : Type 0} (reads : List ℕ → Result A CaptureFault) (known left : Option (List ℕ))
    (front mid : List ℕ) (o : Order) (total rest : ℕ) (e : ReadError) → Consumes known left mid
    → ((more : List ℕ) (fault : CaptureFault) → IsUnclosed o total rest fault more
    → reads (front ++ (mid ++ more)) ≡ Err fault) → TellsUnclosed o total rest left e → TellsBreak reads known front e
unclosed_behind reads known left front mid o total rest (error.Fault f) read is tells =
    breaks_behind reads known left front mid tells.0 f read tells.1 (is tells.0 f tells.2)
unclosed_behind reads known left front mid o total rest (error.Unreadable why) read is tells = tt
unclosed_behind reads known left front mid o total rest error.NoMemory read is tells = tt

pub unclosed : {A : Type 0} (reads : List ℕ → Result A CaptureFault) (known : Option (List ℕ)) (front : List ℕ)
    (o : Order) (total rest : ℕ) (e : ReadError)
    → ((more : List ℕ) (fault : CaptureFault) → IsUnclosed o total rest fault more
    → reads (front ++ more) ≡ Err fault) → TellsUnclosed o total rest known e → TellsBreak reads known front e
unclosed reads known front o total rest (error.Fault f) is tells =
    record { more = tells.0; all = tells.1; is = is tells.0 f tells.2 }
unclosed reads known front o total rest (error.Unreadable why) is tells = tt
unclosed reads known front o total rest error.NoMemory is tells = tt

-- a fault of a part, behind a front that was read
pub break_within : {A B : Type 0} (reads : List ℕ → Result A CaptureFault) (part : List ℕ → Result B CaptureFault)
    (known left : Option (List ℕ)) (front mid : List ℕ) (e : ReadError) → Consumes known left mid
    → ((more : List ℕ) (fault : CaptureFault) → part more ≡ Err fault → reads (front ++ (mid ++ more)) ≡ Err fault)
    → TellsBreak part left [] e → TellsBreak reads known front e
break_within reads part known left front mid (error.Fault f) read is tells =
    breaks_behind reads known left front mid tells.more f read tells.all (is tells.more f tells.is)
break_within reads part known left front mid (error.Unreadable why) read is tells = tt
break_within reads part known left front mid error.NoMemory read is tells = tt

-- a fault of a part, right behind the front
pub break_by : {A B : Type 0} (reads : List ℕ → Result A CaptureFault) (part : List ℕ → Result B CaptureFault)
    (known : Option (List ℕ)) (front : List ℕ) (e : ReadError)
    → ((more : List ℕ) (fault : CaptureFault) → part more ≡ Err fault → reads (front ++ more) ≡ Err fault)
    → TellsBreak part known [] e → TellsBreak reads known front e
break_by reads part known front (error.Fault f) is tells =
    record { more = tells.more; all = tells.all; is = is tells.more f tells.is }
break_by reads part known front (error.Unreadable why) is tells = tt
break_by reads part known front error.NoMemory is tells = tt

-- the number behind bytes that were passed over
pub last_in : (o : Order) (passed again buffer : List ℕ) (n : ℕ) → length passed ≡ n → again ≡ buffer
    → four_at o n (passed ++ again) ≡ number_in o 4 buffer
last_in o passed again buffer n len same =
    ap (number_in o 4) (drop_at passed again n len ∙ same)

pub again_in : (o : Order) (passed again rest buffer : List ℕ) (n : ℕ) → length passed ≡ n → again ≡ buffer
    → length buffer ≡ 4 → four_at o n (passed ++ (again ++ rest)) ≡ number_in o 4 buffer
again_in o passed again rest buffer n len same four =
    ap (number_in o 4) (drop_at passed (again ++ rest) n len ∙ ap (λ l. l ++ rest) same)
    ∙ four_front o buffer rest (omega arith)
