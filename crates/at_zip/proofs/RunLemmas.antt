-- The longest run of names that a room holds.
use Rattle.std.proofs.Common.{◌≡◌, ℕ, suc, ◌+◌, ◌-◌, ◌/◌, ◌%◌, ◌<◌, ◌≤◌, Bool, true, false, IsTrue, List, [], ◌∷◌, ◌++◌}
use Rattle.std.proofs.Common.{length, take, drop, refl, sym, ap, ◌∙◌, arith}
use Rattle.std.specs.Prelude.{min, nat_eq, nat_le, if◌then◌else◌, All}
use Rattle.std.proofs.lemmas.Bool.{le-leb, leb-true, leb-false}
use Rattle.std.proofs.lemmas.Bool.Decides.{nat_tests}
use Rattle.std.proofs.lemmas.List.{length-append, length-drop, take_at, drop_min}
use Rattle.std.proofs.lemmas.List.Elements.{All-nil, All-cons, All-head, All-tail, All-drop, All-append}
use Rattle.at_zip.specs.Zones.{IsName, IsTable}
use Rattle.at_zip.specs.Names.{spelled}
use Rattle.at_zip.specs.Page.{Page, IsLawful, IsPageFrom, longest_run, page_of, page_user, page_data}
use Rattle.at_ddp.specs.Datagram.{AreBytes}
use Rattle.at_ddp.proofs.Octets.{head_of, tail_of}
use Rattle.at_zip.proofs.SpelledLemmas.{length-spelled-cons, count_le_spelled, same_page, same_test}

pub run_fits : (room : ℕ) (names : List (List ℕ)) → length (spelled (longest_run room names)) ≤ room
run_fits room [] = omega arith
run_fits room (name ∷ names) =
    go (longest_run (room - (length name + 1)) names) (run_fits (room - (length name + 1)) names)
    (nat_le (length name + 1) room) refl
  where
    go : (more : List (List ℕ)) → length (spelled more) ≤ room - (length name + 1) → (test : Bool)
        → nat_le (length name + 1) room ≡ test →
        length (spelled (if test then name ∷ more else [])) ≤ room
    go more fits true e = omega (arith, leb-true (length name + 1) room e, length-spelled-cons name more, fits)
    go more fits false e = omega arith

-- the run, and the names after it
pub run_begins : (room : ℕ) (names : List (List ℕ)) → (rest : List (List ℕ)) × (names ≡ longest_run room names ++ rest)
run_begins room [] = ([], refl)
run_begins room (name ∷ names) =
    go (longest_run (room - (length name + 1)) names) (run_begins (room - (length name + 1)) names)
    (nat_le (length name + 1) room)
  where
    go : (more : List (List ℕ)) → (rest : List (List ℕ)) × (names ≡ more ++ rest) → (test : Bool)
        → (rest : List (List ℕ)) × (name ∷ names ≡ (if test then name ∷ more else []) ++ rest)
    go more begins true = (begins.0, ap (λ l. name ∷ l) begins.1)
    go more begins false = (name ∷ names, refl)

-- a longer beginning has more bytes than there is room for
pub run_is_longest : (room : ℕ) (names longer after : List (List ℕ)) → names ≡ longer ++ after
    → length (longest_run room names) < length longer → room < length (spelled longer)
run_is_longest room [] [] after e more = absurd (omega arith)
run_is_longest room [] (y ∷ ys) after e more = absurd (cc)
run_is_longest room (name ∷ names) [] after e more = absurd (omega arith)
run_is_longest room (name ∷ names) (y ∷ ys) after e more =
    go (longest_run (room - (length name + 1)) names)
    (run_is_longest (room - (length name + 1)) names ys after (tail_of name y names (ys ++ after) e))
    (nat_le (length name + 1) room) refl more
  where
    go : (run : List (List ℕ)) → (length run < length ys → room - (length name + 1) < length (spelled ys))
        → (test : Bool) → nat_le (length name + 1) room ≡ test →
        length (if test then name ∷ run else []) < suc (length ys) → room < length (spelled (y ∷ ys))
    go run rest true is shorter =
        omega (
          arith,
          ap (length {A = ℕ}) (head_of name y names (ys ++ after) e),
          leb-true
              (length name + 1) room is,
          length-spelled-cons y ys,
          rest (omega arith),
        )
    go run rest false is shorter =
        omega (
          arith,
          ap (length {A = ℕ}) (head_of name y names (ys ++ after) e),
          leb-false
              (length name + 1) room is,
          length-spelled-cons y ys,
        )

-- if there is room for all names, the run is all of them
pub run_is_whole : (room : ℕ) (names : List (List ℕ)) → length (spelled names) ≤ room → longest_run room names ≡ names
run_is_whole room [] fits = refl
run_is_whole room (name ∷ names) fits =
    let test : nat_le (length name + 1) room
    ≡ true = le-leb (length name + 1) room (omega (arith, length-spelled-cons name names)) in
    rw (test, run_is_whole (room - (length name + 1)) names (omega (arith, length-spelled-cons name names))) refl

run_keeps : (room : ℕ) (names : List (List ℕ)) → All IsName names → All IsName (longest_run room names)
run_keeps room [] each = each
run_keeps room (name ∷ names) each =
    go (longest_run (room - (length name + 1)) names)
    (run_keeps (room - (length name + 1)) names (All-tail IsName name names each)) (nat_le (length name + 1) room)
  where
    go : (more : List (List ℕ)) → All IsName more → (test : Bool) → All IsName (if test then name ∷ more else [])
    go more ok true = All-cons IsName name more (All-head IsName name names each) ok
    go more ok false = All-nil IsName

-- there is room for one name of a table
run_has_some : (room : ℕ) (names : List (List ℕ)) → 33 ≤ room → All IsName names → 0 < length names
    → 0 < length (longest_run room names)
run_has_some room [] wide each some = absurd (omega arith)
run_has_some room (name ∷ names) wide each some =
    let first = All-head IsName name names each in
    let short = first.fits in
    let test : nat_le (length name + 1) room ≡ true = le-leb (length name + 1) room (omega arith) in
    rw test (omega arith)

-- ---- the page from a place on

pub is_page_from : (table : List (List ℕ)) (start : ℕ) → IsPageFrom table start (page_of table start)
unfolding page_of
is_page_from table start =
    let names = longest_run 578 (drop (start - 1) table) in
    let begins = run_begins 578 (drop (start - 1) table) in
    record {
      rest = begins.0;
      begins = begins.1;
      fits = run_fits 578 (drop (start - 1) table);
      longest = run_is_longest 578 (drop (start - 1) table);
      reaches = (
        λ t. leb-true (length table) (start - 1 + length names) t,
        λ le. le-leb (length table)
            (start - 1 + length names) le,
      );
    }

-- two beginnings of a list that are as long as each other are the same
same_beginning : (all xs ys r s : List (List ℕ)) → length xs ≡ length ys → all ≡ xs ++ r → all ≡ ys ++ s → xs ≡ ys
same_beginning all xs ys r s len p q =
    sym (ap (take (length xs)) p ∙ take_at xs r (length xs) refl) ∙ ap (λ n. take n all) len ∙ ap (take (length ys)) q
    ∙ take_at ys s (length ys) refl

pub one_page_from : (table : List (List ℕ)) (start : ℕ) (p q : Page) → IsPageFrom table start p
    → IsPageFrom table start q → p ≡ q
one_page_from table start p q ok ok' =
    let low : length q.names ≤ length p.names = no_longer p q ok ok' in
    let high : length p.names ≤ length q.names = no_longer q p ok' ok in
    let names = same_beginning (drop (start - 1) table) p.names q.names ok.rest ok'.rest
    (omega arith) ok.begins ok'.begins in
    let there : IsTrue p.last → IsTrue q.last = λ t. let le = ok.reaches.0 t in ok'.reaches.1 (omega arith) in
    let back : IsTrue q.last → IsTrue p.last = λ t. let le = ok'.reaches.0 t in ok.reaches.1 (omega arith) in
    same_page p q (same_test p.last q.last there back) names
  where
    no_longer : (p q : Page) → IsPageFrom table start p → IsPageFrom table start q → length q.names ≤ length p.names
    no_longer p q ok ok' = go (nat_le (length q.names) (length p.names)) refl
      where
        go : (test : Bool) → nat_le (length q.names) (length p.names) ≡ test → length q.names ≤ length p.names
        go true e = leb-true (length q.names) (length p.names) e
        go false e = let more = ok.longest q.names ok'.rest ok'.begins
            (leb-false (length q.names) (length p.names) e) in let fits = ok'.fits in absurd (omega arith)

pub page_is_whole : (table : List (List ℕ)) → length (spelled table) ≤ 578 → page_of table 1
    ≡ record { last = true; names = table }
unfolding page_of
page_is_whole table fits =
    let end : nat_le (length table) (0 + length table)
    ≡ true = le-leb (length table) (0 + length table) (omega arith) in
    rw (run_is_whole 578 table fits, end) refl

pub page_is_lawful : (table : List (List ℕ)) (start : ℕ) → IsTable table → IsLawful (page_of table start)
unfolding page_of
page_is_lawful table start ok =
    let from = drop (start - 1) table in
    let each = All-drop IsName (start - 1) table ok.each in
    record {
      each = run_keeps 578 from each;
      count = omega (arith, count_le_spelled (longest_run 578 from), run_fits 578 from);
      some = λ no.
          let past : start - 1 + length (longest_run 578 from) < length table =
          leb-false (length table) (start - 1 + length (longest_run 578 from)) no in
          run_has_some 578 from (omega arith) each (omega (arith, length-drop (start - 1) table));
    }

-- ---- the page that is written

same_end : (n len passed all : ℕ) → n ≤ len → len ≡ all - passed → nat_eq n len ≡ nat_le all (passed + n)
same_end n len passed all le is = grind (arith, nat_tests)

-- the run of the names that are left is the page's
pub is_page_run : (table left run : List (List ℕ)) (start : ℕ) → left ≡ drop (min (start - 1) (length table)) table
    → run ≡ longest_run 578 left →
    (run ≡ (page_of table start).names) × (nat_eq (length run) (length left) ≡ (page_of table start).last)
unfolding page_of
is_page_run table left run start cut is =
    let from : left ≡ drop (start - 1) table = cut ∙ drop_min (start - 1) table in
    let names : run ≡ longest_run 578 (drop (start - 1) table) = is ∙ ap (longest_run 578) from in
    let begins = run_begins 578 left in
    let fewer : length run ≤ length left =
    omega (
      arith,
      ap (length {A = List ℕ}) is,
      ap (length {A = List ℕ}) begins.1,
      length-append
          (longest_run 578 left) begins.0,
    ) in
    let len : length left ≡ length table - (start - 1) = ap (length {A = List ℕ}) from
    ∙ length-drop (start - 1) table in (
      names,
      same_end (length run) (length left) (start - 1) (length table) fewer len
          ∙ ap (λ (l : List (List ℕ)). nat_le (length table) (start - 1 + length l)) names,
    )

-- ---- a page fits one packet

spelled_bytes : (names : List (List ℕ)) → All IsName names → AreBytes (spelled names)
spelled_bytes [] each = All-nil (λ b. b < 256)
spelled_bytes (name ∷ names) each =
    let ok = All-head IsName name names each in
    let rest = spelled_bytes names (All-tail IsName name names each) in
    let fits = ok.fits in
    All-cons (λ b. b < 256) (length name) (name ++ spelled names) (omega arith)
    (All-append (λ b. b < 256) name (spelled names) ok.bytes rest)

pub page_bytes : (table : List (List ℕ)) (start : ℕ) → IsTable table → AreBytes (page_data (page_of table start))
page_bytes table start ok = let lawful = page_is_lawful table start ok in
    spelled_bytes (page_of table start).names lawful.each

pub page_fits : (table : List (List ℕ)) (start : ℕ) → length (page_data (page_of table start)) ≤ 578
unfolding page_of
page_fits table start = run_fits 578 (drop (start - 1) table)

flag_fits : (last : Bool) → (if last then 1 else 0) < 256
flag_fits true = omega arith
flag_fits false = omega arith

pub user_bytes : (p : Page) → AreBytes (page_user p)
user_bytes p =
    let n = length p.names in
    let low = All-cons (λ b. b < 256) (n % 256) [] (omega arith) (All-nil (λ b. b < 256)) in
    let count = All-cons (λ b. b < 256) (n / 256 % 256) (n % 256 ∷ []) (omega arith) low in
    let flag = if p.last then 1 else 0 in
    All-cons (λ b. b < 256) flag (0 ∷ n / 256 % 256 ∷ n % 256 ∷ []) (flag_fits p.last)
    (All-cons (λ b. b < 256) 0 (n / 256 % 256 ∷ n % 256 ∷ []) (omega arith) count)
