-- The names that a reading has, as the beginning of a table.
use Rattle.std.proofs.Common.{◌≡◌, ℕ, ◌+◌, ◌-◌, ◌<◌, ◌≤◌, true, false, List, [], ◌∷◌, ◌++◌, length, drop, append_assoc}
use Rattle.std.proofs.Common.{refl, sym, ap, subst, ◌∙◌, arith}
use Rattle.std.proofs.lemmas.List.{length-append, append-nil, nil_from_length}
use Rattle.std.proofs.lemmas.List.Elements.{All-append}
use Rattle.std.proofs.Math.Seq.{drop-append_seam}
use Rattle.at_zip.specs.Page.{Page, IsLawful, page_of}
use Rattle.at_zip.specs.Reading.{BeginsTable, EndsWithLast, InTurn, NoneIsLast, names_of, place_after}
use Rattle.at_zip.specs.Zones.{IsName, IsTable}
use Rattle.at_zip.proofs.RunLemmas.{is_page_from, page_is_lawful}

-- a table stays one with the names of a page, if it does not get too long
pub longer_table : (read : List (List ℕ)) (p : Page) → IsTable read → IsLawful p → length read + length p.names ≤ 1024
    → IsTable (read ++ p.names)
longer_table read p table lawful few = record {
  each = All-append IsName read p.names table.each lawful.each;
  count = omega (arith, length-append read p.names);
}

-- ---- one page

-- what is left of a table behind the names that were read
left_of : (table read : List (List ℕ)) (b : BeginsTable table read) → drop (place_after read - 1) table ≡ b.rest
left_of table read b =
    let place : 1 + length read - 1 ≡ length read = omega arith in
    ap (λ n. drop n table) place ∙ ap (drop (length read)) b.begins ∙ drop-append_seam read b.rest

pub goes_on : (table read : List (List ℕ)) → BeginsTable table read
    → BeginsTable table (read ++ (page_of table (place_after read)).names)
goes_on table read b =
    let p = is_page_from table (place_after read) in
    record {
      rest = p.rest;
      begins = b.begins ∙ ap (λ l. read ++ l) (sym (left_of table read b) ∙ p.begins)
          ∙ sym (append_assoc read (page_of table (place_after read)).names p.rest);
    }

pub is_whole : (table read : List (List ℕ)) → BeginsTable table read → (page_of table (place_after read)).last ≡ true
    → read ++ (page_of table (place_after read)).names ≡ table
is_whole table read b last =
    let names = (page_of table (place_after read)).names in
    let p = is_page_from table (place_after read) in
    let now = goes_on table read b in
    let reaches : length table ≤ 1 + length read - 1 + length names = p.reaches.0 last in
    let all : length table ≡ length read + length names + length now.rest = ap (length {A = List ℕ}) now.begins
    ∙ length-append (read ++ names) now.rest ∙ ap (λ n. n + length now.rest) (length-append read names) in
    let none : now.rest ≡ [] = nil_from_length now.rest (omega (arith, reaches, all)) in
    sym (now.begins ∙ ap (λ l. read ++ names ++ l) none ∙ append-nil (read ++ names))

pub has_more : (table read : List (List ℕ)) → IsTable table → (page_of table (place_after read)).last ≡ false
    → 0 < length (page_of table (place_after read)).names
has_more table read is last = let lawful = page_is_lawful table (place_after read) is in lawful.some last

-- ---- all of them

whole_from : (table read : List (List ℕ)) (pages : List Page) → BeginsTable table read → InTurn table read pages
    → EndsWithLast pages → read ++ names_of pages ≡ table
whole_from table read [] b turn ends = absurd ends
whole_from table read (p ∷ []) b turn ends =
    ap (λ l. read ++ l) (append-nil p.names) ∙ ap (λ (q : Page). read ++ q.names) turn.0
    ∙ is_whole table read b (ap (λ (q : Page). q.last) (sym turn.0) ∙ ends)
whole_from table read (p ∷ q ∷ pages) b turn ends =
    sym (append_assoc read p.names (names_of (q ∷ pages)))
    ∙ whole_from table (read ++ p.names) (q ∷ pages)
    (subst (λ (x : Page). BeginsTable table (read ++ x.names)) (sym turn.0) (goes_on table read b)) turn.1 ends.1

begun : (table : List (List ℕ)) → BeginsTable table []
begun table = record { rest = table; begins = refl }

pub turns_give_all : (table : List (List ℕ)) (pages : List Page) → InTurn table [] pages → EndsWithLast pages
    → names_of pages ≡ table
turns_give_all table pages turn ends = whole_from table [] pages (begun table) turn ends

-- so many pages have at least so many names
some_each : (table read : List (List ℕ)) (pages : List Page) → IsTable table → BeginsTable table read
    → InTurn table read pages → NoneIsLast pages → length read + length pages ≤ length table
some_each table read [] is b turn none = omega (arith, ap (length {A = List ℕ}) b.begins, length-append read b.rest)
some_each table read (p ∷ pages) is b turn none =
    let some : 0 < length p.names = subst (λ (x : Page). 0 < length x.names) (sym turn.0)
    (has_more table read is (ap (λ (x : Page). x.last) (sym turn.0) ∙ none.0)) in
    let rest = some_each table (read ++ p.names) pages is
    (subst (λ (x : Page). BeginsTable table (read ++ x.names)) (sym turn.0) (goes_on table read b)) turn.1 none.1 in
    omega (arith, some, rest, length-append read p.names)

pub turns_end : (table : List (List ℕ)) (pages : List Page) → IsTable table → InTurn table [] pages → NoneIsLast pages
    → length pages ≤ length table
turns_end table pages is turn none = let all = some_each table [] pages is (begun table) turn none in omega (arith, all)
