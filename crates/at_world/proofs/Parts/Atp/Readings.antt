-- A node that reads a zone table, page by page: what is known of its names, and of the answers to its transaction.
use Rattle.std.proofs.Common.{◌≡◌, ◌⊎◌, inl, inr, ℕ, zero, suc, ◌+◌, ◌^◌, ◌<◌, ◌≤◌, true, false, cond, List}
use Rattle.std.proofs.Common.{[], ◌∷◌, ◌++◌, length, get_or, Option, Some, refl, sym, ap, subst, ◌∙◌}
use Rattle.std.proofs.Common.{arith}
use Rattle.std.specs.List.{Contains}
use Rattle.std.proofs.lemmas.List.{length-append}
use Rattle.std.proofs.lemmas.List.Elements.{Contains-append_cases}
use Rattle.std.proofs.lemmas.Option.{slice_get-get_or}
use Rattle.at_ddp.specs.declared.address.Address.{Address}
use Rattle.at_atp_frame.specs.Packets.{Packet}
use Rattle.at_zip.specs.Fault.{IsFirstFault}
use Rattle.at_zip.specs.Page.{Page, IsLawful as IsLawfulPage, IsPageFrom, Spells, page_of, page_user, page_data}
use Rattle.at_zip.specs.Reading.{BeginsTable, place_after}
use Rattle.at_zip.specs.Request.{RequestSpells, request_user}
use Rattle.at_zip.specs.Tables.{Tables, AreTables, table_of, with_table}
use Rattle.at_zip.specs.Zones.{IsTable}
use Rattle.at_zip.specs.declared.request.TableChoice.{TableChoice}
use Rattle.at_zip.specs.declared.fault.ZipFault.{ZipFault}
use Rattle.at_zone_socket.specs.ZoneSockets.{Reading as ZoneReading, zones_at}
use Rattle.at_transaction_socket.specs.TransactionSockets.{asking}
use Rattle.at_steps.specs.AtpSteps.{page_answer}
use Rattle.at_world.specs.Machine.AtpGuards.{Reading, MayAskFor, ReadsSince, StoodSince, reading_of}
use Rattle.at_world.specs.Agreements.{on_wire}
use Rattle.at_world.specs.Transactions.{Asks, ForPage, ForService, Transaction, Asked, answered, is_transaction}
use Rattle.at_world.specs.Transactions.{transaction_of}
use Rattle.at_world.proofs.Parts.Atp.Lists.{Becomes, answer_joins, one_answer}
use Rattle.at_world.proofs.Parts.Atp.OnWire.{AsksWell}

-- what the layers below promise of pages
pub record ReadingLaws : Type 0 where
  pub asks : (which : TableChoice) (start : ℕ) → 1 ≤ start → start < 2 ^ 16
      → RequestSpells (request_user which start) which start
  pub written : (p : Page) (rest : List ℕ) → IsLawfulPage p → Spells (page_user p) (page_data p ++ rest) p
  pub lawful : (table : List (List ℕ)) (start : ℕ) → IsTable table → IsLawfulPage (page_of table start)
  pub one_request : (user : List ℕ) (v w : TableChoice) (m k : ℕ) → RequestSpells user v m → RequestSpells user w k
      → (v ≡ w) × (m ≡ k)
  pub sets : (which : TableChoice) (names : List (List ℕ)) (tables : Tables) → IsTable names → AreTables tables
      → AreTables (with_table which names tables)
  pub one_page : (user bytes : List ℕ) (p q : Page) → Spells user bytes p → Spells user bytes q → p ≡ q
  pub faultless : (user bytes : List ℕ) (p : Page) → Spells user bytes p → (fault : ZipFault)
      → IsFirstFault fault user bytes → ⊥
  pub longest : (table : List (List ℕ)) (start : ℕ) → IsPageFrom table start (page_of table start)
  pub begins : (table read : List (List ℕ)) → BeginsTable table read
      → BeginsTable table (read ++ (page_of table (place_after read)).names)
  pub whole : (table read : List (List ℕ)) → BeginsTable table read → (page_of table (place_after read)).last ≡ true
      → read ++ (page_of table (place_after read)).names ≡ table

-- a transaction may ask for the page that it asks for on the wire
pub may_ask : (laws : ReadingLaws) (asks : Asks) (to : Address) → AsksWell asks to → (which : TableChoice) (start : ℕ)
    → RequestSpells (on_wire asks).user which start → MayAskFor asks which start
may_ask laws (ForPage kind from) to well which start spells =
    laws.one_request (request_user kind from) kind which from start (laws.asks kind from well.0 well.1) spells
may_ask laws (ForService user bytes) to well which start spells = tt

-- ---- what is known of a reading

-- the tables at a moment
abbrev pub tables_at : List Tables → ℕ → Tables
tables_at past moment = get_or past moment (record { all = []; local = [] })

-- the table of this kind was this one at every moment from that one on
abbrev pub HasStood : List Tables → ℕ → TableChoice → List (List ℕ) → Type 0
HasStood past since which table =
    (moment : ℕ) → since ≤ moment → moment < length past → table_of which (tables_at past moment) ≡ table

pub has_stood : (past : List Tables) (since : ℕ) (which : TableChoice) (table : List (List ℕ))
    → StoodSince past since which table → HasStood past since which table
has_stood past since which table stood moment late within = stood moment (tables_at past moment) late
    (slice_get-get_or past moment (record { all = []; local = [] }) within)

-- an answer is the page after these names of this table at some moment since then
pub record PageAt (past : List Tables) (since : ℕ) (which : TableChoice) (names : List (List ℕ)) (answer : List Packet)
    : Type 0 where
  pub moment : ℕ
  pub late : since ≤ moment
  pub within : moment < length past
  pub is_table : IsTable (table_of which (tables_at past moment))
  pub is : answer ≡ page_answer (table_of which (tables_at past moment)) (place_after names)

-- A node that reads a table has a transaction that asked the router for the page after the names that it has. These
-- begin the table that stood since the reading began, and each answer is the page of a table since then.
pub record Reads (net : ℕ) (router : Option ℕ) (past : List Tables) (asked : List Transaction)
    (readings : List Reading) (k : ℕ) (r : ZoneReading) : Type 0 where
  pub server : ℕ
  pub is_router : router ≡ Some server
  pub first : Asked asked (asking net k) r.tid (zones_at net server)
  pub asks : (first.transaction).asks ≡ ForPage r.which (place_after r.names)
  pub xo : (first.transaction).xo ≡ false
  pub few : length r.names ≤ 1024
  pub since : ℕ
  pub began : ReadsSince readings k r.which since
  pub begun : since < length past
  pub begins : (table : List (List ℕ)) → HasStood past since r.which table → BeginsTable table r.names
  pub pages : (answer : List Packet) → Contains (first.transaction).answers answer
      → PageAt past since r.which r.names answer

-- a transaction that stays what it was, but for answers that are pages of one of these tables
pub record Stays (tables : Tables) (before after : Transaction) : Type 0 where
  pub asks : after.asks ≡ before.asks
  pub xo : after.xo ≡ before.xo
  pub answers : (answer : List Packet) → Contains after.answers answer → Contains before.answers answer
      ⊎ ((which : TableChoice) × (start : ℕ) × MayAskFor before.asks which start
      × (answer ≡ page_answer (table_of which tables) start))

-- the newest transaction of a number that asked a router stays so
abbrev pub StaysAsked : Tables → (before after : List Transaction) → (who : Address) (tid : ℕ) (at : Address)
    → Type 0
StaysAsked tables before after who tid at = (a : Asked before who tid at) → (b : Asked after who tid at)
    × Stays tables a.transaction b.transaction

-- an answer joins its transaction: it is a page of one of the tables, if that transaction asked this address
pub joined_stays : (tables : Tables) (ts : List Transaction) (from : Address) (tid : ℕ) (packets : List Packet)
    (who : Address) (k : ℕ) (at : Address) →
    ((u : Transaction) → transaction_of ts from tid ≡ Some u → u.responder ≡ at → (which : TableChoice)
    × (start : ℕ) × MayAskFor u.asks which start × (packets ≡ page_answer (table_of which tables) start))
    → StaysAsked tables ts (answered ts from tid packets) who k at
joined_stays tables ts from tid packets who k at page a = let more =
    answer_joins ts from tid packets who k a.transaction a.newest in go more.0 more.1 more.2
  where
    go : (v : Transaction) → transaction_of (answered ts from tid packets) who k ≡ Some v
        → Becomes from tid packets who k a.transaction v → (b : Asked (answered ts from tid packets) who k at)
        × Stays tables a.transaction b.transaction
    go v is (inl same) = (
      record { transaction = v; newest = is; asked_it = ap (λ (t : Transaction). t.responder) same ∙ a.asked_it },
      record {
        asks = ap (λ (t : Transaction). t.asks) same;
        xo = ap (λ (t : Transaction). t.xo) same;
        answers = λ answer among. inl (subst (λ (t : Transaction). Contains t.answers answer) same among);
      },
    )
    go v is (inr (from_is, tid_is, same)) = (
      record { transaction = v; newest = is; asked_it = ap (λ (t : Transaction). t.responder) same ∙ a.asked_it },
      record {
        asks = ap (λ (t : Transaction). t.asks) same;
        xo = ap (λ (t : Transaction). t.xo) same;
        answers = λ answer among. new answer
            (Contains-append_cases (a.transaction).answers (packets ∷ []) answer
            (subst (λ (t : Transaction). Contains t.answers answer) same among));
      },
    )
      where
        new : (answer : List Packet) → Contains (a.transaction).answers answer ⊎ Contains (packets ∷ []) answer
            → Contains (a.transaction).answers answer
            ⊎ ((which : TableChoice) × (start : ℕ) × MayAskFor (a.transaction).asks which start
            × (answer ≡ page_answer (table_of which tables) start))
        new answer (inl old) = inl old
        new answer (inr one) =
            let its = page a.transaction ((λ i. transaction_of ts (from_is i) (tid_is i)) ∙ a.newest) a.asked_it in
            inr (its.0, its.1, its.2, sym (one_answer packets answer one) ∙ its.3)

-- what was asked stays if another number is drawn
pub drawn_stays : (tables : Tables) (ts : List Transaction) (new : Transaction) (who : Address) (k : ℕ)
    (at : Address) → is_transaction who k new ≡ false → StaysAsked tables ts (new ∷ ts) who k at
drawn_stays tables ts new who k at apart a = (
  record {
    transaction = a.transaction;
    newest = ap (λ b. cond b (Some new) (transaction_of ts who k)) apart ∙ a.newest;
    asked_it = a.asked_it;
  },
  record { asks = refl; xo = refl; answers = λ answer among. inl among },
)

pub all_stays : (tables : Tables) (ts : List Transaction) (who : Address) (k : ℕ) (at : Address)
    → StaysAsked tables ts ts who k at
all_stays tables ts who k at a = (a, record { asks = refl; xo = refl; answers = λ answer among. inl among })

-- ---- readings that go on

at_later : (past : List Tables) (x : Tables) (i : ℕ) → i < length past
    → tables_at (past ++ x ∷ []) i ≡ tables_at past i
at_later [] x i lt = absurd (omega (arith, lt))
at_later (y ∷ past) x zero lt = refl
at_later (y ∷ past) x (suc i) lt = at_later past x i (omega (arith, lt))

pub at_now : (past : List Tables) (x : Tables) → tables_at (past ++ x ∷ []) (length past) ≡ x
at_now [] x = refl
at_now (y ∷ past) x = at_now past x

pub longer : (past : List Tables) (x : Tables) → length (past ++ x ∷ []) ≡ length past + 1
longer past x = length-append past (x ∷ [])

-- a table that stood until now stood until the moment before
pub stood_before : (past : List Tables) (x : Tables) (since : ℕ) (which : TableChoice) (table : List (List ℕ))
    → HasStood (past ++ x ∷ []) since which table → HasStood past since which table
stood_before past x since which table stood moment late within =
    ap (table_of which) (sym (at_later past x moment within))
    ∙ stood moment late (omega (arith, within, longer past x))

later_page : (past : List Tables) (x : Tables) (since : ℕ) (which : TableChoice) (names : List (List ℕ))
    (answer : List Packet) → PageAt past since which names answer → PageAt (past ++ x ∷ []) since which names answer
later_page past x since which names answer p = record {
  moment = p.moment;
  late = p.late;
  within = let lt = p.within in omega (arith, lt, longer past x);
  is_table = subst (λ t. IsTable (table_of which t)) (sym (at_later past x p.moment p.within)) p.is_table;
  is = p.is
      ∙ ap (λ t. page_answer (table_of which t) (place_after names)) (sym (at_later past x p.moment p.within));
}

-- the page of a table of this moment
page_now : (past : List Tables) (x : Tables) (since : ℕ) (which : TableChoice) (names : List (List ℕ))
    (answer : List Packet) → since < length past → IsTable (table_of which x)
    → answer ≡ page_answer (table_of which x) (place_after names) → PageAt (past ++ x ∷ []) since which names answer
page_now past x since which names answer lt table is = record {
  moment = length past;
  late = omega (arith, lt);
  within = omega (arith, longer past x);
  is_table = subst (λ t. IsTable (table_of which t)) (sym (at_now past x)) table;
  is = is ∙ ap (λ t. page_answer (table_of which t) (place_after names)) (sym (at_now past x));
}

-- a reading whose transaction stays what it was
pub still_reads : (net : ℕ) (router : Option ℕ) (past : List Tables)
    (tables : Tables) (asked asked' : List Transaction) (readings readings' : List Reading) (k : ℕ)
    (read : ZoneReading) → AreTables tables →
    (r : Reads net router past asked readings k read)
    (b : Asked asked' (asking net k) read.tid (zones_at net r.server))
    → Stays tables (r.first).transaction b.transaction → reading_of readings' k ≡ reading_of readings k
    → Reads net router (past ++ tables ∷ []) asked' readings' k read
still_reads net router past tables asked asked' readings readings' k read are r b s since = record {
  server = r.server;
  is_router = r.is_router;
  first = b;
  asks = s.asks ∙ r.asks;
  xo = s.xo ∙ r.xo;
  few = r.few;
  since = r.since;
  began = since ∙ r.began;
  begun = let lt = r.begun in omega (arith, lt, longer past tables);
  begins = λ t stood. r.begins t (stood_before past tables r.since read.which t stood);
  pages = λ answer among. page answer (s.answers answer among);
}
  where
    page : (answer : List Packet) → Contains ((r.first).transaction).answers answer
        ⊎ ((which : TableChoice) × (start : ℕ) × MayAskFor ((r.first).transaction).asks which start
        × (answer ≡ page_answer (table_of which tables) start))
        → PageAt (past ++ tables ∷ []) r.since read.which read.names answer
    page answer (inl old) = later_page past tables r.since read.which read.names answer (r.pages answer old)
    page answer (inr now) =
        let one = subst (λ a. MayAskFor a now.0 now.1) r.asks now.2 in
        page_now past tables r.since read.which read.names answer r.begun (are read.which)
        (now.3 ∙ sym (λ i. page_answer (table_of (one.0 i) tables) (one.1 i)))
