-- What a page does to the reading that asked for it.
use Rattle.std.proofs.Common.{◌≡◌, ℕ, ◌+◌, ◌<◌, ◌≤◌, Bool, true, false, List, [], ◌∷◌, ◌++◌, length, map, Option, Some}
use Rattle.std.proofs.Common.{None, IsSome, inl, inr, refl, sym, ap, subst, ◌∙◌}
use Rattle.std.specs.Prelude.{IfSome, nat_lt, not, ◌&&◌}
use Rattle.std.proofs.lemmas.Bool.{false≢true, and_parts, le-ltb, lt-ltb, not-true}
use Rattle.at_ddp.specs.Outbox.{Posted}
use Rattle.at_ddp.specs.declared.address.Address.{Address}
use Rattle.at_ddp.specs.Protocols.{atp_kind}
use Rattle.at_atp_frame.specs.Frames.{Content, number_of, spelled}
use Rattle.at_atp_requester.specs.Requests.{Heard, begun, heard, next_number, request_by}
use Rattle.at_zip.specs.Page as pages
use Rattle.at_atp_requester.specs.declared.progress.RequestProgress.{RequestProgress}
use Rattle.at_atp_requester.specs.declared.progress.RequestProgress.TheVariants as step
use Rattle.at_event.specs.declared.Report.{Report}
use Rattle.at_event.specs.declared.Report.TheVariants as report
use Rattle.at_event.specs.declared.transactions.TransactionReport.TheVariants as atp_report
use Rattle.at_event.specs.declared.zones.ZoneReport.TheVariants as zip_report
use Rattle.at_event.specs.declared.seat.Seat.{Seat}
use Rattle.at_transaction_socket.specs.TransactionSockets.{asking, asks, packet_in}
use Rattle.at_zone_socket.specs.AtpHearing.{AtRequester}
use Rattle.at_zone_socket.specs.AtpParts.{AtpState, with_reading}
use Rattle.at_zone_socket.specs.ZoneSockets.{Reading}
use Rattle.at_event.specs.Outcomes.{Comes, IsStep, Outcome, over, posted, sent_by}
use Rattle.at_event.specs.Kinds.{takes_memory}
use Rattle.at_transaction_socket.specs.RequesterSocket.{reported_other}
use Rattle.at_zone_socket.specs.ZoneReading.{AsksOn, ReadsPage, TakesPage, is_page, is_reading, names_read}
use Rattle.at_zone_socket.specs.ZoneReading.{page_transaction, reading_ends}
use Rattle.at_zone_socket.specs.ZoneReading.{table_read}
use Rattle.at_event.proofs.OutcomeLemmas.{comes_wider, comes_with, step_comes}

-- ---- the next page

module _ {A : Type 0} (s : Seat) (a : AtpState) (h : Heard A) (from : Address) (names : List (List ℕ)) where
  -- the next page is asked for under this number
  abbrev pub next_asked : ℕ → Outcome A AtpState
  next_asked tid =
      over (with_reading a (Some (record { which = table_read a.zones.reading; tid = tid; names = names })))
      (asks s (record a.transactions { requester = h.after })
      (page_transaction from (table_read a.zones.reading) names tid))

  pub asks_as : (tid : ℕ) → next_number h.after ≡ Some tid
      → AsksOn s a h from names
      (next_asked tid)
  asks_as tid drawn = record { tid = tid; drawn = drawn; outcome = refl }

  pub asks_next : (tid : ℕ) (items after : List Posted) (new : AtpState) → next_number h.after ≡ Some tid →
      new ≡ with_reading a (Some (record { which = table_read a.zones.reading; tid = tid; names = names }))
      (record a.transactions {
        requester = begun h.after (page_transaction from (table_read a.zones.reading) names tid);
      })
      →
      after ≡ items ++ map posted
      (sent_by (asking s.net s.number) atp_kind
      ((from, spelled (request_by (page_transaction from (table_read a.zones.reading) names tid))) ∷ [])) →
      Comes (AsksOn s a h from names) a items (report.Transactions (atp_report.Begun tid)) new after
  asks_next tid items after new drawn same sent =
      comes_with (AsksOn s a h from names) a items
      (next_asked tid) (report.Transactions (atp_report.Begun tid)) new after
      (asks_as tid drawn) (refl, same, sent) refl

  -- if a number is free, some outcome may take memory
  pub next_wanted : IsSome (next_number h.after) → (o : Outcome A AtpState) × AsksOn s a h from names o
      × (takes_memory o.report ≡ true)
  next_wanted = go (next_number h.after) refl
    where
      go : (n : Option ℕ) → next_number h.after ≡ n → IsSome n → (o : Outcome A AtpState) × AsksOn s a h from names o
          × (takes_memory o.report ≡ true)
      go None e some = absurd (false≢true some)
      go (Some tid) e some = (
        next_asked tid,
        asks_as tid e,
        refl,
      )

-- ---- the page

module _ {A : Type 0} (s : Seat) (a : AtpState) (h : Heard A) (from : Address) (names : List (List ℕ))
    (p : pages.Page) where
  too_long_at : nat_lt 1024 (length names + length p.names) ≡ true
      → TakesPage s a h from names p (reading_ends s a h (report.Zones (zip_report.Fault 34)))
  too_long_at long = rw long refl

  pub last_at : nat_lt 1024 (length names + length p.names) ≡ false → p.last ≡ true
      → TakesPage s a h from names p
      (reading_ends s a h (report.Zones (zip_report.List (table_read a.zones.reading) (names ++ p.names))))
  last_at few last = rw (few, last) refl

  on_at : nat_lt 1024 (length names + length p.names) ≡ false → p.last ≡ false → (o : Outcome A AtpState)
      → AsksOn s a h from (names ++ p.names) o → TakesPage s a h from names p o
  on_at few on o asked = rw (few, on) asked

  pub page_wanted : IsSome (next_number h.after) → (o : Outcome A AtpState) × TakesPage s a h from names p o
      × (takes_memory o.report ≡ true)
  page_wanted some = go (nat_lt 1024 (length names + length p.names)) p.last refl refl
    where
      go : (long last : Bool) → nat_lt 1024 (length names + length p.names) ≡ long → p.last ≡ last
          → (o : Outcome A AtpState) × TakesPage s a h from names p o × (takes_memory o.report ≡ true)
      go true last e f = (reading_ends s a h (report.Zones (zip_report.Fault 34)), too_long_at e, refl)
      go false true e f = (
        reading_ends s a h (report.Zones (zip_report.List (table_read a.zones.reading) (names ++ p.names))),
        last_at e f,
        refl,
      )
      go false false e f = let next = next_wanted s a h from (names ++ p.names) some in
          (next.0, on_at e f next.0 next.1, next.2)

-- the same, told of a state that is the one before
module _ {A : Type 0} (s : Seat) (from : Address) (f : Content) (p : pages.Page) (items after : List Posted)
    (r : Report A) (new before now : AtpState) (same : before ≡ now) where
  abbrev May : AtpState → Outcome A AtpState → Type 0
  May a = TakesPage s a (heard {A = A} a.transactions.requester from f) from (names_read a.zones.reading) p

  moved : Comes (May before) before items r new after → Comes (May now) now items r new after
  moved = subst (λ (a : AtpState). Comes (May a) a items r new after) same

  pub ends_with_all : length (names_read before.zones.reading) + length p.names ≤ 1024 → p.last ≡ true →
      IsStep (reading_ends s before (heard {A = A} before.transactions.requester from f) (report.Zones (zip_report.List
      (table_read before.zones.reading) (names_read before.zones.reading ++ p.names)))) before
      items
      r new after
      → Comes (May now) now items r new after
  ends_with_all few last step =
      moved (step_comes (May before) before items
      (reading_ends s before (heard {A = A} before.transactions.requester from f) (report.Zones (zip_report.List
      (table_read before.zones.reading) (names_read before.zones.reading ++ p.names)))) r new
      after
      (last_at s before (heard {A = A} before.transactions.requester from f) from (names_read before.zones.reading) p
      (le-ltb 1024 (length (names_read before.zones.reading) + length p.names) few) last) step)

  pub goes_on : length (names_read before.zones.reading) + length p.names ≤ 1024 → p.last ≡ false →
      Comes (AsksOn s before (heard {A = A} before.transactions.requester from f) from (names_read before.zones.reading
      ++ p.names))
      before items r new after → Comes (May now) now items r new after
  goes_on few on comes =
      moved (comes_wider (AsksOn s before (heard {A = A} before.transactions.requester from f) from
      (names_read before.zones.reading ++ p.names)) (May before) before items r new after
      (on_at s before (heard {A = A} before.transactions.requester from f) from (names_read before.zones.reading) p
      (le-ltb 1024 (length (names_read before.zones.reading) + length p.names) few) on) comes)

  pub is_too_long : 1024 < length (names_read before.zones.reading) + length p.names →
      IsStep (reading_ends s before (heard {A = A} before.transactions.requester from f) (report.Zones
      (zip_report.Fault 34)))
      before
      items r new
      after → Comes (May now) now items r new after
  is_too_long long step =
      moved (step_comes (May before) before items
      (reading_ends s before (heard {A = A} before.transactions.requester from f) (report.Zones (zip_report.Fault 34)))
      r new
      after
      (too_long_at s before (heard {A = A} before.transactions.requester from f) from (names_read before.zones.reading)
      p
      (lt-ltb 1024 (length (names_read before.zones.reading) + length p.names) long)) step)

-- ---- the number that a packet draws

-- the number of the transaction that begins, if this is the report
abbrev pub begun_in : {A : Type 0} → Report A → Option ℕ
begun_in (report.Transactions (atp_report.Begun tid)) = Some tid
begun_in other = None

module _ (A : Type 0) (s : Seat) (a : AtpState) (from : Address) (f : Content) where
  -- a page that is not the last draws the number that is free
  pub page_draws : is_page A a from f ≡ true → (p : pages.Page) → pages.Spells (packet_in f).user (packet_in f).data_ p
      → nat_lt 1024 (length (names_read a.zones.reading) + length p.names) ≡ false → p.last ≡ false →
      (n : Option ℕ) → n ≡ next_number (heard {A = A} a.transactions.requester from f).after
      → IfSome n (λ tid. (o : Outcome A AtpState) × AtRequester s a from f o
      × (o.report ≡ report.Transactions (atp_report.Begun tid)))
  page_draws mine p is few on None e = tt
  page_draws mine p is few on (Some tid) e =
      let h : Heard A = heard a.transactions.requester from f in
      let names = names_read a.zones.reading ++ p.names in
      let o : Outcome A AtpState = next_asked s a h from names tid in (
        o,
        rw mine (inl (record {
          page = p;
          spelled = is;
          outcome = on_at s a h from (names_read a.zones.reading) p few on o (asks_as s a h from names tid (sym e));
        })),
        refl,
      )

  -- no packet begins a transaction but a page
  pub only_a_page_begins : is_page A a from f ≡ false → (o : Outcome A AtpState) → AtRequester s a from f o
      → begun_in o.report ≡ None
  only_a_page_begins other o at = ap (λ (x : Outcome A AtpState). begun_in x.report) (rw other at at)
      ∙ go (heard {A = A} a.transactions.requester from f).step
    where
      go : (x : RequestProgress A) → begun_in (reported_other {A = A} (number_of f) x) ≡ None
      go step.Ignored = refl
      go step.Kept = refl
      go step.AskAgain = refl
      go (step.Finished packets) = refl

  -- a packet with no page begins none
  pub no_page_begins_none : ((p : pages.Page) → pages.Spells (packet_in f).user (packet_in f).data_ p → ⊥)
      → (o : Outcome A AtpState) → AtRequester s a from f o → begun_in o.report ≡ None
  no_page_begins_none none o at = go (is_page A a from f) refl
    where
      go : (b : Bool) → is_page A a from f ≡ b → begun_in o.report ≡ None
      go false e = only_a_page_begins e o at
      go true e = had (rw e at at)
        where
          had : ReadsPage s a (heard {A = A} a.transactions.requester from f) from (names_read a.zones.reading)
              (packet_in f) o
              → begun_in o.report ≡ None
          had (inl h) = absurd (none h.page h.spelled)
          had (inr h) = ap (λ (x : Outcome A AtpState). begun_in x.report) h.outcome

-- the next page is asked for, of a reading that is open
pub asks_parts : (reading : Option Reading) (asks last : Bool) (tid n : ℕ)
    → IfSome reading (λ r. asks ≡ (not last && not (nat_lt 1024 (length r.names + n)))) → asks ≡ true
    → is_reading reading tid ≡ true →
    (last ≡ false) × (nat_lt 1024 (length (names_read reading) + n) ≡ false)
asks_parts None asks last tid n is was mine = absurd (false≢true mine)
asks_parts (Some r) asks last tid n is was mine =
    let both = and_parts (not last) (not (nat_lt 1024 (length r.names + n))) (sym is ∙ was) in
    (not-true last both.0, not-true (nat_lt 1024 (length r.names + n)) both.1)

-- and it is, if the page goes on
pub asks_of_parts : (reading : Option Reading) (asks last : Bool) (tid n : ℕ)
    → IfSome reading (λ r. asks ≡ (not last && not (nat_lt 1024 (length r.names + n)))) → is_reading reading tid ≡ true
    → last ≡ false → nat_lt 1024 (length (names_read reading) + n) ≡ false → asks ≡ true
asks_of_parts None asks last tid n is mine on few = absurd (false≢true mine)
asks_of_parts (Some r) asks last tid n is mine on few = is ∙ (λ i. not (on i) && not (few i))
