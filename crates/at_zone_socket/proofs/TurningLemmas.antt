-- The page that makes the next one be asked for: by the transaction that it ends, and by what its packet does.
use Rattle.std.proofs.Common.{◌≡◌, ℕ, ◌+◌, Bool, true, false, cond, List, length, Option, Some, None, refl, sym}
use Rattle.std.proofs.Common.{ap, inl, inr, subst, ◌∙◌, ◌++◌}
use Rattle.std.specs.Prelude.{nat_lt, find, is_some}
use Rattle.std.proofs.lemmas.Bool.{and_parts, eq-eqb, eqb-true, false≢true, le-ltb, ltb-false, not-true}
use Rattle.at_ddp.specs.Tables.{replaced, without_first}
use Rattle.at_ddp.specs.declared.address.Address.{Address}
use Rattle.at_atp_frame.specs.Frames.{Content, Release, Request, Response}
use Rattle.at_atp_frame.specs.Packets.{Packet}
use Rattle.at_atp_requester.specs.Answers.{AnswerPart, is_wanted, whole, with_part}
use Rattle.at_atp_requester.specs.Requests.{Heard, Requests, Transaction, came, came_for, finishes, heard}
use Rattle.at_atp_requester.specs.Requests.{is_at_least_once, is_finished, is_of, next_number, response_came, was_kept}
use Rattle.at_zip.specs.Page as pages
use Rattle.at_event.specs.Outcomes.{Outcome}
use Rattle.at_event.specs.declared.Report.TheVariants as report
use Rattle.at_event.specs.declared.transactions.TransactionReport.TheVariants as atp_report
use Rattle.at_event.specs.declared.seat.Seat.{Seat}
use Rattle.at_transaction_socket.specs.TransactionSockets.{packet_in}
use Rattle.at_zone_socket.specs.AtpHearing.{AtRequester}
use Rattle.at_zone_socket.specs.AtpParts.{AtpState}
use Rattle.at_zone_socket.specs.ZoneSockets.{Reading}
use Rattle.at_zone_socket.specs.Turning.{Completes, TurnsPage}
use Rattle.at_zone_socket.specs.ZoneReading.{AsksOn, ReadsPage, TakesPage, is_page, is_reading, names_read}
use Rattle.at_zone_socket.proofs.ReadingLemmas.{begun_in, only_a_page_begins, page_draws}

-- ---- the transaction

module _ (A : Type 0) (r : Requests) (from : Address) (tid place : ℕ) (part : AnswerPart) (sts : Bool) where
  abbrev At : Option Transaction → Heard A
  At o = response_came {A = A} r (is_of tid from) place part sts o

  abbrev With : Transaction → Transaction
  With t = record t { parts = with_part t.parts place part }

  kept_ends : (t : Transaction) (ps : Option (List Packet)) → is_some ps ≡ true
      → is_finished (was_kept {A = A} t sts ps).step ≡ true
  kept_ends t None h = absurd (false≢true h)
  kept_ends t (Some ps) h = refl

  came_ends : (t : Transaction) (b : Bool) → b ≡ true → is_some (whole (with_part t.parts place part)) ≡ true
      → is_finished (came_for {A = A} t place part sts b).step ≡ true
  came_ends t false h all = absurd (false≢true h)
  came_ends t true h all = kept_ends (With t) (whole (with_part t.parts place part)) all

  -- what completes an answer finishes its transaction
  pub completes_once : (c : Completes r from tid place part)
      → is_at_least_once (find (is_of tid from) r.standing) ≡ true
  completes_once c = ap is_at_least_once c.stands ∙ ap (λ b. is_at_least_once (Some (record c.transaction { xo = b })))
      c.at_least_once

  pub completes_ends : (c : Completes r from tid place part)
      → is_finished (At (find (is_of tid from) r.standing)).step ≡ true
  completes_ends c = ap (λ o. is_finished (At o).step) c.stands
      ∙ came_ends c.transaction (is_wanted c.transaction.parts place) c.wanted c.all

  kept_parts : (t : Transaction) (ps : Option (List Packet)) (b : Bool)
      → is_finished (was_kept {A = A} t b ps).step ≡ true → is_some ps ≡ true
  kept_parts t (Some ps) b h = refl
  kept_parts t None true h = absurd (false≢true h)
  kept_parts t None false h = absurd (false≢true h)

  came_parts : (t : Transaction) (b : Bool) → is_finished (came_for {A = A} t place part sts b).step ≡ true
      → (b ≡ true) × (is_some (whole (with_part t.parts place part)) ≡ true)
  came_parts t true h = (refl, kept_parts (With t) (whole (with_part t.parts place part)) sts h)
  came_parts t false h = go sts h
    where
      go : (q : Bool) → is_finished (came_for {A = A} t place part q false).step ≡ true
          → (false ≡ true) × (is_some (whole (with_part t.parts place part)) ≡ true)
      go true g = absurd (false≢true g)
      go false g = absurd (false≢true g)

  -- and what finishes it completed its answer
  ended_at : (o : Option Transaction) → find (is_of tid from) r.standing ≡ o → is_at_least_once o ≡ true
      → is_finished (At o).step ≡ true → Completes r from tid place part
  ended_at None is once h = absurd (false≢true once)
  ended_at (Some t) is once h =
      let both = came_parts t (is_wanted t.parts place) h in
      record { transaction = t; stands = is; at_least_once = not-true t.xo once; wanted = both.0; all = both.1 }

  pub ended_completes : is_at_least_once (find (is_of tid from) r.standing) ≡ true
      → is_finished (At (find (is_of tid from) r.standing)).step ≡ true → Completes r from tid place part
  ended_completes once h = ended_at (find (is_of tid from) r.standing) refl once h

  -- it is closed then
  closed_at : (o : Option Transaction) → is_at_least_once o ≡ true → is_finished (At o).step ≡ true
      → (At o).after ≡ record r { standing = without_first (is_of tid from) r.standing }
  closed_at None once h = absurd (false≢true once)
  closed_at (Some t) once h = ap (λ b. record {
    next = r.next;
    standing = cond b (without_first (is_of tid from) r.standing)
        (replaced (is_of tid from) (came {A = A} t place part sts).after r.standing);
  }) h

  pub closed_after : is_at_least_once (find (is_of tid from) r.standing) ≡ true
      → is_finished (At (find (is_of tid from) r.standing)).step ≡ true
      → (At (find (is_of tid from) r.standing)).after
      ≡ record r { standing = without_first (is_of tid from) r.standing }
  closed_after once h = closed_at (find (is_of tid from) r.standing) once h

-- ---- the page

module _ (A : Type 0) (s : Seat) (a : AtpState) (from : Address) (f : Content) where
  abbrev Begins : ℕ → Type 0
  Begins tid =
      (o : Outcome A AtpState) × AtRequester s a from f o × (o.report ≡ report.Transactions (atp_report.Begun tid))

  -- a page that makes the next one be asked for begins its transaction
  pub turning_begins : (tid : ℕ) → TurnsPage a from f tid → Begins tid
  turning_begins tid t =
      let r = t.reading in
      let part : AnswerPart = record { eom = t.ends; packet = t.packet } in
      let f' : Content = Response t.place t.ends t.status r.tid t.packet.user t.packet.data_ in
      let once = completes_once A a.transactions.requester from r.tid t.place part t.status t.completes in
      let ends = completes_ends A a.transactions.requester from r.tid t.place part t.status t.completes in
      let finishing : finishes A a.transactions.requester from f' ≡ true = rw (once, ends) refl in
      let mine : is_page A a from f ≡ true = ap (is_page A a from) t.answers
      ∙ rw (ap (λ o. is_reading o r.tid) t.reads ∙ eq-eqb r.tid r.tid refl, finishing) refl in
      let after = ap (λ x. next_number (heard {A = A} a.transactions.requester from x).after) t.answers
      ∙ ap next_number (closed_after A a.transactions.requester from r.tid t.place part t.status once ends) in
      let few : nat_lt 1024 (length (names_read a.zones.reading) + length t.page.names) ≡ false =
      ap (λ o. nat_lt 1024 (length (names_read o) + length t.page.names)) t.reads
      ∙ le-ltb 1024 (length r.names + length t.page.names) t.few in
      page_draws A s a from f mine t.page
      (subst (λ x. pages.Spells (packet_in x).user (packet_in x).data_ t.page) (sym t.answers) t.has_page)
      few t.goes_on (Some tid) (sym t.next ∙ sym after)

  -- a packet that is a page answers the transaction of an open reading
  by_response : (place : ℕ) (ends status : Bool) (tid : ℕ) (user bytes : List ℕ) (o : Option Reading)
      → a.zones.reading ≡ o → is_reading o tid ≡ true → f ≡ Response place ends status tid user bytes
      → finishes A a.transactions.requester from (Response place ends status tid user bytes) ≡ true
      → (p : pages.Page) → pages.Spells user bytes p
      → nat_lt 1024 (length (names_read a.zones.reading) + length p.names) ≡ false → p.last ≡ false → (next : ℕ)
      → next_number (heard {A = A} a.transactions.requester from (Response place ends status tid user bytes)).after ≡
      Some next
      → TurnsPage a from f next
  by_response place ends status tid user bytes None is reads f_is h p spelled few on next drawn =
      absurd (false≢true reads)
  by_response place ends status tid user bytes (Some r) is reads f_is h p spelled few on next drawn =
      let same : r.tid ≡ tid = eqb-true r.tid tid reads in
      let part : AnswerPart = record { eom = ends; packet = record { user = user; data_ = bytes } } in
      let parts = and_parts (is_at_least_once (find (is_of tid from) a.transactions.requester.standing))
      (is_finished (response_came {A = A} a.transactions.requester (is_of tid from) place part status
      (find (is_of tid from) a.transactions.requester.standing)).step) h in
      let after = closed_after A a.transactions.requester from tid place part status parts.0 parts.1 in
      record {
        reading = r;
        reads = is;
        place = place;
        ends = ends;
        status = status;
        packet = record { user = user; data_ = bytes };
        answers = f_is ∙ ap (λ t. Response place ends status t user bytes) (sym same);
        completes = subst (λ t. Completes a.transactions.requester from t place part) (sym same)
            (ended_completes A a.transactions.requester from tid place part status parts.0 parts.1);
        page = p;
        has_page = spelled;
        goes_on = on;
        few = ltb-false 1024 (length r.names + length p.names)
            (ap (λ x. nat_lt 1024 (length (names_read x) + length p.names)) (sym is) ∙ few);
        next = subst (λ t. next_number (record a.transactions.requester {
          standing = without_first (is_of t from) a.transactions.requester.standing;
        }) ≡ Some next) (sym same) (ap next_number (sym after) ∙ drawn);
      }

  by_packet : (g : Content) → f ≡ g → is_page A a from g ≡ true → (p : pages.Page)
      → pages.Spells (packet_in g).user (packet_in g).data_ p
      → nat_lt 1024 (length (names_read a.zones.reading) + length p.names) ≡ false → p.last ≡ false → (next : ℕ)
      → next_number (heard {A = A} a.transactions.requester from g).after ≡ Some next → TurnsPage a from f next
  by_packet (Response place ends status tid user bytes) is mine p spelled few on next drawn =
      let g : Content = Response place ends status tid user bytes in
      let parts = and_parts (is_reading a.zones.reading tid) (finishes A a.transactions.requester from g) mine in
      by_response place ends status tid user bytes a.zones.reading refl parts.0 is parts.1 p spelled few on next drawn
  by_packet (Request mask xo timer tid user bytes) is mine p spelled few on next drawn =
      absurd (false≢true (and_parts (is_reading a.zones.reading tid) false mine).1)
  by_packet (Release tid) is mine p spelled few on next drawn =
      absurd (false≢true (and_parts (is_reading a.zones.reading tid) false mine).1)

  -- the page by which the next transaction begins, and the number of that
  pub record GoesOn (tid : ℕ) : Type 0 where
    pub page : pages.Page
    pub spelled : pages.Spells (packet_in f).user (packet_in f).data_ page
    pub few : nat_lt 1024 (length (names_read a.zones.reading) + length page.names) ≡ false
    pub goes_on : page.last ≡ false
    pub next : next_number (heard {A = A} a.transactions.requester from f).after ≡ Some tid

  pub goes_on_by : (tid : ℕ) → Begins tid → is_page A a from f ≡ true → GoesOn tid
  goes_on_by tid (o, at, is) mine = had (rw mine at at)
    where
      nothing : begun_in o.report ≡ None → GoesOn tid
      nothing none = let both = sym none ∙ ap begun_in is in absurd (cc)

      received : (p : pages.Page) → pages.Spells (packet_in f).user (packet_in f).data_ p → (long last : Bool)
          → nat_lt 1024 (length (names_read a.zones.reading) + length p.names) ≡ long → p.last ≡ last
          → TakesPage s a (heard {A = A} a.transactions.requester from f) from (names_read a.zones.reading) p o
          → GoesOn tid
      received p spelled true last e g t = nothing (ap (λ (x : Outcome A AtpState). begun_in x.report) (rw e at t))
      received p spelled false true e g t =
          nothing (ap (λ (x : Outcome A AtpState). begun_in x.report) (rw (e, g) at t))
      received p spelled false false e g t =
          let asked : AsksOn s a (heard {A = A} a.transactions.requester from f) from
          (names_read a.zones.reading ++ p.names) o = rw (e, g) at t in
          let both : report.Transactions (atp_report.Begun asked.tid) ≡ report.Transactions (atp_report.Begun tid) =
          sym (ap (λ (x : Outcome A AtpState). x.report) asked.outcome) ∙ is in
          let same : asked.tid ≡ tid = cc in
          record { page = p; spelled = spelled; few = e; goes_on = g; next = asked.drawn ∙ ap Some same }

      had : ReadsPage s a (heard {A = A} a.transactions.requester from f) from (names_read a.zones.reading)
          (packet_in f) o → GoesOn tid
      had (inl h) = received h.page h.spelled
          (nat_lt 1024 (length (names_read a.zones.reading) + length h.page.names)) h.page.last refl refl h.outcome
      had (inr h) = nothing (ap (λ (x : Outcome A AtpState). begun_in x.report) h.outcome)

  -- no other packet begins a transaction
  pub beginning_turns : (tid : ℕ) → Begins tid → TurnsPage a from f tid
  beginning_turns tid b = go (is_page A a from f) refl
    where
      go : (c : Bool) → is_page A a from f ≡ c → TurnsPage a from f tid
      go false e =
          let none = only_a_page_begins A s a from f e b.0 b.1 in
          let both = sym none ∙ ap begun_in b.2 in absurd (cc)
      go true e =
          let p = goes_on_by tid b e in
          by_packet f refl e p.page p.spelled p.few p.goes_on tid p.next
