-- Which datagrams begin a transaction, and whose the reports of the part are.
use Rattle.std.proofs.Common.{◌≡◌, ◌⊎◌, ℕ, Bool, true, false, Option, Some, None, inl, inr, refl, ap, ◌∙◌}
use Rattle.std.specs.Prelude.{◌++◌, ◌+◌, length, nat_lt}
use Rattle.at_ddp.specs.Datagram.{Content as Datagram}
use Rattle.at_ddp.specs.declared.address.Address.{Address}
use Rattle.at_atp_frame.specs.Frames.{Content, number_of}
use Rattle.at_atp_requester.specs.Requests.{heard}
use Rattle.at_atp_requester.specs.declared.progress.RequestProgress.{RequestProgress}
use Rattle.at_atp_requester.specs.declared.progress.RequestProgress.TheVariants as step
use Rattle.at_zip.specs.Page as pages
use Rattle.at_event.specs.Kinds.{Speaker, Atp, Nobody, reporter_of}
use Rattle.at_event.specs.Outcomes.{Outcome}
use Rattle.at_event.specs.declared.Report.{Report}
use Rattle.at_event.specs.declared.Report.TheVariants as report
use Rattle.at_event.specs.declared.transactions.TransactionReport.TheVariants as atp_report
use Rattle.at_event.specs.declared.seat.Seat.{Seat}
use Rattle.at_event.specs.declared.service.Reply.{Reply}
use Rattle.at_transaction_socket.specs.TransactionSockets.{packet_in}
use Rattle.at_transaction_socket.specs.RequesterSocket.{reported_other}
use Rattle.at_zone_socket.specs.AtpHearing.{AtRequester, HearsAtp}
use Rattle.at_zone_socket.specs.AtpParts.{AtpState}
use Rattle.at_zone_socket.specs.Turning.{HasTurn}
use Rattle.at_zone_socket.specs.ZoneReading.{AsksOn, ReadsPage, TakesPage, is_page, names_read}
use Rattle.at_zone_socket.proofs.AnsweringLemmas.{TellsNothing, by_asker}
use Rattle.at_zone_socket.proofs.ReadingLemmas.{begun_in}
use Rattle.at_zone_socket.proofs.TurningLemmas.{beginning_turns, turning_begins}

-- ---- which datagrams begin a transaction

begins_nothing : (A : Type 0) → TellsNothing A ℕ begun_in
begins_nothing A = record {
  ignored = refl;
  again = refl;
  released = refl;
  asked = λ key user bytes. refl;
  served = λ count. refl;
  refused = λ number. refl;
}

module _ (A : Type 0) (said : Reply A) (s : Seat) (a : AtpState) (d : Datagram) where
  pub page_begins : (tid : ℕ) → HasTurn a d tid → (o : Outcome A AtpState) × HearsAtp said s a d o
      × (o.report ≡ report.Transactions (atp_report.Begun tid))
  page_begins tid t =
      let b = turning_begins A s a d.from t.packet tid t.turns in
      (b.0, rw t.socket (inl (record { packet = t.packet; spelled = t.spelled; outcome = b.1 })), b.2)

  pub only_a_page : (o : Outcome A AtpState) (tid : ℕ) → HearsAtp said s a d o
      → o.report ≡ report.Transactions (atp_report.Begun tid) → HasTurn a d tid
  only_a_page o tid h is =
      let b = by_asker A ℕ begun_in (begins_nothing A) said s a d o h tid (ap begun_in is) in
      record {
        socket = b.socket;
        packet = b.packet;
        spelled = b.spelled;
        turns = beginning_turns A s a d.from b.packet tid (o, b.at, is);
      }

-- ---- whose the reports are

-- another part or the session, if one of these reports so
abbrev other_part : Speaker → Option Speaker
other_part Atp = None
other_part Nobody = None
other_part k = Some k

abbrev told_of_other : {A : Type 0} → Report A → Option Speaker
told_of_other r = other_part (reporter_of r)

none_other : (A : Type 0) → TellsNothing A Speaker told_of_other
none_other A = record {
  ignored = refl;
  again = refl;
  released = refl;
  asked = λ key user bytes. refl;
  served = λ count. refl;
  refused = λ number. refl;
}

-- the socket that asks tells of its own protocols
module _ (A : Type 0) (s : Seat) (a : AtpState) (from : Address) (f : Content) (o : Outcome A AtpState) where
  abbrev Own : Type 0
  Own = told_of_other o.report ≡ None

  as_reported : (x : Outcome A AtpState) → o ≡ x → told_of_other x.report ≡ None → Own
  as_reported x is own = ap (λ (y : Outcome A AtpState). told_of_other y.report) is ∙ own

  other_own : (x : RequestProgress A) → told_of_other (reported_other {A = A} (number_of f) x) ≡ None
  other_own step.Ignored = refl
  other_own step.Kept = refl
  other_own step.AskAgain = refl
  other_own (step.Finished packets) = refl

  taken_own : (p : pages.Page) (long last : Bool) → nat_lt 1024 (length (names_read a.zones.reading) + length p.names)
      ≡ long
      → p.last ≡ last → TakesPage s a (heard {A = A} a.transactions.requester from f) from (names_read a.zones.reading)
      p o → Own
  taken_own p true last e g t = as_reported _ (rw e at t) refl
  taken_own p false true e g t = as_reported _ (rw (e, g) at t) refl
  taken_own p false false e g t =
      let asked : AsksOn s a (heard {A = A} a.transactions.requester from f) from (names_read a.zones.reading ++
      p.names) o =
      rw (e, g) at t in
      as_reported _ asked.outcome refl

  read_own : ReadsPage s a (heard {A = A} a.transactions.requester from f) from (names_read a.zones.reading) (packet_in
      f) o → Own
  read_own (inl h) =
      taken_own h.page (nat_lt 1024 (length (names_read a.zones.reading) + length h.page.names)) h.page.last refl refl
      h.outcome
  read_own (inr h) = as_reported _ h.outcome refl

  asker_own : AtRequester s a from f o → Own
  asker_own at = go (is_page A a from f) refl
    where
      go : (b : Bool) → is_page A a from f ≡ b → Own
      go false e = as_reported _ (rw e at at) (other_own (heard {A = A} a.transactions.requester from f).step)
      go true e = read_own (rw e at at)

own_of : (k : Speaker) → (other_part k ≡ None → (k ≡ Atp) ⊎ (k ≡ Nobody))
own_of Atp h = inl refl
own_of Nobody h = inr refl
own_of other h = absurd (cc)

pub reports_own : (A : Type 0) (said : Reply A) (s : Seat) (a : AtpState) (d : Datagram) (o : Outcome A AtpState)
    → HearsAtp said s a d o → (reporter_of o.report ≡ Atp) ⊎ (reporter_of o.report ≡ Nobody)
reports_own A said s a d o h = own_of (reporter_of o.report) (go (told_of_other o.report) refl)
  where
    go : (k : Option Speaker) → told_of_other o.report ≡ k → told_of_other o.report ≡ None
    go None e = e
    go (Some k) e =
        let b = by_asker A Speaker told_of_other (none_other A) said s a d o h k e in
        asker_own A s a d.from b.packet o b.at
