-- What a response that comes to a node's asking socket is in the network.
use Rattle.std.proofs.Common.{◌≡◌, ℕ, Bool, true, false, cond, List, [], ◌∷◌, Some, None, refl, sym, ap, subst, ◌∙◌}
use Rattle.std.specs.Prelude.{MatchBool, find, not, ◌==◌, ◌&&◌, ◌||◌}
use Rattle.std.proofs.lemmas.Bool.{false≢true, and_parts}
use Rattle.at_ddp.specs.Address.{same_address}
use Rattle.at_ddp.specs.declared.address.Address.{Address}
use Rattle.at_ddp.proofs.Octets.{same_address_itself}
use Rattle.at_atp_frame.specs.Frames.{Content, Response, number_of}
use Rattle.at_atp_frame.specs.Packets.{Packet}
use Rattle.at_atp_requester.specs.Requests as requests
use Rattle.at_atp_requester.specs.Requests.{Requests, finishes, has_number, heard, is_at_least_once, is_finished}
use Rattle.at_atp_requester.specs.Requests.{is_numbered, is_of}
use Rattle.at_atp_requester.specs.declared.progress.RequestProgress.{RequestProgress as Stepped}
use Rattle.at_atp_requester.specs.declared.progress.RequestProgress.TheVariants as step
use Rattle.at_atp.specs.Network as network
use Rattle.at_ddp.specs.Posts.{packet_at}
use Rattle.at_atp.specs.Network.{Sent, Happening, Hears, NoneHolds, after, done, with_requester, is_fresh}
use Rattle.at_atp.specs.Transactions.{Transaction, transaction_of, Asked, IsPart, IsResponse}
use Rattle.at_zone_socket.specs.AtpParts.{AtpState, with_transactions}
use Rattle.at_transaction_socket.specs.TransactionSockets.{asking, after_heard}
use Rattle.at_node.specs.Numbers.{drawn_by}
use Rattle.at_node.specs.Nodes.{with_atp, NodeState}
use Rattle.at_event.specs.Outcomes.{over, Outcome}
use Rattle.at_zone_socket.specs.AtpHearing.{AtRequester}
use Rattle.at_transaction_socket.specs.RequesterSocket.{reported_other}
use Rattle.at_zone_socket.specs.ZoneReading.{ReadsPage, is_page, is_reading, names_read}
use Rattle.at_node.specs.declared.numbers.Draw.TheVariants.{Tid}
use Rattle.at_event.specs.declared.Report.{Report}
use Rattle.at_event.specs.declared.Report.TheVariants as report
use Rattle.at_event.specs.declared.transactions.TransactionReport.TheVariants as atp_report
use Rattle.at_steps.specs.Acts.{Gets}
use Rattle.at_steps.specs.AtpReports.{Matches}
use Rattle.at_steps.specs.AtpHappenings.{Stands, IsOpen}
use Rattle.at_steps.specs.AtpSteps.{Ends, Plain}
use Rattle.at_steps.proofs.Protocols.Atp.Below.{HearingLaws}
use Rattle.at_steps.proofs.Protocols.Atp.Coming.{in_time}
use Rattle.at_steps.proofs.Protocols.Atp.Moves.{requester_happens}
use Rattle.at_steps.proofs.Protocols.Atp.PageHeard.{page_happens}
use Rattle.at_steps.proofs.Protocols.Atp.Standing.{IsIts, StepTo}
use Rattle.at_steps.proofs.Protocols.Atp.Stories.{is_quiet, ends_match, hears_matches}
use Rattle.at_steps.proofs.Protocols.Atp.Timers.{reads_it, reads_another}

-- ---- the transaction that reads

-- a number that is open has an entry
entry_of : (ts : List requests.Transaction) (tid : ℕ) → has_number ts tid ≡ true → (t : requests.Transaction)
    × (find (is_numbered tid) ts ≡ Some t)
entry_of [] tid h = absurd (false≢true h)
entry_of (t ∷ ts) tid h = go (entry_of ts tid) (t.tid == tid) refl h
  where
    go : (has_number ts tid ≡ true → (u : requests.Transaction) × (find (is_numbered tid) ts ≡ Some u)) → (b : Bool)
        → (t.tid == tid) ≡ b → (b || has_number ts tid) ≡ true → (u : requests.Transaction)
        × (find (is_numbered tid) (t ∷ ts) ≡ Some u)
    go ih true e g = (t, rw e refl)
    go ih false e g = let there = ih g in (there.0, rw e there.1)

-- the first entry of a number that asked an address is the first of the number, if that asked it
narrowed : (ts : List requests.Transaction) (tid : ℕ) (from : Address) (t : requests.Transaction)
    → find (is_numbered tid) ts ≡ Some t → t.to ≡ from → find (is_of tid from) ts ≡ Some t
narrowed [] tid from t h to = absurd (cc)
narrowed (x ∷ ts) tid from t h to = go (λ g. narrowed ts tid from t g to) (x.tid == tid) refl h
  where
    go : (find (is_numbered tid) ts ≡ Some t → find (is_of tid from) ts ≡ Some t) → (b : Bool) → (x.tid == tid) ≡ b
        → cond b (Some x) (find (is_numbered tid) ts) ≡ Some t
        → cond (b && same_address x.to from) (Some x) (find (is_of tid from) ts) ≡ Some t
    go ih true e g = let same : x
        ≡ t = cc in rw (ap (λ (y : requests.Transaction). same_address y.to from) same
        ∙ ap (λ a. same_address a from) to ∙ same_address_itself from) g
    go ih false e g = ih g

module _ (A : Type 0) (laws : HearingLaws A) (history : List Happening) (n : NodeState)
    (st : Stands A history n.seat.net n.seat.number n) (which : ℕ) (s : Sent)
    (was_sent : packet_at (after A history).sent which ≡ Some s) (fresh : is_fresh (after A history).drawn s ≡ true)
    (to_is : s.to ≡ asking n.seat.net n.seat.number)
    (place : ℕ) (eom sts : Bool) (tid : ℕ) (user bytes : List ℕ)
    (packet_is : s.packet ≡ Response place eom sts tid user bytes) where
  abbrev came_in : Content
  came_in = Response place eom sts tid user bytes

  -- what the requester makes of it
  abbrev received : requests.Heard A
  received = heard {A = A} n.atp.transactions.requester s.from came_in

  its_requester : (after A history).requesters s.to ≡ n.atp.transactions.requester
  its_requester = ap (after A history).requesters to_is ∙ st.requester

  is_done : done A (after A history) (Hears which)
      ≡ with_requester (after A history) (asking n.seat.net n.seat.number) received.after received.sent
  is_done = ap (network.hears A (after A history)) was_sent
      ∙ (λ i. with_requester (after A history) (to_is i) (heard {A = A} (its_requester i) s.from (packet_is i)).after
      (heard {A = A} (its_requester i) s.from (packet_is i)).sent)

  -- the newest transaction of this number, of which the packet is a part of an answer
  part : (a : Asked (after A history).asked (asking n.seat.net n.seat.number) tid s.from)
      × IsPart a.transaction place eom (record { user = user; data_ = bytes })
  part =
      let gives = laws.answers history st.timely in
      let p = gives.responded which s place eom sts tid user bytes was_sent fresh packet_is in
      let a = p.0 in (
        record {
          transaction = a.transaction;
          newest = (λ i. transaction_of (after A history).asked (sym to_is i) tid) ∙ a.newest;
          asked_it = a.asked_it;
        },
        p.1,
      )

  -- if the transaction reads, and the packet ends it, it is the page that the reading asked for
  ends_it : is_reading n.atp.zones.reading tid ≡ true → is_finished received.step ≡ true
      → is_page A n.atp s.from came_in ≡ true
  ends_it mine ended =
      let it = reads_it n.atp.zones.reading tid mine in
      let opened : has_number n.atp.transactions.requester.standing tid ≡ true = ap
      (has_number n.atp.transactions.requester.standing) (sym it.2)
      ∙ st.is_open it.0 it.1 in
      let e = entry_of n.atp.transactions.requester.standing tid opened in
      let gives = laws.answers history st.timely in
      let stands = gives.standing (asking n.seat.net n.seat.number) tid e.0
      (ap (λ (r : Requests). find (is_numbered tid) r.standing) st.requester ∙ e.1) in
      let a = stands.0 in
      let p = part in
      let b = p.0 in
      let same : a.transaction ≡ b.transaction = some_transaction (sym a.newest ∙ b.newest) in
      let to : (e.0).to ≡ s.from = sym a.asked_it ∙ ap (λ (t : Transaction). t.responder) same ∙ b.asked_it in
      let once : (e.0).xo ≡ false = sym stands.4
      ∙ st.at_least_once it.0 it.1 a.transaction
      (ap (transaction_of (after A history).asked (asking n.seat.net n.seat.number)) it.2 ∙ a.newest) in
      let found : is_at_least_once (find (is_of tid s.from) n.atp.transactions.requester.standing)
      ≡ true = ap is_at_least_once (narrowed n.atp.transactions.requester.standing tid s.from e.0 e.1 to) ∙ ap not once
      in
      λ i. mine i && (found i && ended i)
    where
      some_transaction : {x y : Transaction} → Some x ≡ Some y → x ≡ y
      some_transaction h = cc

  -- a packet that is no page leaves a reading open
  away : is_page A n.atp s.from came_in ≡ false → is_finished received.step ≡ true → is_reading n.atp.zones.reading tid
      ≡ false
  away other ended = go (is_reading n.atp.zones.reading tid) refl
    where
      go : (b : Bool) → is_reading n.atp.zones.reading tid ≡ b → b ≡ false
      go false e = refl
      go true e = absurd (false≢true (sym other ∙ ends_it e ended))

  goes_on : (is_finished received.step ≡ true → is_reading n.atp.zones.reading tid ≡ false)
      → IsOpen (with_transactions n.atp (record n.atp.transactions { requester = received.after }))
  goes_on apart r reads = laws.heard_stays n.atp.transactions.requester s.from came_in r.tid
      (st.is_open r reads) (λ finished. reads_another n.atp.zones.reading tid r (apart finished) reads)

  -- a step of a transaction that goes on, or of another than the reading's
  steps_so : (r : Report A) (o : Outcome A AtpState) → drawn_by r ≡ None
      → Matches n.seat.net n.seat.number n.atp.zones.tables (after A history) (Hears which) (Gets which) r
      → (is_finished received.step ≡ true → is_reading n.atp.zones.reading tid ≡ false)
      → StepTo A history n (Gets which) (after A history).asked
      (with_transactions n.atp (record n.atp.transactions { requester = received.after })) r
      → o ≡ over (with_transactions n.atp) (after_heard n.seat n.atp.transactions received r) → IsIts A history n
      (Gets which) (over (with_atp n) o)
  steps_so r o none matches apart step is = subst (λ p. IsIts A history n (Gets which) (over (with_atp n) p)) (sym is)
      (requester_happens A history n (Gets which) st (Hears which) received.after n.atp.zones.reading received.sent r
      (in_time (after A history) which s was_sent fresh) tt is_done none (goes_on apart) matches step)

  -- a step with a report that says nothing of transactions
  plainly : (r : Report A) (o : Outcome A AtpState) → drawn_by r ≡ None → is_quiet r (Gets which) ≡ true
      → (x : Stepped A) → received.step ≡ x → is_finished x ≡ false
      → StepTo A history n (Gets which) (after A history).asked
      (with_transactions n.atp (record n.atp.transactions { requester = received.after })) r
      → o ≡ over (with_transactions n.atp) (after_heard n.seat n.atp.transactions received r) → IsIts A history n
      (Gets which) (over (with_atp n) o)
  plainly r o none quiet x is goes step at =
      steps_so r o none (hears_matches A n.seat.net n.seat.number n.atp.zones.tables (after A history) which
      (Gets which) r quiet) (λ finished. absurd (false≢true (sym goes ∙ ap is_finished (sym is) ∙ finished))) step at

  -- ---- the end of another transaction

  response : (packets : List Packet) → received.step ≡ step.Finished packets
      → (a : Transaction) × (transaction_of (after A history).asked (asking n.seat.net n.seat.number) tid ≡ Some a)
      × IsResponse a packets
  response packets ended =
      let gives = laws.answers history st.timely in
      let f = gives.finished which s packets was_sent fresh
      ((λ i. (heard {A = A} (its_requester i) s.from (packet_is i)).step) ∙ ended) in
      let a = f.0 in (
        a.transaction,
        (λ i. transaction_of (after A history).asked (sym to_is i) (number_of (sym packet_is i)))
            ∙ a.newest,
        f.1,
      )

  -- a packet that no reading asked for
  other_happens : is_page A n.atp s.from came_in ≡ false → (x : Stepped A) (o : Outcome A AtpState) → received.step ≡ x
      → o ≡ over (with_transactions n.atp) (after_heard n.seat n.atp.transactions received (reported_other tid x))
      → IsIts A history n (Gets which) (over (with_atp n) o)
  other_happens other step.Ignored o is at = plainly report.Ignored o refl refl step.Ignored is refl
      (Plain (record { plain = refl; asked = refl; reading = refl })) at
  other_happens other step.Kept o is at =
      plainly (report.Transactions atp_report.Kept) o refl refl step.Kept is refl
      (Plain (record { plain = refl; asked = refl; reading = refl })) at
  other_happens other step.AskAgain o is at = plainly report.Again o refl refl step.AskAgain is refl
      (Plain (record { plain = refl; asked = refl; reading = refl })) at
  other_happens other (step.Finished packets) o is at =
      let r = response packets is in
      steps_so (report.Transactions (atp_report.Response tid packets)) o refl
      (ends_match A n.seat.net n.seat.number n.atp.zones.tables (after A history) which tid packets
      (record {
        packet = s;
        was_sent = was_sent;
        fresh = fresh;
        ends = (λ i. (heard {A = A} (its_requester i) s.from (packet_is i)).step) ∙ is;
        comes_to = to_is;
        numbered = ap number_of packet_is;
      }))
      (away other)
      (Ends (record {
        datagram = which;
        tid = tid;
        packets = packets;
        act = refl;
        report = refl;
        transaction = r.0;
        newest = r.1;
        response = r.2;
        asked = refl;
        reading = refl;
      })) at

  pub response_happens : (s.from).net ≡ n.seat.net → (o : Outcome A AtpState)
      → ((k : ℕ) → drawn_by o.report ≡ Some (Tid k)
      → NoneHolds (after A history).responders (asking n.seat.net n.seat.number) k) →
      AtRequester n.seat n.atp s.from came_in o → IsIts A history n (Gets which) (over (with_atp n) o)
  response_happens on_net o free at = go (is_page A n.atp s.from came_in) refl at
    where
      go : (b : Bool) → is_page A n.atp s.from came_in ≡ b →
          MatchBool b (ReadsPage n.seat n.atp received s.from
          (names_read n.atp.zones.reading) (record { user = user; data_ = bytes }) o)
          (o ≡ over (with_transactions n.atp) (after_heard n.seat n.atp.transactions received
          (reported_other tid received.step)))
          → IsIts A history n (Gets which) (over (with_atp n) o)
      go true e g =
          let it = reads_it n.atp.zones.reading tid
          (and_parts (is_reading n.atp.zones.reading tid) (finishes A n.atp.transactions.requester s.from came_in) e).0
          in
          page_happens A laws history n st which s was_sent fresh to_is place eom sts tid user bytes packet_is part
          is_done it.0 it.1 it.2 e on_net o free
          (subst (λ l. ReadsPage n.seat n.atp received s.from l (record { user = user; data_ = bytes }) o)
          (ap names_read it.1) g)
      go false e g = other_happens e received.step o refl g
