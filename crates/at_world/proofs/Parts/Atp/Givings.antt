-- What gives an answer in the network is a step that gives it, and its transaction has one answer more.
use Rattle.std.proofs.Common.{◌≡◌, ◌⊎◌, inl, inr, ℕ, ◌+◌, Bool, true, false, cond, List, [], ◌∷◌}
use Rattle.std.proofs.Common.{Some, refl, sym, ap, subst, ◌∙◌}
use Rattle.std.specs.Prelude.{◌==◌}
use Rattle.std.proofs.lemmas.Bool.{and_parts, eqb-true}
use Rattle.at_ddp.specs.Address.{same_address}
use Rattle.at_ddp.proofs.Octets.{same_address-true}
use Rattle.std.specs.List.{AllByRecursion}
use Rattle.at_atp.specs.Askings as asking
use Rattle.at_atp.specs.Lawfully.{IsInRange, IsLawfullySent}
use Rattle.at_ddp.specs.Posts.{AllSent}
use Rattle.at_ddp.proofs.PostLemmas.{sent_at}
use Rattle.at_atp.specs.Network.{Network, Happening, Answers, Serves, after, done}
use Rattle.at_atp_frame.specs.Packets.{Packet}
use Rattle.at_atp.specs.Transactions.{answered}
use Rattle.at_atp_responder.specs.declared.reception.Key.{Key}
use Rattle.at_transaction_socket.specs.TransactionSockets.{asking}
use Rattle.at_event.specs.declared.Call.TheVariants.{Transactions}
use Rattle.at_event.specs.declared.transactions.TransactionCall.TheVariants.{Answer}
use Rattle.at_event.specs.declared.Report.{Report}
use Rattle.at_event.specs.declared.Report.TheVariants as report
use Rattle.at_event.specs.declared.transactions.TransactionReport.TheVariants as atp_report
use Rattle.at_event.specs.declared.zones.ZoneReport.TheVariants as zip_report
use Rattle.at_world.specs.ExactlyOnce.{Played, CameFrom, HandsUp, IsGiven, IsPageFor, GivesBy}
use Rattle.at_world.specs.Sents.{SentDatagram}
use Rattle.at_zip.specs.Tables.{Tables, table_of}
use Rattle.at_steps.specs.AtpReports as reports
use Rattle.at_steps.specs.AtpReports.{AsksFrom, IsPageAsked}
use Rattle.at_steps.specs.AtpSteps.{page_answer}
use Rattle.at_world.specs.Events.{act_of, node_of}
use Rattle.at_world.specs.Stories.{Within, Matches}
use Rattle.at_world.proofs.Acts.{called_at, delivered_at}
use Rattle.at_setup.specs.declared.event.Event.{Event}
use Rattle.at_setup.specs.declared.event.Event.TheVariants as event
use Rattle.at_world.proofs.Parts.Atp.Counts.{GivenAt, GivesAt, SomeOf}
use Rattle.at_world.proofs.Parts.Atp.Counts.{began_under, steps_since}
use Rattle.at_world.proofs.Parts.Atp.Newest.{NewestIs, HasAnswers, one_answer_more}
use Rattle.at_world.proofs.Parts.Atp.AnsweredFrom.{Has}
use Rattle.at_world.proofs.Parts.Atp.AnsweredFrom.{had_or_gave}
use Rattle.at_world.proofs.Parts.Atp.AnsweredFrom.{none_yet}
use Rattle.at_world.proofs.Parts.Atp.Told.{OnceLaws, Told}
use Rattle.at_world.proofs.Parts.Atp.Delivered.{came_so, key_parts, came_as, hands_complete}
use Rattle.at_world.proofs.Parts.Atp.Told.{within_before}
use Rattle.at_world.proofs.Parts.Atp.Delivered.{lawful}

module _ (A : Type 0) (laws : OnceLaws A) (net : ℕ) (sent : List SentDatagram) where
  -- the page that the router gives to what came is that of the packet which the list of datagrams has
  page_for : (which : ℕ) (now : Tables) (n : Network) (packets : List Packet) (key : Key)
      (answer : List Packet) → Within sent n → AllSent IsLawfullySent n.sent → IsPageAsked (Some now) n which packets
      → CameFrom sent which key → packets ≡ answer → IsPageFor sent now which key answer
  page_for which now n packets key answer within ok p came gave =
      let s = p.request in
      let packet = came_as A laws net sent which key s (within which s p.was_sent)
      (sent_at IsLawfullySent n.sent which s ok p.was_sent) came in
      record {
        came = came;
        table = p.table;
        start = p.start;
        asks_from = subst (λ f. AsksFrom f p.table p.start) packet.0 p.asks_from;
        page = sym gave ∙ p.page
            ∙ ap (λ t. page_answer (table_of p.table t) p.start) (some_tables p.has now (sym p.are_tables));
      }
    where
      some_tables : (a b : Tables) → Some a ≡ Some b → a ≡ b
      some_tables a b h = cc

  -- what gives an answer in the network is a step that gives it
  step_gives : (e : Event A) (r : Report A) (now : Tables) (n : Network) (h : Happening) (key : Key)
      (answer : List Packet) → Within sent n → AllSent IsLawfullySent n.sent → Matches net now n h e r
      → asking.Gives n h key answer → GivesBy sent now key answer e r
  step_gives e r now n (Answers at k packets) key answer within ok m g =
      let gives = m.answers_as in
      subst (λ x. GivesBy sent now key answer x r)
      (sym (called_at e (Transactions (Answer k packets)) gives.1))
      (subst (λ x. GivesBy sent now key answer (event.Call (node_of e) (Transactions (Answer k packets))) x) (sym
      gives.2) g)
  step_gives e r now n (Serves which packets) key answer within ok m g =
      let gives = m.answers_as in
      let is = delivered_at e which gives.1 in
      let up = hands_complete A laws net sent e r n key within ok m.finishes (sym (m.hands_up key) ∙ g.0) in
      let came = subst (λ x. HandsUp sent key (event.Deliver which (node_of e)) x) gives.2
      (subst (λ x. HandsUp sent key x r) is up) in
      subst (λ x. GivesBy sent now key answer x r) (sym is)
      (subst (λ x. GivesBy sent now key answer (event.Deliver which (node_of e)) x) (sym gives.2)
      (page_for which now n packets key answer within ok gives.3 came g.1))
  step_gives e r now n h key answer within ok m g = absurd g

  pub gives_of : (past : List (Played A)) (hs : List Happening) (key : Key) (answer : List Packet)
      → Told A net past hs → Within sent (after A hs) → AllByRecursion IsInRange hs
      → Has (after A hs).asked key answer → SomeOf (GivesAt sent key answer) (steps_since net past key)
  gives_of [] [] key answer told within range has = let none = has.1 in absurd (cc)
  gives_of [] (h ∷ hs) key answer told within range has = absurd told
  gives_of (x ∷ xs) [] key answer told within range has = absurd told
  gives_of (x ∷ xs) (h ∷ hs) key answer told within range has =
      go (λ g. gives_of xs hs key answer told.2 (within_before A sent h hs told.1 within) range.1 g)
      (began_under net x.event x.report key) refl
    where
      m : Matches net x.tables (after A hs) h x.event x.report
      m = told.0

      either : (Has (after A hs).asked key answer → SomeOf (GivesAt sent key answer) (steps_since net xs key))
          → Has (after A hs).asked key answer ⊎ asking.Gives (after A hs) h key answer
          → GivesAt sent key answer x ⊎ SomeOf (GivesAt sent key answer) (steps_since net xs key)
      either before (inl old) = inr (before old)
      either before (inr gave) = inl
          (step_gives x.event x.report x.tables (after A hs) h key answer
          (within_before A sent h hs told.1 within) (lawful A laws net sent hs range.1) m gave)

      go : (Has (after A hs).asked key answer → SomeOf (GivesAt sent key answer) (steps_since net xs key)) → (b : Bool)
          → began_under net x.event x.report key ≡ b
          → SomeOf (GivesAt sent key answer) (cond b [] (x ∷ steps_since net xs key))
      go before true e = none_yet A laws.changes (after A hs) h key answer (m.draws_it key ∙ e) has
      go before false e = either before (had_or_gave A laws.changes (after A hs) h key answer (m.draws_it key ∙ e) has)

  -- an answer that a step gives joins the transaction of its key
  joins_it : (e : Event A) (r : Report A) (n : Network) (h : Happening) (key : Key) → Within sent n
      → AllSent IsLawfullySent n.sent → reports.Joins n h r (act_of e) → IsGiven sent key e r →
      (packets : List Packet) × ((done A n h).asked ≡ answered n.asked key.from key.tid packets)
  joins_it (event.Call node (Transactions (Answer k packets))) (report.Transactions (atp_report.Answered count)) n h key
      within ok j g =
      let both = and_parts (same_address k.from key.from) (k.tid == key.tid) g in
      let from = same_address-true k.from key.from both.0 in
      let number = eqb-true k.tid key.tid both.1 in
      (packets, j ∙ (λ i. answered n.asked (from i) (number i) packets))
  joins_it (event.Call node (Transactions (Answer k packets))) r n h key within ok j g = absurd g
  joins_it (event.Call node call) r n h key within ok j g = absurd g
  joins_it (event.Deliver which node) (report.Zones (zip_report.Served count)) n h key within ok j g =
      let s = j.0 in
      let same = came_so A laws net sent which key s (within which s j.1)
      (sent_at IsLawfullySent n.sent which s ok j.1) g in
      let parts = key_parts A laws net sent s key same in
      (j.2.0, j.2.1 ∙ (λ i. answered n.asked (parts.0 i) (parts.1 i) j.2.0))
  joins_it (event.Deliver which node) r n h key within ok j g = absurd g
  joins_it (event.Timer node time) r n h key within ok j g = absurd g
  joins_it (event.Forge node bytes) r n h key within ok j g = absurd g

  -- the newest transaction of a key after a step that answers it, one that had so many answers
  pub more_answers : (x : Played A) (now : Tables) (n : Network) (h : Happening) (key : Key) (count : ℕ)
      → Within sent n → AllSent IsLawfullySent n.sent → Matches net now n h x.event x.report
      → NewestIs (HasAnswers count) n.asked key → GivenAt sent key x
      → NewestIs (HasAnswers (count + 1)) (done A n h).asked key
  more_answers x now n h key count within ok m newest gives =
      let joined = joins_it x.event x.report n h key within ok m.joins gives in
      subst (λ ts. NewestIs (HasAnswers (count + 1)) ts key) (sym joined.1)
      (one_answer_more n.asked key joined.0 count newest)
