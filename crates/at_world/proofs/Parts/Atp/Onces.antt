-- An exactly-once request runs at most once.
use Rattle.std.proofs.Common.{◌≡◌, ℕ, ◌+◌, ◌≤◌, Bool, true, false, cond, List, [], ◌∷◌, ◌++◌, length}
use Rattle.std.proofs.Common.{take, Some, refl, sym, ap, subst, ◌∙◌, arith, lit<}
use Rattle.std.specs.List.{AllByRecursion, Contains}
use Rattle.at_atp.specs.Askings as asking
use Rattle.at_atp.specs.HandUps.{AnswersOnce, hand_ups_since}
use Rattle.at_atp.specs.Lawfully.{IsInRange}
use Rattle.at_atp.specs.Network.{Happening, AllTimely, after, done}
use Rattle.at_atp_frame.specs.Packets.{Packet}
use Rattle.at_atp.specs.Transactions.{Transaction, transaction_of, answered}
use Rattle.at_atp_responder.specs.declared.reception.Key.{Key}
use Rattle.at_transaction_socket.specs.TransactionSockets.{asking}
use Rattle.at_event.specs.declared.Report.{Report}
use Rattle.at_event.specs.declared.Report.TheVariants as report
use Rattle.at_event.specs.declared.transactions.TransactionReport.TheVariants as atp_report
use Rattle.at_world.specs.ExactlyOnce.{Played, since, HandsUp, IsGiven, AllLive}
use Rattle.at_world.specs.ExactlyOnce.{BeganOnce, EndsBy, EndsWith, RanOnce, RunsOnce}
use Rattle.at_world.specs.Sents.{SentDatagram}
use Rattle.at_steps.specs.AtpReports as reports
use Rattle.at_world.specs.Events.{act_of, node_of}
use Rattle.at_world.specs.Stories.{Within, Matches}
use Rattle.at_setup.specs.declared.event.Event.{Event}
use Rattle.at_setup.specs.declared.event.Event.TheVariants as event
use Rattle.at_world.proofs.Parts.Atp.Counts.{GivenAt, GivesAt, HandsUpAt, NoneOf, OneOf, any_since, asks_once}
use Rattle.at_world.proofs.Parts.Atp.Counts.{at_most_one, began_as, began_under, is_once, live_before, steps_since}
use Rattle.at_world.proofs.Parts.Atp.Newest.{NewestIs, HasAnswers, has_kept, kept_newest}
use Rattle.at_world.proofs.Parts.Atp.Newest.{once_newest}
use Rattle.at_world.proofs.Parts.Atp.Told.{OnceLaws, Told}
use Rattle.at_world.proofs.Parts.Atp.Delivered.{all_lived}
use Rattle.at_world.proofs.Parts.Atp.Told.{within_before}
use Rattle.at_world.proofs.Parts.Atp.Delivered.{lawful, most_of, some_of}
use Rattle.at_world.proofs.Parts.Atp.Givings.{gives_of, more_answers}

module _ (A : Type 0) (laws : OnceLaws A) (net : ℕ) (sent : List SentDatagram) where
  some_one : (a b : Transaction) → Some a ≡ Some b → a ≡ b
  some_one a b h = cc

  -- a transaction without answers was given none since it began
  none_given : (past : List (Played A)) (hs : List Happening) (key : Key) → Told A net past hs
      → Within sent (after A hs) → AllByRecursion IsInRange hs → is_once net past key ≡ true
      → NewestIs (λ t. length t.answers ≡ 0) (after A hs).asked key
      → NoneOf (GivenAt sent key) (steps_since net past key)
  none_given [] hs key told within range once none = tt
  none_given (x ∷ xs) [] key told within range once none = absurd told
  none_given (x ∷ xs) (h ∷ hs) key told within range once none =
      go (λ o z. none_given xs hs key told.2 earlier range.1 o z) (began_under net x.event x.report key) refl once
    where
      m : Matches net x.tables (after A hs) h x.event x.report
      m = told.0

      earlier : Within sent (after A hs)
      earlier = within_before A sent h hs told.1 within

      -- what is so many answers at least, and none, is none
      few : (count : ℕ) → NewestIs (HasAnswers count) (done A (after A hs) h).asked key → count ≡ 0
      few count has =
          let same : has.0 ≡ none.0 = some_one has.0 none.0 (sym has.1 ∙ none.1) in
          let least : count ≤ length (none.0).answers = subst (HasAnswers count) same has.2 in
          omega (arith, least, none.2)

      one : (count : ℕ) → count + 1 ≡ 0 → ⊥
      one count e = absurd (omega (arith, e))

      go : (is_once net xs key ≡ true → NewestIs (λ t. length t.answers ≡ 0) (after A hs).asked key
          → NoneOf (GivenAt sent key) (steps_since net xs key)) → (b : Bool) → began_under net x.event x.report key ≡ b
          → cond b (asks_once x.event) (is_once net xs key) ≡ true
          → NoneOf (GivenAt sent key) (cond b [] (x ∷ steps_since net xs key))
      go before true e is = tt
      go before false e is =
          let t = once_newest A laws.changes net xs hs key told.2 is in
          let k = length (t.0).answers in
          let kept = kept_newest A laws.changes (HasAnswers (length (t.0).answers)) (has_kept (length (t.0).answers))
          (after A hs) h key (m.draws_it key ∙ e) (t.0, t.1, omega arith) in (
            (λ gives. one 0 (few (0 + 1)
                (more_answers A laws net sent x x.tables (after A hs) h key 0 earlier
                (lawful A laws net sent hs range.1) m (t.0, t.1, omega arith) gives))),
            before is (t.0, t.1, few (length (t.0).answers) kept),
          )

  -- a transaction that must not run twice was given one answer at most
  one_given : (past : List (Played A)) (hs : List Happening) (key : Key) → Told A net past hs
      → Within sent (after A hs) → AllTimely A hs → AllByRecursion IsInRange hs → AllLive net sent past
      → is_once net past key ≡ true → OneOf (GivenAt sent key) (steps_since net past key)
  one_given [] hs key told within timely range live once = tt
  one_given (x ∷ xs) [] key told within timely range live once = absurd told
  one_given (x ∷ xs) (h ∷ hs) key told within timely range live once =
      go (λ o. one_given xs hs key told.2 earlier timely.1 range.1 (live_before A net sent x xs live) o)
      (began_under net x.event x.report key) refl once
    where
      m : Matches net x.tables (after A hs) h x.event x.report
      m = told.0

      earlier : Within sent (after A hs)
      earlier = within_before A sent h hs told.1 within

      law : AnswersOnce A (h ∷ hs)
      law = laws.once (h ∷ hs) timely (all_lived A laws net sent (x ∷ xs) (h ∷ hs) told within range live)

      -- so many answers are one at most
      few : (count : ℕ) → NewestIs (HasAnswers count) (done A (after A hs) h).asked key → count ≤ 1
      few count has =
          let t = once_newest A laws.changes net (x ∷ xs) (h ∷ hs) key told once in
          let same : has.0 ≡ t.0 = some_one has.0 t.0 (sym has.1 ∙ t.1) in
          let least : count ≤ length (t.0).answers = subst (HasAnswers count) same has.2 in
          let most = law.once key.from key.tid t.0 t.1 t.2.0 in
          omega (arith, least, most.0, most.1)

      none : (k : ℕ) → k + 1 ≤ 1 → k ≡ 0
      none k e = omega (arith, e)

      go : (is_once net xs key ≡ true → OneOf (GivenAt sent key) (steps_since net xs key)) → (b : Bool)
          → began_under net x.event x.report key ≡ b → cond b (asks_once x.event) (is_once net xs key) ≡ true
          → OneOf (GivenAt sent key) (cond b [] (x ∷ steps_since net xs key))
      go before true e is = tt
      go before false e is =
          let t = once_newest A laws.changes net xs hs key told.2 is in (
            (λ gives. none_given xs hs key told.2 earlier range.1 is (
              t.0,
              t.1,
              none (length (t.0).answers)
                  (few (length (t.0).answers + 1)
                  (more_answers A laws net sent x x.tables (after A hs) h key (length (t.0).answers) earlier
                  (lawful A laws net sent hs range.1) m (t.0, t.1, omega arith) gives)),
            )),
            before is,
          )

  one_moment : (past : List (Played A)) (hs : List Happening) → Told A net past hs → Within sent (after A hs)
      → AllTimely A hs → AllByRecursion IsInRange hs → AllLive net sent past → (key : Key) (wanted : ℕ)
      → BeganOnce net key wanted past → RanOnce net sent key past
  one_moment past hs told within timely range live key wanted began =
      let once = (began_as A net key wanted past began).0 in
      let t = once_newest A laws.changes net past hs key told once in
      let law = laws.once hs timely (all_lived A laws net sent past hs told within range live) in
      record {
        delivered = at_most_one A net key past (HandsUp sent key)
            (most_of A laws net sent past hs key told within range (law.once key.from key.tid t.0 t.1 t.2.0).0);
        answered = at_most_one A net key past (IsGiven sent key)
            (one_given past hs key told within timely range live once);
      }

  ended : (past : List (Played A)) (hs : List Happening) (which node tid : ℕ) (packets : List Packet)
      → Told A net past hs → Within sent (after A hs) → AllTimely A hs → AllByRecursion IsInRange hs
      → AllLive net sent past → reports.Ends A net node (after A hs) which tid packets → (wanted : ℕ)
      → BeganOnce net (record { from = asking net node; tid = tid }) wanted past
      → EndsWith sent (record { from = asking net node; tid = tid }) wanted packets
      (since net (record { from = asking net node; tid = tid }) past)
  ended past hs which node tid packets told within timely range live ends wanted began =
      let s = ends.packet in
      let so = began_as A net (record { from = asking net node; tid = tid }) wanted past began in
      let t = once_newest A laws.changes net past hs (record { from = asking net node; tid = tid }) told so.0 in
      let law = laws.once hs timely (all_lived A laws net sent past hs told within range live) in
      let a = ((laws.answers hs timely).finished which s packets ends.was_sent ends.fresh ends.ends).0 in
      let same : a.transaction
      ≡ t.0 = some_one a.transaction t.0
      (sym a.newest ∙ (λ i. transaction_of (after A hs).asked (ends.comes_to i) (ends.numbered i)) ∙ t.1) in
      let done_once = law.finished which s packets ends.was_sent ends.fresh ends.ends a
      (ap (λ (x : Transaction). x.xo) same ∙ t.2.0) in
      let here : hand_ups_since A hs (record { from = asking net node; tid = tid })
      ≡ 1 = (λ i. hand_ups_since A hs (record { from = sym ends.comes_to i; tid = sym ends.numbered i }))
      ∙ done_once.0 in
      let answers : (t.0).answers ≡ done_once.1 ∷ [] = ap (λ (x : Transaction). x.answers) (sym same) ∙ done_once.2 in
      let among : Contains (t.0).answers done_once.1 = subst (λ (l : List (List Packet)). Contains l done_once.1)
      (sym answers) (0, lit< tt, refl) in
      record {
        delivered = any_since A net (record { from = asking net node; tid = tid }) past
            (HandsUpAt sent (record { from = asking net node; tid = tid }))
            (some_of A laws net sent past hs (record { from = asking net node; tid = tid }) told within range
            (omega (arith, here)));
        answer = done_once.1;
        given = any_since A net (record { from = asking net node; tid = tid }) past
            (GivesAt sent (record { from = asking net node; tid = tid }) done_once.1)
            (gives_of A laws net sent past hs (record { from = asking net node; tid = tid }) done_once.1 told within
            range (t.0, t.1, among));
        tells = done_once.3
            ∙ ap (λ k. take k done_once.1) (ap (λ (x : Transaction). x.wanted) same ∙ t.2.1 ∙ so.1);
      }

  ends_by : (e : Event A) (r : Report A) (past : List (Played A)) (hs : List Happening) → Told A net past hs
      → Within sent (after A hs) → AllTimely A hs → AllByRecursion IsInRange hs → AllLive net sent past
      → reports.Finishes net (node_of e) (after A hs) (act_of e) r → EndsBy net sent e r past
  ends_by (event.Call node call) r past hs told within timely range live f = tt
  ends_by (event.Deliver which node) (report.Transactions (atp_report.Response tid packets)) past hs told within timely
      range live f =
      λ key wanted is. subst
      (λ (k : Key). BeganOnce net k wanted past → EndsWith sent k wanted packets (since net k past)) (sym is)
      (ended past hs which node tid packets told within timely range live f wanted)
  ends_by (event.Deliver which node) r past hs told within timely range live f = tt
  ends_by (event.Timer node time) r past hs told within timely range live f = tt
  ends_by (event.Forge node bytes) r past hs told within timely range live f = tt

  -- what is promised after a step: of all requests, and of the transaction that it ends
  abbrev Promise : Played A → List (Played A) → Type 0
  Promise x before =
      ((key : Key) (wanted : ℕ) → BeganOnce net key wanted (x ∷ before) → RanOnce net sent key (x ∷ before))
      × EndsBy net sent x.event x.report before

  at_moment : (later before : List (Played A)) (x : Played A) (hs : List Happening)
      → Told A net (later ++ x ∷ before) hs → Within sent (after A hs) → AllTimely A hs → AllByRecursion IsInRange hs
      → AllLive net sent (later ++ x ∷ before) → Promise x before
  at_moment [] before x [] told within timely range live = absurd told
  at_moment (y ∷ later) before x [] told within timely range live = absurd told
  at_moment [] before x (h ∷ hs) told within timely range live =
      let m = told.0 in
      let earlier = within_before A sent h hs told.1 within in (
        one_moment (x ∷ before) (h ∷ hs) told within timely range live,
        ends_by x.event x.report before hs told.2 earlier timely.1 range.1 (live_before A net sent x before live)
            m.finishes,
      )
  at_moment (y ∷ later) before x (h ∷ hs) told within timely range live =
      at_moment later before x hs told.2 (within_before A sent h hs told.1 within) timely.1 range.1
      (live_before A net sent y (later ++ x ∷ before) live)

  pub runs_once : (past : List (Played A)) (hs : List Happening) → Told A net past hs → Within sent (after A hs)
      → AllTimely A hs → AllByRecursion IsInRange hs → AllLive net sent past → RunsOnce net sent past
  runs_once past hs told within timely range live = λ later before x is. at_moment later before x hs
      (subst (λ l. Told A net l hs) is told) within timely range (subst (AllLive net sent) is live)
