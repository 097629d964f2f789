-- What an event is in the network, by what was reported of it.
use Rattle.std.proofs.Common.{◌≡◌, ℕ, Bool, true, false, List, Option, Some, None, refl, sym, ap, ◌∙◌}
use Rattle.std.specs.Prelude.{find, is_none, ◌&&◌}
use Rattle.std.proofs.lemmas.Bool.{false≢true}
use Rattle.at_ddp.specs.Address.{same_address}
use Rattle.at_ddp.specs.declared.address.Address.{Address}
use Rattle.at_atp.specs.HandUps.{brings, draws, expires_there, is_drawn, is_drawn_after, is_handed_up}
use Rattle.at_atp_frame.specs.Frames.{number_of}
use Rattle.at_ddp.specs.Posts.{packet_at}
use Rattle.at_atp.specs.Network.{Network, Sent, ending, number_after, Begins, Turns, Answers, Hears, Takes, Serves}
use Rattle.at_atp.specs.Network.{Expires, Retries, Other, Happening, done}
use Rattle.at_atp_responder.specs.Once.{is_new_of, same_key}
use Rattle.at_atp_frame.specs.Packets.{Packet}
use Rattle.at_atp_responder.specs.Records.{Record, State, Waiting, Answered, Released, is_key, came_again, released}
use Rattle.at_atp_responder.specs.Records.{release_came, received, expiry_fault}
use Rattle.at_atp.specs.Transactions.{answered}
use Rattle.at_atp_requester.specs.Requests.{next_number}
use Rattle.at_atp_responder.specs.declared.reception.Key.{Key}
use Rattle.at_atp_responder.specs.declared.reception.Reception.{Reception}
use Rattle.at_atp_responder.specs.declared.reception.Reception.TheVariants as reception
use Rattle.at_zip.specs.Tables.{Tables}
use Rattle.at_transaction_socket.specs.TransactionSockets.{asking}
use Rattle.at_transaction_socket.specs.Responders.{released_report}
use Rattle.at_event.specs.declared.Call.{Call}
use Rattle.at_event.specs.declared.Call.TheVariants.{Transactions}
use Rattle.at_event.specs.declared.transactions.TransactionCall.TheVariants.{Answer}
use Rattle.at_event.specs.declared.Report.{Report}
use Rattle.at_event.specs.declared.Report.TheVariants as report
use Rattle.at_event.specs.declared.transactions.TransactionReport.TheVariants as atp_report
use Rattle.at_event.specs.declared.zones.ZoneReport.TheVariants as zip_report
use Rattle.at_event.specs.declared.Timer.TheVariants as timer
use Rattle.at_event.specs.declared.transactions.TransactionTimer.TheVariants as atp_timer
use Rattle.at_steps.specs.Acts.{Act, Calls, Fires, Gets, Forges}
use Rattle.at_steps.specs.AtpReports.{AnswersAs, BeginsAs, IsPageAsked, Matches, Joins, Finishes, Ends, TakesIn}
use Rattle.at_steps.specs.AtpReports.{asks_once, asks_for, began_under, expired_at, handed_up_by, came_under}

-- an event whose report tells of no beginning, no request, no response and no expiry
abbrev pub is_quiet : {A : Type 0} → Report A → Act A → Bool
is_quiet (report.Transactions (atp_report.Begun tid)) act = false
is_quiet (report.Transactions (atp_report.Answered count)) (Calls call) = false
is_quiet (report.Zones (zip_report.Served count)) (Gets which) = false
is_quiet (report.Transactions (atp_report.Asked k user bytes)) (Gets which) = false
is_quiet (report.Transactions (atp_report.Response tid packets)) (Gets which) = false
is_quiet (report.Transactions atp_report.Expired) (Fires (timer.Transactions (atp_timer.Release own key))) = false
is_quiet r act = true

no_begin : (A : Type 0) (net number : ℕ) (act : Act A) (r : Report A) (key : Key) → is_quiet r act ≡ true
    → began_under net number act r key ≡ false
no_begin A net number act (report.Transactions (atp_report.Begun tid)) key q = absurd (false≢true q)
no_begin A net number act r key q = refl

no_hand_up : (A : Type 0) (sent : List (Option Sent)) (act : Act A) (r : Report A) (key : Key) → is_quiet r act ≡ true
    → handed_up_by sent act r key ≡ false
no_hand_up A sent (Calls call) r key q = refl
no_hand_up A sent (Gets which) (report.Zones (zip_report.Served count)) key q = absurd (false≢true q)
no_hand_up A sent (Gets which) (report.Transactions (atp_report.Asked k user bytes)) key q = absurd (false≢true q)
no_hand_up A sent (Gets which) r key q = refl
no_hand_up A sent (Fires time) r key q = refl
no_hand_up A sent Forges r key q = refl

no_expiry : (A : Type 0) (net number : ℕ) (act : Act A) (r : Report A) (at : Address) (key : Key) → is_quiet r act
    ≡ true → expired_at net number act r at key ≡ false
no_expiry A net number (Fires (timer.Transactions (atp_timer.Release own k))) (report.Transactions atp_report.Expired)
    at key q = absurd (false≢true q)
no_expiry A net number act r at key q = refl

no_end : (A : Type 0) (net number : ℕ) (n : Network) (act : Act A) (r : Report A) → is_quiet r act ≡ true
    → Finishes net number n act r
no_end A net number n (Calls call) r q = tt
no_end A net number n (Gets which) (report.Zones (zip_report.Served count)) q = absurd (false≢true q)
no_end A net number n (Gets which) (report.Transactions (atp_report.Response tid packets)) q = absurd (false≢true q)
no_end A net number n (Gets which) r q = tt
no_end A net number n (Fires time) r q = tt
no_end A net number n Forges r q = tt

no_answer : (A : Type 0) (n : Network) (h : Happening) (act : Act A) (r : Report A) → is_quiet r act ≡ true
    → Joins n h r act
no_answer A n h (Calls call) (report.Transactions (atp_report.Answered count)) q = absurd (false≢true q)
no_answer A n h (Gets which) (report.Zones (zip_report.Served count)) q = absurd (false≢true q)
no_answer A n h (Fires time) (report.Transactions (atp_report.Answered count)) q = tt
no_answer A n h Forges (report.Transactions (atp_report.Answered count)) q = tt
no_answer A n h Forges (report.Zones (zip_report.Served count)) q = tt
no_answer A n h (Calls call) (report.Zones (zip_report.Served count)) q = tt
no_answer A n h (Fires time) (report.Zones (zip_report.Served count)) q = tt
no_answer A n h (Gets which) (report.Transactions (atp_report.Answered count)) q = tt
no_answer A n h act r q = tt

module _ (A : Type 0) (net number : ℕ) (tables : Option Tables) (n : Network) where
  -- a happening that draws no number and removes no record, if the report is quiet and nothing is delivered
  quietly : (h : Happening) (act : Act A) (r : Report A) → is_quiet r act ≡ true
      → ((key : Key) → draws A n h key ≡ false) → ((at : Address) (key : Key) → expires_there n h at key ≡ false)
      → ((key : Key) → is_handed_up n h key ≡ false) → TakesIn h act → BeginsAs h act → AnswersAs tables n h act r
      → Matches net number tables n h act r
  quietly h act r q drawn removed delivered takes begins answers = record {
    draws_it = λ key. drawn key ∙ sym (no_begin A net number act r key q);
    expires_it = λ at key. removed at key ∙ sym (no_expiry A net number act r at key q);
    hands_up = λ key. delivered key ∙ sym (no_hand_up A n.sent act r key q);
    takes_in = takes;
    begins_as = begins;
    answers_as = answers;
    joins = no_answer A n h act r q;
    finishes = no_end A net number n act r q;
  }

  pub other_matches : (count : ℕ) (act : Act A) (r : Report A) → is_quiet r act ≡ true
      → Matches net number tables n (Other count) act r
  other_matches count act r q =
      quietly (Other count) act r q (λ key. refl) (λ at key. refl) (λ key. refl) tt tt tt

  pub answers_match : (at : Address) (key : Key) (packets : List Packet) (count : ℕ)
      → (done A n (Answers at key packets)).asked ≡ answered n.asked key.from key.tid packets
      → Matches {A = A} net number tables n (Answers at key packets) (Calls (Transactions (Answer key packets)))
      (report.Transactions (atp_report.Answered count))
  answers_match at key packets count joins =
      record {
        draws_it = λ x. refl;
        expires_it = λ at x. refl;
        hands_up = λ x. refl;
        takes_in = tt;
        begins_as = tt;
        answers_as = (count, refl, refl);
        joins = joins;
        finishes = tt;
      }

  pub hears_matches : (which : ℕ) (act : Act A) (r : Report A) → is_quiet r act ≡ true
      → Matches net number tables n (Hears which) act r
  hears_matches which act r q =
      quietly (Hears which) act r q (λ key. refl) (λ at key. refl) (λ key. refl) tt tt tt

  -- a packet that ends a transaction
  pub ends_match : (which tid : ℕ) (packets : List Packet) → Ends A net number n which tid packets
      → Matches {A = A} net number tables n (Hears which) (Gets which)
      (report.Transactions (atp_report.Response tid packets))
  ends_match which tid packets ends =
      record {
        draws_it = λ key. refl;
        expires_it = λ at key. refl;
        hands_up = λ key. refl;
        takes_in = tt;
        begins_as = tt;
        answers_as = tt;
        joins = tt;
        finishes = ends;
      }

  pub retries_match : (who : Address) (tid : ℕ) (act : Act A) (r : Report A) → is_quiet r act ≡ true
      → Matches net number tables n (Retries who tid) act r
  retries_match who tid act r q =
      quietly (Retries who tid) act r q (λ key. refl) (λ at key. refl) (λ key. refl) tt tt tt

  -- a transaction begins under the next number
  pub begins_match : (tid : ℕ) (to : Address) (user bytes : List ℕ) (wanted : ℕ) (xo : Bool) (retries : ℕ)
      (call : Call A) → asks_once (Calls call) ≡ xo → asks_for (Calls call) ≡ wanted
      → next_number (n.requesters (asking net number)) ≡ Some tid →
      Matches net number tables n (Begins (asking net number) to user bytes wanted xo retries) (Calls call)
      (report.Transactions (atp_report.Begun tid))
  begins_match tid to user bytes wanted xo retries call once many drawn =
      record {
        draws_it = λ key. ap (λ o. is_drawn (asking net number) o key) drawn;
        expires_it = λ at key. refl;
        hands_up = λ key. refl;
        takes_in = tt;
        begins_as = (once, many);
        answers_as = tt;
        joins = tt;
        finishes = tt;
      }

  -- a packet ends a transaction, and the next one begins
  pub turns_match : (which : ℕ) (s : Sent) (user : List ℕ) (times tid : ℕ) → ending A n (packet_at n.sent which)
      ≡ Some s → number_after A n s ≡ Some tid → s.to ≡ asking net number →
      Matches {A = A} net number tables n (Turns which user times) (Gets which)
      (report.Transactions (atp_report.Begun tid))
  turns_match which s user times tid ends drawn to_is = record {
    draws_it = λ key. ap (λ o. is_drawn_after A n o key) ends ∙ ap (λ o. is_drawn s.to o key) drawn
        ∙ ap (λ who. same_key (record { from = who; tid = tid }) key) to_is;
    expires_it = λ at key. refl;
    hands_up = λ key. refl;
    takes_in = refl;
    begins_as = (refl, refl);
    answers_as = tt;
    joins = tt;
    finishes = tt;
  }

  module _ (which : ℕ) (s : Sent) (was_sent : packet_at n.sent which ≡ Some s) where
    -- a packet that hands nothing up
    pub takes_quietly : (r : Report A) (x : Reception) → (received (n.responders s.to) s.from s.packet).reception ≡ x
        → ((key : Key) → is_new_of key x ≡ false) → is_quiet r (Gets which) ≡ true
        → Matches net number tables n (Takes which) (Gets which) r
    takes_quietly r x is old q =
        quietly (Takes which) (Gets which) r q (λ key. refl) (λ at key. refl)
        (λ key. ap (brings n key) was_sent ∙ ap (is_new_of key) is ∙ old key) refl tt tt

    -- a request that is delivered
    pub takes_new : (key : Key) (user bytes : List ℕ) → (received (n.responders s.to) s.from s.packet).reception
        ≡ reception.New key → Matches {A = A} net number tables n (Takes which) (Gets which)
        (report.Transactions (atp_report.Asked key user bytes))
    takes_new new user bytes is =
        record {
          draws_it = λ key. refl;
          expires_it = λ at key. refl;
          hands_up = λ key. ap (brings n key) was_sent ∙ ap (is_new_of key) is;
          takes_in = refl;
          begins_as = tt;
          answers_as = tt;
          joins = tt;
          finishes = tt;
        }

    -- a request that is answered at once
    pub serves_new : (key : Key) (packets : List Packet) (count : ℕ)
        → (received (n.responders s.to) s.from s.packet).reception ≡ reception.New key → key
        ≡ record { from = s.from; tid = number_of s.packet } →
        (done A n (Serves which packets)).asked ≡ answered n.asked s.from (number_of s.packet) packets
        → IsPageAsked tables n which packets
        → Matches {A = A} net number tables n (Serves which packets) (Gets which)
        (report.Zones (zip_report.Served count))
    serves_new new packets count is its joins page = record {
      draws_it = λ key. refl;
      expires_it = λ at key. refl;
      hands_up = λ key. ap (brings n key) was_sent ∙ ap (is_new_of key) is ∙ ap (λ x. same_key x key) its
          ∙ ap (λ o. came_under o key) (sym was_sent);
      takes_in = refl;
      begins_as = tt;
      answers_as = (count, refl, refl, page);
      joins = (s, was_sent, (packets, joins));
      finishes = (s, was_sent);
    }

  -- a record that expires
  pub expires_match : (own : ℕ) (place : Address) (key : Key) → place
      ≡ record { net = net; node = number; socket = own } →
      expiry_fault (find (is_key key) (n.responders place)) ≡ None
      → Matches {A = A} net number tables n (Expires place key)
      (Fires (timer.Transactions (atp_timer.Release own key))) (report.Transactions atp_report.Expired)
  expires_match own place key here free = record {
    draws_it = λ x. refl;
    expires_it = λ at x. λ i. is_none (free i) && same_address (here i) at && same_key key x;
    hands_up = λ x. refl;
    takes_in = tt;
    begins_as = tt;
    answers_as = tt;
    joins = tt;
    finishes = tt;
  }

-- a release is not delivered
pub release_is_old : (rs : List Record) (k : Key) (o : Option Record) (key : Key)
    → is_new_of key (release_came rs k o).reception ≡ false
release_is_old rs k None key = refl
release_is_old rs k (Some r) key = go r.state
  where
    go : (s : State) → is_new_of key (came_again rs k r (released s)).reception ≡ false
    go (Waiting xo mask) = refl
    go (Answered packets) = refl
    go Released = refl

pub release_is_quiet : (A : Type 0) (which : ℕ) (r : Reception) → is_quiet (released_report {A = A} r) (Gets which)
    ≡ true
release_is_quiet A which reception.Ignored = refl
release_is_quiet A which (reception.New key) = refl
release_is_quiet A which (reception.Again count) = refl
release_is_quiet A which reception.Released = refl
