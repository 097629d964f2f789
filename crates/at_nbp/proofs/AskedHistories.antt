-- All that is sent in a network is for those who ask.
use Rattle.std.proofs.Common.{◌≡◌, ℕ, zero, suc, Bool, true, cond, List, [], ◌∷◌, map, replicate, Option, Some, None}
use Rattle.std.proofs.Common.{refl, subst, ap, ◌∙◌}
use Rattle.std.specs.Prelude.{IfSome}
use Rattle.std.specs.List.{AllByRecursion}
use Rattle.at_ddp.specs.declared.address.Address.{Address}
use Rattle.at_ddp.proofs.Alls.{all_both, all_mapped}
use Rattle.at_nbp.specs.Askers.{AsksFor, IsAskedBy, IsSentFor}
use Rattle.at_nbp.specs.Lookups as lookups
use Rattle.at_nbp.specs.Lookups.{Lookups, Search, beginning, closed, heard, is_question, is_reply, next_id, question}
use Rattle.at_nbp.specs.Lookups.{reply_came, search_of}
use Rattle.at_ddp.specs.Posts.{packet_at, put, stamped}
use Rattle.at_ddp.proofs.PostLemmas.{sent_at, put_all}
use Rattle.at_nbp.specs.Network.{AllAsk, AllTimely, Answers, Begins, Claims, Finishes, Happening, Hears, IsAnswered}
use Rattle.at_nbp.specs.Network.{Network, Other, Registers, Relays, Retries, Sent, Setting, Unregisters, after, answers}
use Rattle.at_nbp.specs.Network.{answers_with, begins, done, finishes, hears, relays, reply_to, retries, with_sent}
use Rattle.at_nbp.specs.Packets.{Content}
use Rattle.at_nbp.specs.Relays.{asks_router, in_zone, relayed}
use Rattle.at_nbp.specs.Tuples.{Entry}
use Rattle.at_nbp.specs.declared.function.Function.{Function}
use Rattle.at_nbp.specs.declared.function.Function.TheVariants.{BroadcastRequest, LookUp, Reply, ForwardRequest}
use Rattle.at_nbp.specs.declared.name.Name.{Name}

-- the lookups at an address ask for it, by a question
record AsksHere (who : Address) (l : Lookups) : Type 0 where
  pub own : l.own ≡ who
  pub asks : is_question l.function ≡ true

module _ (these : Address → Bool) where
  abbrev ForThese : List Entry → Type 0
  ForThese tuples = AllByRecursion (λ (t : Entry). these t.address ≡ true) tuples

  abbrev SentFor : List (Option Sent) → Type 0
  SentFor sent = AllByRecursion (λ (o : Option Sent). IfSome o (IsSentFor these)) sent

  record Asked (n : Network) : Type 0 where
    pub lookups : (who : Address) → AsksHere who (n.lookups who)
    pub sent : SentFor n.sent

  -- ---- what is sent

  -- a question has the addresses of its tuples
  question_for : (to : Address) (f : Function) (tuples : List Entry) → is_question f ≡ true → ForThese tuples
      → AsksFor these to f tuples
  question_for to BroadcastRequest tuples asks each = each
  question_for to LookUp tuples asks each = each
  question_for to Reply tuples asks each = absurd cc
  question_for to ForwardRequest tuples asks each = each

  request_for : (to : Address) (f : Function) (tuples : List Entry) → asks_router f ≡ true → AsksFor these to f tuples
      → ForThese tuples
  request_for to BroadcastRequest tuples asks h = h
  request_for to LookUp tuples asks h = h
  request_for to Reply tuples asks h = absurd cc
  request_for to ForwardRequest tuples asks h = h

  abbrev IsFor : Address × Content → Type 0
  IsFor x = AsksFor these x.0 x.1.function x.1.tuples

  stamped_for : (event : ℕ) (from : Address) (packets : List (Address × Content)) → AllByRecursion IsFor packets
      → SentFor (stamped event from packets)
  stamped_for event from [] each = tt
  stamped_for event from (x ∷ xs) each = (each.0, stamped_for event from xs each.1)

  sends_asked : (n : Network) (from : Address) (packets : List (Address × Content)) → Asked n
      → AllByRecursion IsFor packets → Asked (with_sent n from packets)
  sends_asked n from packets a each = record {
    lookups = a.lookups;
    sent = all_both (λ (o : Option Sent). IfSome o (IsSentFor these)) n.sent (stamped n.event from packets) a.sent
        (stamped_for n.event from packets each);
  }

  foreign_for : (count : ℕ) → SentFor (replicate count None)
  foreign_for zero = tt
  foreign_for (suc count) = (tt, foreign_for count)

  -- ---- lookups

  asks_asked : (n : Network) (who : Address) (s : Search) → Asked n → these who ≡ true
      → Asked (with_sent n who (((n.lookups who).to, question (n.lookups who) s) ∷ []))
  asks_asked n who s a is =
      let l = a.lookups who in
      sends_asked n who (((n.lookups who).to, question (n.lookups who) s) ∷ []) a (
        question_for (n.lookups who).to (n.lookups who).function (question (n.lookups who) s).tuples l.asks
            (ap these l.own ∙ is, tt),
        tt,
      )

  with_lookups : (n : Network) (who : Address) (l : Lookups) → Asked n → AsksHere who l
      → Asked (record n { lookups = put n.lookups who l })
  with_lookups n who l a is = record { lookups = put_all AsksHere n.lookups who l a.lookups is; sent = a.sent }

  begins_asked : (n : Network) (who : Address) (pattern : Name) (o : Option ℕ) → Asked n → these who ≡ true
      → Asked (begins n who pattern o)
  begins_asked n who pattern None a is = a
  begins_asked n who pattern (Some id) a is =
      let l = a.lookups who in
      let asked = asks_asked n who (beginning id pattern) a is in
      record {
        lookups = put_all AsksHere n.lookups who (lookups.begun (n.lookups who) (beginning id pattern)) a.lookups
            (record { own = l.own; asks = l.asks });
        sent = asked.sent;
      }

  retries_asked : (n : Network) (who : Address) (o : Option Search) → Asked n → these who ≡ true
      → Asked (retries n who o)
  retries_asked n who None a is = a
  retries_asked n who (Some s) a is = asks_asked n who s a is

  finishes_asked : (n : Network) (who : Address) (id : ℕ) → Asked n → Asked (finishes n who id)
  finishes_asked n who id a = let l = a.lookups who in
      with_lookups n who (closed (n.lookups who) id) a (record { own = l.own; asks = l.asks })

  heard_asks : (who : Address) (l : Lookups) (p : Content) → AsksHere who l → AsksHere who (heard l p).after
  heard_asks who l p a = go (is_reply p.function)
    where
      came : (o : Option Search) → AsksHere who (reply_came l p o).after
      came None = a
      came (Some s) = record { own = a.own; asks = a.asks }

      go : (b : Bool) → AsksHere who (reply_came l p (cond b (search_of l p.id) None)).after
      go b = came (cond b (search_of l p.id) None)

  hears_asked : (n : Network) (o : Option Sent) → Asked n → Asked (hears n o)
  hears_asked n None a = a
  hears_asked n (Some s) a = with_lookups n s.to (heard (n.lookups s.to) s.packet).after a
      (heard_asks s.to (n.lookups s.to) s.packet (a.lookups s.to))

  -- ---- answers and relays

  replies_for : (to : Address) (id : ℕ) (replies : List (List Entry)) → these to ≡ true
      → AllByRecursion IsFor (map (reply_to to id) replies)
  replies_for to id [] is = tt
  replies_for to id (r ∷ rs) is = (is, replies_for to id rs is)

  answers_asked : (n : Network) (at : Address) (id : ℕ) (replies : List (List Entry)) (tuples : List Entry) → Asked n
      → ForThese tuples → Asked (answers_with n at id replies tuples)
  answers_asked n at id replies [] a each = a
  answers_asked n at id replies (t ∷ ts) a each = sends_asked n at (map (reply_to t.address id) replies) a
      (replies_for t.address id replies each.0)

  -- ---- every happening

  done_asked : (n : Network) (h : Happening) → Asked n → IsAskedBy these h → IsAnswered n h → Asked (done n h)
  done_asked n (Begins who pattern) a is full = begins_asked n who pattern (next_id (n.lookups who)) a is
  done_asked n (Retries who id) a is full = retries_asked n who (search_of (n.lookups who) id) a is
  done_asked n (Finishes who id) a is full = finishes_asked n who id a
  done_asked n (Hears which) a is full = hears_asked n (packet_at n.sent which) a
  done_asked n (Answers which at replies) a is full = go (packet_at n.sent which) refl
    where
      go : (o : Option Sent) → packet_at n.sent which ≡ o → Asked (answers n at replies o)
      go None e = a
      go (Some s) e =
          let each : ForThese s.packet.tuples = subst (λ f. AsksFor these s.to f s.packet.tuples) (full s e).0
          (sent_at (IsSentFor these) n.sent which s a.sent e) in
          answers_asked n at s.packet.id replies s.packet.tuples a each
  done_asked n (Relays which at to zone) a is full = go (packet_at n.sent which) refl
    where
      go : (o : Option Sent) → packet_at n.sent which ≡ o → Asked (relays n at to zone o)
      go None e = a
      go (Some s) e =
          let each = request_for s.to s.packet.function s.packet.tuples (full s e)
          (sent_at (IsSentFor these) n.sent which s a.sent e) in
          sends_asked n at ((to, relayed zone s.packet) ∷ []) a
          (all_mapped (in_zone zone) (λ (t : Entry). these t.address ≡ true) s.packet.tuples each, tt)
  done_asked n (Registers at name) a is full = record { lookups = a.lookups; sent = a.sent }
  done_asked n (Unregisters at object kind) a is full = record { lookups = a.lookups; sent = a.sent }
  done_asked n (Claims at id name) a is full = let b = finishes_asked n at id a in
      record { lookups = b.lookups; sent = b.sent }
  done_asked n (Other count) a is full = record {
    lookups = a.lookups;
    sent = all_both (λ (o : Option Sent). IfSome o (IsSentFor these)) n.sent (replicate count None) a.sent
        (foreign_for count);
  }

  history_asked : (setting : Setting) (history : List Happening) → AllAsk setting → AllTimely setting history
      → AllByRecursion (IsAskedBy these) history → Asked (after setting history)
  history_asked setting [] ask timely by = record { lookups = λ who. record { own = refl; asks = ask who }; sent = tt }
  history_asked setting (h ∷ hs) ask timely by =
      let a = done_asked (after setting hs) h (history_asked setting hs ask timely.2 by.1) by.0 timely.1 in
      record { lookups = a.lookups; sent = a.sent }

  pub all_asked : (setting : Setting) (history : List Happening) → AllAsk setting → AllTimely setting history
      → AllByRecursion (IsAskedBy these) history → SentFor (after setting history).sent
  all_asked setting history ask timely by = (history_asked setting history ask timely by).sent
