-- What each happening does to what was asked.
use Rattle.std.proofs.Common.{◌≡◌, ℕ, Bool, false, List, [], ◌∷◌, Option, Some, None, refl, ap, ◌∙◌}
use Rattle.std.proofs.lemmas.Bool.{true≢false}
use Rattle.std.proofs.lemmas.List.{length-replicate}
use Rattle.at_ddp.specs.declared.address.Address.{Address}
use Rattle.at_atp_frame.specs.Packets.{Packet}
use Rattle.at_atp_frame.specs.declared.fault.AtpFault.{AtpFault}
use Rattle.at_atp_requester.specs.Answers as arrivals
use Rattle.at_atp_requester.specs.Requests.{next_number}
use Rattle.at_atp_responder.specs.Once.{is_new_of}
use Rattle.at_atp_responder.specs.Records.{answer_fault, received}
use Rattle.at_atp_responder.specs.declared.reception.Key.{Key}
use Rattle.at_atp_responder.specs.declared.reception.Reception.{Reception}
use Rattle.at_atp_responder.specs.declared.reception.Reception.TheVariants as reception
use Rattle.at_atp.specs.Askings.{ChangesAsked, ByItself, AfterOne, Leaves, Starts, Joins}
use Rattle.at_atp.specs.HandUps.{brings, draws, is_drawn, is_drawn_after}
use Rattle.at_atp.specs.Network as network
use Rattle.at_ddp.specs.Posts.{packet_at}
use Rattle.at_atp.specs.Network.{Network, Sent, Happening, Begins, Answers, Turns, Serves, ending, number_after}
use Rattle.at_atp.specs.Network.{hears}
use Rattle.at_atp.proofs.Newest.{asks_or_answers, left_as_asked}

-- what does not begin a transaction draws no number
draws_none : (A : Type 0) (n : Network) (h : Happening) (key : Key) → asks_or_answers h ≡ false → draws A n h key
    ≡ false
draws_none A n (Begins who to user bytes wanted xo times) key h = absurd (true≢false h)
draws_none A n (Turns which user times) key h = absurd (true≢false h)
draws_none A n h key is = refl

begins : (A : Type 0) (n : Network) (who to : Address) (user bytes : List ℕ) (wanted : ℕ) (xo : Bool) (times : ℕ)
    (o : Option ℕ) → next_number (n.requesters who) ≡ o → ChangesAsked A n (Begins who to user bytes wanted xo times)
begins A n who to user bytes wanted xo times None e =
    Leaves (record {
      same = ap (λ o. (network.begins n who to user bytes wanted xo times o).asked) e;
      draws_none = λ key. ap (λ o. is_drawn who o key) e;
    })
begins A n who to user bytes wanted xo times (Some tid) e = Starts (record {
  transaction = record {
    requester = who;
    tid = tid;
    responder = to;
    user = user;
    data_ = bytes;
    wanted = wanted;
    xo = xo;
    answers = [];
  };
  retries = times;
  begins = ByItself refl;
  asked = ap (λ o. (network.begins n who to user bytes wanted xo times o).asked) e
      ∙ (λ i. record {
        requester = who;
        tid = tid;
        responder = to;
        user = user;
        data_ = bytes;
        wanted = length-replicate {A = Option arrivals.AnswerPart} wanted None i;
        xo = xo;
        answers = [];
      } ∷ n.asked);
  no_answers = refl;
  draws_its = λ key. ap (λ o. is_drawn who o key) e;
})

-- a packet ends a transaction, and its requester asks again, if it has a number
turned : (A : Type 0) (n : Network) (which : ℕ) (user : List ℕ) (times : ℕ) (s : Sent)
    → ending A n (packet_at n.sent which) ≡ Some s → (o : Option ℕ) → number_after A n s ≡ o
    → ChangesAsked A n (Turns which user times)
turned A n which user times s e None f = Leaves (record {
  same = ap (λ x. (network.turns A n user times x).asked) e
      ∙ ap (λ o. (network.begins (hears A n (Some s)) s.to s.from user [] 1 false times o).asked) f;
  draws_none = λ key. ap (λ x. is_drawn_after A n x key) e ∙ ap (λ o. is_drawn s.to o key) f;
})
turned A n which user times s e (Some tid) f = Starts (record {
  transaction = record {
    requester = s.to;
    tid = tid;
    responder = s.from;
    user = user;
    data_ = [];
    wanted = 1;
    xo = false;
    answers = [];
  };
  retries = times;
  begins = AfterOne (record {
    datagram = which;
    packet = s;
    turns = refl;
    ends = e;
    requester = refl;
    responder = refl;
    no_data = refl;
    one_wanted = refl;
    not_xo = refl;
  });
  asked = ap (λ x. (network.turns A n user times x).asked) e
      ∙ ap (λ o. (network.begins (hears A n (Some s)) s.to s.from user [] 1 false times o).asked) f;
  no_answers = refl;
  draws_its = λ key. ap (λ x. is_drawn_after A n x key) e ∙ ap (λ o. is_drawn s.to o key) f;
})

turns : (A : Type 0) (n : Network) (which : ℕ) (user : List ℕ) (times : ℕ) (o : Option Sent)
    → ending A n (packet_at n.sent which) ≡ o → ChangesAsked A n (Turns which user times)
turns A n which user times None e =
    Leaves (record {
      same = ap (λ x. (network.turns A n user times x).asked) e;
      draws_none = λ key. ap (λ x. is_drawn_after A n x key) e;
    })
turns A n which user times (Some s) e = turned A n which user times s e (number_after A n s) refl

answers : (A : Type 0) (n : Network) (at : Address) (key : Key) (packets : List Packet) (fault : Option AtpFault)
    → answer_fault (n.responders at) key packets ≡ fault → ChangesAsked A n (Answers at key packets)
answers A n at key packets (Some fault) e =
    Leaves (record { same = ap (λ f. (network.answers n at key packets f).asked) e; draws_none = λ other. refl })
answers A n at key packets None e =
    Joins (record {
      key = key;
      packets = packets;
      asked = ap (λ f. (network.answers n at key packets f).asked) e;
      draws_none = λ other. refl;
      gives = λ other same. (same, refl);
    })

module _ (A : Type 0) (n : Network) (which : ℕ) (packets : List Packet) (s : Sent)
    (was_sent : packet_at n.sent which ≡ Some s) where
  serves_as : (network.serves n packets (packet_at n.sent which)).asked
      ≡ (network.handed_up (network.takes n s) s.to packets (received
      (n.responders s.to) s.from s.packet).reception).asked
  serves_as = ap (λ o. (network.serves n packets o).asked) was_sent

  is_left : (r : Reception) → (received (n.responders s.to) s.from s.packet).reception ≡ r
      → (network.handed_up (network.takes n s) s.to packets r).asked ≡ n.asked → ChangesAsked A n (Serves which packets)
  is_left r e same = Leaves
      (record {
        same = serves_as ∙ ap (λ x. (network.handed_up (network.takes n s) s.to packets x).asked) e ∙ same;
        draws_none = λ other. refl;
      })

  answered_now : (key : Key) → (received (n.responders s.to) s.from s.packet).reception ≡ reception.New key
      → (fault : Option AtpFault) → answer_fault ((network.takes n s).responders s.to) key packets ≡ fault
      → ChangesAsked A n (Serves which packets)
  answered_now key e (Some fault) f =
      is_left (reception.New key) e (ap (λ x. (network.answers (network.takes n s) s.to key packets x).asked) f)
  answered_now key e None f = Joins (record {
    key = key;
    packets = packets;
    asked = serves_as ∙ ap (λ x. (network.handed_up (network.takes n s) s.to packets x).asked) e
        ∙ ap (λ x. (network.answers (network.takes n s) s.to key packets x).asked) f;
    draws_none = λ other. refl;
    gives = λ other same. (ap (brings n other) was_sent ∙ ap (is_new_of other) e ∙ same, refl);
  })

  by_reception : (r : Reception) → (received (n.responders s.to) s.from s.packet).reception ≡ r
      → ChangesAsked A n (Serves which packets)
  by_reception (reception.New key) e =
      answered_now key e (answer_fault ((network.takes n s).responders s.to) key packets) refl
  by_reception reception.Ignored e = is_left reception.Ignored e refl
  by_reception (reception.Again count) e = is_left (reception.Again count) e refl
  by_reception reception.Released e = is_left reception.Released e refl

serves : (A : Type 0) (n : Network) (which : ℕ) (packets : List Packet) (o : Option Sent) → packet_at n.sent which ≡ o
    → ChangesAsked A n (Serves which packets)
serves A n which packets None e =
    Leaves (record { same = ap (λ o. (network.serves n packets o).asked) e; draws_none = λ other. refl })
serves A n which packets (Some s) e =
    by_reception A n which packets s e (received (n.responders s.to) s.from s.packet).reception refl

pub changes_asked : (A : Type 0) (n : Network) (h : Happening) → ChangesAsked A n h
changes_asked A n (Begins who to user bytes wanted xo times) =
    begins A n who to user bytes wanted xo times (next_number (n.requesters who)) refl
changes_asked A n (Answers at key packets) =
    answers A n at key packets (answer_fault (n.responders at) key packets) refl
changes_asked A n (Turns which user times) = turns A n which user times (ending A n (packet_at n.sent which)) refl
changes_asked A n (Serves which packets) = serves A n which packets (packet_at n.sent which) refl
changes_asked A n h = Leaves (record { same = left_as_asked A n h refl; draws_none = λ key. draws_none A n h key refl })
