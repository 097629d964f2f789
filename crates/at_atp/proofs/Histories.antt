-- What every timely history leaves true of a network.
use Rattle.std.proofs.Common.{◌≡◌, ℕ, ◌+◌, ◌<◌, Bool, true, false, List, [], ◌∷◌, Option, Some, None, refl, subst}
use Rattle.std.proofs.Common.{arith}
use Rattle.std.specs.Prelude.{find}
use Rattle.std.proofs.lemmas.Bool.{eqb-true}
use Rattle.at_ddp.specs.declared.address.Address.{Address}
use Rattle.at_ddp.specs.Posts.{packet_at}
use Rattle.at_atp.specs.Network.{Network, Sent, Happening, Begins, Answers, Hears, Turns, Takes, Serves, Expires}
use Rattle.at_atp.specs.Network.{Retries, Other, begins, turns, ending, number_after, answers, handed_up, hears, takes}
use Rattle.at_atp.specs.Network.{takes_in, serves, expires, retries, is_fresh, done, tick, after, IsTimely, AllTimely}
use Rattle.at_atp.specs.Network.{GivesAnswers}
use Rattle.at_atp_frame.specs.Packets.{Packet}
use Rattle.at_atp_responder.specs.Records.{is_key, received, answer_fault, expiry_fault}
use Rattle.at_atp_requester.specs.Requests as requests
use Rattle.at_atp_requester.specs.Requests.{is_numbered, next_number, retried}
use Rattle.at_atp.specs.Transactions.{transaction_of}
use Rattle.at_atp_frame.specs.declared.fault.AtpFault.{AtpFault}
use Rattle.at_atp_responder.specs.declared.reception.Key.{Key}
use Rattle.at_atp_responder.specs.declared.reception.Reception.{Reception}
use Rattle.at_atp_responder.specs.declared.reception.Reception.TheVariants as reception
use Rattle.at_ddp.proofs.Alls.{all_found}
use Rattle.at_ddp.proofs.PostLemmas.{sent_at, sent_implied}
use Rattle.at_atp.proofs.Beginnings.{DrawsFree, begins_sound, foreign_sound, later}
use Rattle.at_atp.proofs.Carried.{Tells, Holds}
use Rattle.at_atp.proofs.Hearings.{heard_sound}
use Rattle.at_atp.proofs.NetworkLemmas.{Fresh, Sound, asked_by, hears_sound, takes_sound, serves_sound, expires_sound}
use Rattle.at_atp.proofs.NetworkLemmas.{retries_sound, gives_sound}
use Rattle.at_atp.proofs.Turns.{turns_sound}

done_sound : (A : Type 0) (draws : DrawsFree) (n : Network) (h : Happening) → Sound n.event n → IsTimely A n h
    → Sound (n.event + 1) (done A n h)
done_sound A draws n (Begins who to user bytes wanted xo times) sound timely =
    begins_sound draws n who to user bytes wanted xo times sound timely
done_sound A draws n (Answers at key packets) sound timely = gives_sound n at key packets (later n sound)
done_sound A draws n (Hears which) sound timely = hears_sound A n which (later n sound) timely
done_sound A draws n (Turns which user times) sound timely = turns_sound A draws n which user times sound timely
done_sound A draws n (Takes which) sound timely = takes_sound n which (later n sound) timely
done_sound A draws n (Serves which packets) sound timely = serves_sound n which packets (later n sound) timely
done_sound A draws n (Expires at key) sound timely = expires_sound n at key (later n sound)
done_sound A draws n (Retries who tid) sound timely = retries_sound n who tid (later n sound)
done_sound A draws n (Other count) sound timely = foreign_sound n count (later n sound)

-- no happening counts events but the tick
given : (n : Network) (at : Address) (key : Key) (packets : List Packet) (o : Option AtpFault)
    → (answers n at key packets o).event ≡ n.event
given n at key packets None = refl
given n at key packets (Some f) = refl

handed : (n : Network) (at : Address) (packets : List Packet) (r : Reception) → (handed_up n at packets r).event
    ≡ n.event
handed n at packets (reception.New key) = given n at key packets (answer_fault (n.responders at) key packets)
handed n at packets (reception.Again count) = refl
handed n at packets reception.Released = refl
handed n at packets reception.Ignored = refl

began : (n : Network) (who to : Address) (user bytes : List ℕ) (wanted : ℕ) (xo : Bool) (times : ℕ) (o : Option ℕ)
    → (begins n who to user bytes wanted xo times o).event ≡ n.event
began n who to user bytes wanted xo times None = refl
began n who to user bytes wanted xo times (Some tid) = refl

same_event : (A : Type 0) (n : Network) (h : Happening) → (done A n h).event ≡ n.event
same_event A n (Begins who to user bytes wanted xo times) =
    began n who to user bytes wanted xo times (next_number (n.requesters who))
same_event A n (Answers at key packets) = given n at key packets (answer_fault (n.responders at) key packets)
same_event A n (Hears which) = go (packet_at n.sent which)
  where
    go : (o : Option Sent) → (hears A n o).event ≡ n.event
    go None = refl
    go (Some s) = refl
same_event A n (Turns which user times) = go (ending A n (packet_at n.sent which))
  where
    go : (o : Option Sent) → (turns A n user times o).event ≡ n.event
    go None = refl
    go (Some s) = began (hears A n (Some s)) s.to s.from user [] 1 false times (number_after A n s)
same_event A n (Takes which) = go (packet_at n.sent which)
  where
    go : (o : Option Sent) → (takes_in n o).event ≡ n.event
    go None = refl
    go (Some s) = refl
same_event A n (Serves which packets) = go (packet_at n.sent which)
  where
    go : (o : Option Sent) → (serves n packets o).event ≡ n.event
    go None = refl
    go (Some s) = handed (takes n s) s.to packets (received (n.responders s.to) s.from s.packet).reception
same_event A n (Expires at key) = go (expiry_fault (find (is_key key) (n.responders at)))
  where
    go : (o : Option AtpFault) → (expires n at key o).event ≡ n.event
    go None = refl
    go (Some f) = refl
same_event A n (Retries who tid) = go (retried (n.requesters who) tid)
  where
    go : (o : Option requests.Retried) → (retries n who o).event ≡ n.event
    go None = refl
    go (Some r) = refl
same_event A n other = refl

ticked : (e : ℕ) (n : Network) → n.event ≡ e → Sound (e + 1) n → Sound (tick n).event (tick n)
ticked e n same s = record {
  past = sent_implied (λ x. x.event < e + 1) (λ x. x.event < n.event + 1) n.sent
      (λ x lt. omega (arith, same)) s.past;
  sent = s.sent;
  standing = s.standing;
  records = s.records;
}

pub history_sound : (A : Type 0) (draws : DrawsFree) (history : List Happening) → AllTimely A history
    → Sound (after A history).event (after A history)
history_sound A draws [] timely = record { past = tt; sent = tt; standing = λ who. tt; records = λ at. tt }
history_sound A draws (h ∷ hs) timely = ticked (after A hs).event (done A (after A hs) h) (same_event A (after A hs) h)
    (done_sound A draws (after A hs) h (history_sound A draws hs timely.1) timely.0)

sound_gives : (A : Type 0) (events : ℕ) (n : Network) → Sound events n → GivesAnswers A n
sound_gives A events n sound = record {
  finished = λ which s packets is fresh ends.
      (heard_sound A n.asked s.to s.from (n.requesters s.to) s.packet (sound.standing s.to)
      (told which s is fresh)).finished packets ends;
  requested = λ which s mask xo timer tid user bytes is fresh same. subst (Tells n.asked s.from s.to) same
      (told which s is fresh);
  responded = λ which s place eom sts tid user bytes is fresh same. subst (Tells n.asked s.from s.to) same
      (told which s is fresh);
  released = λ which s tid is fresh same. subst (Tells n.asked s.from s.to) same (told which s is fresh);
  recorded = λ at key r is. asked_by n.asked at key (n.responders at) r (sound.records at) is;
  standing = λ who tid t is.
      let found = all_found (Holds n.asked who) (is_numbered tid) (n.requesters who).standing t
      (sound.standing who) is in
      let h = found.0 in
      let a = h.asked in (
        record {
          transaction = a.transaction;
          newest = subst (λ k. transaction_of n.asked who k ≡ Some a.transaction)
              (eqb-true t.tid tid found.1) a.newest;
          asked_it = a.asked_it;
        },
        h.user,
        h.bytes,
        h.wanted,
        h.xo,
      );
}
  where
    told : (which : ℕ) (s : Sent) → packet_at n.sent which ≡ Some s → is_fresh n.drawn s ≡ true
        → Tells n.asked s.from s.to s.packet
    told which s is fresh = sent_at (Fresh n.drawn n.asked) n.sent which s sound.sent is fresh

pub gives_answers : (A : Type 0) (draws : DrawsFree) (history : List Happening) → AllTimely A history
    → GivesAnswers A (after A history)
gives_answers A draws history timely = sound_gives A (after A history).event (after A history)
    (history_sound A draws history timely)
