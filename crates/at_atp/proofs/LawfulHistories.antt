-- Answers keep a network in range, and so does every history that is in range.
use Rattle.std.proofs.Common.{◌≡◌, ℕ, ◌<◌, ◌≤◌, Bool, true, false, cond, List, [], ◌∷◌, length, Option, Some}
use Rattle.std.proofs.Common.{None, refl, subst, arith, lit<, lit≤}
use Rattle.std.specs.Prelude.{find, nat_le, replicate, IfSome, ◌&&◌}
use Rattle.std.specs.List.{AllByRecursion}
use Rattle.std.proofs.lemmas.Bool.{leb-true}
use Rattle.std.proofs.lemmas.List.{length-replicate}
use Rattle.at_ddp.specs.Datagram.{IsAddress}
use Rattle.at_ddp.specs.declared.address.Address.{Address}
use Rattle.at_atp_requester.specs.Answers.{AnswerPart}
use Rattle.at_atp.specs.Lawfully.{IsAsking, IsInRange, IsLawfullySent}
use Rattle.at_ddp.specs.Posts.{AllSent, packet_at}
use Rattle.at_atp.specs.Network.{Network, Sent, Happening, Begins, Answers, Hears, Turns, Takes, Serves, Expires}
use Rattle.at_atp.specs.Network.{Retries, Other, begins, begun, turns, ending, number_after, answers, gives, hears}
use Rattle.at_atp.specs.Network.{takes, takes_in, handed_up, serves, expires, retries, done, after}
use Rattle.at_atp_frame.specs.Packets.{Packet, IsPacket}
use Rattle.at_atp_responder.specs.Records.{Answered, Record, is_key, is_kept}
use Rattle.at_atp_responder.specs.Records.{received, answer_fault, asked_for, asked_bitmap, after_answer, expiry_fault}
use Rattle.at_atp_responder.specs.Records.{fit, record_fault}
use Rattle.at_atp_requester.specs.Requests.{Retried, next_number, beginning, request_by, came}
use Rattle.at_atp_requester.specs.Requests.{heard}
use Rattle.at_atp_requester.specs.Requests.{retried}
use Rattle.at_ddp.specs.Tables.{replaced, without_first}
use Rattle.at_atp_frame.specs.declared.fault.AtpFault.{AtpFault}
use Rattle.at_atp_frame.specs.declared.fault.AtpFault.TheVariants.{AtpTooLong}
use Rattle.at_atp_responder.specs.declared.reception.Key.{Key}
use Rattle.at_atp_responder.specs.declared.reception.Reception.{Reception}
use Rattle.at_atp_responder.specs.declared.reception.Reception.TheVariants as reception
use Rattle.at_ddp.proofs.Alls.{all_both, all_replaced, all_without, all_found}
use Rattle.at_ddp.proofs.PostLemmas.{sent_at, none_sent, put_all}
use Rattle.at_atp.proofs.KeyedRecords.{one_key}
use Rattle.at_atp.proofs.Turns.{ends}
use Rattle.at_atp.proofs.Ranges.{FitsOpen, FitsRequests, FitsRecord, FitSent, Fits, number_fits, asks_fit}
use Rattle.at_atp.proofs.Ranges.{responses_fit, more_fits, requester_fits, responder_fits}
use Rattle.at_atp.proofs.Lawfulness.{heard_fits, retried_fits, taken_fits}

few_packets : (rs : List Record) (key : Key) (packets : List Packet) → answer_fault rs key packets ≡ None
    → length packets ≤ 8
few_packets rs key [] h = absurd (cc)
few_packets rs key (p ∷ ps) h = go (nat_le (length (p ∷ ps)) 8) refl (fit (p ∷ ps)) h
  where
    go : (b : Bool) → nat_le (length (p ∷ ps)) 8 ≡ b → (c : Bool)
        → cond (b && c) (record_fault (find (is_key key) rs)) (Some AtpTooLong) ≡ None → length (p ∷ ps) ≤ 8
    go true e c g = leb-true (length (p ∷ ps)) 8 e
    go false e c g = absurd (cc)

gave_fits : (n : Network) (at : Address) (key : Key) (packets : List Packet) → Fits n → IsAddress at
    → AllByRecursion IsPacket packets → (o : Option AtpFault) → answer_fault (n.responders at) key packets ≡ o
    → Fits (answers n at key packets o)
gave_fits n at key packets fits f all (Some x) e = fits
gave_fits n at key packets fits f all None e = record {
  requesters = fits.requesters;
  responders = put_all (λ a x. AllByRecursion FitsRecord x) n.responders at
      (after_answer (n.responders at) key packets) fits.responders (kept (find (is_key key) (n.responders at)) refl);
  sent = more_fits n.event at n.sent (asked_for (find (is_key key) (n.responders at)) key packets) fits.sent f
      (go (find (is_key key) (n.responders at)) refl);
}
  where
    kept : (r : Option Record) → find (is_key key) (n.responders at) ≡ r
        → AllByRecursion FitsRecord
        (cond (is_kept r) (replaced (is_key key) (record { key = key; state = Answered packets }) (n.responders at))
        (without_first (is_key key) (n.responders at)))
    kept None g = all_without FitsRecord (is_key key) (n.responders at) (fits.responders at)
    kept (Some r) g = keeps (is_kept (Some r))
      where
        keeps : (b : Bool) → AllByRecursion FitsRecord
            (cond b (replaced (is_key key) (record { key = key; state = Answered packets }) (n.responders at))
            (without_first (is_key key) (n.responders at)))
        keeps false = all_without FitsRecord (is_key key) (n.responders at) (fits.responders at)
        keeps true =
            let f = all_found FitsRecord (is_key key) (n.responders at) r (fits.responders at) g in
            let same = one_key r.key key f.1 in
            all_replaced FitsRecord (is_key key) (record { key = key; state = Answered packets }) (n.responders at)
            (fits.responders at) (record {
              from = subst (λ (k : Key). IsAddress k.from) same (f.0).from;
              tid = subst (λ (k : Key). k.tid < 65536) same (f.0).tid;
              state = (few_packets (n.responders at) key packets e, all);
            })

    go : (r : Option Record) → find (is_key key) (n.responders at) ≡ r → FitSent (asked_for r key packets)
    go None g = tt
    go (Some r) g =
        let found = all_found FitsRecord (is_key key) (n.responders at) r (fits.responders at) g in
        let same = one_key r.key key found.1 in
        let few = few_packets (n.responders at) key packets e in
        responses_fit key 0 (asked_bitmap r.state) packets (subst (λ (k : Key). IsAddress k.from) same (found.0).from)
        (subst (λ (k : Key). k.tid < 65536) same (found.0).tid) (omega (arith, few)) all

gives_fits : (n : Network) (at : Address) (key : Key) (packets : List Packet) → Fits n → IsAddress at
    → AllByRecursion IsPacket packets → Fits (gives n at key packets)
gives_fits n at key packets fits f all =
    gave_fits n at key packets fits f all (answer_fault (n.responders at) key packets) refl

-- ---- histories

takes_fits : (n : Network) (which : ℕ) (s : Sent) → Fits n → packet_at n.sent which ≡ Some s → Fits (takes n s)
takes_fits n which s fits e =
    let l = sent_at IsLawfullySent n.sent which s fits.sent e in
    let t = taken_fits (n.responders s.to) s.from s.packet (fits.responders s.to) l.from_fits l.lawful in
    responder_fits n s.to (received (n.responders s.to) s.from s.packet).after
    (received (n.responders s.to) s.from s.packet).sent fits l.to_fits t.after t.sent

handed_fits : (n : Network) (at : Address) (packets : List Packet) (r : Reception) → Fits n → IsAddress at
    → AllByRecursion IsPacket packets → Fits (handed_up n at packets r)
handed_fits n at packets (reception.New key) fits f all = gives_fits n at key packets fits f all
handed_fits n at packets (reception.Again count) fits f all = fits
handed_fits n at packets reception.Released fits f all = fits
handed_fits n at packets reception.Ignored fits f all = fits

begun_fits : (n : Network) (who to : Address) (user bytes : List ℕ) (wanted : ℕ) (xo : Bool) (times tid : ℕ) → Fits n
    → IsAsking who to user bytes wanted → tid < 65536 → Fits (begun n who (beginning tid to user bytes wanted xo times))
begun_fits n who to user bytes wanted xo times tid fits a numbered =
    let before = fits.requesters who in
    record {
      requesters = put_all (λ b x. FitsRequests x) n.requesters who _ fits.requesters
          (record {
            next = omega arith;
            standing = all_both FitsOpen (n.requesters who).standing (beginning tid to user bytes wanted xo times ∷ [])
                before.standing (it, tt);
          });
      responders = fits.responders;
      sent = more_fits n.event who n.sent ((to, request_by (beginning tid to user bytes wanted xo times)) ∷ [])
          fits.sent a.who_fits (asks_fit (beginning tid to user bytes wanted xo times) it, tt);
    }
  where
    it : FitsOpen (beginning tid to user bytes wanted xo times)
    it = record {
      tid = numbered;
      to = a.to_fits;
      asks = a.asks;
      few = let few = a.few in omega (arith, few, length-replicate {A = Option AnswerPart} wanted None);
    }

hears_fits : (A : Type 0) (n : Network) (which : ℕ) (s : Sent) → Fits n → packet_at n.sent which ≡ Some s
    → Fits (hears A n (Some s))
hears_fits A n which s fits e =
    let l = sent_at IsLawfullySent n.sent which s fits.sent e in
    let h = heard_fits A (n.requesters s.to) s.from s.packet (fits.requesters s.to) in
    requester_fits n s.to (heard {A = A} (n.requesters s.to) s.from s.packet).after
    (heard {A = A} (n.requesters s.to) s.from s.packet).sent fits l.to_fits h.after h.sent

turned_fits : (A : Type 0) (n : Network) (which : ℕ) (user : List ℕ) (times : ℕ) (s : Sent) → Fits n
    → IsInRange (Turns which user times) → packet_at n.sent which ≡ Some s → (o : Option ℕ) → number_after A n s ≡ o →
    Fits (begins (hears A n (Some s)) s.to s.from user [] 1 false times o)
turned_fits A n which user times s fits range e None f = hears_fits A n which s fits e
turned_fits A n which user times s fits range e (Some tid) f =
    let l = sent_at IsLawfullySent n.sent which s fits.sent e in
    let h = heard_fits A (n.requesters s.to) s.from s.packet (fits.requesters s.to) in
    begun_fits (hears A n (Some s)) s.to s.from user [] 1 false times tid (hears_fits A n which s fits e)
    (record { who_fits = l.to_fits; to_fits = l.from_fits; asks = range; few = lit≤ tt })
    (number_fits (heard {A = A} (n.requesters s.to) s.from s.packet).after tid (h.after).next f)

done_fits : (A : Type 0) (n : Network) (h : Happening) → Fits n → IsInRange h → Fits (done A n h)
done_fits A n (Begins who to user bytes wanted xo times) fits range = go (next_number (n.requesters who)) refl
  where
    go : (o : Option ℕ) → next_number (n.requesters who) ≡ o → Fits (begins n who to user bytes wanted xo times o)
    go None e = fits
    go (Some tid) e = begun_fits n who to user bytes wanted xo times tid fits range
        (number_fits (n.requesters who) tid (fits.requesters who).next e)
done_fits A n (Answers at key packets) fits range = gives_fits n at key packets fits range.0 range.1
done_fits A n (Hears which) fits range = go (packet_at n.sent which) refl
  where
    go : (o : Option Sent) → packet_at n.sent which ≡ o → Fits (hears A n o)
    go None e = fits
    go (Some s) e = hears_fits A n which s fits e
done_fits A n (Turns which user times) fits range = go (ending A n (packet_at n.sent which)) refl
  where
    go : (o : Option Sent) → ending A n (packet_at n.sent which) ≡ o → Fits (turns A n user times o)
    go None e = fits
    go (Some s) e = let came = ends A n which s e in
        turned_fits A n which user times s fits range came.was_sent (number_after A n s) refl
done_fits A n (Takes which) fits range = go (packet_at n.sent which) refl
  where
    go : (o : Option Sent) → packet_at n.sent which ≡ o → Fits (takes_in n o)
    go None e = fits
    go (Some s) e = takes_fits n which s fits e
done_fits A n (Serves which packets) fits range = go (packet_at n.sent which) refl
  where
    go : (o : Option Sent) → packet_at n.sent which ≡ o → Fits (serves n packets o)
    go None e = fits
    go (Some s) e = handed_fits (takes n s) s.to packets (received (n.responders s.to) s.from s.packet).reception
        (takes_fits n which s fits e) (sent_at IsLawfullySent n.sent which s fits.sent e).to_fits range
done_fits A n (Expires at key) fits range = go (expiry_fault (find (is_key key) (n.responders at)))
  where
    go : (o : Option AtpFault) → Fits (expires n at key o)
    go (Some f) = fits
    go None = record {
      requesters = fits.requesters;
      responders = put_all (λ a x. AllByRecursion FitsRecord x) n.responders at
          (without_first (is_key key) (n.responders at)) fits.responders
          (all_without FitsRecord (is_key key) (n.responders at) (fits.responders at));
      sent = fits.sent;
    }
done_fits A n (Retries who tid) fits range = go (retried (n.requesters who) tid) refl
  where
    go : (o : Option Retried) → retried (n.requesters who) tid ≡ o → Fits (retries n who o)
    go None e = fits
    go (Some x) e = let r = retried_fits (n.requesters who) tid x (fits.requesters who) e in
        requester_fits n who x.after x.sent fits range r.after r.sent
done_fits A n (Other count) fits range =
    record {
      requesters = fits.requesters;
      responders = fits.responders;
      sent = all_both (λ (x : Option Sent). IfSome x IsLawfullySent) n.sent (replicate count None) fits.sent
          (none_sent IsLawfullySent count);
    }

history_fits : (A : Type 0) (history : List Happening) → AllByRecursion IsInRange history → Fits (after A history)
history_fits A [] range =
    record { requesters = λ who. record { next = lit< tt; standing = tt }; responders = λ at. tt; sent = tt }
history_fits A (h ∷ hs) range =
    let f = done_fits A (after A hs) h (history_fits A hs range.1) range.0 in
    record { requesters = f.requesters; responders = f.responders; sent = f.sent }

pub lawfully_sent : (A : Type 0) (history : List Happening) → AllByRecursion IsInRange history
    → AllSent IsLawfullySent (after A history).sent
lawfully_sent A history range = (history_fits A history range).sent
