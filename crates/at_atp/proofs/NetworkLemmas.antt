-- What a timely history leaves true of a network.
use Rattle.std.proofs.Common.{◌≡◌, ℕ, ◌+◌, ◌<◌, Bool, true, false, cond, List, [], ◌∷◌, ◌++◌, Option, Some, None, refl}
use Rattle.std.proofs.Common.{subst, ◌∙◌}
use Rattle.std.specs.Prelude.{find, IfSome}
use Rattle.std.specs.List.{AllByRecursion, Contains}
use Rattle.at_ddp.specs.declared.address.Address.{Address}
use Rattle.at_atp_frame.specs.Frames.{Content, owner, number_of}
use Rattle.at_ddp.specs.Posts.{AllSent, packet_at, stamped}
use Rattle.at_atp.specs.Network.{Network, Sent, Drawn, is_fresh, with_requester, with_responder, answers, gives, hears}
use Rattle.at_atp.specs.Network.{takes, takes_in, handed_up, serves, expires, retries, ComesInTime}
use Rattle.at_atp_frame.specs.Packets.{Packet}
use Rattle.at_atp_responder.specs.Records.{Answered, Record, is_key, is_kept, received, answer_fault, asked_for}
use Rattle.at_atp_responder.specs.Records.{asked_bitmap, after_answer, expiry_fault}
use Rattle.at_atp_requester.specs.Requests.{Requests, Retried, heard, retried}
use Rattle.at_ddp.specs.Tables.{replaced, without_first}
use Rattle.at_atp.specs.Transactions.{Transaction, transaction_of, Asked, answered}
use Rattle.at_atp_frame.specs.declared.fault.AtpFault.{AtpFault}
use Rattle.at_atp_responder.specs.declared.reception.Key.{Key}
use Rattle.at_atp_responder.specs.declared.reception.Reception.{Reception}
use Rattle.at_atp_responder.specs.declared.reception.Reception.TheVariants as reception
use Rattle.at_ddp.proofs.Alls.{all_implied, all_both, all_replaced, all_without, all_found}
use Rattle.at_ddp.proofs.PostLemmas.{sent_at, sent_implied, put_all, stamped_past}
use Rattle.at_atp.proofs.Carried.{Tells, tells_kept, Holds, holds_kept, Waits, waits_kept}
use Rattle.at_atp.proofs.Hearings.{TellsAll, heard_sound, retried_sound}
use Rattle.at_atp.proofs.Newest.{Keeps, answered_keeps, answered_joins}
use Rattle.at_atp.proofs.KeyedRecords.{one_key}
use Rattle.at_atp.proofs.Takings.{answer_tells, taken_sound}

-- what is sent while no later event drew its number is of the newest transaction of that number
abbrev pub Fresh : List Drawn → List Transaction → Sent → Type 0
Fresh drawn asked s = is_fresh drawn s ≡ true → Tells asked s.from s.to s.packet

-- a network after so many events
pub record Sound (events : ℕ) (n : Network) : Type 0 where
  pub past : AllSent (λ s. s.event < events) n.sent
  pub sent : AllSent (Fresh n.drawn n.asked) n.sent
  pub standing : (who : Address) → AllByRecursion (Holds n.asked who) (n.requesters who).standing
  pub records : (at : Address) → AllByRecursion (Waits n.asked at) (n.responders at)

-- a record is of the newest transaction of its number
pub asked_by : (asked : List Transaction) (at : Address) (key : Key) (rs : List Record) (r : Record)
    → AllByRecursion (Waits asked at) rs → find (is_key key) rs ≡ Some r → Asked asked key.from key.tid at
asked_by asked at key rs r all is =
    let found = all_found (Waits asked at) (is_key key) rs r all is in
    let a = (found.0).asked in
    record {
      transaction = a.transaction;
      newest = subst (λ (k : Key). transaction_of asked k.from k.tid ≡ Some a.transaction)
          (one_key r.key key found.1) a.newest;
      asked_it = a.asked_it;
    }

-- ---- what is sent

stamped_fresh : (drawn : List Drawn) (asked : List Transaction) (event : ℕ) (from : Address)
    (xs : List (Address × Content)) → TellsAll asked from xs → AllSent (Fresh drawn asked) (stamped event from xs)
stamped_fresh drawn asked event from [] h = tt
stamped_fresh drawn asked event from (x ∷ xs) h = ((λ _. h.0), stamped_fresh drawn asked event from xs h.1)

pub more_past : (event : ℕ) (from : Address) (sent : List (Option Sent)) (xs : List (Address × Content))
    → AllSent (λ s. s.event < event + 1) sent → AllSent (λ s. s.event < event + 1) (sent ++ stamped event from xs)
more_past event from sent xs h = all_both (λ (x : Option Sent). IfSome x (λ s. s.event < event + 1)) sent
    (stamped event from xs) h (stamped_past event from xs)

pub more_fresh : (drawn : List Drawn) (asked : List Transaction) (event : ℕ) (from : Address)
    (sent : List (Option Sent)) (xs : List (Address × Content)) → AllSent (Fresh drawn asked) sent
    → TellsAll asked from xs → AllSent (Fresh drawn asked) (sent ++ stamped event from xs)
more_fresh drawn asked event from sent xs h tells = all_both (λ (x : Option Sent). IfSome x (Fresh drawn asked)) sent
    (stamped event from xs) h (stamped_fresh drawn asked event from xs tells)

-- ---- one party that changes, among the same transactions

requester_sound : (n : Network) (who : Address) (r : Requests) (sent : List (Address × Content))
    → Sound (n.event + 1) n → AllByRecursion (Holds n.asked who) r.standing → TellsAll n.asked who sent
    → Sound (n.event + 1) (with_requester n who r sent)
requester_sound n who r sent s standing tells = record {
  past = more_past n.event who n.sent sent s.past;
  sent = more_fresh n.drawn n.asked n.event who n.sent sent s.sent tells;
  standing = put_all (λ a x. AllByRecursion (Holds n.asked a) x.standing) n.requesters who r s.standing standing;
  records = s.records;
}

responder_sound : (n : Network) (at : Address) (rs : List Record) (sent : List (Address × Content))
    → Sound (n.event + 1) n → AllByRecursion (Waits n.asked at) rs → TellsAll n.asked at sent
    → Sound (n.event + 1) (with_responder n at rs sent)
responder_sound n at rs sent s records tells = record {
  past = more_past n.event at n.sent sent s.past;
  sent = more_fresh n.drawn n.asked n.event at n.sent sent s.sent tells;
  standing = s.standing;
  records = put_all (λ a x. AllByRecursion (Waits n.asked a) x) n.responders at rs s.records records;
}

-- ---- packets that come, and retries

pub tells_at : (events : ℕ) (n : Network) (which : ℕ) (s : Sent) → Sound events n → packet_at n.sent which ≡ Some s
    → is_fresh n.drawn s ≡ true → Tells n.asked s.from s.to s.packet
tells_at events n which s sound is fresh = sent_at (Fresh n.drawn n.asked) n.sent which s sound.sent is fresh

pub hears_sound : (A : Type 0) (n : Network) (which : ℕ) → Sound (n.event + 1) n → ComesInTime n which
    → Sound (n.event + 1) (hears A n (packet_at n.sent which))
hears_sound A n which sound timely = go (packet_at n.sent which) refl
  where
    go : (o : Option Sent) → packet_at n.sent which ≡ o → Sound (n.event + 1) (hears A n o)
    go None e = sound
    go (Some s) e =
        let h = heard_sound A n.asked s.to s.from (n.requesters s.to) s.packet (sound.standing s.to)
        (tells_at (n.event + 1) n which s sound e (timely s e)) in
        requester_sound n s.to (heard {A = A} (n.requesters s.to) s.from s.packet).after
        (heard {A = A} (n.requesters s.to) s.from s.packet).sent sound h.standing h.sent

pub took_sound : (n : Network) (which : ℕ) (s : Sent) → Sound (n.event + 1) n → ComesInTime n which
    → packet_at n.sent which ≡ Some s → Sound (n.event + 1) (takes n s)
took_sound n which s sound timely e =
    let t = taken_sound n.asked s.to s.from (n.responders s.to) s.packet (sound.records s.to)
    (tells_at (n.event + 1) n which s sound e (timely s e)) in
    responder_sound n s.to (received (n.responders s.to) s.from s.packet).after
    (received (n.responders s.to) s.from s.packet).sent sound t.records t.sent

pub takes_sound : (n : Network) (which : ℕ) → Sound (n.event + 1) n → ComesInTime n which
    → Sound (n.event + 1) (takes_in n (packet_at n.sent which))
takes_sound n which sound timely = go (packet_at n.sent which) refl
  where
    go : (o : Option Sent) → packet_at n.sent which ≡ o → Sound (n.event + 1) (takes_in n o)
    go None e = sound
    go (Some s) e = took_sound n which s sound timely e

pub retries_sound : (n : Network) (who : Address) (tid : ℕ) → Sound (n.event + 1) n
    → Sound (n.event + 1) (retries n who (retried (n.requesters who) tid))
retries_sound n who tid sound = go (retried (n.requesters who) tid) refl
  where
    go : (o : Option Retried) → retried (n.requesters who) tid ≡ o → Sound (n.event + 1) (retries n who o)
    go None e = sound
    go (Some x) e = let r = retried_sound n.asked who (n.requesters who) tid x (sound.standing who) e in
        requester_sound n who x.after x.sent sound r.standing r.sent

-- ---- answers

-- the answer of a request that waits joins its transaction, and is sent
pub gave_sound : (n : Network) (at : Address) (key : Key) (packets : List Packet) → Sound (n.event + 1) n
    → answer_fault (n.responders at) key packets ≡ None → Sound (n.event + 1) (answers n at key packets None)
gave_sound n at key packets sound free = record {
  past = more_past n.event at n.sent (asked_for (find (is_key key) (n.responders at)) key packets) sound.past;
  sent = more_fresh n.drawn (answered n.asked key.from key.tid packets) n.event at n.sent
      (asked_for (find (is_key key) (n.responders at)) key packets)
      (sent_implied (Fresh n.drawn n.asked) (Fresh n.drawn (answered n.asked key.from key.tid packets)) n.sent
      fresh_kept sound.sent) (tells (find (is_key key) (n.responders at)) refl);
  standing = λ who. all_implied (Holds n.asked who) (Holds (answered n.asked key.from key.tid packets) who)
      (n.requesters who).standing
      (λ t h. holds_kept n.asked (answered n.asked key.from key.tid packets) who t (keeps who t.tid) h)
      (sound.standing who);
  records = put_all (λ a x. AllByRecursion (Waits (answered n.asked key.from key.tid packets) a) x) n.responders at
      (after_answer (n.responders at) key packets) (λ a. waiting a)
      (settled (find (is_key key) (n.responders at)) refl);
}
  where
    keeps : (who : Address) (tid : ℕ) → Keeps n.asked (answered n.asked key.from key.tid packets) who tid
    keeps who tid = answered_keeps n.asked key.from key.tid packets who tid

    fresh_kept : (s : Sent) → Fresh n.drawn n.asked s → Fresh n.drawn (answered n.asked key.from key.tid packets) s
    fresh_kept s h = λ f. tells_kept n.asked (answered n.asked key.from key.tid packets) s.from s.to s.packet
        (keeps (owner s.from s.to s.packet) (number_of s.packet)) (h f)

    waiting : (a : Address) → AllByRecursion (Waits (answered n.asked key.from key.tid packets) a) (n.responders a)
    waiting a = all_implied (Waits n.asked a) (Waits (answered n.asked key.from key.tid packets) a) (n.responders a)
        (λ r h. waits_kept n.asked (answered n.asked key.from key.tid packets) a r (keeps r.key.from r.key.tid) h)
        (sound.records a)

    -- the newest transaction asked here, and has the answer
    given : (r : Record) → find (is_key key) (n.responders at) ≡ Some r
        → (a : Asked (answered n.asked key.from key.tid packets) key.from key.tid at)
        × Contains (a.transaction).answers packets
    given r e =
        let found = all_found (Waits n.asked at) (is_key key) (n.responders at) r (sound.records at) e in
        let same = one_key r.key key found.1 in
        let newest = subst (λ (k : Key). transaction_of n.asked k.from k.tid ≡ Some ((found.0).asked).transaction) same
        ((found.0).asked).newest in
        let more = answered_joins n.asked key.from key.tid packets ((found.0).asked).transaction newest in (
          record { transaction = more.0; newest = more.1; asked_it = more.2.responder ∙ ((found.0).asked).asked_it },
          more.3,
        )

    tells : (o : Option Record) → find (is_key key) (n.responders at) ≡ o
        → TellsAll (answered n.asked key.from key.tid packets) at (asked_for o key packets)
    tells None e = tt
    tells (Some r) e = let g = given r e in
        answer_tells (answered n.asked key.from key.tid packets) at key g.0 (asked_bitmap r.state) packets g.1

    gone : AllByRecursion (Waits (answered n.asked key.from key.tid packets) at)
        (without_first (is_key key) (n.responders at))
    gone = all_without (Waits (answered n.asked key.from key.tid packets) at) (is_key key) (n.responders at)
        (waiting at)

    settled : (o : Option Record) → find (is_key key) (n.responders at) ≡ o
        → AllByRecursion (Waits (answered n.asked key.from key.tid packets) at)
        (cond (is_kept o) (replaced (is_key key) (record { key = key; state = Answered packets }) (n.responders at))
        (without_first (is_key key) (n.responders at)))
    settled None e = gone
    settled (Some r) e = go (is_kept (Some r))
      where
        go : (b : Bool) → AllByRecursion (Waits (answered n.asked key.from key.tid packets) at)
            (cond b (replaced (is_key key) (record { key = key; state = Answered packets }) (n.responders at))
            (without_first (is_key key) (n.responders at)))
        go false = gone
        go true =
            let g = given r e in
            all_replaced (Waits (answered n.asked key.from key.tid packets) at) (is_key key)
            (record { key = key; state = Answered packets }) (n.responders at) (waiting at)
            (record { asked = g.0; kept = g.1 })

pub gives_sound : (n : Network) (at : Address) (key : Key) (packets : List Packet) → Sound (n.event + 1) n
    → Sound (n.event + 1) (gives n at key packets)
gives_sound n at key packets sound = go (answer_fault (n.responders at) key packets) refl
  where
    go : (o : Option AtpFault) → answer_fault (n.responders at) key packets ≡ o
        → Sound (n.event + 1) (answers n at key packets o)
    go None e = gave_sound n at key packets sound e
    go (Some f) e = sound

handed_sound : (n : Network) (at : Address) (packets : List Packet) (r : Reception) → Sound (n.event + 1) n
    → Sound (n.event + 1) (handed_up n at packets r)
handed_sound n at packets (reception.New key) sound = gives_sound n at key packets sound
handed_sound n at packets (reception.Again count) sound = sound
handed_sound n at packets reception.Released sound = sound
handed_sound n at packets reception.Ignored sound = sound

pub serves_sound : (n : Network) (which : ℕ) (packets : List Packet) → Sound (n.event + 1) n → ComesInTime n which
    → Sound (n.event + 1) (serves n packets (packet_at n.sent which))
serves_sound n which packets sound timely = go (packet_at n.sent which) refl
  where
    go : (o : Option Sent) → packet_at n.sent which ≡ o → Sound (n.event + 1) (serves n packets o)
    go None e = sound
    go (Some s) e = handed_sound (takes n s) s.to packets (received (n.responders s.to) s.from s.packet).reception
        (took_sound n which s sound timely e)

-- ---- records that expire

pub expires_sound : (n : Network) (at : Address) (key : Key) → Sound (n.event + 1) n
    → Sound (n.event + 1) (expires n at key (expiry_fault (find (is_key key) (n.responders at))))
expires_sound n at key sound = go (expiry_fault (find (is_key key) (n.responders at)))
  where
    go : (o : Option AtpFault) → Sound (n.event + 1) (expires n at key o)
    go (Some f) = sound
    go None = record {
      past = sound.past;
      sent = sound.sent;
      standing = sound.standing;
      records = put_all (λ a x. AllByRecursion (Waits n.asked a) x) n.responders at
          (without_first (is_key key) (n.responders at)) sound.records
          (all_without (Waits n.asked at) (is_key key) (n.responders at) (sound.records at));
    }
