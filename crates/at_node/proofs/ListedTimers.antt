-- The timers of a node that are listed, taken together.
use Rattle.std.proofs.Common.{◌≡◌, ℕ, Bool, true, false, cond, List, [], ◌++◌}
use Rattle.std.proofs.Common.{◌⊎◌, inl, inr, refl, sym, subst}
use Rattle.std.specs.Prelude.{◌==◌}
use Rattle.std.proofs.lemmas.Bool.{eqb-true}
use Rattle.at_adsp_end.specs.declared.tick.Tick.TheVariants as tick
use Rattle.at_adsp_ends.specs.Tables.{IdsDiffer}
use Rattle.at_atp_requester.specs.Requests.{Transaction, is_numbered}
use Rattle.at_atp_responder.specs.Keys.{AreApart}
use Rattle.at_atp_responder.specs.declared.reception.Key.{Key}
use Rattle.at_event.specs.declared.Timer.{Timer}
use Rattle.at_event.specs.declared.Timer.TheVariants as timer
use Rattle.at_event.specs.declared.transactions.TransactionTimer.TheVariants as atp_timer
use Rattle.at_event.specs.declared.names.NameTimer.TheVariants as nbp_timer
use Rattle.at_event.specs.declared.streams.StreamTimer.TheVariants as adsp_timer
use Rattle.at_nbp.specs.Lookups.{Search, has_id}
use Rattle.at_node.specs.Nodes.{NodeState, timed}
use Rattle.at_zone_socket.specs.AtpTimers.{records_at}
use Rattle.at_node.specs.Timers.{Acts, lookup_of, lookups, releases, retries, retry_of, ticks, timers_of}
use Rattle.at_ddp.proofs.MemberLemmas.{There, there_seen, found_there, there_left, there_right, there_either}
use Rattle.at_node.proofs.ReleaseLaws.{CanGo, acts_release, can_go_listed, listed_can_go, release_acts_6}
use Rattle.at_node.proofs.ReleaseLaws.{release_acts_129}
use Rattle.at_node.proofs.TickLaws.{acts_tick, tick_listed, ticks_act}
use Rattle.at_node.proofs.TimerLaws.{acts_lookup, acts_retry, lookups_act, retries_act}

-- ---- the parts of the list

module _ (a b c d e f : List Timer) (t : Timer) where
  abbrev pub AnyPart : Type 0
  AnyPart = There a t ⊎ (There b t ⊎ (There c t ⊎ (There d t ⊎ (There e t ⊎ There f t))))

  pub part_of : There (a ++ b ++ c ++ d ++ e ++ f) t → AnyPart
  part_of h = five (there_either (a ++ b ++ c ++ d ++ e) f t h)
    where
      two : There a t ⊎ There b t → AnyPart
      two (inl g) = inl g
      two (inr g) = inr (inl g)

      three : There (a ++ b) t ⊎ There c t → AnyPart
      three (inl g) = two (there_either a b t g)
      three (inr g) = inr (inr (inl g))

      four : There (a ++ b ++ c) t ⊎ There d t → AnyPart
      four (inl g) = three (there_either (a ++ b) c t g)
      four (inr g) = inr (inr (inr (inl g)))

      fifth : There (a ++ b ++ c ++ d) t ⊎ There e t → AnyPart
      fifth (inl g) = four (there_either (a ++ b ++ c) d t g)
      fifth (inr g) = inr (inr (inr (inr (inl g))))

      five : There (a ++ b ++ c ++ d ++ e) t ⊎ There f t → AnyPart
      five (inl g) = fifth (there_either (a ++ b ++ c ++ d) e t g)
      five (inr g) = inr (inr (inr (inr (inr g))))

  pub in_part : AnyPart → There (a ++ b ++ c ++ d ++ e ++ f) t
  in_part (inl g) = there_left (a ++ b ++ c ++ d ++ e) f t (there_left (a ++ b ++ c ++ d) e t
      (there_left (a ++ b ++ c) d t (there_left (a ++ b) c t (there_left a b t g))))
  in_part (inr (inl g)) = there_left (a ++ b ++ c ++ d ++ e) f t (there_left (a ++ b ++ c ++ d) e t
      (there_left (a ++ b ++ c) d t (there_left (a ++ b) c t (there_right a b t g))))
  in_part (inr (inr (inl g))) = there_left (a ++ b ++ c ++ d ++ e) f t (there_left (a ++ b ++ c ++ d) e t
      (there_left (a ++ b ++ c) d t (there_right (a ++ b) c t g)))
  in_part (inr (inr (inr (inl g)))) = there_left (a ++ b ++ c ++ d ++ e) f t (there_left (a ++ b ++ c ++ d) e t
      (there_right (a ++ b ++ c) d t g))
  in_part (inr (inr (inr (inr (inl g))))) =
      there_left (a ++ b ++ c ++ d ++ e) f t (there_right (a ++ b ++ c ++ d) e t g)
  in_part (inr (inr (inr (inr (inr g))))) = there_right (a ++ b ++ c ++ d ++ e) f t g

-- a timer is in one of the parts of a node's list
abbrev pub InPart : NodeState → Timer → Type 0
InPart n t = AnyPart (retries n.atp.transactions.requester.standing) (releases 6 n.atp.zones.zone_responder)
    (releases 129 n.atp.transactions.service_responder) (lookups n.names.lookups.searches)
    (ticks tick.Retransmit n.streams.ends) (ticks tick.Probe n.streams.ends) t

-- ---- what is listed acts

pub listed_acts : (A : Type 0) (n : NodeState) (t : Timer) → IdsDiffer n.streams.ends → AreApart
    n.atp.zones.zone_responder
    → AreApart n.atp.transactions.service_responder → There (timers_of n) t → Acts n (timed {A = A} n t)
listed_acts A n t ids zones services h =
    go (part_of (retries n.atp.transactions.requester.standing) (releases 6 n.atp.zones.zone_responder)
    (releases 129 n.atp.transactions.service_responder) (lookups n.names.lookups.searches)
    (ticks tick.Retransmit n.streams.ends) (ticks tick.Probe n.streams.ends) t h)
  where
    go : InPart n t → Acts n (timed {A = A} n t)
    go (inl g) = retries_act A n t g
    go (inr (inl g)) =
        let r = listed_can_go 6 n.atp.zones.zone_responder t zones g in
        subst (λ (x : Timer). Acts n (timed {A = A} n x)) (sym r.1) (release_acts_6 A n r.0 r.2)
    go (inr (inr (inl g))) =
        let r = listed_can_go 129 n.atp.transactions.service_responder t services g in
        subst (λ (x : Timer). Acts n (timed {A = A} n x)) (sym r.1) (release_acts_129 A n r.0 r.2)
    go (inr (inr (inr (inl g)))) = lookups_act A n t g
    go (inr (inr (inr (inr (inl g))))) = ticks_act A n tick.Retransmit t ids g
    go (inr (inr (inr (inr (inr g))))) = ticks_act A n tick.Probe t ids g

-- ---- what acts is listed

release_part : (n : NodeState) (own : ℕ) (key : Key) → CanGo (records_at n.atp own) key
    → InPart n (timer.Transactions (atp_timer.Release own key))
release_part n own key h = go (own == 129) (own == 6) refl refl h
  where
    go : (b c : Bool) → (own == 129) ≡ b → (own == 6) ≡ c
        → CanGo (cond b n.atp.transactions.service_responder (cond c n.atp.zones.zone_responder [])) key
        → InPart n (timer.Transactions (atp_timer.Release own key))
    go true c e f g = inr (inr (inl (subst (λ (k : ℕ). There (releases 129 n.atp.transactions.service_responder)
        (timer.Transactions (atp_timer.Release k key))) (sym (eqb-true own 129 e))
        (can_go_listed 129 key n.atp.transactions.service_responder g))))
    go false true e f g = inr (inl (subst (λ (k : ℕ). There (releases 6 n.atp.zones.zone_responder)
        (timer.Transactions (atp_timer.Release k key))) (sym (eqb-true own 6 f))
        (can_go_listed 6 key n.atp.zones.zone_responder g)))
    go false false e f g = absurd (let none = g.1 in cc)

acts_part : (A : Type 0) (n : NodeState) (t : Timer) → Acts n (timed {A = A} n t) → InPart n t
acts_part A n (timer.Transactions (atp_timer.Retry tid)) h =
    let one = acts_retry A n tid h in
    let found = found_there (is_numbered tid) n.atp.transactions.requester.standing one.0 one.1 in
    inl (subst (λ (k : ℕ). There (retries n.atp.transactions.requester.standing)
    (timer.Transactions (atp_timer.Retry k)))
    (eqb-true (one.0).tid tid found.1)
    (there_seen (λ (x : Transaction). retry_of x.tid) n.atp.transactions.requester.standing one.0 found.0))
acts_part A n (timer.Transactions (atp_timer.Release own key)) h = release_part n own key (acts_release A n own key h)
acts_part A n (timer.Names (nbp_timer.Lookup id)) h =
    let one = acts_lookup A n id h in
    let found = found_there (has_id id) n.names.lookups.searches one.0 one.1 in
    inr (inr (inr (inl (subst (λ (k : ℕ). There (lookups n.names.lookups.searches) (timer.Names (nbp_timer.Lookup k)))
    (eqb-true (one.0).id id found.1)
    (there_seen (λ (x : Search). lookup_of x.id) n.names.lookups.searches one.0 found.0)))))
acts_part A n (timer.Streams (adsp_timer.Resend id)) h =
    let one = acts_tick A n tick.Retransmit id h in
    inr (inr (inr (inr (inl (tick_listed n.streams.ends tick.Retransmit id one.0 one.1 one.2)))))
acts_part A n (timer.Streams (adsp_timer.Probe id)) h =
    let one = acts_tick A n tick.Probe id h in
    inr (inr (inr (inr (inr (tick_listed n.streams.ends tick.Probe id one.0 one.1 one.2)))))

pub acts_listed : (A : Type 0) (n : NodeState) (t : Timer) → Acts n (timed {A = A} n t) → There (timers_of n) t
acts_listed A n t h = in_part (retries n.atp.transactions.requester.standing) (releases 6 n.atp.zones.zone_responder)
    (releases 129 n.atp.transactions.service_responder) (lookups n.names.lookups.searches)
    (ticks tick.Retransmit n.streams.ends) (ticks tick.Probe n.streams.ends) t (acts_part A n t h)
