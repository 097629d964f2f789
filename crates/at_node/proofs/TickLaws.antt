-- The ticks that are listed are those that do something at an end.
use Rattle.std.proofs.Common.{◌≡◌, ◌≢◌, ℕ, ◌+◌, Bool, true, false, cond, List, [], ◌∷◌, ◌++◌, length, map}
use Rattle.std.proofs.Common.{find, Option, Some, None, ◌⊎◌, inl, inr, refl, sym, ap, subst, ◌∙◌, arith, Ok, Err}
use Rattle.std.specs.Prelude.{not, ◌==◌, ◌&&◌, option_map}
use Rattle.std.proofs.lemmas.Bool.{true≢false, eq-eqb, eqb-true, not-true}
use Rattle.at_ddp.specs.Tables.{replaced}
use Rattle.at_adsp_end.specs.Calls.{heeds, is_idle, is_last, ticked, sent_again, open_again, probed}
use Rattle.at_adsp_end.specs.Cuts.{Piece, open_piece, pieces, numbered}
use Rattle.at_adsp_end.specs.Ends.{EndState, addressed, is_closed, is_open}
use Rattle.at_adsp_end.specs.Hearing.{is_empty}
use Rattle.at_adsp_end.specs.Positions.{Numbers, wire}
use Rattle.at_adsp_end.specs.Sending.{shut}
use Rattle.at_adsp_end.specs.declared.item.Item.{Item}
use Rattle.at_adsp_end.specs.declared.item.Item.TheVariants as item
use Rattle.at_adsp_end.specs.declared.phase.Phase.{Phase}
use Rattle.at_adsp_end.specs.declared.phase.Phase.TheVariants as phase
use Rattle.at_adsp_end.specs.declared.tick.Tick.{Tick}
use Rattle.at_adsp_end.specs.declared.tick.Tick.TheVariants as tick
use Rattle.at_adsp_end.specs.declared.fault.StreamFault.TheVariants.{NotOpen}
use Rattle.at_adsp_end.specs.declared.change.EndChange.TheVariants as step
use Rattle.at_adsp_ends.specs.Calls.{frees, heeding, ticked_at}
use Rattle.at_adsp_ends.specs.Receiving.{settled}
use Rattle.at_adsp_ends.specs.Tables.{IdsDiffer, has_id, freed}
use Rattle.at_event.specs.Outcomes.{over}
use Rattle.at_event.specs.declared.Timer.{Timer}
use Rattle.at_node.specs.Nodes.{NodeState, timed, with_streams}
use Rattle.at_node.specs.Timers.{Acts, ticks, timer_of}
use Rattle.at_ddp.proofs.MemberLemmas.{There, there_some, some_there, found_there, sole_found, without_differs}
use Rattle.at_ddp.proofs.MemberLemmas.{replaced_at, replaced_same}
use Rattle.at_stream_socket.specs.Calls.{called, tick_fired}
use Rattle.at_stream_socket.specs.Sockets.{sent_of, told_by}

-- ---- what an end sends again

pieces_some : (got : List ℕ) (b : ℕ) (xs : List Item) → pieces (b ∷ got) xs ≢ []
pieces_some got b [] e = absurd (cc)
pieces_some got b (item.End ∷ xs) e = absurd (cc)
pieces_some got b (item.Byte c ∷ xs) e =
    go (length (b ∷ got) == 572) (pieces_some (got ++ c ∷ []) b xs) e
  where
    go : (full : Bool) → pieces (b ∷ (got ++ c ∷ [])) xs ≢ []
        → cond full (open_piece (b ∷ got) ∷ pieces (c ∷ []) xs) (pieces (b ∷ (got ++ c ∷ [])) xs) ≢ []
    go true ih f = absurd (cc)
    go false ih f = ih f

numbered_some : (N : Numbers) (e : EndState) (first : ℕ) (ps : List Piece) → ps ≢ [] → numbered N e first ps ≢ []
numbered_some N e first [] some h = some refl
numbered_some N e first (p ∷ ps) some h = absurd (cc)

repeated_some : (N : Numbers) (e : EndState) (first : ℕ) (xs : List Item) → is_empty xs ≡ false
    → numbered N e first (pieces [] xs) ≢ []
repeated_some N e first [] some = absurd (true≢false some)
repeated_some N e first (item.End ∷ xs) some = numbered_some N e first (pieces [] (item.End ∷ xs)) (λ f. absurd (cc))
repeated_some N e first (item.Byte b ∷ xs) some = numbered_some N e first (pieces [] (item.Byte b ∷ xs))
    (pieces_some [] b xs)

again_some : (N : Numbers) (e : EndState) → is_closed e.phase ≡ false → is_idle e ≡ false
    → sent_again N e e.phase ≢ []
again_some N e closed idle = go e.phase closed idle
  where
    when_open : (b : Bool) → (e.sender).resetting ≡ b
        → (true && not b && is_empty (e.sender).unacknowledged) ≡ false → open_again N e ≢ []
    when_open true f g h = absurd (let x = rw f at h in cc)
    when_open false f g h = repeated_some N e (e.sender).front (e.sender).unacknowledged g (rw f at h)

    go : (p : Phase) → is_closed p ≡ false
        → (is_open p && not (e.sender).resetting && is_empty (e.sender).unacknowledged) ≡ false → sent_again N e p ≢ []
    go phase.Opening c i h = absurd (cc)
    go phase.Half c i h = absurd (cc)
    go phase.Open c i h = when_open (e.sender).resetting refl i h
    go phase.Closed c i h = true≢false c

-- an idle end sends nothing again
idle_silent : (N : Numbers) (e : EndState) → is_idle e ≡ true → sent_again N e e.phase ≡ []
idle_silent N e idle = go e.phase idle
  where
    none : (xs : List Item) → is_empty xs ≡ true → numbered N e (e.sender).front (pieces [] xs) ≡ []
    none [] h = refl
    none (x ∷ xs) h = absurd (true≢false (sym h))

    when_open : (b : Bool) → (e.sender).resetting ≡ b
        → (true && not b && is_empty (e.sender).unacknowledged) ≡ true → open_again N e ≡ []
    when_open true f g = absurd (true≢false (sym g))
    when_open false f g = rw f (none (e.sender).unacknowledged g)

    go : (p : Phase) → (is_open p && not (e.sender).resetting && is_empty (e.sender).unacknowledged) ≡ true
        → sent_again N e p ≡ []
    go phase.Opening i = absurd (true≢false (sym i))
    go phase.Half i = absurd (true≢false (sym i))
    go phase.Open i = when_open (e.sender).resetting refl i
    go phase.Closed i = refl

-- what is sent is empty only if nothing is sent again
map_none : {S T : Type 0} (f : S → T) (xs : List S) → map f xs ≡ [] → xs ≡ []
map_none f [] h = refl
map_none f (x ∷ xs) h = absurd (cc)

-- ---- a tick acts where the end heeds it

resend_acts : (A : Type 0) (n : NodeState) (e : EndState) → find (has_id e.id) n.streams.ends ≡ Some e
    → is_closed e.phase ≡ false → is_idle e ≡ false
    → Acts n (over (with_streams n) (tick_fired {A = A} n.seat n.streams e.id tick.Retransmit))
resend_acts A n e is closed idle = rw (is, closed, idle) (record {
  not_refused = refl;
  does = inr (λ none. again_some wire e closed idle (map_none _ _ (map_none _ _ (map_none _ _ none))));
})

probe_acts : (A : Type 0) (n : NodeState) (e : EndState) → find (has_id e.id) n.streams.ends ≡ Some e
    → is_closed e.phase ≡ false
    → Acts n (over (with_streams n) (tick_fired {A = A} n.seat n.streams e.id tick.Probe))
probe_acts A n e is closed = rw (is, closed) (go (frees e tick.Probe))
  where
    changes : (new : EndState) → new ≢ e → replaced (has_id e.id) new n.streams.ends ≢ n.streams.ends
    changes new differs same = differs (replaced_at (has_id e.id) n.streams.ends e new is same)

    stays : (b : Bool) → Acts n (over (with_streams n) (called {A = A} n.seat n.streams told_by
        (Ok (settled n.streams (probed wire e b)))))
    stays true = record {
      not_refused = refl;
      does = inl (λ f. changes (shut wire (record e { ticks = 4 }))
          (λ g. true≢false (ap (λ (x : EndState). is_closed x.phase) g ∙ closed))
          (ap (λ (m : NodeState). m.streams.ends) f));
    }
    stays false = record {
      not_refused = refl;
      does = inl (λ f. changes (record e { ticks = e.ticks + 1 })
          (λ g. let more = ap (λ (x : EndState). x.ticks) g in omega (arith, more))
          (ap (λ (m : NodeState). m.streams.ends) f));
    }

    go : (b : Bool) → Acts n (over (with_streams n) (called {A = A} n.seat n.streams told_by
        (cond b (Ok (freed n.streams (step.Freed e.id) e)) (Ok (settled n.streams (ticked wire e tick.Probe))))))
    go true = record {
      not_refused = refl;
      does = inl (λ f. without_differs (has_id e.id) n.streams.ends e is (ap (λ (m : NodeState). m.streams.ends) f));
    }
    go false = stays (is_last e tick.Probe)

both_true : (a b : Bool) → (a && b) ≡ true → (a ≡ true) × (b ≡ true)
both_true true b h = (refl, h)
both_true false b h = absurd (true≢false (sym h))

tick_acts : (A : Type 0) (n : NodeState) (k : Tick) (e : EndState) → find (has_id e.id) n.streams.ends ≡ Some e
    → heeds e k ≡ true → Acts n (timed {A = A} n (timer_of k e.id))
tick_acts A n tick.Retransmit e is h =
    let both = both_true (not (is_closed e.phase)) (not (is_idle e)) h in
    resend_acts A n e is (not-true (is_closed e.phase) both.0) (not-true (is_idle e) both.1)
tick_acts A n tick.Probe e is h = probe_acts A n e is (not-true (is_closed e.phase) h)

-- ---- and only there

acts_resend : (A : Type 0) (n : NodeState) (id : ℕ)
    → Acts n (over (with_streams n) (tick_fired {A = A} n.seat n.streams id tick.Retransmit)) → (e : EndState)
    × (find (has_id id) n.streams.ends ≡ Some e) × (heeds e tick.Retransmit ≡ true)
acts_resend A n id h = go (find (has_id id) n.streams.ends) refl h
  where
    -- an idle end stays as it is, and sends nothing
    nothing : (e : EndState) → find (has_id id) n.streams.ends ≡ Some e → is_idle e ≡ true
        → Acts n (over (with_streams n) (called {A = A} n.seat n.streams told_by
        (Ok (settled n.streams (ticked wire e tick.Retransmit))))) → ⊥
    nothing e is idle g = neither g.does
      where
        found : find (has_id e.id) n.streams.ends ≡ Some e
        found = subst (λ (k : ℕ). find (has_id k) n.streams.ends ≡ Some e)
            (sym (eqb-true e.id id (found_there (has_id id) n.streams.ends e is).1)) is

        neither : (record n {
          streams = record n.streams { ends = replaced (has_id e.id) e n.streams.ends };
        } ≢ n) ⊎ (sent_of n.seat (addressed e.asked (sent_again wire e e.phase)) ≢ []) → ⊥
        neither (inl f) = f (ap (λ (l : List EndState). record n { streams = record n.streams { ends = l } })
            (replaced_same (has_id e.id) n.streams.ends e found))
        neither (inr f) = f (ap (λ l. sent_of n.seat (addressed e.asked l)) (idle_silent wire e idle))

    idle_of : (e : EndState) → find (has_id id) n.streams.ends ≡ Some e → is_closed e.phase ≡ false → (b : Bool)
        → is_idle e ≡ b
        → Acts n (over (with_streams n) (called {A = A} n.seat n.streams told_by
        (Ok (settled n.streams (ticked wire e tick.Retransmit)))))
        → (x : EndState) × (find (has_id id) n.streams.ends ≡ Some x) × (heeds x tick.Retransmit ≡ true)
    idle_of e is c true i g = absurd (nothing e is i g)
    idle_of e is c false i g = (e, is, rw (c, i) refl)

    phase_of : (e : EndState) → find (has_id id) n.streams.ends ≡ Some e → (b : Bool) → is_closed e.phase ≡ b
        → Acts n (over (with_streams n) (called {A = A} n.seat n.streams told_by
        (cond b (Err NotOpen) (Ok (settled n.streams (ticked wire e tick.Retransmit))))))
        → (x : EndState) × (find (has_id id) n.streams.ends ≡ Some x) × (heeds x tick.Retransmit ≡ true)
    phase_of e is true c g = absurd (true≢false g.not_refused)
    phase_of e is false c g = idle_of e is c (is_idle e) refl g

    go : (o : Option EndState) → find (has_id id) n.streams.ends ≡ o
        → Acts n (over (with_streams n) (called {A = A} n.seat n.streams told_by
        (ticked_at wire n.streams tick.Retransmit o)))
        → (x : EndState) × (find (has_id id) n.streams.ends ≡ Some x) × (heeds x tick.Retransmit ≡ true)
    go None e g = absurd (true≢false g.not_refused)
    go (Some e) is g = phase_of e is (is_closed e.phase) refl g

acts_probe : (A : Type 0) (n : NodeState) (id : ℕ)
    → Acts n (over (with_streams n) (tick_fired {A = A} n.seat n.streams id tick.Probe)) → (e : EndState)
    × (find (has_id id) n.streams.ends ≡ Some e) × (heeds e tick.Probe ≡ true)
acts_probe A n id h = go (find (has_id id) n.streams.ends) refl h
  where
    phase_of : (e : EndState) → find (has_id id) n.streams.ends ≡ Some e → (b : Bool) → is_closed e.phase ≡ b
        → Acts n (over (with_streams n) (called {A = A} n.seat n.streams told_by
        (cond b (Err NotOpen) (cond (frees e tick.Probe) (Ok (freed n.streams (step.Freed e.id) e))
        (Ok (settled n.streams (ticked wire e tick.Probe)))))))
        → (x : EndState) × (find (has_id id) n.streams.ends ≡ Some x) × (heeds x tick.Probe ≡ true)
    phase_of e is true c g = absurd (true≢false g.not_refused)
    phase_of e is false c g = (e, is, ap not c)

    go : (o : Option EndState) → find (has_id id) n.streams.ends ≡ o
        → Acts n (over (with_streams n) (called {A = A} n.seat n.streams told_by
        (ticked_at wire n.streams tick.Probe o)))
        → (x : EndState) × (find (has_id id) n.streams.ends ≡ Some x) × (heeds x tick.Probe ≡ true)
    go None e g = absurd (true≢false g.not_refused)
    go (Some e) is g = phase_of e is (is_closed e.phase) refl g

pub acts_tick : (A : Type 0) (n : NodeState) (k : Tick) (id : ℕ) → Acts n (timed {A = A} n (timer_of k id))
    → (e : EndState) × (find (has_id id) n.streams.ends ≡ Some e) × (heeds e k ≡ true)
acts_tick A n tick.Retransmit id h = acts_resend A n id h
acts_tick A n tick.Probe id h = acts_probe A n id h

-- ---- what is listed

pub tick_listed : (ends : List EndState) (k : Tick) (id : ℕ) (e : EndState) → find (has_id id) ends ≡ Some e
    → heeds e k ≡ true → There (ticks k ends) (timer_of k id)
tick_listed ends k id e is h =
    let f = found_there (has_id id) ends e is in
    there_some (λ x. option_map (timer_of k) (heeding k x)) ends e (timer_of k id) f.0
    (rw h (ap (λ z. Some (timer_of k z)) (eqb-true e.id id f.1)))

pub ticks_act : (A : Type 0) (n : NodeState) (k : Tick) (t : Timer) → IdsDiffer n.streams.ends
    → There (ticks k n.streams.ends) t → Acts n (timed {A = A} n t)
ticks_act A n k t differ h =
    let one = some_there (λ x. option_map (timer_of k) (heeding k x)) n.streams.ends t h in
    go one.0 one.1 (heeds one.0 k) refl one.2
  where
    turned : (a b : ℕ) → (a == b) ≡ false → (b == a) ≡ false
    turned a b e = way (b == a) refl
      where
        way : (c : Bool) → (b == a) ≡ c → c ≡ false
        way false f = refl
        way true f = absurd (true≢false (sym (eq-eqb a b (sym (eqb-true b a f))) ∙ e))

    go : (e : EndState) → There n.streams.ends e → (b : Bool) → heeds e k ≡ b
        → option_map (timer_of k) (cond b (Some e.id) None) ≡ Some t → Acts n (timed {A = A} n t)
    go e there false f g = absurd (cc)
    go e there true f g =
        let same : timer_of k e.id ≡ t = cc in
        subst (λ (x : Timer). Acts n (timed {A = A} n x)) same
        (tick_acts A n k e
        (sole_found (λ a b. has_id a.id b) (has_id e.id) n.streams.ends e (eq-eqb e.id e.id refl)
        (λ x d. turned e.id x.id d) there differ) f)
