-- Every play is a run of the machine.
use Rattle.std.proofs.Common.{◌≡◌, ◌⊎◌, inl, inr, ⊎_elim, Bool, true, false, cond, List, [], ◌∷◌, map, take, Some, None}
use Rattle.std.proofs.Common.{Result, Ok, Err, refl, sym, ap, subst, ◌∙◌}
use Rattle.at_ddp.specs.Outbox.{Posted}
use Rattle.std.proofs.lemmas.Bool.{true≢false}
use Rattle.at_event.specs.Kinds.{reporter_of}
use Rattle.at_event.specs.declared.Report.{Report}
use Rattle.at_event.specs.declared.Report.TheVariants.{NoMemory}
use Rattle.at_node.specs.Hearing.{Hears}
use Rattle.at_node.specs.Nodes.{KeepsSeat, NodeState, called, timed}
use Rattle.at_node.specs.Numbers.{IsTold, drawn_by}
use Rattle.at_event.specs.Outcomes.{Outcome, idle, posted, IsStep, Comes}
use Rattle.at_event.specs.Services.{is_asked}
use Rattle.at_setup.specs.declared.event.Event.{Event}
use Rattle.at_setup.specs.declared.event.Event.TheVariants as event
use Rattle.at_setup.specs.declared.setup.Setup.{Setup}
use Rattle.at_world.specs.declared.transcript.Transcript.{Transcript}
use Rattle.at_world.specs.declared.transcript.PlayFault.{PlayFault}
use Rattle.at_world.specs.Agreements.{AgreeThroughout, HasAgreeingRun, IsAgreedRun}
use Rattle.at_world.specs.Cables.{Cable}
use Rattle.at_world.specs.Events.{NoForge, is_forged, node_of}
use Rattle.at_world.specs.Machine.{Machine, opening_machine, Run, IsRun}
use Rattle.at_world.specs.Plays.{opening_world, Follows, IsPlay}
use Rattle.at_world.specs.Stories.{Tells, tables_by}
use Rattle.at_world.specs.Worlds.{WorldState, AreFree, IsPlayable, Plays, is_over, node_at, recorded, refusal}
use Rattle.at_world.specs.Worlds.{refusal_at}
use Rattle.at_world.proofs.Parts.Atp.Serving.{answers_its_request}
use Rattle.at_world.proofs.Parts.Atp.Tables.{tables_follow}
use Rattle.at_world.proofs.FreshLemmas.{fresh_of}
use Rattle.at_world.proofs.Parts.Streams.Peers.{names_peers}
use Rattle.at_world.proofs.Parts.{EachFollows, Follow, PartLaws, Tied, call_follows, datagram_follows, nothing_follows}
use Rattle.at_world.proofs.Parts.{timer_follows, together}
use Rattle.at_setup.specs.declared.refusal.Refusal.TheVariants.{Limit}

-- ---- the two ends of a step

-- out of memory and no change, or an outcome
abbrev pub Nothing : {A : Type 0} → Report A → NodeState → NodeState → List Posted → Type 0
Nothing r n after out = (r ≡ NoMemory) × (after ≡ n) × (out ≡ [])

abbrev pub Its : {A : Type 0} → Outcome A NodeState → Report A → NodeState → List Posted → Type 0
Its o r after out = (r ≡ o.report) × (after ≡ o.state) × (out ≡ map posted o.out)

either : (A : Type 0) (o : Outcome A NodeState) (n : NodeState) (r : Report A) (after : NodeState) (out : List Posted)
    → IsStep o n [] r after out → Nothing r n after out ⊎ Its o r after out
either A o n NoMemory after out h = inl (refl, h.0, h.1)
either A o n r after out h = inr h

either_coming : (A : Type 0) (P : Outcome A NodeState → Type 0) (n : NodeState) (r : Report A) (after : NodeState)
    (out : List Posted) → Comes P n [] r after out → Nothing r n after out
    ⊎ ((o : Outcome A NodeState) × P o × Its o r after out)
either_coming A P n NoMemory after out h = inl (refl, h.0, h.1)
either_coming A P n r after out h = inr h

module _ (A : Type 0) (w : WorldState) (m : Machine) (t : Tied A w m) (e : Event A) (n : NodeState)
    (stands : node_at w (node_of e) ≡ Some n) where
  module _ (r : Report A) (after : NodeState) (out : List Posted) (w' : WorldState)
      (is : w' ≡ recorded w (node_of e) r after out) where
    of_good : (o : Outcome A NodeState) → KeepsSeat n o → EachFollows A w m t e n stands o → Its o r after out
        → Follow A w m t e r w'
    of_good o seat good l =
        subst (Follow A w m t e r) (sym (is ∙ (λ i. recorded w (node_of e) (l.0 i) (l.1 i) (l.2 i))))
        (subst (λ x. Follow A w m t e x (recorded w (node_of e) o.report o.state (map posted o.out))) (sym l.0)
        (together A w m t e n stands o seat good))

    of_nothing : PartLaws A → is_over w ≡ false → Nothing r n after out → Follow A w m t e r w'
    of_nothing laws runs l = of_good (idle n NoMemory) refl (nothing_follows A w m t e n stands laws runs) l

-- ---- one event

-- an event that nothing refuses comes before the end of the play
pub still_runs : {A : Type 0} (w : WorldState) (e : Event A) → refusal w e ≡ None → is_over w ≡ false
still_runs w e allowed = go (is_over w) refl allowed
  where
    go : (b : Bool) → is_over w ≡ b → cond b (Some Limit) (refusal_at w e) ≡ None → is_over w ≡ false
    go true is h = absurd (cc)
    go false is h = is

followed : (A : Type 0) → PartLaws A
    → (w : WorldState) (m : Machine) (e : Event A) (r : Report A) (w' : WorldState) (t : Tied A w m) → is_forged e
    ≡ false → IsPlayable w e → Plays w e r w' → Follow A w m t e r w'
followed A laws w m (event.Call k call) r w' t sent playable both =
    let in_time = playable.timely in
    let timely : AreFree w.nodes k (λ x draw. drawn_by (called x call).report ≡ Some draw) =
    λ x here draw is. in_time.free x here draw (sym (laws.drawn x call) ∙ is) in
    let runs = still_runs {A = A} w (event.Call k call) playable.allowed in
    let p = both.0 in
    let n = p.node in
    ⊎_elim
    (of_nothing A w m t (event.Call k call) n p.stands r p.after p.out w' p.booked laws runs)
    (of_good A w m t (event.Call k call) n p.stands r p.after p.out w' p.booked (called n call)
    ((laws.seats).called n call) (call_follows A laws w m t runs k n p.stands call both.1 timely))
    (either A (called n call) n r p.after p.out p.steps)
followed A laws w m (event.Timer k time) r w' t sent playable p =
    let runs = still_runs {A = A} w (event.Timer k time) playable.allowed in
    let n = p.node in
    ⊎_elim
    (of_nothing A w m t (event.Timer k time) n p.stands r p.after p.out w' p.booked laws runs)
    (of_good A w m t (event.Timer k time) n p.stands r p.after p.out w' p.booked (timed n time)
    ((laws.seats).timed n time) (timer_follows A laws w m t runs k n p.stands time))
    (either A (timed n time) n r p.after p.out p.steps)
followed A laws w m (event.Deliver which k) r w' t sent playable d =
    let timely = playable.timely in
    let runs = still_runs {A = A} w (event.Deliver which k) playable.allowed in
    let p = d.plays in
    let n = p.node in
    let fresh = fresh_of A w which k d.datagram d.was_sent timely in
    let free : AreFree w.nodes k (λ x draw. IsTold A x (d.datagram).bytes draw) =
    λ x here draw told. timely.free x here draw
    (d.datagram, d.was_sent, (laws.heard x (d.datagram).bytes draw).0 told) in
    let said = p.steps.0 in
    let later = p.steps.2 in
    ⊎_elim
    (of_nothing A w m t (event.Deliver which k) n p.stands r p.after p.out w' p.booked laws runs)
    (λ (x : (o : Outcome A NodeState) × Hears said n (d.datagram).bytes o × Its o r p.after p.out). of_good A w m t
    (event.Deliver which k) n p.stands r p.after p.out w' p.booked x.0
    ((laws.seats).heard said n (d.datagram).bytes x.0 x.1)
    (datagram_follows A laws w m t runs k n p.stands which d.datagram d.was_sent fresh free said x.0
    (λ asked. later (ap is_asked (x.2).0 ∙ asked)) x.1) x.2)
    (either_coming A (Hears said n (d.datagram).bytes) n r p.after p.out p.steps.1)
followed A laws w m (event.Forge k bytes) r w' t forged playable p = absurd (true≢false forged)

-- ---- all of them

-- a run of the machine, and the history that it made; it agrees with the worlds throughout
abbrev pub Ran : (A : Type 0) (w : WorldState) (m : Machine) → Tied A w m → (es : List (Event A))
    → (rs : List (Report A)) → (w' : WorldState) → Follows w es rs w' → Type 0
Ran A w m t es rs w' follows = (m' : Machine) × (run : Run m es rs m') × (now : Tied A w' m')
    × Tells (m.cable).net (m.atp).tables (t.atp).history es rs (now.atp).history
    × AgreeThroughout m w es rs m' w' run follows

pub runs : (A : Type 0) → PartLaws A
    → (w : WorldState) (m : Machine) (es : List (Event A)) (rs : List (Report A)) (w' : WorldState) (t : Tied A w m)
    → NoForge es → (follows : Follows w es rs w') → Ran A w m t es rs w' follows
runs A laws w m [] [] w' t sent h = let same = subst (λ x. (now : Tied A x m) × ((now.atp).history ≡ (t.atp).history))
    (sym h) (t, refl) in (m, refl, same.0, same.1, tt)
runs A laws w m (e ∷ es) (r ∷ rs) w' t sent h =
    let playable = h.1 in
    let one = followed A laws w m e r h.0 t sent.0 playable h.2 in
    let rest = runs A laws h.0 one.0 es rs w' one.2 sent.1 h.3 in
    let grown = one.3 in
    let step = one.1 in
    let table = tables_follow m.cable m.atp e r (one.0).atp (reporter_of r) refl step.atp in
    let told = subst (λ l. Tells (m.cable).net (tables_by e r (m.atp).tables) l es rs ((rest.2).atp).history) grown.1
    (subst (λ tables. Tells (m.cable).net tables ((one.2).atp).history es rs ((rest.2).atp).history) table
    (subst (λ (c : Cable). Tells c.net ((one.0).atp).tables ((one.2).atp).history es rs ((rest.2).atp).history)
    one.4 rest.3)) in
    let peers = names_peers A laws.streams h.0 one.0 one.2 in
    let answers = answers_its_request A w m t e r h.0 one.0 one.2 grown in
    (rest.0, (one.0, one.1, rest.1), rest.2, (grown.0, grown.2, grown.3, told), (peers, answers, rest.4))
runs A laws w m [] (r ∷ rs) w' t sent h = absurd h
runs A laws w m (e ∷ es) [] w' t sent h = absurd h

-- what steps from the opening give is a run
abbrev pub StepsRun : (A : Type 0) → Setup A → Type 0
StepsRun A s = (events : List (Event A)) (reports : List (Report A)) (w : WorldState) → NoForge events
    → Follows (opening_world s) events reports w → (m : Machine) × Run (opening_machine s) events reports m

-- what steps from the opening give is a run that agrees with the worlds
abbrev pub StepsAgree : (A : Type 0) → Setup A → Type 0
StepsAgree A s = (events : List (Event A)) (reports : List (Report A)) (w : WorldState) → NoForge events
    → Follows (opening_world s) events reports w → HasAgreeingRun s events reports w

pub play_agrees : (A : Type 0) (s : Setup A) (events : List (Event A))
    (answer : Result (Transcript A) (PlayFault A)) → StepsAgree A s → IsPlay s events answer
    → IsAgreedRun s events answer
play_agrees A s events (Ok t) law h = λ sent. let played = h.1 in
    (h.0, law events t.reports h.0 sent played.0, played.1)
play_agrees A s events (Err f) law h = λ sent. let played = h.1 in
    (h.0, law (take f.at events) f.transcript.reports h.0 sent played.0, played.1)

pub play_runs : (A : Type 0) (s : Setup A) (events : List (Event A)) (answer : Result (Transcript A) (PlayFault A))
    → StepsRun A s → IsPlay s events answer → IsRun s events answer
play_runs A s events (Ok t) law h = λ sent. let played = h.1 in law events t.reports h.0 sent played.0
play_runs A s events (Err f) law h = λ sent. let played = h.1 in
    law (take f.at events) f.transcript.reports h.0 sent played.0
