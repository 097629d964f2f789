-- All that a world sends is spelled canonically.
use Rattle.std.proofs.Common.{ℕ, List, [], ◌∷◌, ◌++◌, map, take, Result, Ok, Err, refl, sym, subst}
use Rattle.at_ddp.specs.Outbox.{Posted}
use Rattle.at_event.specs.declared.Report.{Report}
use Rattle.at_event.specs.declared.Report.TheVariants.{NoMemory}
use Rattle.at_node.specs.Hearing.{Hears}
use Rattle.at_node.specs.Nodes.{NodeState, called, timed}
use Rattle.at_event.specs.Outcomes.{Outcome, Outgoing, posted, IsStep, Comes}
use Rattle.at_world.specs.Sents.{SentDatagram, stamp, AreCanonical}
use Rattle.at_setup.specs.declared.event.Event.{Event}
use Rattle.at_setup.specs.declared.event.Event.TheVariants as event
use Rattle.at_setup.specs.declared.setup.Setup.{Setup}
use Rattle.at_world.specs.declared.transcript.Transcript.{Transcript}
use Rattle.at_world.specs.declared.transcript.PlayFault.{PlayFault}
use Rattle.at_world.specs.Worlds.{WorldState, PlaysAt, Plays}
use Rattle.at_world.specs.Plays.{opening_world, Follows, IsPlay, SendsCanonically}

all_posted : (event : ℕ) (out : List Outgoing) → AreCanonical (map (stamp event) (map posted out))
all_posted event [] = tt
all_posted event (o ∷ out) = (
  record { receiver = o.to; sender = o.from; kind = o.kind; data_ = o.data_; spelled = refl; goes = refl },
  all_posted event out,
)

both : (xs ys : List SentDatagram) → AreCanonical xs → AreCanonical ys → AreCanonical (xs ++ ys)
both [] ys a b = b
both (x ∷ xs) ys a b = (a.0, both xs ys a.1 b)

of_step : (A : Type 0) (event : ℕ) (o : Outcome A NodeState) (old : NodeState) (r : Report A) (new : NodeState)
    (out : List Posted) → IsStep o old [] r new out → AreCanonical (map (stamp event) out)
of_step A event o old NoMemory new out h = subst (λ l. AreCanonical (map (stamp event) l)) (sym h.1) tt
of_step A event o old r new out h = subst (λ l. AreCanonical (map (stamp event) l)) (sym h.2) (all_posted event o.out)

of_coming : (A : Type 0) (event : ℕ) (P : Outcome A NodeState → Type 0) (old : NodeState) (r : Report A)
    (new : NodeState) (out : List Posted) → Comes P old [] r new out → AreCanonical (map (stamp event) out)
of_coming A event P old NoMemory new out h = subst (λ l. AreCanonical (map (stamp event) l)) (sym h.1) tt
of_coming A event P old r new out h = subst (λ l. AreCanonical (map (stamp event) l)) (sym h.2.2)
    (all_posted event h.0.out)

of_playing : (A : Type 0) (w : WorldState) (k : ℕ)
    (S : NodeState → List Posted → Report A → NodeState → List Posted → Type 0) (r : Report A) (w' : WorldState)
    → AreCanonical w.sent →
    ((n : NodeState) (after : NodeState) (out : List Posted) → S n [] r after out
    → AreCanonical (map (stamp w.events) out)) → PlaysAt w k S r w' → AreCanonical w'.sent
of_playing A w k S r w' sent all p =
    subst (λ (v : WorldState). AreCanonical v.sent) (sym p.booked)
    (both w.sent (map (stamp w.events) p.out) sent (all p.node p.after p.out p.steps))

of_event : (A : Type 0) (w : WorldState) (e : Event A) (r : Report A) (w' : WorldState) → AreCanonical w.sent
    → Plays w e r w' → AreCanonical w'.sent
of_event A w (event.Call k call) r w' sent p =
    of_playing A w k _ r w' sent (λ n after out steps. of_step A w.events (called n call) n r after out steps) p.0
of_event A w (event.Deliver which k) r w' sent p =
    of_playing A w k _ r w' sent
    (λ n after out steps. of_coming A w.events (Hears steps.0 n p.datagram.bytes) n r after out steps.1) p.plays
of_event A w (event.Timer k timer) r w' sent p =
    of_playing A w k _ r w' sent (λ n after out steps. of_step A w.events (timed n timer) n r after out steps) p
of_event A w (event.Forge k bytes) r w' sent p =
    of_playing A w k _ r w' sent
    (λ n after out steps. of_coming A w.events (Hears steps.0 n bytes) n r after out steps.1) p

of_events : (A : Type 0) (w : WorldState) (es : List (Event A)) (rs : List (Report A)) (w' : WorldState)
    → AreCanonical w.sent → Follows w es rs w' → AreCanonical w'.sent
of_events A w [] [] w' sent h = subst (λ (v : WorldState). AreCanonical v.sent) (sym h) sent
of_events A w (e ∷ es) (r ∷ rs) w' sent h = of_events A h.0 es rs w' (of_event A w e r h.0 sent h.2) h.3
of_events A w [] (r ∷ rs) w' sent h = absurd h
of_events A w (e ∷ es) [] w' sent h = absurd h

-- what steps from the opening send
pub follows_canonically : (A : Type 0) (s : Setup A) (events : List (Event A)) (reports : List (Report A))
    (w : WorldState) → Follows (opening_world s) events reports w → AreCanonical w.sent
follows_canonically A s events reports w = of_events A (opening_world s) events reports w tt

abbrev pub StepsSend : (A : Type 0) → Setup A → Type 0
StepsSend A s = (events : List (Event A)) (reports : List (Report A)) (w : WorldState)
    → Follows (opening_world s) events reports w → AreCanonical w.sent

pub play_sends : (A : Type 0) (s : Setup A) (events : List (Event A)) (answer : Result (Transcript A) (PlayFault A))
    → StepsSend A s → IsPlay s events answer → SendsCanonically answer
play_sends A s events (Ok t) law h = let played = h.1 in
    subst AreCanonical (sym played.1) (law events t.reports h.0 played.0)
play_sends A s events (Err f) law h = let played = h.1 in
    subst AreCanonical (sym played.1) (law (take f.at events) f.transcript.reports h.0 played.0)
