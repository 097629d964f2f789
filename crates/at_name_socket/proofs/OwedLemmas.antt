-- What a packet would do, if memory ran out for it.
use Rattle.std.proofs.Common.{◌≡◌, ℕ, Bool, true, false, cond, List, [], ◌∷◌, map, length, Option, Some, None, Result}
use Rattle.std.proofs.Common.{Ok, Err, refl, sym, subst}
use Rattle.std.proofs.lemmas.Bool.{eqb-true}
use Rattle.std.specs.Prelude.{IfErr, ◌==◌}
use Rattle.at_ddp.specs.declared.address.Address.{Address}
use Rattle.at_nbp.specs.Lookups as lookups
use Rattle.at_nbp.specs.Packets.{BeginsWith, Content}
use Rattle.at_nbp.specs.Replies.{AreReplies, matching, pattern_of, sent_reply}
use Rattle.at_nbp.specs.Tuples.{Entry}
use Rattle.at_nbp.specs.declared.fault.NbpFault.{NbpFault}
use Rattle.at_nbp.specs.declared.fault.NbpFault.TheVariants.{NoMemory}
use Rattle.at_nbp.specs.declared.function.Function.{Function}
use Rattle.at_nbp.specs.declared.function.Function.TheVariants.{BroadcastRequest, ForwardRequest, LookUp, Reply}
use Rattle.at_name_socket.specs.NameSockets.{AnswersTo, Hears, Relays, SocketState, Takes, counted, relayed_in}
use Rattle.at_name_socket.specs.declared.neighbour.Neighbour.{Neighbour}
use Rattle.at_name_socket.specs.declared.step.Heard.{Heard}
use Rattle.at_name_socket.specs.declared.step.Heard.TheVariants as heard

pub if_err : {T E : Type 0} (r : Result T E) (P : E → Type 0) → ((e : E) → P e) → IfErr r P
if_err (Ok x) P p = tt
if_err (Err e) P p = p e

-- some step is what a packet does, and it has an effect
abbrev pub SomeStep : SocketState → Content → Function → Type 0
SomeStep s p f = (h : Heard) × (new : SocketState) × (pushes : List (Address × List ℕ)) × Takes s p f h new pushes
    × (h ≡ heard.Ignored → ⊥)

-- a number that is not 0 is not told as ignored
counted_heeds : (some : ℕ → Heard) (n : ℕ) → ((k : ℕ) → some k ≡ heard.Ignored → ⊥) → (n ≡ 0 → ⊥)
    → counted some n ≡ heard.Ignored → ⊥
counted_heeds some n heeds more = go (n == 0) refl
  where
    go : (b : Bool) → (n == 0) ≡ b → cond b heard.Ignored (some n) ≡ heard.Ignored → ⊥
    go true none is = more (eqb-true n 0 none)
    go false none is = heeds n is

-- a reply with new finds
pub keeps_some : (s : SocketState) (p : Content) → ((lookups.heard s.lookups p).count ≡ 0 → ⊥) → SomeStep s p Reply
keeps_some s p more = (
  counted heard.Kept (lookups.heard s.lookups p).count,
  record s { lookups = (lookups.heard s.lookups p).after },
  [],
  (refl, refl, refl),
  counted_heeds heard.Kept (lookups.heard s.lookups p).count (λ k e. cc) more,
)

relays : (s : SocketState) (p : Content) (o : Option (List Neighbour)) → (o ≡ None → ⊥) → (h : Heard)
    × (pushes : List (Address × List ℕ)) × Relays s p o h pushes × (h ≡ heard.Ignored → ⊥)
relays s p None router = absurd (router refl)
relays s p (Some neighbours) router = (heard.Relayed, relayed_in s neighbours p, (refl, refl), λ e. cc)

-- a request that came to the router
pub relays_some : (s : SocketState) (p : Content) (f : Function) → (f ≡ LookUp → ⊥) → (f ≡ Reply → ⊥)
    → (s.neighbours ≡ None → ⊥) → SomeStep s p f
relays_some s p LookUp lookup reply router = absurd (lookup refl)
relays_some s p Reply lookup reply router = absurd (reply refl)
relays_some s p BroadcastRequest lookup reply router =
    let r = relays s p s.neighbours router in (r.0, s, r.1, (r.2, refl), r.3)
relays_some s p ForwardRequest lookup reply router =
    let r = relays s p s.neighbours router in (r.0, s, r.1, (r.2, refl), r.3)

-- so has the data that begins with a packet
pub hears_some : (s : SocketState) (bytes rest : List ℕ) (p : Content) → BeginsWith bytes p rest
    → SomeStep s p p.function → (h : Heard) × (new : SocketState) × (pushes : List (Address × List ℕ))
    × Hears s bytes h new pushes × (h ≡ heard.Ignored → ⊥)
hears_some s bytes rest p begins step =
    (step.0, step.1, step.2, record { packet = p; rest = rest; begins = begins; takes = step.3 }, step.4)

-- so memory alone was wanted
abbrev pub Owed : SocketState → List ℕ → NbpFault → Type 0
Owed s bytes fault = fault ≡ NoMemory → (h : Heard) × (new : SocketState) × (pushes : List (Address × List ℕ))
    × Hears s bytes h new pushes × (h ≡ heard.Ignored → ⊥)

pub owed : {T : Type 0} (r : Result T NbpFault) (s : SocketState) (bytes rest : List ℕ) (p : Content)
    → BeginsWith bytes p rest → SomeStep s p p.function → IfErr r (Owed s bytes)
owed r s bytes rest p begins step = if_err r (Owed s bytes) (λ e is. hears_some s bytes rest p begins step)

-- a lookup is answered by these replies, if some names match
pub answers_some : (s : SocketState) (id : ℕ) (t : Entry) → (replies : List (List Entry))
    × AreReplies (matching s.table (pattern_of t)) replies → (length (matching s.table (pattern_of t)) ≡ 0 → ⊥)
    → (tuples : List Entry) → tuples ≡ t ∷ [] →
    (h : Heard) × (pushes : List (Address × List ℕ)) × AnswersTo s id tuples h pushes × (h ≡ heard.Ignored → ⊥)
answers_some s id t some more tuples is =
    subst (λ l. (h : Heard) × (pushes : List (Address × List ℕ)) × AnswersTo s id l h pushes
    × (h ≡ heard.Ignored → ⊥)) (sym is) (
      counted heard.Answered (length (matching s.table (pattern_of t))),
      map (sent_reply id t.address) some.0,
      (refl, (some.0, some.1, refl)),
      counted_heeds heard.Answered (length (matching s.table (pattern_of t))) (λ k e. cc) more,
    )
