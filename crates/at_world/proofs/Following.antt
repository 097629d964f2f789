-- A play goes on by one event.
use Rattle.std.proofs.Common.{◌≡◌, ℕ, ◌+◌, ◌<◌, List, [], ◌∷◌, ◌++◌, length, take, Some, inl, refl, sym, ap}
use Rattle.std.proofs.Common.{subst, ◌∙◌, get_or}
use Rattle.std.proofs.lemmas.List.{take_more}
use Rattle.std.proofs.lemmas.Option.{slice_get-get_or}
use Rattle.std.specs.Prelude.{false, slice_get}
use Rattle.at_event.specs.declared.Report.{Report}
use Rattle.at_setup.specs.declared.event.Event.{Event}
use Rattle.at_setup.specs.declared.event.Event.TheVariants as event
use Rattle.at_setup.specs.declared.refusal.EventFault.{EventFault}
use Rattle.at_setup.specs.declared.refusal.EventFault.TheVariants.{Refused, NoMemory}
use Rattle.at_world.specs.Worlds.{WorldState, IsPlayable, Plays, IsFault}
use Rattle.at_world.specs.Plays.{Follows, StopsAt}

one_more : (A : Type 0) (w : WorldState) (es : List (Event A)) (rs : List (Report A)) (mid : WorldState) (e : Event A)
    (r : Report A) (w' : WorldState) → Follows w es rs mid → IsPlayable mid e → Plays mid e r w'
    → Follows w (es ++ e ∷ []) (rs ++ r ∷ []) w'
one_more A w [] [] mid e r w' h fine plays =
    (w', subst (λ x. IsPlayable x e) h fine, subst (λ x. Plays x e r w') h plays, refl)
one_more A w (a ∷ es) (b ∷ rs) mid e r w' h fine plays = (h.0, h.1, h.2, one_more A h.0 es rs mid e r w' h.3 fine plays)
one_more A w [] (b ∷ rs) mid e r w' h fine plays = absurd h
one_more A w (a ∷ es) [] mid e r w' h fine plays = absurd h

pub follows_more : (A : Type 0) (w : WorldState) (es : List (Event A)) (i : ℕ) (e : Event A) (rs : List (Report A))
    (mid : WorldState) (r : Report A) (w' : WorldState) → i < length es → e ≡ get_or es i e
    → Follows w (take i es) rs mid →
    IsPlayable mid e → Plays mid e r w' → Follows w (take (i + 1) es) (rs ++ r ∷ []) w'
follows_more A w es i e rs mid r w' within is h fine plays =
    subst (λ l. Follows w l (rs ++ r ∷ []) w') (sym (take_more es i e within ∙ ap (λ x. take i es ++ x ∷ []) (sym is)))
    (one_more A w (take i es) rs mid e r w' h fine plays)

-- if the world's step did not play an event, the play stops there
pub stops : (A : Type 0) (w : WorldState) (es : List (Event A)) (i : ℕ) (e : Event A) (f : EventFault) (w' : WorldState)
    → w.failed ≡ false → i < length es → e ≡ get_or es i e → IsFault w e f w'
    → StopsAt w (slice_get es i) f i × (w'.sent ≡ w.sent)
stops A w es i e (Refused r) w' whole within is h =
    ((e, slice_get-get_or es i e within ∙ ap (λ x. Some x) (sym is), h.0), ap (λ (x : WorldState). x.sent) h.1)
stops A w es i e NoMemory w' whole within is h =
    (inl (e, slice_get-get_or es i e within ∙ ap (λ x. Some x) (sym is), h.2 whole), h.1)

-- a world that played an event has not failed
pub plays_whole : (A : Type 0) (w : WorldState) (e : Event A) (r : Report A) (w' : WorldState) → Plays w e r w'
    → w'.failed ≡ false
plays_whole A w (event.Call k call) r w' h = ap (λ (x : WorldState). x.failed) (h.0).booked
plays_whole A w (event.Deliver which k) r w' h = ap (λ (x : WorldState). x.failed) (h.plays).booked
plays_whole A w (event.Timer k timer) r w' h = ap (λ (x : WorldState). x.failed) h.booked
plays_whole A w (event.Forge k bytes) r w' h = ap (λ (x : WorldState). x.failed) h.booked
