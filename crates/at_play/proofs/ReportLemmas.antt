-- What is told of one report more, and where its event stands.
use Rattle.std.proofs.Common.{◌≡◌, ℕ, ◌+◌, ◌≤◌, suc, List, [], ◌∷◌, ◌++◌, length, false, refl, ap, subst, ◌∙◌, arith}
use Rattle.std.proofs.Common.{length-append}
use Rattle.at_event.specs.declared.Report.{Report}
use Rattle.at_setup.specs.declared.event.Event.{Event}
use Rattle.at_setup.specs.declared.event.Event.TheVariants as event
use Rattle.at_print.specs.Papers.{Page}
use Rattle.at_diagnostics.specs.Diagnostics.{TellsReport}
use Rattle.at_diagnostics.specs.declared.diagnostics.Diagnostics.{Diagnostics}
use Rattle.at_world.specs.Sents.{SentDatagram}
use Rattle.at_world.specs.Worlds.{WorldState, Plays}
use Rattle.at_play.specs.Told.{TellsReports, Told}

-- one report more
pub tells_more : {A E : Type 0} (heard : E → Page) (at : ℕ) (rs : List (Report A)) (r : Report A) (line : ℕ)
    (a b c : Diagnostics E) → TellsReports heard at rs a b → TellsReport heard r (at + length rs) line b c
    → TellsReports heard at (rs ++ r ∷ []) a c
tells_more heard at [] r line a b c same next =
    let here : at + 0 ≡ at = omega arith in (
      c,
      line,
      subst (λ i. TellsReport heard r i line a c) here (subst (λ x. TellsReport heard r (at + 0) line x c) same next),
      refl,
    )
tells_more heard at (x ∷ rs) r line a b c (mid, n, first, rest) next =
    let there : at + suc (length rs) ≡ at + 1 + length rs = omega arith in (
      mid,
      n,
      first,
      tells_more heard (at + 1) rs r line mid b c rest
          (subst (λ i. TellsReport heard r i line b c) there next),
    )

-- ---- the world after some events

pub after_plays : {A : Type 0} (w : WorldState) (e : Event A) (r : Report A) (w' : WorldState) → Plays w e r w'
    → (w'.events ≡ w.events + 1) × (w'.failed ≡ false)
after_plays w (event.Call k call) r w' h =
    let booked = (h.0).booked in (ap (λ (x : WorldState). x.events) booked, ap (λ (x : WorldState). x.failed) booked)
after_plays w (event.Deliver datagram k) r w' h =
    let booked = (h.plays).booked in
    (ap (λ (x : WorldState). x.events) booked, ap (λ (x : WorldState). x.failed) booked)
after_plays w (event.Timer k timer) r w' h =
    (ap (λ (x : WorldState). x.events) h.booked, ap (λ (x : WorldState). x.failed) h.booked)
after_plays w (event.Forge k bytes) r w' h =
    (ap (λ (x : WorldState). x.events) h.booked, ap (λ (x : WorldState). x.failed) h.booked)

grown : (w w' : WorldState) (more : List SentDatagram) → w'.sent ≡ w.sent ++ more → length w.sent ≤ length w'.sent
grown w w' more is = let long = ap length is ∙ length-append w.sent more in omega (arith, long)

-- what was sent before stays
pub sent_grows : {A : Type 0} (w : WorldState) (e : Event A) (r : Report A) (w' : WorldState) → Plays w e r w'
    → length w.sent ≤ length w'.sent
sent_grows w (event.Call k call) r w' h = grown w w' _ (ap (λ (x : WorldState). x.sent) (h.0).booked)
sent_grows w (event.Deliver datagram k) r w' h = grown w w' _ (ap (λ (x : WorldState). x.sent) (h.plays).booked)
sent_grows w (event.Timer k timer) r w' h = grown w w' _ (ap (λ (x : WorldState). x.sent) h.booked)
sent_grows w (event.Forge k bytes) r w' h = grown w w' _ (ap (λ (x : WorldState). x.sent) h.booked)

-- each event is counted
pub counted : (A : Type 0) (w : WorldState) (es : List (Event A)) (rs : List (Report A)) (w' : WorldState)
    (text : List ℕ) → Told w es rs w' text → w'.events ≡ w.events + length rs
counted A w [] [] w' text h = let same = ap (λ (x : WorldState). x.events) h.0 in omega (arith, same)
counted A w (e ∷ es) (r ∷ rs) w' text h =
    let one = (after_plays w e r h.0 h.3).0 in
    let rest = counted A h.0 es rs w' h.1 h.5 in omega (arith, one, rest)
counted A w [] (r ∷ rs) w' text h = absurd h
counted A w (e ∷ es) [] w' text h = absurd h

-- a world that plays events has not failed
pub not_failed : (A : Type 0) (w : WorldState) (es : List (Event A)) (rs : List (Report A)) (w' : WorldState)
    (text : List ℕ) → w.failed ≡ false → Told w es rs w' text → w'.failed ≡ false
not_failed A w [] [] w' text fresh h = ap (λ (x : WorldState). x.failed) h.0 ∙ fresh
not_failed A w (e ∷ es) (r ∷ rs) w' text fresh h = not_failed A h.0 es rs w' h.1 (after_plays w e r h.0 h.3).1 h.5
not_failed A w [] (r ∷ rs) w' text fresh h = absurd h
not_failed A w (e ∷ es) [] w' text fresh h = absurd h
