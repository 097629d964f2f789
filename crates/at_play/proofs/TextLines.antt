-- Where the play of a line stops, the play of a text in memory stops.
use Rattle.std.proofs.Common.{◌≡◌, ℕ, ◌⊎◌, inl, inr, not, Bool, true, false, List, [], ◌∷◌, ◌++◌, filter}
use Rattle.std.proofs.Common.{Some, refl, sym, ap, subst, ◌∙◌, append_assoc}
use Rattle.std.specs.Prelude.{if◌then◌else◌}
use Rattle.std.proofs.lemmas.Bool.{true≢false}
use Rattle.at_diagnostics.specs.declared.stop.Stop.{Stop}
use Rattle.at_diagnostics.specs.declared.stop.Stop.TheVariants as stop
use Rattle.at_setup.specs.declared.event.Event.{Event}
use Rattle.at_setup.specs.declared.refusal.EventFault.TheVariants as fault
use Rattle.at_setup.specs.declared.setup.Setup.{Setup}
use Rattle.at_setup_lines.specs.Drafts.{Draft}
use Rattle.at_schedule.specs.Drafts.{BeginSchedule, HoldsSetup, IsSchedule}
use Rattle.at_schedule.specs.Says.{SayAll, Says}
use Rattle.at_schedule.specs.Schedules.{AreInOrder, IsKept, is_event_line, is_passed_over}
use Rattle.at_schedule.specs.Schedules.{is_setup_line, lines_in}
use Rattle.at_world.specs.Worlds.{IsPlayable, WorldState}
use Rattle.at_play.specs.Told.{NextTakesMemory, StopsIn, StopsLine}
use Rattle.at_play.proofs.LineLemmas.{HasRead, event_at, next_said}

-- no event comes before a line for the setup
abbrev pub SetupFirst : Type 0
SetupFirst = (read later : List (List ℕ)) (line : List ℕ) → AreInOrder (read ++ line ∷ later)
    → is_setup_line line ≡ true → filter is_event_line read ≡ []

say_none : (A : Type 0) (es : List (Event A)) → SayAll [] es → es ≡ []
say_none A [] h = refl
say_none A (e ∷ es) h = absurd h

-- a line that says something, and no event, is for the setup
setup_by : (passed words : Bool) → passed ≡ false → (if passed then false else words) ≡ false
    → (if passed then false else not words) ≡ true
setup_by false words heard other = ap not other
setup_by true words heard other = absurd (true≢false heard)

setup_line : (line : List ℕ) → is_passed_over line ≡ false → is_event_line line ≡ false → is_setup_line line ≡ true
setup_line line heard other = setup_by (is_passed_over line) _ heard other

module _ (A : Type 0) (setup : Setup A) (all rest later : List ℕ) (es : List (Event A)) (d : Draft) (line : List ℕ)
    (held : HoldsSetup (Some all) setup) (h : HasRead A (Some all) (Some rest) es d)
    (cut : lines_in rest ≡ line ∷ lines_in later) where
  parts : lines_in all ≡ h.lines ++ line ∷ lines_in later
  parts = h.come ∙ ap (λ l. h.lines ++ l) cut

  -- a schedule begins with the lines so far and this one
  begins : BeginSchedule A (h.lines ++ line ∷ [])
  begins = (
    lines_in later,
    setup,
    held.0,
    subst (λ k. IsSchedule k setup held.0)
        (parts ∙ sym (append_assoc h.lines (line ∷ []) (lines_in later))) held.1,
  )

  none_yet : SetupFirst → is_setup_line line ≡ true → es ≡ []
  none_yet law is =
      let order : AreInOrder (h.lines ++ line ∷ lines_in later) = subst AreInOrder parts (held.1).2 in
      say_none A es (subst (λ l. SayAll l es) (law h.lines (lines_in later) line order is) h.said)

  -- something of the line is kept: it is the next event line, or there was no event before it
  kept : SetupFirst → (w : WorldState) (b : Bool) → is_event_line line ≡ b → IsKept line
      → (es ≡ []) ⊎ NextTakesMemory all es w
  kept law w true is keeps = inr (
    filter is_event_line h.lines,
    filter is_event_line (lines_in later),
    line,
    event_at A (Some all) (Some rest) (Some later) es d line h cut all (lines_in later) parts is,
    h.said,
    inl keeps,
  )
  kept law w false is keeps = inl (none_yet law (setup_line line keeps.0 is))

  -- its event can be played
  playable : (w : WorldState) (e : Event A) → is_event_line line ≡ true → Says line e → IsPlayable w e
      → NextTakesMemory all es w
  playable w e is says can = (
    filter is_event_line h.lines,
    filter is_event_line (lines_in later),
    line,
    event_at A (Some all) (Some rest) (Some later) es d line h cut all (lines_in later) parts is,
    h.said,
    inr (e, says, can),
  )

  lacking : SetupFirst → (w : WorldState) → w.failed ≡ false
      → (IsKept line ⊎ ((is_event_line line ≡ true) × ((e : Event A) × Says line e × (w.failed ≡ false
      → IsPlayable w e))))
      → (es ≡ []) ⊎ NextTakesMemory all es w
  lacking law w fresh (inl keeps) = kept law w (is_event_line line) refl keeps
  lacking law w fresh (inr (event, (e, says, can))) = inr (playable w e event says (can fresh))

  pub stops_text : SetupFirst → (w : WorldState) (s : Stop) → w.failed ≡ false → StopsLine A d line w s
      → StopsIn A (Some all) false es w s
  stops_text law w (stop.Text f) fresh stops = absurd (stops.1 h.lines h.read begins)
  stops_text law w (stop.Event fault.NoMemory n number datagram) fresh stops = (stops.0, lacking law w fresh stops.1)
  stops_text law w (stop.Event (fault.Refused r) n number datagram) fresh stops =
      let e = stops.2.0 in
      (stops.0, (e, stops.2.1, next_said A (Some all) (Some rest) (Some later) es d line h cut e stops.1 stops.2.2))
