-- With which lines a schedule begins.
use Rattle.std.proofs.Common.{◌≡◌, ℕ, Bool, true, false, List, [], ◌∷◌, ◌++◌, map, inl, inr, refl, sym, subst, ◌∙◌}
use Rattle.std.proofs.Common.{◌⊎◌, ◌<◌, append-nil, arith}
use Rattle.std.specs.Prelude.{codes}
use Rattle.at_setup_lines.specs.Drafts.{Draft, has_events}
use Rattle.at_setup_lines.specs.Endings.{CanEnd, IsEnding, router_line}
use Rattle.at_setup_lines.specs.SetupLines.{IsSetup}
use Rattle.at_setup.specs.declared.setup.Setup.{Setup}
use Rattle.at_schedule.specs.Drafts.{BeginSchedule, IsRead, IsSchedule}
use Rattle.at_schedule.specs.Says.{SayAll}
use Rattle.at_schedule.specs.Schedules.{are_event_words, is_passed_over, setup_words}
use Rattle.at_schedule.proofs.OrderLemmas.{event_by, order_first, words_yes}
use Rattle.at_schedule.proofs.ReadLemmas.{no_event}
use Rattle.at_words.specs.Words.{words_of}

before_events : (b : Bool) (d : Draft) (more rest : List (List ℕ)) (line : List ℕ) → has_events d ≡ b
    → (has_events d ≡ true → more ≡ []) → more ≡ line ∷ rest → has_events d ≡ false
before_events true d more rest line is over some = absurd (cc (sym (over is) ∙ some))
before_events false d more rest line is over some = is

-- a line of the setup ends it
with_line : (A : Type 0) (lines : List (List ℕ)) (line : List ℕ) (d : Draft) (s : Setup A) → is_passed_over line ≡ false
    → are_event_words (words_of line) ≡ false → has_events d ≡ false
    → IsSetup (setup_words lines ++ words_of line ∷ []) s → IsRead A lines d → BeginSchedule A lines
with_line A lines line d s heard plain before whole (draft, (es, said), order, late, early) =
    let (other, setup) = event_by line false heard plain in (
      line ∷ [],
      s,
      es,
      (
        subst (λ l. IsSetup l s) (sym (words_yes lines [] line setup)) whole,
        subst (λ l. SayAll l es) (sym (no_event lines line other)) said,
        order_first lines line (early before),
      ),
    )

module _ (A : Type 0) (lines : List (List ℕ)) (d : Draft) (more : List (List ℕ)) (s : Setup A) where
  ended : IsEnding 254 more → (has_events d ≡ true → more ≡ []) → IsSetup (setup_words lines ++ map words_of more) s
      → IsRead A lines d → BeginSchedule A lines
  ended (inl none) over whole (draft, (es, said), order, late, early) =
      let setup = subst (λ m. IsSetup (setup_words lines ++ map words_of m) s) none whole in (
        [],
        s,
        es,
        subst (λ l. IsSchedule l s es) (sym (append-nil lines))
            (subst (λ l. IsSetup l s) (append-nil (setup_words lines)) setup, said, order),
      )
  ended (inr (inl net)) over whole read =
      with_line A lines (codes "net 1") d s refl refl (before_events (has_events d) d more [] _ refl over net)
      (subst (λ m. IsSetup (setup_words lines ++ map words_of m) s) net whole) read
  ended (inr (inr (k, few, router))) over whole read =
      with_line A lines (router_line k) d s refl refl (before_events (has_events d) d more [] _ refl over router)
      (subst (λ m. IsSetup (setup_words lines ++ map words_of m) s) router whole) read

-- a router may have the number 254
pub any_router : {P : Type 0} → (254 < 255) × ((15 < 254) ⊎ P)
any_router = (omega arith, inl (omega arith))

-- a schedule begins with the lines that were read
pub begin_read : (A : Type 0) (lines : List (List ℕ)) (d : Draft) → CanEnd A 254 d (setup_words lines)
    → IsRead A lines d → BeginSchedule A lines
begin_read A lines d end read = ended A lines d end.more end.setup end.ending end.over end.whole read
