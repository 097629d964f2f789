-- What each line does to a draft at its stage.
use Rattle.std.proofs.Common.{◌≡◌, ℕ, ◌+◌, ◌≤◌, true, false, List, [], ◌∷◌, ◌++◌, length, sym, ap, subst}
use Rattle.std.proofs.Common.{◌∙◌}
use Rattle.std.specs.Prelude.{◌==◌, ◌&&◌}
use Rattle.std.specs.List.{list_any}
use Rattle.at_setup.specs.declared.setup.NodeSetup.{NodeSetup}
use Rattle.at_setup.specs.declared.setup.Setup.{Setup}
use Rattle.at_setup_lines.specs.Drafts.{Draft, IsDraft, IsNoSetup, Refuses, Takes, has_events}
use Rattle.at_setup_lines.specs.FirstWords.{HaveHeads}
use Rattle.at_setup_lines.specs.NodeLists.{lacks_router}
use Rattle.at_setup_lines.specs.SetupLines.{IsSetup}
use Rattle.at_drive.specs.Steps.{node_of}
use Rattle.at_drive.specs.declared.step.Step.{Step}
use Rattle.at_drive_lines.specs.Drafts.{Adds, Bars, HasBody, HasRead, HasReadAt}
use Rattle.at_drive_lines.specs.Says.{AreStep, SaysPort, begins_step, have_ports, leave_port}
use Rattle.at_drive_lines.specs.declared.draft.DriveDraft.{DriveDraft}
use Rattle.at_drive_lines.specs.declared.draft.Stage.TheVariants.{Body, Net, Port}
use Rattle.at_drive_lines.proofs.BodyLemmas.{event_setup, head_taken, step_taken}
use Rattle.at_drive_lines.proofs.RefusalLemmas.{no_port, no_setup, no_step, not_standing, refused_head}

module _ (A : Type 0) (old : DriveDraft A) (line : List (List ℕ)) where
  -- ---- the network

  pub net_barred : old.stage ≡ Net → Refuses A old.setup line → Bars A old line
  net_barred stage never lines read more s port steps t =
      let (none, draft, early) = subst (λ st. HasReadAt A st lines old) stage read in
      let all : line ∷ more ≡ t.net ∷ t.port ∷ (t.head ++ t.last) = ap (λ l. l ++ line ∷ more) (sym none) ∙ t.parts in
      let same : t.net ≡ line = cc in
      never [] draft early (t.head, s, subst (λ l. IsSetup (l ∷ t.head) s) same t.setup)

  -- ---- the port

  pub port_barred : old.stage ≡ Port → ((p : ℕ) → ¬ SaysPort line p) → Bars A old line
  port_barred stage never lines read more s port steps t =
      let (net, is, draft, early) = subst (λ st. HasReadAt A st lines old) stage read in
      let all : net ∷ line ∷ more ≡ t.net ∷ t.port ∷ (t.head ++ t.last) =
      ap (λ l. l ++ line ∷ more) (sym is) ∙ t.parts in
      let same : t.port ≡ line = cc in
      never port (subst (λ l. SaysPort l port) same t.placed)

  -- ---- the lines after it

  pub body_of : (lines : List (List (List ℕ))) → old.stage ≡ Body → HasRead A lines old → HasBody A lines old
  body_of lines stage read = subst (λ st. HasReadAt A st lines old) stage read

  pub head_adds : (new : DriveDraft A) → old.stage ≡ Body → new.stage ≡ Body → new.port ≡ old.port
      → has_events old.setup ≡ false → has_events new.setup ≡ false → Takes old.setup line new.setup
      → (have_ports new.port (new.setup).nodes && leave_port new.port (new.setup).nodes) ≡ true → Adds A old line new
  head_adds new stage after port early later takes fits lines read =
      subst (λ st. HasReadAt A st (lines ++ line ∷ []) new) (sym after)
      (head_taken A lines line old new (body_of lines stage read) port early later takes fits)

  pub step_adds : (x : Step A) (new : DriveDraft A)
      → ((d : Draft) (lines : List (List (List ℕ))) (s : Setup A) → IsDraft lines d → IsSetup lines s
      → s.nodes ≡ d.nodes) → old.stage ≡ Body → new.stage ≡ Body → new.port ≡ old.port
      → has_events new.setup ≡ true
      → ((ls : List (List (List ℕ))) → IsDraft ls old.setup → IsDraft ls new.setup) → AreStep line x
      → list_any (λ n. n.node == node_of x) (new.setup).nodes ≡ true → Adds A old line new
  step_adds x new same stage after port over goes says stands lines read =
      let b = body_of lines stage read in
      let (s, nodes, setup) = event_setup A (b.net ∷ b.head) new.setup over (goes (b.net ∷ b.head) b.draft) in
      let kept = sym nodes ∙ same old.setup (b.net ∷ b.head) s b.draft setup in
      subst (λ st. HasReadAt A st (lines ++ line ∷ []) new) (sym after)
      (step_taken A lines line x old new b port over goes kept says stands)

  module _ (setups : (lines : List (List (List ℕ))) (s : Setup A) → IsSetup lines s → HaveHeads lines)
      (drafts : (lines : List (List (List ℕ))) (d : Draft) → IsDraft lines d → HaveHeads lines)
      (stage : old.stage ≡ Body) where
    pub step_barred : begins_step line ≡ true → ((x : Step A) → ¬ AreStep line x) → Bars A old line
    step_barred is never lines read more s port steps t =
        no_step A setups drafts old lines more line s port steps (body_of lines stage read) t is never

    pub event_barred : begins_step line ≡ true → IsNoSetup A old.setup → Bars A old line
    event_barred is never lines read more s port steps t =
        no_setup A setups drafts old lines more line s port steps (body_of lines stage read) t is never

    pub stands_barred : begins_step line ≡ true → (x : Step A) (new : Draft) → AreStep line x
        → ((d : Draft) (lines : List (List (List ℕ))) (s : Setup A) → IsDraft lines d → IsSetup lines s
        → s.nodes ≡ d.nodes) → ((ls : List (List (List ℕ))) → IsDraft ls old.setup → IsDraft ls new)
        → list_any (λ n. n.node == node_of x) new.nodes ≡ false → Bars A old line
    stands_barred is x new says same goes lacks lines read more s port steps t =
        let b = body_of lines stage read in
        not_standing A setups drafts old lines more line s port steps b t is x says new.nodes
        (λ setup. same new (b.net ∷ b.head) s (goes (b.net ∷ b.head) b.draft) setup) lacks

    pub head_barred : begins_step line ≡ false → Refuses A old.setup line → Bars A old line
    head_barred plain never lines read more s port steps t =
        refused_head A setups drafts old lines more line s port steps (body_of lines stage read) t plain never

    pub ports_barred : begins_step line ≡ false → (new : Draft)
        → ((d : Draft) (lines more : List (List (List ℕ))) (s : Setup A) → has_events d ≡ false → IsDraft lines d
        → IsSetup (lines ++ more) s → (rest : List NodeSetup) × (s.nodes ≡ d.nodes ++ rest))
        → ((d : Draft) (lines more : List (List (List ℕ))) (s : Setup A) → lacks_router d.nodes ≡ true
        → has_events d ≡ false → 65535 ≤ old.port + length d.nodes → IsDraft lines d → IsSetup (lines ++ more) s
        → ¬ (have_ports old.port s.nodes ≡ true))
        → has_events old.setup ≡ false → has_events new ≡ false → Takes old.setup line new
        → (have_ports old.port new.nodes && leave_port old.port new.nodes) ≡ false → Bars A old line
    ports_barred plain new begins wants early later takes lacks lines read more s port steps t =
        let b = body_of lines stage read in
        let draft = takes (b.net ∷ b.head) b.draft in
        no_port A setups drafts old lines more line s port steps b t plain new early later draft
        (λ m whole. begins new (b.net ∷ (b.head ++ line ∷ [])) m s later draft whole)
        (λ m lone full whole. wants new (b.net ∷ (b.head ++ line ∷ [])) m s lone later full draft whole) lacks
