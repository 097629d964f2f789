-- What is read with a line more.
use Rattle.std.proofs.Common.{◌≡◌, ℕ, Bool, true, false, List, [], ◌∷◌, ◌++◌, length, inl, inr, refl, sym, ap}
use Rattle.std.proofs.Common.{subst, ◌∙◌, append-nil, append_assoc, arith}
use Rattle.std.proofs.lemmas.Bool.{and_parts, false≢true}
use Rattle.std.proofs.lemmas.List.{length-append}
use Rattle.std.specs.Prelude.{◌==◌, ◌&&◌, codes}
use Rattle.std.specs.List.{AllZip, list_all, list_any}
use Rattle.at_setup.specs.declared.setup.NodeSetup.{NodeSetup}
use Rattle.at_setup.specs.declared.setup.Setup.{Setup}
use Rattle.at_setup_lines.specs.Drafts.{Draft, IsDraft, IsDraftAt, Takes, has_events, is_event, setup_of}
use Rattle.at_setup_lines.specs.SetupLines.{EndInTable, IsSetup, SayHead, SayZones, SaysNode}
use Rattle.at_setup_lines.specs.declared.draft.Stage.{Stage}
use Rattle.at_setup_lines.specs.declared.draft.Stage.TheVariants.{Event, Local, Net, Node, Zones}
use Rattle.at_drive.specs.Steps.{node_of}
use Rattle.at_drive.specs.declared.step.Step.{Step}
use Rattle.at_drive_lines.specs.Drafts.{HasBody}
use Rattle.at_drive_lines.specs.Says.{AreStep, SaysPort, have_ports, leave_port}
use Rattle.at_drive_lines.specs.declared.draft.DriveDraft.{DriveDraft}
use Rattle.at_drive_lines.proofs.StepLemmas.{all_more, zip_more}

-- ---- the first line says no node

nil_zip : (ns : List NodeSetup) → AllZip SaysNode [] ns → ns ≡ []
nil_zip [] h = refl
nil_zip (n ∷ ns) h = absurd h

-- a table is no first line
no_table : (word : List ℕ) (Before : List (List (List ℕ)) → Type 0) → ¬ Before [] → (line : List (List ℕ))
    (ns : List NodeSetup) (names : List (List ℕ)) → ¬ EndInTable word Before ns (line ∷ []) names
no_table word Before none line ns names ([], last, is, before, said, router) = none before
no_table word Before none line ns names (h ∷ front, last, is, before, said, router) =
    let long = ap length is in omega (arith, long, length-append front (last ∷ []))

no_zones : (line : List (List ℕ)) (net : ℕ) (ns : List NodeSetup) (names : List (List ℕ))
    → ¬ EndInTable (codes "zones") (λ head. SayHead head net ns) ns (line ∷ []) names
no_zones line net ns names = no_table (codes "zones") (λ head. SayHead head net ns) (λ say. say) line ns names

no_front : (net : ℕ) (ns : List NodeSetup) (zones : List (List ℕ)) → ¬ SayZones [] net ns zones
no_front net ns zones (inl (say, none)) = say
no_front net ns zones (inr (front, last, is, say, said, router)) =
    let long = ap length is in omega (arith, long, length-append front (last ∷ []))

no_local : (line : List (List ℕ)) (net : ℕ) (ns : List NodeSetup) (zones names : List (List ℕ))
    → ¬ EndInTable (codes "local") (λ front. SayZones front net ns zones) ns (line ∷ []) names
no_local line net ns zones names =
    no_table (codes "local") (λ front. SayZones front net ns zones) (no_front net ns zones) line ns names

no_nodes_at : (st : Stage) (line : List (List ℕ)) (d : Draft) → IsDraftAt st (line ∷ []) d → d.nodes ≡ []
no_nodes_at Net line d h = h.2
no_nodes_at Node line d h = nil_zip d.nodes (h.0).1
no_nodes_at Zones line d h = absurd (no_zones line d.net d.nodes d.zones h.0)
no_nodes_at Local line d h = absurd (no_local line d.net d.nodes d.zones d.local h.0)
no_nodes_at Event line d (inl (inl (say, none), alone), lawful) = nil_zip d.nodes say.1
no_nodes_at Event line d (inl (inr zones, alone), lawful) = absurd (no_zones line d.net d.nodes d.zones zones)
no_nodes_at Event line d (inr local, lawful) = absurd (no_local line d.net d.nodes d.zones d.local local)

pub no_nodes : (line : List (List ℕ)) (d : Draft) → IsDraft (line ∷ []) d → d.nodes ≡ []
no_nodes line d h = no_nodes_at d.stage line d h

-- ---- the setup of which an event was read

event_at : (st : Stage) (lines : List (List (List ℕ))) (d : Draft) → is_event st ≡ true → IsDraftAt st lines d
    → IsSetup lines (setup_of d)
event_at Net lines d is h = absurd (false≢true is)
event_at Node lines d is h = absurd (false≢true is)
event_at Zones lines d is h = absurd (false≢true is)
event_at Local lines d is h = absurd (false≢true is)
event_at Event lines d is h = h

pub event_setup : (A : Type 0) (lines : List (List (List ℕ))) (d : Draft) → has_events d ≡ true → IsDraft lines d
    → (s : Setup A) × (s.nodes ≡ d.nodes) × IsSetup lines s
event_setup A lines d is h =
    let s : Setup A = record { net = d.net; nodes = d.nodes; zones = d.zones; local = d.local } in
    (s, refl, event_at d.stage lines d is h)

-- ---- lines

pub head_taken : (A : Type 0) (lines : List (List (List ℕ))) (line : List (List ℕ)) (old new : DriveDraft A)
    → HasBody A lines old → new.port ≡ old.port → has_events old.setup ≡ false → has_events new.setup ≡ false
    → Takes old.setup line new.setup
    → (have_ports new.port (new.setup).nodes && leave_port new.port (new.setup).nodes) ≡ true
    → HasBody A (lines ++ line ∷ []) new
head_taken A lines line old new b port early after takes fits =
    let both = and_parts (have_ports new.port (new.setup).nodes) (leave_port new.port (new.setup).nodes) fits in
    let nothing = b.early early in
    record {
      net = b.net;
      port = b.port;
      head = b.head ++ line ∷ [];
      last = [];
      parts = ap (λ l. l ++ line ∷ []) b.parts
          ∙ ap (λ l. b.net ∷ b.port ∷ (l ++ line ∷ [])) (ap (λ l. b.head ++ l) nothing ∙ append-nil b.head)
          ∙ ap (λ l. b.net ∷ b.port ∷ l) (sym (append-nil (b.head ++ line ∷ [])));
      draft = takes (b.net ∷ b.head) b.draft;
      placed = subst (SaysPort b.port) (sym port) b.placed;
      ports = both.0;
      room = both.1;
      steps = [];
      said = tt;
      stand = refl;
      early = λ e. refl;
      late = λ l. absurd (false≢true (sym after ∙ l));
    }

pub step_taken : (A : Type 0) (lines : List (List (List ℕ))) (line : List (List ℕ)) (x : Step A)
    (old new : DriveDraft A) → HasBody A lines old → new.port ≡ old.port → has_events new.setup ≡ true
    → ((ls : List (List (List ℕ))) → IsDraft ls old.setup → IsDraft ls new.setup)
    → (new.setup).nodes ≡ (old.setup).nodes → AreStep line x
    → list_any (λ n. n.node == node_of x) (new.setup).nodes ≡ true → HasBody A (lines ++ line ∷ []) new
step_taken A lines line x old new b port over goes nodes says stands =
    let tests : List NodeSetup → Step A → Bool = λ ns y. list_any (λ n. n.node == node_of y) ns in
    let before = ap (λ ns. list_all (tests ns) b.steps) nodes ∙ b.stand in
    record {
      net = b.net;
      port = b.port;
      head = b.head;
      last = b.last ++ line ∷ [];
      parts = ap (λ l. l ++ line ∷ []) b.parts
          ∙ ap (λ l. b.net ∷ b.port ∷ l) (append_assoc b.head b.last (line ∷ []));
      draft = goes (b.net ∷ b.head) b.draft;
      placed = subst (SaysPort b.port) (sym port) b.placed;
      ports = (λ i. have_ports (port i) (nodes i)) ∙ b.ports;
      room = (λ i. leave_port (port i) (nodes i)) ∙ b.room;
      steps = b.steps ++ x ∷ [];
      said = zip_more b.last b.steps line x b.said says;
      stand = all_more (tests (new.setup).nodes) b.steps x before stands;
      early = λ e. absurd (false≢true (sym e ∙ over));
      late = λ l. omega (arith, length-append b.last (line ∷ []));
    }
