-- With which lines no drive goes on.
use Rattle.std.proofs.Common.{◌≡◌, ℕ, ◌+◌, ◌-◌, ◌≤◌, Bool, true, false, not, List, [], ◌∷◌, ◌++◌, length}
use Rattle.std.proofs.Common.{Ok, Err, refl, sym, ap, subst, ◌∙◌, append_assoc, nat_le, nat_lt, arith}
use Rattle.std.proofs.lemmas.Bool.{and_from, false≢true, ltb-false, or_parts}
use Rattle.std.specs.Prelude.{IsErr, ◌≢◌, ◌==◌, ◌&&◌}
use Rattle.std.specs.List.{AllZip, list_all, list_any}
use Rattle.std.specs.Str.Parse.{digits_value}
use Rattle.at_call_words.specs.Readings.{IfUnlawful, IsFoundInMemory}
use Rattle.at_faults.specs.declared.fault.LineFault.{LineFault}
use Rattle.at_faults.specs.declared.fault.LineFault.TheVariants.{NoMemory, Unlawful}
use Rattle.at_setup.specs.declared.setup.NodeSetup.{NodeSetup}
use Rattle.at_setup.specs.declared.setup.Setup.{Setup}
use Rattle.at_setup_lines.specs.Drafts.{Draft, IsDraft, IsNoSetup, Refuses, has_events}
use Rattle.at_setup_lines.specs.FirstWords.{HaveHeads}
use Rattle.at_setup_lines.specs.NodeLists.{lacks_router}
use Rattle.at_setup_lines.specs.SetupLines.{IsSetup}
use Rattle.at_drive.specs.Steps.{node_of, numbers_of, stands_in}
use Rattle.at_drive.specs.declared.step.Step.{Step}
use Rattle.at_drive_lines.specs.Drafts.{HasBody}
use Rattle.at_drive_lines.specs.Says.{AreDrive, AreStep, SaysPort, begins_step, have_ports, leave_port}
use Rattle.at_drive_lines.specs.declared.draft.DriveDraft.{DriveDraft}
use Rattle.at_drive_lines.proofs.StepLemmas.{AllSteps, all_at, all_first, all_one, heads_plain, same_step_node, split}
use Rattle.at_drive_lines.proofs.StepLemmas.{split_head, stands_by, starts_all, starts_late, starts_step, zip_at}
use Rattle.at_drive_lines.proofs.StepLemmas.{zip_steps}

-- ---- what a call told

pub unlawful_if : (T : Type 0) (fault : LineFault) (P Q : Type 0) → (fault ≢ NoMemory → P) → (P → Q)
    → IfUnlawful {T = T} (Err fault) Q
unlawful_if T (Unlawful rule) P Q h so = so (h (λ same. cc same))
unlawful_if T NoMemory P Q h so = tt

pub nothing_if : (T : Type 0) {S : Type 0} (fault : LineFault) (P : S → Type 0) (Q : Type 0)
    → IsFoundInMemory (Err fault) P → (((x : S) → ¬ P x) → Q) → IfUnlawful {T = T} (Err fault) Q
nothing_if T (Unlawful rule) P Q h so = so h
nothing_if T NoMemory P Q h so = tt

-- what is never so at an answer that is no error
pub early_by : {T : Type 0} (x : T) (b : Bool) → (b ≡ true → IsErr {T = T} {E = LineFault} (Ok x)) → b ≡ false
early_by x true h = let wrong = h refl in absurd (cc)
early_by x false h = refl

-- ---- a port line says one port

pub same_port : (ws : List (List ℕ)) (p q : ℕ) → SaysPort ws p → SaysPort ws q → p ≡ q
same_port ws p q (v, is, h) (w, same, g) =
    let word : v ≡ w = cc in
    h.0.1 ∙ ap (digits_value 10) word ∙ sym g.0.1

not_no : (b : Bool) → not b ≡ false → b ≡ true
not_no true h = refl
not_no false h = absurd (cc)

-- ---- a whole drive

pub no_whole : (A : Type 0) → ((lines : List (List (List ℕ))) (s : Setup A) → IsSetup lines s → HaveHeads lines)
    → ((lines : List (List (List ℕ))) (d : Draft) → IsDraft lines d → HaveHeads lines) → (d : DriveDraft A)
    (lines : List (List (List ℕ))) → HasBody A lines d → IsNoSetup A d.setup → (s : Setup A) (first : ℕ)
    (steps : List (Step A)) → ¬ AreDrive lines s first steps
no_whole A setups drafts d lines b never s first steps t =
    let all : b.net ∷ b.port ∷ (b.head ++ b.last) ≡ t.net ∷ t.port ∷ (t.head ++ t.last) = sym b.parts ∙ t.parts in
    let net : t.net ≡ b.net = cc in
    let rest : b.head ++ b.last ≡ t.head ++ t.last = cc in
    let (head, last) = split b.head b.last t.head t.last rest
    (heads_plain b.head (drafts (b.net ∷ b.head) d.setup b.draft).1)
    (starts_all b.last (zip_steps b.last b.steps b.said))
    (heads_plain t.head (setups (t.net ∷ t.head) s t.setup).1) (zip_steps t.last steps t.said) in
    never (b.net ∷ b.head) b.draft s (subst (λ l. IsSetup l s) (λ i. net i ∷ head i) t.setup)

module _ (A : Type 0) (setups : (lines : List (List (List ℕ))) (s : Setup A) → IsSetup lines s → HaveHeads lines)
    (drafts : (lines : List (List (List ℕ))) (d : Draft) → IsDraft lines d → HaveHeads lines)
    (d : DriveDraft A) (lines more : List (List (List ℕ))) (line : List (List ℕ)) (s : Setup A) (first : ℕ)
    (steps : List (Step A)) (b : HasBody A lines d) (t : AreDrive (lines ++ line ∷ more) s first steps) where
  -- a drive that goes on with the line has the same network and the same port
  met : (t.net ≡ b.net) × (t.port ≡ b.port) × (b.head ++ (b.last ++ line ∷ more) ≡ t.head ++ t.last)
  met =
      let all : b.net ∷ b.port ∷ (b.head ++ (b.last ++ line ∷ more)) ≡ t.net ∷ t.port ∷ (t.head ++ t.last) =
      ap (λ l. b.net ∷ b.port ∷ l) (sym (append_assoc b.head b.last (line ∷ more)))
      ∙ ap (λ l. l ++ line ∷ more) (sym b.parts) ∙ t.parts in
      let net : t.net ≡ b.net = cc in
      let port : t.port ≡ b.port = cc in
      let rest : b.head ++ (b.last ++ line ∷ more) ≡ t.head ++ t.last = cc in
      (net, port, rest)

  same_first : first ≡ d.port
  same_first = same_port t.port first d.port t.placed (subst (λ l. SaysPort l d.port) (sym met.1) b.placed)

  -- ---- a line of a step

  module _ (is : begins_step line ≡ true) where
    parted : (t.head ≡ b.head) × (t.last ≡ b.last ++ line ∷ more)
    parted = split b.head (b.last ++ line ∷ more) t.head t.last met.2
        (heads_plain b.head (drafts (b.net ∷ b.head) d.setup b.draft).1)
        (starts_step b.last more line (zip_steps b.last b.steps b.said) is)
        (heads_plain t.head (setups (t.net ∷ t.head) s t.setup).1) (zip_steps t.last steps t.said)

    same_setup : IsSetup (b.net ∷ b.head) s
    same_setup = let net = met.0 in let head = parted.0 in subst (λ l. IsSetup l s) (λ i. net i ∷ head i) t.setup

    at_line : (before after : List (Step A)) × (z : Step A) × (steps ≡ before ++ z ∷ after) × AreStep line z
    at_line = zip_at b.last more line steps (subst (λ l. AllZip AreStep l steps) parted.1 t.said)

    pub no_step : ((x : Step A) → ¬ AreStep line x) → ⊥
    no_step never = let (before, after, z, same, said) = at_line in never z said

    pub no_setup : IsNoSetup A d.setup → ⊥
    no_setup never = never (b.net ∷ b.head) b.draft s same_setup

    pub not_standing : (x : Step A) → AreStep line x → (ns : List NodeSetup)
        → (IsSetup (b.net ∷ b.head) s → s.nodes ≡ ns) → list_any (λ n. n.node == node_of x) ns ≡ false → ⊥
    not_standing x says ns one lacks =
        let nodes = one same_setup in
        let (before, after, z, same, said) = at_line in
        let stands = all_one (λ y. stands_in (numbers_of s) (node_of y)) before after z
        (subst (λ l. list_all (λ y. stands_in (numbers_of s) (node_of y)) l ≡ true) same t.stand) in
        false≢true (sym lacks ∙ ap (list_any (λ n. n.node == node_of x)) (sym nodes)
        ∙ stands_by (node_of x) s.nodes
        ∙ ap (stands_in (numbers_of s)) (same_step_node line x z says said) ∙ stands)

  -- ---- a line of the setup

  module _ (plain : begins_step line ≡ false) where
    late_head : has_events d.setup ≡ true → ⊥
    late_head late =
        let said = zip_steps b.last b.steps b.said in
        let parts = split b.head (b.last ++ line ∷ more) t.head t.last met.2
        (heads_plain b.head (drafts (b.net ∷ b.head) d.setup b.draft).1)
        (starts_late b.last more line said (b.late late))
        (heads_plain t.head (setups (t.net ∷ t.head) s t.setup).1) (zip_steps t.last steps t.said) in
        false≢true (sym plain
        ∙ all_at b.last more line (subst AllSteps parts.1 (zip_steps t.last steps t.said)))

    pub goes_on : has_events d.setup ≡ false
        → (m : List (List (List ℕ))) × IsSetup ((b.net ∷ (b.head ++ line ∷ [])) ++ m) s
    goes_on early =
        let rest = ap (λ l. b.head ++ (l ++ line ∷ more)) (sym (b.early early)) ∙ met.2 in
        let (m, is) = split_head b.head more t.head t.last line rest plain (zip_steps t.last steps t.said) in
        let net = met.0 in
        let head = is ∙ sym (append_assoc b.head (line ∷ []) m) in
        (m, subst (λ l. IsSetup l s) (λ i. net i ∷ head i) t.setup)

    refused_by : (e : Bool) → has_events d.setup ≡ e → Refuses A d.setup line → ⊥
    refused_by true late never = late_head late
    refused_by false early never =
        let (m, whole) = goes_on early in never (b.net ∷ b.head) b.draft early (m, s, whole)

    pub refused_head : Refuses A d.setup line → ⊥
    refused_head never = refused_by (has_events d.setup) refl never

    -- a node, or the router to come, has no port
    pub no_port : (new : Draft) → has_events d.setup ≡ false → has_events new ≡ false
        → IsDraft (b.net ∷ (b.head ++ line ∷ [])) new
        → ((m : List (List (List ℕ))) → IsSetup ((b.net ∷ (b.head ++ line ∷ [])) ++ m) s
        → (rest : List NodeSetup) × (s.nodes ≡ new.nodes ++ rest))
        → ((m : List (List (List ℕ))) → lacks_router new.nodes ≡ true → 65535 ≤ d.port + length new.nodes
        → IsSetup ((b.net ∷ (b.head ++ line ∷ [])) ++ m) s → ¬ (have_ports d.port s.nodes ≡ true))
        → (have_ports d.port new.nodes && leave_port d.port new.nodes) ≡ false → ⊥
    no_port new early early' draft begins wants lacks = go (leave_port d.port new.nodes) refl
      where
        whole : (m : List (List (List ℕ))) × IsSetup ((b.net ∷ (b.head ++ line ∷ [])) ++ m) s
        whole = goes_on early

        all : have_ports d.port s.nodes ≡ true
        all = subst (λ p. have_ports p s.nodes ≡ true) same_first t.ports

        have : have_ports d.port new.nodes ≡ true
        have =
            let (rest, nodes) = begins whole.0 whole.1 in
            all_first (λ n. nat_le (d.port + n.node) 65535) new.nodes rest
            (subst (λ l. have_ports d.port l ≡ true) nodes all)

        go : (l : Bool) → leave_port d.port new.nodes ≡ l → ⊥
        go true left = false≢true (sym lacks
            ∙ and_from (have_ports d.port new.nodes) (leave_port d.port new.nodes) have left)
        go false none =
            let parts = or_parts (not (lacks_router new.nodes)) (nat_lt (length new.nodes) (65535 - d.port)) none in
            let full = ltb-false (length new.nodes) (65535 - d.port) parts.1 in
            wants whole.0 (not_no (lacks_router new.nodes) parts.0) (omega (arith, full)) whole.1 all
