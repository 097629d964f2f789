-- A line of the setup has a word.
use Rattle.std.proofs.Common.{ℕ, List, [], ◌∷◌, ◌++◌, subst, append_assoc}
use Rattle.at_setup_lines.specs.Drafts.{Draft, Refuses}
use Rattle.at_setup_lines.specs.FirstWords.{HasHead, HaveHeads}
use Rattle.at_setup_lines.specs.SetupLines.{IsSetup}
use Rattle.at_setup.specs.declared.setup.Setup.{Setup}

head_at : (before after : List (List (List ℕ))) (line : List (List ℕ)) → HaveHeads (before ++ line ∷ after)
    → HasHead line
head_at [] after line h = h.0
head_at (l ∷ before) after line h = head_at before after line h.1

pub no_word : (A : Type 0) → ((lines : List (List (List ℕ))) (s : Setup A) → IsSetup lines s → HaveHeads lines)
    → (d : Draft) → Refuses A d []
no_word A heads d lines read early (more, s, setup) =
    head_at lines more [] (subst HaveHeads (append_assoc lines ([] ∷ []) more) (heads ((lines ++ [] ∷ []) ++ more) s
    setup))
