use Rattle.std.proofs.Common.{sym, ◌∷◌, ◌∙◌, subst}
use Rattle.std.specs.Prelude.{IfErr, ◌≢◌}
use Rattle.at_words.specs.Words.{words_of}
use Rattle.at_faults.specs.declared.fault.LineFault.TheVariants.{NoMemory}
use Rattle.at_setup_lines.specs.Drafts.{Refuses}
use Rattle.at_setup_lines.specs.contracts.draft.SetupDraft.take_line.{A-type}
use Rattle.at_setup_lines.proofs.FirstWordLemmas.{other_word}
use Rattle.at_setup_lines.proofs.draft.SetupDraft.take_line.Goals as goal

pub returns-then-is_word-clause-only : goal.returns-then-is_word-clause-only
returns-then-is_word-clause-only g c =
    subst (λ w. IfErr c.take_net.result (λ fault. fault ≢ NoMemory
    → Refuses (A-type g.row.A) c.args.self.now (w ∷ words_of c.args.words.rest.now)))
    (sym (c.is_word.ensures.0 c.if-is_word.true)) c.take_net.ensures.only

pub returns-then-is_word-2-clause-only : goal.returns-then-is_word-2-clause-only
returns-then-is_word-2-clause-only g c =
    subst (λ w. IfErr c.take_node.result (λ fault. fault ≢ NoMemory
    → Refuses (A-type g.row.A) c.args.self.now (w ∷ words_of c.args.words.rest.now)))
    (sym (c.is_word-else-is_word.ensures.0 c.if-is_word-2.true)) c.take_node.ensures.only

pub returns-then-is_word-3-clause-only : goal.returns-then-is_word-3-clause-only
returns-then-is_word-3-clause-only g c =
    subst (λ w. IfErr c.take_zones.result (λ fault. fault ≢ NoMemory
    → Refuses (A-type g.row.A) c.args.self.now (w ∷ words_of c.args.words.rest.now)))
    (sym (c.is_word-else-is_word-2.ensures.0 c.if-is_word-3.true)) c.take_zones.ensures.only

pub returns-then-is_word-4-clause-only : goal.returns-then-is_word-4-clause-only
returns-then-is_word-4-clause-only g c =
    subst (λ w. IfErr c.take_local.result (λ fault. fault ≢ NoMemory
    → Refuses (A-type g.row.A) c.args.self.now (w ∷ words_of c.args.words.rest.now)))
    (sym (c.is_word-else-is_word-3.ensures.0 c.if-is_word-4.true)) c.take_local.ensures.only

pub returns-else-is_word-4-clause-only : goal.returns-else-is_word-4-clause-only
returns-else-is_word-4-clause-only g c known =
    other_word (A-type g.row.A) c.args.self.now c.args.word.now (words_of c.args.words.rest.now)
    (λ is. cc (sym c.if-is_word.false ∙ c.is_word.ensures.1 is))
    (λ is. cc (sym c.if-is_word-2.false ∙ c.is_word-else-is_word.ensures.1 is))
    (λ is. cc (sym c.if-is_word-3.false ∙ c.is_word-else-is_word-2.ensures.1 is))
    (λ is. cc (sym c.if-is_word-4.false ∙ c.is_word-else-is_word-3.ensures.1 is))
