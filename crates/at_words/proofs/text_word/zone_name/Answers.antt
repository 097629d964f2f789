use Rattle.std.proofs.Common.{sym, subst, ◌∙◌}
use Rattle.at_words.specs.Texts.{IsText}
use Rattle.at_words.proofs.TextLemmas.{none_left, only_empty}
use Rattle.at_words.proofs.text_word.zone_name.Goals as goal

pub returns-then-is_empty : goal.returns-then-is_empty
returns-then-is_empty c = λ name (says, some).
    let none = sym c.bytes.ensures.value ∙ none_left c.bytes.result.now (sym c.is_empty.ensures ∙ c.if-is_empty.true) in
    only_empty c.args.word.now name (subst (IsText c.args.word.now) none c.in_ok-name.ensures) says some
