use Rattle.std.proofs.Common.{refl, [], ◌∷◌}
use Rattle.at_words.proofs.HexLemmas.{none_found, refused}
use Rattle.at_words.proofs.text_word.any_byte.Goals as goal

pub returns-in_err-bytes : goal.returns-in_err-bytes
returns-in_err-bytes c = none_found c.from_residual.result _ c.from_residual.ensures
    (λ byte decoded. refused c.args.digits.now (byte ∷ []) 1 c.from_hex.result c.from_hex.ensures
    c.in_err-bytes.ensures.value decoded refl)
