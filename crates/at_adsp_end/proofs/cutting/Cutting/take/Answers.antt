use Rattle.std.proofs.Common.{◌≡◌, ℕ, List, [], ◌∷◌, ◌++◌, length, ap, ◌∙◌, arith}
use Rattle.std.proofs.lemmas.Bool.Decides.{nat_tests}
use Rattle.at_adsp_end.proofs.CutLemmas.{cut_end, cut_full}
use Rattle.at_adsp_end.proofs.cutting.Cutting.take.Goals as goal

pub returns-in-End : goal.returns-in-End
returns-in-End g c = rw c.in-End.is
    (cut_end _ _ _ _ _ _ _ c.send.ensures.sent c.send.ensures.first c.send.ensures.bytes c.send.ensures.room)

pub returns-in-Byte : goal.returns-in-Byte
returns-in-Byte g c =
    let left : c.push.new.self.items ≡ c.in-Byte.byte ∷ [] = c.push.ensures.items
    ∙ ap (λ (l : List ℕ). l ++ c.in-Byte.byte ∷ []) c.send-in-Byte.ensures.bytes in
    let full : length c.args.self.now.bytes.items
    ≡ 572 = grind (arith, nat_tests, c.if-is_full.true, c.if-is_full.ensures.value) in
    rw c.in-Byte.is (cut_full _ _ _ _ _ _ _ _ c.send-in-Byte.ensures.sent c.send-in-Byte.ensures.first left full
    c.send-in-Byte.ensures.room)
