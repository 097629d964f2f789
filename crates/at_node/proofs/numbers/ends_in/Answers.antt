use Rattle.std.proofs.Common.{◌≡◌, ℕ, List, [], ◌∷◌, Option, Some, subst, sym}
use Rattle.std.specs.Prelude.{◌↔◌}
use Rattle.std.specs.List.{Contains}
use Rattle.at_node.specs.Numbers.{CarriesNumber, end_drawn}
use Rattle.at_node.specs.declared.numbers.Draw.{Draw}
use Rattle.at_node.proofs.NumberLemmas.{end_found, end_stands}
use Rattle.at_node.proofs.numbers.ends_in.Goals as goal

pub returns : goal.returns
returns c node draw =
    let d = c.args.packet.now in
    let source = c.carried-source.result.0 in
    let dest = c.carried-source.result.1 in
    let all : ◌≡◌ {A = List (Option (ℕ × Draw))} (c.end_drawn.result ∷ c.end_drawn-2.result ∷ [])
    (end_drawn source ∷ end_drawn dest ∷ []) = λ i. c.end_drawn.ensures i ∷ c.end_drawn-2.ensures i ∷ [] in
    subst (λ l. Contains l (Some (node, draw)) ↔ CarriesNumber d node draw) (sym all) (
      end_found source dest d node draw c.requires c.carried-source.ensures,
      end_stands source dest d node draw c.requires c.carried-source.ensures,
    )
