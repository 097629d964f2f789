-- The first line that names a node.
use Rattle.std.proofs.Common.{◌≡◌, ℕ, List, sym, subst, IfSome, None, Option, Some}
use Rattle.at_schedule.specs.Drafts.{number_after}
use Rattle.at_drive_lines.specs.Lines.{HasNext, HaveCome, IsLast}
use Rattle.at_drive_lines.specs.NodeLines.{IsFirstLineOf, Names, NoneNames}
use Rattle.at_drive_lines.proofs.LineLemmas.{all_come, next_comes}

pub first_line_of : (first : Option (List (List ℕ))) (read : List (List ℕ)) (now : Option (List (List ℕ)))
    (line : List ℕ) (after : Option (List (List ℕ))) (node number : ℕ) → HaveCome first read now
    → HasNext now line after → number ≡ number_after read → NoneNames read node → Names node line
    → IfSome first (λ all. IsFirstLineOf all node number)
first_line_of None read now line after node number come next numbered others names = tt
first_line_of (Some lines) read now line after node number come next numbered others names =
    let (later, parts) = next_comes lines read now line after come next in
    record {
      before = read;
      line = line;
      after = later;
      parts = parts;
      numbered = numbered;
      names = names;
      first = others;
    }

pub none_names : (first : Option (List (List ℕ))) (read : List (List ℕ)) (now : Option (List (List ℕ))) (node : ℕ)
    → HaveCome first read now → IsLast now → NoneNames read node → IfSome first (λ all. NoneNames all node)
none_names None read now node come last others = tt
none_names (Some lines) read now node come last others =
    subst (λ l. NoneNames l node) (sym (all_come (Some lines) read now come last)) others
