-- Names of entities, and patterns (Inside AppleTalk, NBP, "Entity names").
use Rattle.std.specs.Prelude.{◌&&◌, ◌||◌, Bool, List, ℕ, [], ◌∷◌}
use Rattle.std.specs.Str.{bytes_eq}
use Rattle.at_patterns.specs.Patterns.{stands_for}
pub use Rattle.at_patterns.specs.Patterns.{is_any_text, same_text}
use Rattle.at_nbp.specs.declared.name.Name.{Name}

-- `*` or nothing
abbrev pub is_any_zone : List ℕ → Bool
is_any_zone pattern = bytes_eq pattern [] || bytes_eq pattern (0x2A ∷ [])

-- A name matches a pattern if object and type there stand for those of the name, and the zone is `*`, empty or the same
-- text.
abbrev pub is_match : Name → Name → Bool
is_match pattern name =
    stands_for pattern.object name.object && stands_for pattern.kind name.kind
    && (is_any_zone pattern.zone || same_text pattern.zone name.zone)
