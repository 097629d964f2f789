-- What a name is found by in a node's table (Inside AppleTalk, NBP, "Names directory").
use Rattle.std.specs.Prelude.{◌≡◌, List, ℕ, map}
use Rattle.at_ddp.specs.Text.{folded}
use Rattle.indexmap.specs.IndexMap.{IndexMap, keys, values}
use Rattle.at_nbp.specs.declared.names.Registered.{Registered}
use Rattle.at_nbp.specs.declared.title.Title.{Title}

-- an object and a type in capitals
abbrev pub titled : List ℕ → List ℕ → Title
titled object kind = record { object = folded object; kind = folded kind }

abbrev pub title_of : Registered → Title
title_of name = titled name.object name.kind

-- each name stands under its own title
abbrev pub AreTitled : {S : Type 0} → IndexMap Title Registered S → Type 0
AreTitled names = keys names ≡ map title_of (values names)
