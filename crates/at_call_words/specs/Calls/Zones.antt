-- Which call of zone tables words say.
use Rattle.std.specs.Prelude.{◌≡◌, ℕ, List, [], codes}
use Rattle.std.specs.List.{AllZip}
use Rattle.at_event.specs.declared.zones.ZoneCall.{ZoneCall}
use Rattle.at_event.specs.declared.zones.ZoneCall.TheVariants.{Read, Set}
use Rattle.at_zip.specs.declared.request.TableChoice.{TableChoice}
use Rattle.at_zip.specs.declared.request.TableChoice.TheVariants.{All, Local}
use Rattle.at_words.specs.Texts.{IsText}

-- the word of a call that reads a zone table
abbrev pub list_word : TableChoice → List ℕ
list_word All = codes "zones"
list_word Local = codes "localzones"

-- the word of a call that gives the router a zone table
abbrev pub table_word : TableChoice → List ℕ
table_word All = codes "setzones"
table_word Local = codes "setlocal"

-- the word of a call, and what the words after it say
abbrev pub SaysZoneCall : {A : Type 0} → List ℕ → List (List ℕ) → ZoneCall A → Type 0
SaysZoneCall word ws (Read which) = (word ≡ list_word which) × (ws ≡ [])
SaysZoneCall word ws (Set which names) = (word ≡ table_word which) × AllZip IsText ws names
