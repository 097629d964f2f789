-- A word says one kind of call of zone tables.
use Rattle.std.proofs.Common.{◌≡◌, ℕ, List, [], subst, sym}
use Rattle.std.specs.Prelude.{codes}
use Rattle.std.specs.List.{AllZip}
use Rattle.std.specs.Str.{bytes_eq}
use Rattle.at_event.specs.declared.zones.ZoneCall.{ZoneCall}
use Rattle.at_event.specs.declared.zones.ZoneCall.TheVariants.{Read, Set}
use Rattle.at_zip.specs.declared.request.TableChoice.TheVariants.{All, Local}
use Rattle.at_call_words.specs.Calls.Zones.{SaysZoneCall}
use Rattle.at_call_words.proofs.CallLemmas.Either.{Either}
use Rattle.at_words.specs.Texts.{IsText}

abbrev pub TableSaid : List (List ℕ) → Type 0
TableSaid ws = (names : List (List ℕ)) × AllZip IsText ws names

-- what the words after this one say; or Other, if it is no word of zone tables
abbrev pub ZonesSaid : List ℕ → List (List ℕ) → Type 0 → Type 0
ZonesSaid word ws Other =
    Either (bytes_eq word (codes "zones")) (ws ≡ []) (
    Either (bytes_eq word (codes "setzones")) (TableSaid ws) (
    Either (bytes_eq word (codes "localzones")) (ws ≡ []) (
    Either (bytes_eq word (codes "setlocal")) (TableSaid ws) Other)))

module _ (Said : List ℕ → Type 0) (ws : List (List ℕ)) where
  -- so each word of zone tables says a call
  abbrev pub SaidOfZones : Type 0
  SaidOfZones =
      (ws ≡ [] → Said (codes "zones")) × (TableSaid ws → Said (codes "setzones"))
      × (ws ≡ [] → Said (codes "localzones")) × (TableSaid ws → Said (codes "setlocal"))

  pub zone_kinds : SaidOfZones → {A : Type 0} (word : List ℕ) (c : ZoneCall A) → SaysZoneCall word ws c → Said word
  zone_kinds (all, set, local, set_local) word (Read All) (is, said) = subst Said (sym is) (all said)
  zone_kinds (all, set, local, set_local) word (Read Local) (is, said) = subst Said (sym is) (local said)
  zone_kinds (all, set, local, set_local) word (Set All names) (is, said) = subst Said (sym is) (set (names, said))
  zone_kinds (all, set, local, set_local) word (Set Local names) (is, said) =
      subst Said (sym is) (set_local (names, said))
