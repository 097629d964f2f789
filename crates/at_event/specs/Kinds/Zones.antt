-- Zone tables: calls in the range of their types, reports of events that take no memory, and how words must be.
use Rattle.std.specs.Prelude.{ℕ, Bool, true, false, List, codes}
use Rattle.std.specs.List.{AllByRecursion}
use Rattle.at_nbp.specs.Tuples.{IsString}
use Rattle.at_event.specs.declared.zones.ZoneCall.{ZoneCall}
use Rattle.at_event.specs.declared.zones.ZoneCall.TheVariants.{Read, Set}
use Rattle.at_event.specs.declared.zones.ZoneReport.{ZoneReport}
use Rattle.at_event.specs.declared.zones.ZoneReport.TheVariants.{Unanswered}
use Rattle.at_event.specs.declared.zones.ZoneRule.{ZoneRule}
use Rattle.at_event.specs.declared.zones.ZoneRule.TheVariants as rule

-- the parts of a call are in the range of their types
abbrev pub IsZoneCall : {A : Type 0} → ZoneCall A → Type 0
IsZoneCall (Read which) = Unit {0}
IsZoneCall (Set which names) = AllByRecursion IsString names

-- can an event with this report run out of memory? The end of a reading without an answer can't.
abbrev pub zones_take_memory : {A : Type 0} → ZoneReport A → Bool
zones_take_memory Unanswered = false
zones_take_memory other = true

-- the sentence that tells a person how the words of a call must be
abbrev pub zone_sentence : ZoneRule → List ℕ
zone_sentence rule.Zones = codes "`call N zones` takes no arguments, as in \"call 5 zones\""
zone_sentence rule.SetZones = codes "`setzones` takes texts of at most 32 bytes, as in \"call 1 setzones Lab Office\""
zone_sentence rule.LocalZones = codes "`call N localzones` takes no arguments, as in \"call 5 localzones\""
zone_sentence rule.SetLocal = codes "`setlocal` takes texts of at most 32 bytes, as in \"call 1 setlocal Lab\""
