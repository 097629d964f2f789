-- Names: calls in the range of their types, reports of events that take no memory, and how words must be.
use Rattle.std.specs.Prelude.{ℕ, ◌<◌, Bool, true, false, List, ◌++◌, Option, Some, None, codes}
use Rattle.at_nbp.specs.Tuples.{IsString}
use Rattle.at_event.specs.declared.names.NameCall.{NameCall}
use Rattle.at_event.specs.declared.names.NameCall.TheVariants.{Find, Claim, Finish, Register, Unregister}
use Rattle.at_event.specs.declared.names.NameReport.{NameReport}
use Rattle.at_event.specs.declared.names.NameReport.TheVariants.{Unregistered}
use Rattle.at_event.specs.declared.names.NameRule.{NameRule}
use Rattle.at_event.specs.declared.names.NameRule.TheVariants as rule

-- the zone of a pattern, if it has one
abbrev pub IsZone : Option (List ℕ) → Type 0
IsZone None = Unit {0}
IsZone (Some zone) = IsString zone

-- the parts of a call are in the range of their types
abbrev pub IsNameCall : NameCall → Type 0
IsNameCall (Find object kind zone) = IsString object × IsString kind × IsZone zone
IsNameCall (Claim object kind socket) = IsString object × IsString kind × (socket < 256)
IsNameCall (Finish id) = id < 256
IsNameCall (Register object kind socket) = IsString object × IsString kind × (socket < 256)
IsNameCall (Unregister object kind) = IsString object × IsString kind

-- can an event with this report run out of memory? The end of a name can't.
abbrev pub names_take_memory : {A : Type 0} → NameReport A → Bool
names_take_memory Unregistered = false
names_take_memory other = true

-- the sentence that tells a person how the words of a call or a timer must be
abbrev pub name_sentence : NameRule → List ℕ
name_sentence rule.Find =
    codes "`find` takes an object, a type, and a zone if needed, of at most 32 bytes each, as in \"call 5 find "
    ++ codes "= LaserWriter\""
name_sentence rule.Claim =
    codes "`claim` takes an object and a type of at most 32 bytes each, and a socket, 1 to 254, as in \"call 5 "
    ++ codes "claim Printer LaserWriter 130\""
name_sentence rule.Finish = codes "`finish` takes a lookup's identifier, 0 to 255, as in \"call 5 finish 0\""
name_sentence rule.Register =
    codes "`register` takes an object and a type of at most 32 bytes each, and a socket, 1 to 254, as in "
    ++ codes "\"call 7 register Printer LaserWriter 130\""
name_sentence rule.Unregister =
    codes "`unregister` takes an object and a type of at most 32 bytes each, as in \"call 7 unregister Printer "
    ++ codes "LaserWriter\""
name_sentence rule.Lookup = codes "`lookup` takes a lookup's identifier, 0 to 255, as in \"timer 5 lookup 0\""
