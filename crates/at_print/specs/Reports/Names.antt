-- What is printed of the reports and timers of names, and of the data of NBP's datagrams.
use Rattle.std.specs.Prelude.{ℕ, List, ◌++◌, codes}
use Rattle.std.specs.List.{flat_map}
use Rattle.std.specs.Fmt.{decimal}
use Rattle.at_nbp.specs.Fault.{IsFirstFault, number_of}
use Rattle.at_nbp.specs.Packets.{BeginsWith, Content}
use Rattle.at_nbp.specs.declared.fault.NbpFault.{NbpFault}
use Rattle.at_nbp.specs.declared.find.Find.{Find}
use Rattle.at_event.specs.declared.names.NameReport.{NameReport}
use Rattle.at_event.specs.declared.names.NameReport.TheVariants as report
use Rattle.at_event.specs.declared.names.NameTimer.{NameTimer}
use Rattle.at_event.specs.declared.names.NameTimer.TheVariants.{Lookup}
use Rattle.at_print.specs.NameLines.{names_lines}
use Rattle.at_print.specs.Refusals.{refusal_line}
use Rattle.at_print.specs.TextWords.{name_text}

-- a name that was found, and the node, the socket and the enumerator that it has
abbrev pub find_text : Find → List ℕ
find_text f =
    name_text (f.name).object (f.name).kind (f.name).zone
    ++ (codes "," ++ (decimal (f.address).node ++ (codes "," ++ (decimal (f.address).socket
    ++ (codes "," ++ decimal f.enumerator)))))

abbrev pub found_text : Find → List ℕ
found_text f = codes " " ++ find_text f

-- a report of names
abbrev pub name_report_text : {A : Type 0} → NameReport A → List ℕ
name_report_text (report.Looking id) = codes "looking " ++ decimal id
name_report_text (report.Found finds) = codes "found" ++ flat_map found_text finds
name_report_text report.Claimed = codes "claimed"
name_report_text (report.Taken f) = codes "taken " ++ find_text f
name_report_text report.Registered = codes "done"
name_report_text report.Unregistered = codes "done"
name_report_text report.Relayed = codes "relayed"
name_report_text (report.Matched count) = codes "names " ++ decimal count
name_report_text (report.Added count) = codes "finds " ++ decimal count

-- a timer of names in words
abbrev pub name_timer_text : NameTimer → List ℕ
name_timer_text (Lookup id) = codes "lookup " ++ decimal id

-- the data begins with an NBP packet
abbrev pub IsNames : List ℕ → Type 0
IsNames bytes = (p : Content) × ((rest : List ℕ) × BeginsWith bytes p rest)

-- what is printed of the data of NBP's datagrams: the packet with which they begin, or the first fault by its number
pub data NamesText (bytes : List ℕ) : List ℕ → Type 0 where
  Named : (packet : Content) (rest : List ℕ) → BeginsWith bytes packet rest → NamesText bytes (names_lines packet)
  Misnamed : (fault : NbpFault) → IsFirstFault fault bytes → NamesText bytes (refusal_line (number_of fault))
