-- What is printed of the reports of zone tables.
use Rattle.std.specs.Prelude.{ℕ, List, ◌++◌, codes}
use Rattle.std.specs.List.{flat_map}
use Rattle.std.specs.Fmt.{decimal}
use Rattle.at_zip.specs.declared.request.TableChoice.{TableChoice}
use Rattle.at_zip.specs.declared.request.TableChoice.TheVariants.{All, Local}
use Rattle.at_event.specs.declared.zones.ZoneReport.{ZoneReport}
use Rattle.at_event.specs.declared.zones.ZoneReport.TheVariants as report
use Rattle.at_print.specs.TextWords.{text_word}

abbrev pub zone_text : List ℕ → List ℕ
zone_text zone = codes " " ++ text_word zone

-- the word for a list of the zones of this table
abbrev pub table_word : TableChoice → List ℕ
table_word All = codes "zones"
table_word Local = codes "localzones"

-- a report of zones
abbrev pub zone_report_text : {A : Type 0} → ZoneReport A → List ℕ
zone_report_text (report.Served count) = codes "served " ++ decimal count
zone_report_text report.TableSet = codes "done"
zone_report_text (report.List which zones) = table_word which ++ flat_map zone_text zones
zone_report_text (report.Fault number) = codes "zonefault " ++ decimal number
zone_report_text report.Unanswered = codes "zonesfailed"
