-- The two tables of a router.
use Rattle.std.proofs.Common.{ℕ, List}
use Rattle.at_zip.specs.Tables.{Tables, AreTables, with_table}
use Rattle.at_zip.specs.Zones.{IsTable}
use Rattle.at_zip.specs.declared.request.TableChoice.{TableChoice}
use Rattle.at_zip.specs.declared.request.TableChoice.TheVariants.{All, Local}

pub both : (t : Tables) → IsTable t.all → IsTable t.local → AreTables t
both t all local All = all
both t all local Local = local

pub stay_tables : (which : TableChoice) (names : List (List ℕ)) (t : Tables) → IsTable names → AreTables t
    → AreTables (with_table which names t)
stay_tables All names t is are All = is
stay_tables All names t is are Local = are Local
stay_tables Local names t is are All = are All
stay_tables Local names t is are Local = is
