use Rattle.std.proofs.Common.{subst}
use Rattle.at_zip.specs.Tables.{AreTables}
use Rattle.at_zip.specs.Zones.{IsTable}
use Rattle.at_zip.proofs.TableLemmas.{both}
use Rattle.at_zip.proofs.tables.Tables.limits.Goals as goal

pub returns : goal.returns
returns g c = subst AreTables c.self.view_is
    (both (record { all = c.self.inside.all; local = c.self.inside.local })
    (subst IsTable c.names.ensures.value c.names.ensures.table)
    (subst IsTable c.names-2.ensures.value c.names-2.ensures.table))
