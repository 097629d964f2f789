use Rattle.std.proofs.Common.{◌+◌, ◌≤◌, length, sym, subst}
use Rattle.at_zip.specs.Reading.{Reader}
use Rattle.at_zip.specs.Zones.{IsTable}
use Rattle.at_zip.proofs.ReadingLemmas.{longer_table}
use Rattle.at_zip.proofs.reader.ZoneReader.take.Goals as goal

pub invariant_of-self : goal.invariant_of-self
invariant_of-self g c =
    let few = subst (λ (r : Reader). length r.names + length c.args.page.now.names ≤ 1024)
    (sym c.self.view_is) c.requires.few in
    subst IsTable (sym c.push_names.ensures.names)
    (longer_table c.self.inside.names.items c.args.page.now c.self.invariant c.push_names.ensures.lawful few)
