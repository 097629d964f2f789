use Rattle.std.proofs.Common.{arith}
use Rattle.at_zip.proofs.ZoneLemmas.{name_is}
use Rattle.at_zip.proofs.zones.is_name_spelled.Goals as goal

pub returns : goal.returns
returns c = name_is c.args.bytes.now c.is_empty.result c.is_empty.ensures
    (λ i. omega (arith, c.type_inv.bytes i)) c.requires
