-- What holds of an event that was done, by its status.
use Rattle.std.proofs.Common.{◌≡◌, Result, Ok, Err}
use Rattle.std.specs.Prelude.{OnOk}
use Rattle.at_c.specs.Statuses.{done, played_status, received_status}
use Rattle.at_faults.specs.declared.fault.LineFault.{LineFault}
use Rattle.at_faults.specs.declared.fault.LineFault.TheVariants.{NoMemory, Unlawful}

pub played_done : {P : Type 0} (answer : Result (Unit {0}) LineFault) → played_status answer ≡ done → OnOk answer P → P
played_done (Ok u) is h = h
played_done (Err NoMemory) is h = absurd (cc)
played_done (Err (Unlawful rule)) is h = absurd (cc)

pub received_done : {E P : Type 0} (answer : Result (Unit {0}) E) → received_status answer ≡ done → OnOk answer P → P
received_done (Ok u) is h = h
received_done (Err e) is h = absurd (cc)
