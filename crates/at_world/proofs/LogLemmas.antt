-- What a log says of an event that is recorded, or for which memory ran out.
use Rattle.std.proofs.Common.{◌≡◌, Bool, true, false, List}
use Rattle.std.specs.Prelude.{Result, Ok, Err, OnErr, OnOk}
use Rattle.std.specs.Result.{is_err}
use Rattle.std.specs.declared.alloc.AllocError.{AllocError}
use Rattle.at_world.specs.Sents.{SentDatagram}
use Rattle.at_world.specs.declared.log.Log.{Log}

-- the log has not failed
pub recorded_in : (A : Type 0) (log x : Log A) (failed : Bool) (recorded : Result (Unit {0}) AllocError)
    → failed ≡ is_err recorded → OnOk recorded (log ≡ x)
    → OnOk recorded (record log { failed = failed } ≡ record x { failed = false })
recorded_in A log x failed (Ok u) is added = λ j. record (added j) { failed = is j }
recorded_in A log x failed (Err e) is added = tt

pub failed_by : (sent sent' : List SentDatagram) (failed : Bool) (recorded : Result (Unit {0}) AllocError)
    → failed ≡ is_err recorded → OnErr recorded (sent' ≡ sent)
    → OnErr recorded ((failed ≡ true) × (sent' ≡ sent))
failed_by sent sent' failed (Err e) is kept = (is, kept)
failed_by sent sent' failed (Ok u) is kept = tt
