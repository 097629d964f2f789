use Rattle.std.proofs.Common.{List, ℕ, Result, Ok, Err, ◌≡◌, Bor}
use Rattle.std.specs.Prelude.{IfOk, IfErr, IsOkAnd}
use Rattle.at_ddp.specs.declared.datagram.Datagram.{Datagram}
use Rattle.at_ddp.specs.declared.fault.DdpFault.{DdpFault}
use Rattle.at_ddp.specs.Datagram.{Content, content, BeginsWith}
use Rattle.at_ddp.specs.Fault.{IsFirstFault}
use Rattle.at_ddp.proofs.Spellings.{one_reading}
use Rattle.at_ddp.proofs.Readings.{no_fault}
use Rattle.at_ddp.proofs.datagram.decode.Goals as goal

-- what is spelled there is not refused, and is not another datagram
only : (input : List ℕ) (r : Result (Datagram × Bor (List ℕ)) DdpFault) →
    IfOk r (λ x. BeginsWith input (content x.0) x.1.now) → IfErr r (λ fault. IsFirstFault fault input) →
    (d : Content) (rest : List ℕ) → BeginsWith input d rest → IsOkAnd r (λ x. (content x.0 ≡ d) × (x.1.now ≡ rest))
only input (Ok x) found fault d rest begins = one_reading input (content x.0) d x.1.now rest found begins
only input (Err e) found fault d rest begins = absurd (no_fault input d rest begins e fault.stands)

pub returns-clause-only : goal.returns-clause-only
returns-clause-only c = only c.args.input.now c.parse.result c.parse.ensures.found c.parse.ensures.fault
