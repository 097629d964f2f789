use Rattle.std.proofs.Common.{◌≡◌}
use Rattle.at_faults.specs.declared.fault.Fault.TheVariants as fault
use Rattle.at_schedule.proofs.LineLemmas.{left_before}
use Rattle.at_schedule.proofs.reading.read_line.Goals as goal

pub returns-in-Err-clause-memory : goal.returns-in-Err-clause-memory
returns-in-Err-clause-memory g c = λ none.
    let is : c.fault_of.result ≡ fault.NoMemory = cc none in
    left_before (g.R.Read.remaining c.args.reader.now) (g.R.Read.remaining c.next_line.new.reader)
    c.next_line.new.room.items c.in-Err.ensures.begun (c.fault_of.ensures.memory is)
