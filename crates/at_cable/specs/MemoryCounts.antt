-- Laws of the cable in memory: it counts each call that fails, and no other.
use Rattle.std.proofs.Common.{◌≡◌, ℕ, ◌<◌, false, List, Option, Ok, Err, ap, arith}
use Rattle.std.specs.Prelude.{Result}
use Rattle.std.proofs.lemmas.Bool.Decides.{nat_tests}
use Rattle.at_cable.specs.Calls.{IsCounted, last_count}
use Rattle.at_cable.specs.Memory.{MemoryState, Sends, Receives, fails}
use Rattle.at_cable.specs.declared.fault.CableFault.{CableFault}

below_the_end : (m : MemoryState) → fails m ≡ false → m.failed < last_count
below_the_end m h = grind (arith, nat_tests)

pub send_counts : (m : MemoryState) (from to : ℕ) (bytes : List ℕ) (answer : Result (Unit {0}) CableFault)
    (m' : MemoryState) → Sends m from to bytes answer m' → IsCounted m.failed answer m'.failed
send_counts m from to bytes (Ok u) m' h = (ap (λ (s : MemoryState). s.failed) h.1, below_the_end m h.0)
send_counts m from to bytes (Err f) m' h = ap (λ (s : MemoryState). s.failed) h

pub receive_counts : (m : MemoryState) (node room : ℕ) (answer : Result (Option (List ℕ)) CableFault)
    (m' : MemoryState) → Receives m node room answer m' → IsCounted m.failed answer m'.failed
receive_counts m node room (Ok came) m' h = (ap (λ (s : MemoryState). s.failed) h.2, below_the_end m h.0)
receive_counts m node room (Err f) m' h = ap (λ (s : MemoryState). s.failed) h.1
