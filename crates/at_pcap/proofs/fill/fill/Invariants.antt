use Rattle.std.proofs.Common.{◌≤◌, length, take}
use Rattle.std.specs.Io.KnownBytes.{Consumes}
use Rattle.at_pcap.proofs.fill.fill.Given as goal

-- what was read so far is the front of the buffer
abbrev pub invariant-loop : goal.invariant-loop
invariant-loop g l = record {
  bound : l.len ≤ length l.buffer;
  taken : Consumes (g.R.Read.remaining l.initial.reader) (g.R.Read.remaining l.reader) (take l.len l.buffer);
}
