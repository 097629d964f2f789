use Rattle.std.proofs.Common.{◌≡◌, ◌%◌}
use Rattle.at_pcap.proofs.OptionSequence.{HasOptions}
use Rattle.at_pcap.proofs.options.read_options.Given as goal

-- some options were read, and what is left of them says all that is left to say
abbrev pub invariant-loop-left : goal.invariant-loop-left
invariant-loop-left g l = record {
  even : l.left % 4 ≡ 0;
  has : HasOptions l.fn.count l.fn.order (g.R.Read.remaining l.fn.reader) (g.R.Read.remaining l.reader) l.left
      l.resolution;
}

abbrev pub decreases-loop-left : goal.decreases-loop-left
decreases-loop-left g l = l.left
