use Rattle.at_node.proofs.SentHeard.{DatagramLaws, carries}
use Rattle.at_node.proofs.laws.what_is_sent_carries_its_number.Goals as goal

pub returns : goal.returns
returns c =
    let read = c.what_is_written_is_read.ensures in
    let laws : DatagramLaws =
    record {
      reads = read.read;
      alone = read.alone;
      faultless = read.faultless;
      fits = c.what_is_written_fits.ensures;
    } in
    λ to from f to_fits from_fits ok. carries to from f laws c.what_is_written_is_read-2.ensures.read to_fits from_fits
    ok
