use Rattle.at_frames.proofs.PlaceLemmas.{lies_in}
use Rattle.at_frames.proofs.laws.a_datagram_lies_in_its_frame.Goals as goal

pub returns : goal.returns
returns c = lies_in
