use Rattle.at_frames.proofs.FrameLemmas.{one_load}
use Rattle.at_frames.proofs.laws.a_frame_carries_one_datagram.Goals as goal

pub returns : goal.returns
returns c = one_load
