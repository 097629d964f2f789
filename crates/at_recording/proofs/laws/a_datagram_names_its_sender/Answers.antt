use Rattle.std.proofs.Common.{refl}
use Rattle.at_ddp.specs.Datagram.{spelling}
use Rattle.at_recording.proofs.laws.a_datagram_names_its_sender.Goals as goal

pub returns : goal.returns
unfolding spelling
returns c = λ to from kind bytes. refl
