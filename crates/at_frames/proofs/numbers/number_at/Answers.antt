use Rattle.at_ddp.proofs.Octets.{number_in}
use Rattle.at_frames.proofs.numbers.number_at.Goals as goal

pub returns : goal.returns
returns c = number_in c.args.place c.args.bytes.now c.read_u16.result c.read_u16.ensures
