use Rattle.at_ddp.proofs.Spellings.{the_protocol_is_read_as_written}
use Rattle.at_ddp.proofs.laws.the_protocol_is_read_as_written.Goals as goal

pub returns : goal.returns
returns c = the_protocol_is_read_as_written
