use Rattle.at_nbp.proofs.ByteLemmas.{spelling_bytes}
use Rattle.at_nbp.proofs.PacketLemmas.{is_written}
use Rattle.at_nbp.proofs.laws.what_is_written_is_read.Goals as goal

pub returns : goal.returns
returns c = record { bytes = spelling_bytes; read = is_written }
