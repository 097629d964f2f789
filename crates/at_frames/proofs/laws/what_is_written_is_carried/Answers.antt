use Rattle.at_frames.proofs.EtherTalkLemmas.{written_is_carried}
use Rattle.at_frames.proofs.laws.what_is_written_is_carried.Goals as goal

pub returns : goal.returns
returns c = written_is_carried
