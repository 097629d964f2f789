use Rattle.at_nbp.proofs.AskedHistories.{all_asked}
use Rattle.at_nbp.proofs.RangeHistories.{all_lawful, all_named}
use Rattle.at_nbp.proofs.laws.what_is_sent_is_lawful.Goals as goal

pub returns : goal.returns
returns c = record { lawful = all_lawful; asked = all_asked; named = all_named }
