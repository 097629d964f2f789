use Rattle.at_ddp.proofs.Spellings.{no_spelling_begins_another}
use Rattle.at_ddp.proofs.laws.no_spelling_begins_another.Goals as goal

pub returns : goal.returns
returns c = no_spelling_begins_another
