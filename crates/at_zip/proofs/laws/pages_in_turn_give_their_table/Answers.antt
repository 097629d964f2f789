use Rattle.at_zip.proofs.ReadingLemmas.{turns_give_all, turns_end}
use Rattle.at_zip.proofs.laws.pages_in_turn_give_their_table.Goals as goal

pub returns : goal.returns
returns c = record { whole = turns_give_all; ends = turns_end }
