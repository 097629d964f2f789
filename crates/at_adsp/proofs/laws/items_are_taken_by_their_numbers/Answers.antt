use Rattle.at_adsp.proofs.TakenItems.{none_beyond, taken_by_number}
use Rattle.at_adsp.proofs.laws.items_are_taken_by_their_numbers.Goals as goal

pub returns-clause-taken : goal.returns-clause-taken
returns-clause-taken c = taken_by_number

pub returns-clause-beyond : goal.returns-clause-beyond
returns-clause-beyond c = none_beyond
