use Rattle.at_nbp.proofs.NumberLemmas.{is_registered, registered_is}
use Rattle.at_nbp.proofs.laws.a_table_with_one_name_more_is_computed.Goals as goal

pub returns : goal.returns
returns c = record { least = is_registered; computed = registered_is }
