use Rattle.at_zip.proofs.ZoneLemmas.{is_a_name, is_a_table}
use Rattle.at_zip.proofs.laws.names_without_a_fault_are_a_table.Goals as goal

pub returns : goal.returns
returns c = record { name = is_a_name; table = is_a_table }
