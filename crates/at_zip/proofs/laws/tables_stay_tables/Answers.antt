use Rattle.at_zip.proofs.TableLemmas.{stay_tables}
use Rattle.at_zip.proofs.laws.tables_stay_tables.Goals as goal

pub returns : goal.returns
returns c = stay_tables
