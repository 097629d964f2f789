use Rattle.at_zip.proofs.RunLemmas.{page_is_lawful}
use Rattle.at_zip.proofs.laws.what_is_written_is_read.Goals as goal

pub returns-clause-lawful : goal.returns-clause-lawful
returns-clause-lawful c = page_is_lawful
