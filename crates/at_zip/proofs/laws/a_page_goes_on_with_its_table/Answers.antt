use Rattle.at_zip.proofs.ReadingLemmas.{goes_on, is_whole, has_more}
use Rattle.at_zip.proofs.laws.a_page_goes_on_with_its_table.Goals as goal

pub returns : goal.returns
returns c = record { begins = goes_on; whole = is_whole; more = has_more }
