use Rattle.at_zip.proofs.RunLemmas.{page_is_whole}
use Rattle.at_zip.proofs.laws.a_small_table_is_one_page.Goals as goal

pub returns : goal.returns
returns c = page_is_whole
