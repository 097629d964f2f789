use Rattle.at_zip.proofs.PageLemmas.{one_page, no_fault}
use Rattle.at_zip.proofs.laws.one_page_a_spelling.Goals as goal

pub returns-clause-page : goal.returns-clause-page
returns-clause-page c = one_page

pub returns-clause-faultless : goal.returns-clause-faultless
returns-clause-faultless c = λ user bytes p s fault. no_fault user bytes p s fault
