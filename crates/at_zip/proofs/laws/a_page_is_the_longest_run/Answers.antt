use Rattle.at_zip.specs.Page.{page_of}
use Rattle.at_zip.proofs.RunLemmas.{is_page_from, one_page_from}
use Rattle.at_zip.proofs.laws.a_page_is_the_longest_run.Goals as goal

pub returns : goal.returns
returns c = record {
  longest = is_page_from;
  only = λ table start p is. one_page_from table start p (page_of table start) is (is_page_from table start);
}
