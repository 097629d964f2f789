use Rattle.at_zone_socket.proofs.PageLemmas.{asked_is_served, taken_as_written}
use Rattle.at_zone_socket.proofs.laws.pages_are_served_and_taken.Goals as goal

pub returns-clause-served : goal.returns-clause-served
returns-clause-served g c s a from tables which mask xo timer tid start bytes o some fits h =
    asked_is_served g.row.A.Denot s a from tables which mask xo timer tid start bytes o
    c.what_is_written_is_read.ensures.request c.one_page_a_spelling.ensures.request some fits h

pub returns-clause-received : goal.returns-clause-received
returns-clause-received g c s a h from names p o ok read =
    taken_as_written g.row.A.Denot s a h from names p o c.what_is_written_is_read.ensures.page
    c.one_page_a_spelling.ensures.page c.one_page_a_spelling.ensures.faultless ok read
