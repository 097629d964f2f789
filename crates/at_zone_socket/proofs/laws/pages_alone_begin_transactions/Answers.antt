use Rattle.at_zone_socket.proofs.BeginLemmas.{only_a_page, page_begins, reports_own}
use Rattle.at_zone_socket.proofs.laws.pages_alone_begin_transactions.Goals as goal

pub returns-clause-begins : goal.returns-clause-begins
returns-clause-begins g c said s a d tid = page_begins g.row.A.Denot said s a d tid

pub returns-clause-only : goal.returns-clause-only
returns-clause-only g c said s a d o tid = only_a_page g.row.A.Denot said s a d o tid

pub returns-clause-own : goal.returns-clause-own
returns-clause-own g c said s a d o = reports_own g.row.A.Denot said s a d o
