use Rattle.std.proofs.Common.{rules}
use Rattle.at_zip.proofs.page_view.PageView.count.Goals as goal

pub returns-clause-count : goal.returns-clause-count
returns-clause-count c = search rules
