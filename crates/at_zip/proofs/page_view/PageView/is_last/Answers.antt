use Rattle.std.proofs.Common.{rules}
use Rattle.at_zip.proofs.page_view.PageView.is_last.Goals as goal

pub returns : goal.returns
returns c = search rules
