use Rattle.std.proofs.Common.{rules}
use Rattle.at_zip.proofs.request.request_user.Goals as goal

pub returns : goal.returns
returns c = search rules
