use Rattle.std.proofs.Common.{rules}
use Rattle.at_atp_requester.proofs.requester.Requester.new.Goals as goal

pub returns : goal.returns
returns g c = search rules
