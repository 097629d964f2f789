use Rattle.at_atp_requester.proofs.laws.a_transaction_ends_by_its_whole_response.Goals as goal
use Rattle.at_atp_requester.proofs.OneTransaction.{wants_alike, ends_whole}

pub returns : goal.returns
returns g c = record { wants = wants_alike g.row.A.Denot; ends = ends_whole g.row.A.Denot }
