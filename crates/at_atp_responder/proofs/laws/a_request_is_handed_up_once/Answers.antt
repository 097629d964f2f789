use Rattle.at_atp_responder.proofs.OnceLemmas.{handed_up_once, not_handed_up, removed_by}
use Rattle.at_atp_responder.proofs.laws.a_request_is_handed_up_once.Goals as goal

pub returns : goal.returns
returns c = record { once = handed_up_once; standing = not_handed_up; removed = removed_by }
