-- A packet of an answer as it arrives.
use Rattle.at_atp_requester.specs.Answers.{AnswerPart}
use Rattle.at_atp_requester.specs.declared.transaction.Arriving.{Arriving}

abbrev pub arrival_of : Arriving → AnswerPart
arrival_of a = record { eom = a.eom; packet = record { user = a.user; data_ = a.bytes.now } }
