use Rattle.at_atp_responder.proofs.EightLemmas.{reply_few, taken_few}
use Rattle.at_atp_responder.proofs.laws.at_most_eight_packets_are_sent.Goals as goal

pub returns : goal.returns
returns c = record { came = taken_few; replied = reply_few }
