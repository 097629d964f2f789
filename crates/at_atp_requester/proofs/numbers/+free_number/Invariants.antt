use Rattle.at_atp_requester.proofs.numbers.+free_number.Given as goal

abbrev pub decreases-free_number : goal.decreases-free_number
decreases-free_number g l = l.tries
