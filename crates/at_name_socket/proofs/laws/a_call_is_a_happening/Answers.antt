use Rattle.at_name_socket.proofs.StepLemmas.{claim_happens, find_happens, retry_happens}
use Rattle.at_name_socket.proofs.TableSteps.{finish_happens, register_happens, unregister_happens}
use Rattle.at_name_socket.proofs.laws.a_call_is_a_happening.Goals as goal

pub returns-clause-find : goal.returns-clause-find
returns-clause-find g c = let below = c.finds_stood_since_their_lookup_began.ensures in find_happens below.drawn

pub returns-clause-claim : goal.returns-clause-claim
returns-clause-claim g c = let below = c.finds_stood_since_their_lookup_began.ensures in claim_happens below.drawn

pub returns-clause-retry : goal.returns-clause-retry
returns-clause-retry g c = retry_happens

pub returns-clause-register : goal.returns-clause-register
returns-clause-register g c = register_happens

pub returns-clause-unregister : goal.returns-clause-unregister
returns-clause-unregister g c = unregister_happens

pub returns-clause-finish : goal.returns-clause-finish
returns-clause-finish g c = finish_happens g.row.A.Denot
