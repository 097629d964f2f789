use Rattle.at_atp_requester.specs.Requests.{is_numbered}
use Rattle.at_atp_requester.specs.Standing.{tid_of}
use Rattle.at_atp_requester.proofs.StandingLemmas.{finds_number}
use Rattle.at_atp_requester.proofs.standing.index_numbered.Goals as goal

pub returns-clause-first : goal.returns-clause-first
returns-clause-first g c = c.index_of.ensures.keyed tid_of (is_numbered c.args.tid) c.requires (finds_number c.args.tid)
