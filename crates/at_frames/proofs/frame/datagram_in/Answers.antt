use Rattle.at_frames.proofs.FrameLemmas.{found_there, only_that}
use Rattle.at_frames.proofs.frame.datagram_in.Goals as goal

pub returns-clause-found : goal.returns-clause-found
returns-clause-found c = found_there c.args.link_type c.args.frame.now c.by_link.result c.by_link.ensures

pub returns-clause-only : goal.returns-clause-only
returns-clause-only c = only_that c.args.link_type c.args.frame.now c.by_link.result c.by_link.ensures
