use Rattle.at_stream_socket.proofs.MakingLemmas.{request_makes, who_makes}
use Rattle.at_stream_socket.proofs.laws.requests_alone_make_ends.Goals as goal

pub returns : goal.returns
returns c t from s id = (who_makes t from s id, request_makes t from s id)
