use Rattle.at_name_socket.proofs.StepLemmas.{new_lawful}
use Rattle.at_name_socket.proofs.laws.a_new_socket_is_lawful.Goals as goal

pub returns : goal.returns
returns c = new_lawful
