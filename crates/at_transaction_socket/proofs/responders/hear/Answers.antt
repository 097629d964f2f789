use Rattle.at_transaction_socket.proofs.SentLemmas.{taken_posts}
use Rattle.at_transaction_socket.proofs.responders.hear.Goals as goal

pub returns-clause-sent : goal.returns-clause-sent
returns-clause-sent g c =
    taken_posts c.receive.result _ c.receive.new.self c.send_from.new.self c.receive.new.out c.args.out.now.items
    c.args.own c.receive.ensures.ok c.send_from.ensures.items c.send_from.ensures.from c.send_from.ensures.kind
