use Rattle.at_event.proofs.PostLemmas.{nothing_posted}
use Rattle.at_transaction_socket.proofs.SentLemmas.{answered_posts}
use Rattle.at_transaction_socket.proofs.responders.answer.Goals as goal

pub returns-clause-sent : goal.returns-clause-sent
returns-clause-sent g c =
    answered_posts c.respond.result c.args.records.now c.respond.new.self c.args.key c.args.packets.now
    c.send_from.new.self c.respond.new.out c.args.out.now.items c.args.own c.respond.ensures.ok
    c.send_from.ensures.items c.send_from.ensures.from c.send_from.ensures.kind

pub returns-clause-nothing_sent : goal.returns-clause-nothing_sent
returns-clause-nothing_sent g c =
    nothing_posted c.respond.result c.send_from.new.self c.respond.new.out c.args.out.now.items
    c.respond.ensures.nothing_sent c.send_from.ensures.items
