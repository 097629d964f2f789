use Rattle.std.proofs.Common.{◌*◌, ◌+◌, length, rules, arith}
use Rattle.std.proofs.lemmas.List.{length-append}
use Rattle.at_ddp.specs.Sending.{bytes_in}
use Rattle.at_ddp.proofs.outbox.Outbox.push_parts.Goals as goal

pub returns-clause-ok : goal.returns-clause-ok
returns-clause-ok g c = search rules

pub returns-clause-room : goal.returns-clause-room
returns-clause-room g c n size h few = c.post.ensures.room n (n * (13 + size))
    (record { places = h.places; bytes = omega (arith, h.bytes, few) })

pub returns-clause-rest : goal.returns-clause-rest
returns-clause-rest g c rest h = c.post.ensures.room (length rest) (length rest * 13 + bytes_in rest)
    (record {
      places = omega (arith, h.places);
      bytes = omega (arith, h.bytes, length-append c.args.front.now c.args.back.now);
    })
