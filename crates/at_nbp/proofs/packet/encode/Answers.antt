use Rattle.std.proofs.Common.{map, length, sym, arith}
use Rattle.std.proofs.lemmas.List.{length-map}
use Rattle.at_nbp.specs.Tuples.{content}
use Rattle.at_nbp.proofs.PacketLemmas.{length_spelling, is_spelling}
use Rattle.at_nbp.proofs.packet.encode.Goals as goal

pub returns-in_err-reserve-clause-room : goal.returns-in_err-reserve-clause-room
returns-in_err-reserve-clause-room g c =
    λ none.
    omega (
      arith,
      length_spelling
          (record { function = c.args.function; id = c.args.id; tuples = map content c.args.tuples.now }),
      c.in_err-reserve.ensures.full,
      c.in-Some.ensures.len,
    )

pub returns-clause-ok : goal.returns-clause-ok
returns-clause-ok g c =
    let first = rw c.unwrap.ensures at c.push.ensures.items in
    let second = rw c.unwrap-2.ensures at c.push-2.ensures.items in
    let header = rw (c.reserve.ensures.items, c.code.ensures) at first in
    is_spelling c.args.out.now.items c.push.new.self.items c.push-2.new.self.items c.push_tuples.new.out.items
    c.args.function (length c.args.tuples.now) c.args.id
    (map content c.args.tuples.now) header second c.push_tuples.ensures.items
    (sym (length-map c.args.tuples.now content))
