use Rattle.std.proofs.Common.{length, ℕ, ap, arith}
use Rattle.at_zip.proofs.SpelledLemmas.{next_fits}
use Rattle.at_zip.proofs.paging.spelled_names.Goals as goal

pub push_name-requires-clause-room : goal.push_name-requires-clause-room
push_name-requires-clause-room g c =
    let next = next_fits c.args.names.now c.loop-name.name-index c.name-item.result c.loop-name-test.true
    c.name-item.is in
    omega (
      arith,
      next,
      c.requires,
      ap (length {A = ℕ}) c.loop-name.invariant.0,
      ap
          (length {A = ℕ}) c.bytes.ensures.value,
    )
