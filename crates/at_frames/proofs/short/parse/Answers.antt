use Rattle.std.proofs.Common.{◌≡◌, arith}
use Rattle.std.proofs.lemmas.List.{take_rest}
use Rattle.at_ddp.specs.Fault.{stated_length}
use Rattle.at_frames.proofs.ShortLemmas.{is_there}
use Rattle.at_frames.proofs.short.parse.Goals as goal

pub returns-clause-found : goal.returns-clause-found
returns-clause-found c =
    let len : c.from-len.result ≡ stated_length c.args.input.now = omega arith in
    rw (take_rest c.args.input.now c.from-len.result, len)
    (is_there c.args.to c.args.from c.args.input.now (λ i. omega (arith, c.type_inv.input i)) (omega arith)
    (omega arith)
    (omega arith) (omega arith))
