use Rattle.std.proofs.Common.{◌≡◌, ◌<◌, ◌⊎◌, inl, inr, ◌∙◌, arith, ◌/◌, ◌%◌}
use Rattle.std.specs.Prelude.{slice_index, slice_range}
use Rattle.std.proofs.lemmas.List.{take_rest}
use Rattle.at_ddp.specs.Sum.{sum_of}
use Rattle.at_ddp.specs.Fault.{number_at}
use Rattle.at_ddp.proofs.Octets.{number_in}
use Rattle.at_ddp.proofs.Readings.{is_spelled}
use Rattle.at_ddp.proofs.datagram.parse.Goals as goal
use Rattle.at_ddp.proofs.datagram.parse.Goals.{else-sum-ne0-via-then-sum-ne0+else-sum-rotating_sum}
use Rattle.at_ddp.proofs.datagram.parse.Goals.{else-sum-ne0-via-else-sum-ne0}

pub returns-clause-found : goal.returns-clause-found
returns-clause-found c =
    let bytes = c.args.input.now in
    let is = c.in_ok-len.ensures.len in
    let low = c.in_ok-len.ensures.in_range.0 in
    let high = c.in_ok-len.ensures.in_range.1 in
    let whole = c.in_ok-len.ensures.whole in
    let first : slice_index bytes 0 < 256 = omega (arith, c.type_inv.input 0) in
    let second : slice_index bytes 1 < 256 = omega (arith, c.type_inv.input 1) in
    let hops : slice_index bytes 0 / 4 % 16 ≡ number_at 0 bytes / 1024 % 16 = omega (arith, first, second) in
    let sum : c.read_u16-sum.result
    ≡ number_at 2 bytes = number_in 2 bytes c.read_u16-sum.result c.read_u16-sum.ensures in
    let to_net : c.read_u16.result ≡ number_at 4 bytes = number_in 4 bytes c.read_u16.result c.read_u16.ensures in
    let from_net : c.read_u16-2.result
    ≡ number_at 6 bytes = number_in 6 bytes c.read_u16-2.result c.read_u16-2.ensures in
    let summed : (c.read_u16-sum.result ≡ 0) ⊎ (c.read_u16-sum.result
    ≡ sum_of (slice_range bytes 4 c.in_ok-len.len)) =
    elim c.else-sum-ne0.branch [
      | else-sum-ne0-via-then-sum-ne0+else-sum-rotating_sum w ↦ inr
          (w.if-sum-rotating_sum.false ∙ w.rotating_sum.ensures)
      | else-sum-ne0-via-else-sum-ne0 w ↦ inl (omega arith)
    ] in
    rw (take_rest bytes c.in_ok-len.len, hops, sum, to_net, from_net, is)
    (is_spelled bytes (λ i. omega (arith, c.type_inv.input i)) (omega (arith, low, whole))
    (omega (arith, is, low)) (omega (arith, is, high)) (omega (arith, is, whole)) (rw (is, sum) at summed))
