use Rattle.std.proofs.Common.{◌≡◌, ◌/◌, ◌%◌, get_or, refl}
use Rattle.std.specs.Prelude.{◌==◌, not, bit_and}
use Rattle.std.proofs.lemmas.List.{take_rest}
use Rattle.std.proofs.lemmas.Nat.{and_mask}
use Rattle.at_ddp.proofs.Octets.{number_in}
use Rattle.at_ddp.proofs.BitLemmas.{bit_test}
use Rattle.at_atp_frame.specs.Reading.{tid_in}
use Rattle.at_atp_frame.proofs.frame.request_in.Goals as goal

pub returns : goal.returns
returns c =
    let control = get_or c.args.input.now 0 0 in
    let tid : c.read_u16.result
    ≡ tid_in c.args.input.now = number_in 2 c.args.input.now c.read_u16.result c.read_u16.ensures in
    let xo : not (bit_and control 32 == 0) ≡ (control / 32 % 2 == 1) = bit_test control 5 in
    let timer : bit_and control 7 ≡ control % 8 = and_mask control 3 in
    rw (c.timer_of.ensures, tid, c.user_in.ensures, xo, timer, take_rest) refl
