use Rattle.std.proofs.Common.{◌≡◌, false, length, refl}
use Rattle.std.specs.Prelude.{nat_lt}
use Rattle.std.proofs.lemmas.Bool.{le-ltb}
use Rattle.std.proofs.lemmas.List.{take_rest}
use Rattle.at_frames.specs.Cooked.{in_cooked_2}
use Rattle.at_frames.proofs.cooked.in_cooked_2.Goals as goal

pub returns : goal.returns
unfolding in_cooked_2
returns c =
    let frame = c.args.frame.now in
    let there : nat_lt (length frame) 20 ≡ false = le-ltb (length frame) 20 c.if-frame-lt-HEADER_2_LEN.false in
    rw (
      c.by_protocol.ensures,
      there,
      c.sender-from.ensures,
      c.from.ensures,
      c.number_at.ensures,
      take_rest frame 20,
    ) refl
