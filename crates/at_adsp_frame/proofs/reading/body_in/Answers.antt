use Rattle.std.proofs.Common.{◌≡◌, ◌/◌, ◌<◌, not, subst, arith}
use Rattle.std.specs.Prelude.{◌==◌, bit_and}
use Rattle.std.proofs.lemmas.Nat.{and_mask}
use Rattle.std.proofs.lemmas.Result.{IfOk-weaker}
use Rattle.at_ddp.proofs.BitLemmas.{bit_test}
use Rattle.at_adsp_frame.proofs.SpellingLemmas.{set_bit, unset_bit}
use Rattle.at_adsp_frame.specs.Segments.{Names, part}
use Rattle.at_adsp_frame.proofs.SegmentLemmas.{control_is_spelled, data_is_spelled}
use Rattle.at_adsp_frame.proofs.reading.body_in.Goals as goal

pub returns-then-descriptor-eq0-clause-found : goal.returns-then-descriptor-eq0-clause-found
returns-then-descriptor-eq0-clause-found c =
    let byte : c.args.descriptor < 256 = omega (arith, c.ranges.descriptor) in
    let low : c.args.descriptor / 128
    ≡ 0 = omega (arith, byte, unset_bit c.args.descriptor 7 c.if-descriptor-eq0.true) in
    IfOk-weaker c.data_in.result _ _
    (λ b h. data_is_spelled c.args.descriptor c.args.rest.now (not (bit_and c.args.descriptor 32 == 0))
    (part b) byte c.requires low (bit_test c.args.descriptor 5) h.0 h.1) c.data_in.ensures.found

pub returns-else-descriptor-eq0-clause-found : goal.returns-else-descriptor-eq0-clause-found
returns-else-descriptor-eq0-clause-found c =
    let byte : c.args.descriptor < 256 = omega (arith, c.ranges.descriptor) in
    let high : c.args.descriptor / 128
    ≡ 1 = omega (arith, byte, set_bit c.args.descriptor 7 c.if-descriptor-eq0.false) in
    IfOk-weaker c.control_in.result _ _
    (λ b h. control_is_spelled c.args.descriptor c.args.rest.now (part b) byte c.requires high
    (subst (λ n. Names n c.args.rest.now (part b)) (and_mask c.args.descriptor 4) h)) c.control_in.ensures.found
