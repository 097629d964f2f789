use Rattle.std.proofs.Common.{◌≡◌, get_or, sym, subst, arith}
use Rattle.std.specs.Prelude.{◌==◌, bit_and}
use Rattle.std.proofs.Common.{not}
use Rattle.std.proofs.lemmas.List.{take_rest}
use Rattle.std.proofs.lemmas.Result.{err_from_is_err_and}
use Rattle.at_ddp.proofs.Octets.{InBytes, number_in}
use Rattle.at_ddp.proofs.BitLemmas.{bit_test}
use Rattle.at_adsp_frame.proofs.SpellingLemmas.{long_in, set_bit, unset_bit}
use Rattle.at_adsp_frame.specs.Fault.{IsPartFault}
use Rattle.at_adsp_frame.specs.Reading.{bits_beside_ack}
use Rattle.at_adsp_frame.specs.Segments.{Spells, SpellsPart, part}
use Rattle.at_adsp_frame.proofs.SegmentLemmas.{first_fault, long_at, number_at, segment_is_spelled}
use Rattle.at_adsp_frame.proofs.reading.parse.Goals as goal

pub returns-then-descriptor-ne0-clause-fault : goal.returns-then-descriptor-ne0-clause-fault
returns-then-descriptor-ne0-clause-fault c =
    (c.if-input-lt-HEADER_LEN.false, set_bit (get_or c.args.input.now 12 0) 4 c.if-descriptor-ne0.true)

pub body_in-requires : goal.body_in-requires
body_in-requires c = unset_bit (get_or c.args.input.now 12 0) 4 c.if-descriptor-ne0.false

pub returns-in_err-body-clause-fault : goal.returns-in_err-body-clause-fault
returns-in_err-body-clause-fault c =
    let p = err_from_is_err_and c.from_residual.result c.from_residual.ensures.1 in
    let stands = subst (IsPartFault c.in_err-body.field-0.0 (get_or c.args.input.now 12 0))
    (take_rest c.args.input.now 13) c.in_err-body.ensures.fault in
    let first = first_fault c.in_err-body.field-0.0 c.args.input.now c.if-input-lt-HEADER_LEN.false
    (unset_bit (get_or c.args.input.now 12 0) 4 c.if-descriptor-ne0.false) stands in
    rw (p.1, p.2) first

pub returns-clause-found : goal.returns-clause-found
returns-clause-found c =
    let input = c.args.input.now in
    let are_bytes : InBytes c.args.input.now = λ i. omega (arith, c.type_inv.input i) in
    let source : c.read_u16.result ≡ number_at c.args.input.now 0 = omega (arith, c.read_u16.ensures) in
    let first : c.read_u32.result
    ≡ long_at c.args.input.now 2 = long_in 2 c.args.input.now c.read_u32.result c.read_u32.ensures in
    let next : c.read_u32-2.result
    ≡ long_at c.args.input.now 6 = long_in 6 c.args.input.now c.read_u32-2.result c.read_u32-2.ensures in
    let window : c.read_u16-2.result
    ≡ number_at c.args.input.now 10 = number_in 10 c.args.input.now c.read_u16-2.result c.read_u16-2.ensures in
    let says = subst (λ l. SpellsPart (bits_beside_ack (get_or c.args.input.now 12 0)) l (part c.in_ok-body.body))
    (take_rest c.args.input.now 13) c.in_ok-body.ensures.found in
    let ack = not (bit_and (get_or c.args.input.now 12 0) 64 == 0) in
    let spelled = segment_is_spelled c.args.input.now (part c.in_ok-body.body)
    (not (bit_and (get_or c.args.input.now 12 0) 64 == 0)) are_bytes c.if-input-lt-HEADER_LEN.false
    (bit_test (get_or c.args.input.now 12 0) 6) says in
    subst (Spells c.args.input.now)
    (λ i. record {
      source = sym source i;
      first = sym first i;
      next = sym next i;
      window = sym window i;
      ack = not (bit_and (get_or c.args.input.now 12 0) 64 == 0);
      body = part c.in_ok-body.body;
    })
    spelled
