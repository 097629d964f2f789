use Rattle.std.proofs.Common.{◌≡◌, ◌+◌, ◌*◌, get_or, sym, ap, subst, refl, ◌∙◌, arith}
use Rattle.at_ddp.proofs.Octets.{InBytes, number_in}
use Rattle.at_adsp_frame.specs.Openings.{SpellsOpening, read_dest}
use Rattle.at_adsp_frame.proofs.SegmentLemmas.{opening_is_spelled}
use Rattle.at_adsp_frame.proofs.reading.opening_in.Goals as goal

pub returns-clause-found : goal.returns-clause-found
returns-clause-found c =
    let are_bytes : InBytes c.args.fields.now = λ i. omega (arith, c.type_inv.fields i) in
    let field : c.read_u16-2.result ≡ 256 * get_or c.args.fields.now 2 0 + get_or c.args.fields.now 3 0 =
    number_in 2 c.args.fields.now c.read_u16-2.result c.read_u16-2.ensures in
    let version : 256 * get_or c.args.fields.now 0 0 + get_or c.args.fields.now 1 0
    ≡ 256 = omega (arith, c.read_u16.ensures, c.if-read_u16-ne-VERSION.false) in
    let long = c.if-fields-lt-OPENING_LEN.false in
    let spelled = opening_is_spelled c.args.fields.now are_bytes long version c.args.kind in (
      c.read_dest.result,
      refl,
      subst (SpellsOpening c.args.fields.now c.args.kind)
          (ap (read_dest c.args.kind) (sym field) ∙ sym c.read_dest.ensures) spelled,
    )
