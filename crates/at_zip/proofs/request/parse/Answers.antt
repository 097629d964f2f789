use Rattle.std.proofs.Common.{◌≡◌, ap, get_or, sym, ◌∙◌, arith}
use Rattle.at_ddp.proofs.Octets.{number_in}
use Rattle.at_zip.specs.Request.{RequestSpells, code_of}
use Rattle.at_zip.proofs.RequestLemmas.{is_request}
use Rattle.at_zip.proofs.request.parse.Goals as goal
use Rattle.at_zip.proofs.request.parse.Goals.{in-8, in-9}

pub returns-clause-found : goal.returns-clause-found
returns-clause-found c =
    let spells : get_or c.args.user.now 0 0 ≡ code_of c.match-user.which
    → RequestSpells c.args.user.now c.match-user.which c.read_u16-start.result = λ code.
    is_request c.args.user.now c.match-user.which c.read_u16-start.result c.requires code
    (λ i. omega (arith, c.type_inv.user i))
    (number_in 2 c.args.user.now c.read_u16-start.result c.read_u16-start.ensures) (omega arith) in
    elim c.match-user.branch [
      | in-8 w ↦ spells (w.in-8.is ∙ ap code_of (sym w.which-is))
      | in-9 w ↦ spells (w.in-9.is ∙ ap code_of (sym w.which-is))
    ]
