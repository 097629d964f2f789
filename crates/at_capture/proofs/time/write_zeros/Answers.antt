use Rattle.std.proofs.Common.{◌≡◌, replicate, subst, arith, [], ◌∷◌}
use Rattle.std.proofs.lemmas.List.{replicate_more}
use Rattle.at_print.specs.Printers.{Prints}
use Rattle.at_print.proofs.PrintLemmas.{Prints-nothing, Prints-trans}
use Rattle.at_capture.proofs.time.write_zeros.Goals as goal

pub loop-place-init : goal.loop-place-init
loop-place-init g c = Prints-nothing g.W.Paper.page c.args.printer.now

pub loop-place-preserved : goal.loop-place-preserved
loop-place-preserved g c =
    let page = g.W.Paper.page in
    let count = c.loop-place._place in
    subst (Prints page c.args.printer.now c.write_all.new.self) (replicate_more count 48)
    (Prints-trans page c.args.printer.now c.loop-place.printer c.write_all.new.self (replicate count 48) (48 ∷ [])
    c.loop-place.invariant c.write_all.ensures)

pub returns : goal.returns
returns g c =
    let all : c.loop-place._place ≡ c.args.count = omega arith in
    subst (λ n. Prints g.W.Paper.page c.args.printer.now c.loop-place.printer (replicate n 48)) all
    c.loop-place.invariant
