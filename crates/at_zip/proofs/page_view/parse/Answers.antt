use Rattle.std.proofs.Common.{◌≡◌, ◌<◌, ℕ, false, not, nat_eq, arith}
use Rattle.std.proofs.lemmas.Bool.Decides.{nat_tests}
use Rattle.at_ddp.proofs.Octets.{number_in}
use Rattle.at_zip.specs.Fault.{flag_of}
use Rattle.at_zip.proofs.PageLemmas.{is_front, is_spelled}
use Rattle.at_zip.proofs.page_view.parse.Goals as goal
use Rattle.at_zip.proofs.page_view.parse.Goals.{else-not-last-via-then-not-last+else-count-eq0}
use Rattle.at_zip.proofs.page_view.parse.Goals.{else-not-last-via-else-not-last}

-- a flag that is not 0 says that the page is the last
is_last : (flag count : ℕ) → ¬ (flag ≡ 0) → not (nat_eq flag 0) ≡ false → 0 < count
is_last flag count some not_last = absurd (grind (arith, nat_tests))

pub invariant_of-result : goal.invariant_of-result
invariant_of-result c =
    let found = c.in_ok-check_names.ensures.found in
    let flag : ℕ = flag_of c.args.user.now in
    let count : ℕ = c.read_u16-count.result in
    let some : not (nat_eq flag 0) ≡ false → 0 < count = λ not_last. elim c.else-not-last.branch [
      | else-not-last-via-then-not-last+else-count-eq0 w ↦ omega arith
      | else-not-last-via-else-not-last w ↦ is_last flag count w.if-not-last.false not_last
    ] in
    is_front (not (nat_eq flag 0)) count c.args.bytes.now found.0 found.1 (omega arith) some

pub returns-clause-found : goal.returns-clause-found
returns-clause-found c =
    is_spelled c.args.user.now c.args.bytes.now c.read_u16-count.result c.requires
    (λ i. omega (arith, c.type_inv.user i))
    (number_in 2 c.args.user.now c.read_u16-count.result c.read_u16-count.ensures) (invariant_of-result c)
