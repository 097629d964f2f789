use Rattle.std.proofs.Common.{◌≡◌, ◌-◌, List, ℕ, nat_eq, length, drop, ap, ◌∙◌, arith}
use Rattle.std.specs.Prelude.{min}
use Rattle.at_zip.specs.Names.{spelled}
use Rattle.at_zip.specs.Page.{page_of}
use Rattle.at_zip.proofs.PageLemmas.{user_is}
use Rattle.at_zip.proofs.RunLemmas.{run_fits, is_page_run}
use Rattle.at_zip.proofs.SpelledLemmas.{count_le_spelled}
use Rattle.at_zip.proofs.paging.page.Given.{Over}
use Rattle.at_zip.proofs.paging.page.Goals as goal

pub spelled_names-requires : goal.spelled_names-requires
spelled_names-requires g c =
    omega (
      arith,
      run_fits 578 c.split_at.result.1.now,
      ap
          (λ (l : List (List ℕ)). length (spelled l)) c.run_of-run.ensures,
    )

pub overflow_cast-run : goal.overflow_cast-run
overflow_cast-run g c =
    omega (
      arith,
      run_fits 578 c.split_at.result.1.now,
      ap
          (λ (l : List (List ℕ)). length (spelled l)) c.run_of-run.ensures,
      count_le_spelled c.run_of-run.result.now,
    )

-- the run is the page's, and reaches the end of the table if the page is the last
is_run : (g : Over) (c : goal.After-from_vec g)
    → (c.run_of-run.result.now ≡ (page_of c.args.zones.now c.args.start).names)
    × (nat_eq (length c.run_of-run.result.now) (length c.split_at.result.1.now)
    ≡ (page_of c.args.zones.now c.args.start).last)
is_run g c =
    let left : c.split_at.result.1.now ≡ drop (min (c.args.start - 1) (length c.args.zones.now)) c.args.zones.now =
    c.split_at.ensures.back ∙ (λ i. drop (c.min-passed.ensures i) c.names-names.result.now)
    ∙ (λ i. drop (min (c.from.ensures i - 1) (length (c.names-names.ensures.value i))) (c.names-names.ensures.value i))
    in
    is_page_run c.args.zones.now c.split_at.result.1.now c.run_of-run.result.now c.args.start left c.run_of-run.ensures

pub returns-clause-user : goal.returns-clause-user
returns-clause-user g c =
    let is = is_run g c in rw (c.from-2.ensures, c.to_be_bytes.ensures)
    (user_is c.run_of-run.result.now c.split_at.result.1.now (page_of c.args.zones.now c.args.start) is.0 is.1)

pub returns-clause-names : goal.returns-clause-names
returns-clause-names g c = let is = is_run g c in c.from_vec.ensures ∙ c.in_ok-bytes.ensures.ok ∙ ap spelled is.0

pub returns-clause-fits : goal.returns-clause-fits
returns-clause-fits g c =
    omega (
      arith,
      ap (length {A = ℕ}) (c.from_vec.ensures ∙ c.in_ok-bytes.ensures.ok),
      run_fits 578
          c.split_at.result.1.now,
      ap (λ (l : List (List ℕ)). length (spelled l)) c.run_of-run.ensures,
    )
