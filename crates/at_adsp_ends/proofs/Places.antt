-- The table of ends as its fields have it, and the end that a search of the code finds there.
use Rattle.std.proofs.Common.{◌≡◌, ℕ, Bool, true, List, Option, Some, None, slice_get, sym, ap, ◌∙◌}
use Rattle.std.specs.Prelude.{find}
use Rattle.std.specs.List.{position_from}
use Rattle.std.proofs.lemmas.Bool.{eqb-true}
use Rattle.std.proofs.lemmas.Option.{get_or_from_slice_get, slice_get_within}
use Rattle.at_ddp.proofs.Alls.{found_passes}
use Rattle.at_ddp.proofs.FoundLemmas.{entry_is}
use Rattle.at_ddp.proofs.TableLemmas.{found, not_found}
use Rattle.at_adsp_end.specs.Ends.{EndState}
use Rattle.at_adsp_end.specs.declared.rooms.Rooms.{Rooms}
use Rattle.at_adsp_ends.specs.Tables.{AreEnds, EndTable, has_id}
use Rattle.at_adsp_ends.proofs.DistinctLemmas.{Stands}

-- a table of ends, of its parts
abbrev pub table : Bool → ℕ → Rooms → List EndState → EndTable
table listening next rooms ends = record { listening = listening; next = next; rooms = rooms; ends = ends }

-- of a lawful table, this end is the first that passes, and stands at this place
pub record At (p : EndState → Bool) (t : EndTable) (i : ℕ) (e : EndState) : Type 0 where
  pub laws : AreEnds t
  pub passes : p e ≡ true
  pub first : find p t.ends ≡ Some e
  pub stands : Stands t.ends i e

pub stands_at : {ends : List EndState} {i : ℕ} {e : EndState} → slice_get ends i ≡ Some e → Stands ends i e
stands_at {ends} {i} {e} at =
    record { within = slice_get_within ends i e at; at = λ d. get_or_from_slice_get ends i e d at }

-- what a search found, as the code reads it in its place
pub first_at : (p : EndState → Bool) (ends : List EndState) {i : ℕ} {e : EndState} {r : Option ℕ}
    → r ≡ position_from p 0 ends → r ≡ Some i → slice_get ends i ≡ Some e → find p ends ≡ Some e
first_at p ends {i} {e} is some at =
    let f = found p ends i (sym is ∙ some) in
    f.first ∙ ap (λ (x : EndState). Some x) (sym (entry_is f e at))

pub end_at : (p : EndState → Bool) {t : EndTable} {i : ℕ} {e : EndState} {r : Option ℕ} → AreEnds t
    → r ≡ position_from p 0 t.ends → r ≡ Some i → slice_get t.ends i ≡ Some e → At p t i e
end_at p {t} {i} {e} laws is some at =
    let first = first_at p t.ends is some at in
    record { laws = laws; passes = found_passes p t.ends e first; first = first; stands = stands_at at }

-- what a method says of the table that its caller sees
pub place_in : (p : EndState → Bool) {t seen : EndTable} {r : Option ℕ} → t ≡ seen → r ≡ position_from p 0 seen.ends
    → r ≡ position_from p 0 t.ends
place_in p same is = is ∙ ap (λ (k : EndTable). position_from p 0 k.ends) (sym same)

-- a search that found nothing
pub none_at : (p : EndState → Bool) (ends : List EndState) {r : Option ℕ} → r ≡ position_from p 0 ends → r ≡ None
    → find p ends ≡ None
none_at p ends is none = not_found p 0 ends (sym is ∙ none)

-- what a test said of an end that the code read in this place
pub test_at : {p : EndState → Bool} {t : EndTable} {i : ℕ} {e x : EndState} {r b : Bool} → At p t i e
    → (test : EndState → Bool) → slice_get t.ends i ≡ Some x → r ≡ test x → r ≡ b → test e ≡ b
test_at {t = t} {i = i} {x = x} q test at is said =
    ap test (sym (q.stands.at x) ∙ get_or_from_slice_get t.ends i x x at) ∙ sym is ∙ said

-- the end that was found by its identifier has it
pub named_at : {t : EndTable} {i id : ℕ} {e : EndState} → At (has_id id) t i e → e.id ≡ id
named_at {id = id} {e = e} q = eqb-true e.id id q.passes
