-- `from_raw` keeps the pointer, and with it the box.
use Rattle.std.proofs.Common.{◌≡◌, List, [], ◌∷◌, ◌++◌, refl, sym, subst}
use mir.Val.{Val, vptr}
use base.Logic.{SProp, ent, emp, id⊢}
use base.Fml.{ftrue}
use prog.Wp.{WpFn}
use types.Kit.{‵, raw, ◌⊛◌, ◌$◌, ◌∵◌, !, qed, by, keep, drop, split, fsplit, fjoin, suffices, use0}
use types.Run.{stop, fld, of_opd, no_more, and_then, returns, enter}
use types.ByLocal.{alloc_all, pass_all, free_all, look_at, get, get_in, sets}
use types.Part.{agg, sub, whole}
use contract.Monad.{fact, fact_i}
use contract.Running.{tables}
use denote.Exit.{yes}
use denote.RattleType.{RattleType, owns}
use denote.Signature.{types_at, plain}
use denote.RawPtr.{block_ptr}
use denote.Steps.{nothing}
use denote.Triple.Walked.{Stays, stay_dropped, walk_of, Goes-dropped}
use Rattle.std.proofs.raw_atomic.Walks.{proved_at, leaves}
use Rattle.std.specs.declared.option.Option.TheVariants.{Some}
use Rattle.std.specs.contracts.alloc.Global as heap
use Rattle.std.proofs.alloc.Global.TheLaws as heap_laws
use Rattle.std.specs.contracts.impls.GlobalAllocator.TheImpl.{ghosts}
use Rattle.raw_box.proofs.Values.{both, RawBox, raw_good, raw_out}
use Rattle.at_c.proofs.NodeHandles.{Held, Handle, word, handle_in}
use Rattle.at_c.specs.contracts.handle.AtNode.from_raw.{ended, clauses}
use Rattle.at_c.specs.contracts.handle.AtNode.from_raw.Key.{name as #self}
use Rattle.at_c.proofs.handle.AtNode.from_raw.Statement.{statement}
use Rattle.at_c.proofs.handle.AtNode.from_raw.Code as code

pub from_raw_spec : {M : Type 1} → statement M
from_raw_spec 𝓤 𝓛 𝓜 𝓡 wired =
    let H = 𝓛.H in let 𝓣 = tables 𝓤 H 𝓜 𝓡 𝓡.env in let c = clauses 𝓛 𝓜.mem 𝓡.returns in let fn = code.function in
    let Z : RattleType = heap.the_row in let LZ = heap_laws.the_row_laws in
    let Raw : RattleType = RawBox Held Z LZ ghosts in
    let hs : Stays ended.signature.params ended.kept = (stay_dropped (plain (λ _. Raw)) yes, tt) in
    proved_at 𝓛 ended hs c 𝓜 𝓡 (Goes-dropped 𝓛 0 (plain (λ _. Raw)) yes (λ κs x f. refl), tt) #self fn (code.unfolded
    𝓤 H 𝓜 𝓡 wired) (λ z are.
    let Post : Val → SProp 𝓤 = (walk_of 𝓛 ended hs c).post z in let Run : List Val
    → SProp 𝓤 = λ ws. WpFn 𝓤 H 𝓣.C 𝓣.Λ fn ws Post in let v = z.0.3.0 in
    qed 𝓛 ((‵ ftrue ⊛ ‵ (owns (types_at ended.signature.params z.0.0) z.0.3 z.0.4)) ∷ raw ((c z.0.0 z.0.3).requires
    z.1) ∷ []) ∵ split ! $ drop ! $ fsplit ! $
    raw_out Held Z LZ ghosts ! v z.0.4.0 (λ b o h e ws fits. keep ! (0 ∷ []) $
    let w : Val = both (vptr b o) h in let d : Handle.Denot = record { pointer = block_ptr b o; node = Some v.value } in
    suffices ! (Run (w ∷ [])) (subst (λ (us : List Val). ent 𝓤 (Run (w ∷ [])) (Run us)) (sym (λ i. ws i ++ [])) (id⊢ 𝓤
    (Run (w ∷ [])))) $
    enter ! 𝓣.C 𝓣.Λ fn (w ∷ []) Post $ alloc_all ! (λ l. pass_all ! refl (raw_good Held Z LZ ghosts b o h fits, tt) $
    sets ! (of_opd ! (get_in ! (fld ! refl (stop !)) (sub ! 0 refl (whole !)))) refl (tt, tt) $
    sets ! (of_opd ! (get ! refl)) refl (tt, tt) $
    sets ! (agg ! (and_then ! (get ! refl) (no_more !))) refl (tt, (tt, tt)) $
    handle_in ! (block_ptr b o) (Some v.value) $ use0 𝓛 (raw (fact 𝓤 (d.node ≡ Some v.value))) (fact_i 𝓤 (d.node ≡
    Some v.value) (emp 𝓤) refl) $ nothing ! $ nothing ! $ fjoin ! $ nothing ! $
    returns ! (look_at ! 0 refl) $ free_all ! refl $ keep ! (0 ∷ 1 ∷ 3 ∷ 2 ∷ []) $
    by ! (leaves 𝓛 ended hs c z (word (block_ptr b o)) d (tt, tt) (tt, tt)))))
