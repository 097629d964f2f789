-- The names that the walks of this crate cite.
pub use Rattle.std.proofs.Common.{
  ◌≡◌,
  ℕ,
  ◌+◌,
  ◌^◌,
  ◌<◌,
  Bool,
  true,
  false,
  List,
  [],
  ◌∷◌,
  Ok,
  Err,
  refl,
  sym,
  ap,
  subst,
  w64,
  Bor,
}
pub use Rattle.std.proofs.alloc.Calls.{
  Al,
  α,
  seen,
  token,
  Answer,
  answer_val,
  Answer-typed,
  Answer-Ok,
  Answer-err,
  Answered,
  answers,
  takes_key,
  Takes,
  at_takes,
  Takes-goes,
  Takes-gives,
  gives_key,
  Gives,
  at_gives,
  Gives-goes,
  Gives-Gives,
}
pub use Rattle.std.proofs.VecSteps.Shapes.{after, front, arm_body}
pub use seplogic.Ra.Ura.{Ura}
pub use lib.Dec.{T}
pub use mir.Syntax.{Ty, Args, Body, ty_unit, Fn, a_type, dnil, dcons}
pub use mir.Val.{Val, WT, has_ty, vunit, vbool, vint, vptr}
pub use mir.MapTy.{inst_fn}
pub use base.Logic.{SProp, ent, emp, sep, ex, guard, id⊢, never_e}
pub use base.Fml.{Lft, Share, ftrue, ffalse, fsep, flft, froom}
pub use prog.Memory.{Memory, size, align, capped, up}
pub use prog.Routine.{Routine}
pub use prog.Wp.{Env, Wp, WpFn, Tables, after_seq, at_return}
pub use types.Logic.{Logic, sem}
pub use contract.BorrowLft.{◌⊑◌, ⊑_trans}
pub use contract.Monad.{Fun, fact}
pub use contract.Running.{tables}
unfoldable pub use contract.Running.{tables_of}
pub use sound.WpLaws.{fm_of, WpFn-mono}
pub use types.Kit.{
  Item,
  Sq,
  prop,
  ‵,
  raw,
  ◌⊛◌,
  some,
  later,
  given,
  at_ret,
  any_q,
  Post as After,
  ◌$◌,
  ◌∵◌,
  !,
  qed,
  by,
  move,
  keep,
  drop,
  use0,
  use1,
  use2,
  split,
  split3,
  join,
  pick,
  learn,
  fsplit,
  fjoin,
  feq_i,
  feq_l,
  flt_i,
  check,
  show,
  suffices,
  await,
  updating,
  done,
}
pub use types.Match.{vrt}
pub use types.Part.{whole, agg}
pub use types.Run.{
  stop,
  fld,
  addr,
  lit,
  unit_lit,
  no_more,
  and_then,
  of_opd,
  first,
  branches,
  skips,
  exec,
  switches_on,
  returns,
  returns_within,
  enter,
}
pub use types.ByLocal.{alloc_all, pass_all, free_all, look_at, get, get_tag, through, sets, lands_as, lands_last, env}
pub use Rattle.std.specs.Allocator.{block_if_ok}
pub use denote.RattleType.{RattleType, owns}
pub use denote.Memory.{hidden_shr}
pub use denote.Builtin.{bool, unit, usize, RawPtr, RefOf}
pub use denote.Exit.{yes}
pub use denote.Opens.{unhide}
pub use denote.Param.{bounded, param}
pub use denote.Plain.{uint_vals, uint_Tells}
pub use denote.RawPtr.{Ptr, block_ptr, null_ptr, ptr_val, rawptr_vals, rawptr_Tells}
pub use denote.Ref.{shr_vals}
pub use denote.Signature.{Slot, plain, types_at}
pub use denote.Steps.{heard, nothing, only}
pub use denote.Triple.Call.{calls_at, calls_at_last}
pub use denote.Triple.Clauses.{Ended, Clauses}
pub use denote.Triple.Spec.{triple_of}
pub use denote.Triple.Statement.{Contract, Triple}
pub use denote.Triple.Table.{entered, cited}
pub use denote.Triple.Walked.{Stays, stay_dropped, walk_of, ends_at, walked, Goes-dropped, walk_Meets}
