use Rattle.std.proofs.Common.{◌≡◌, Some, None, cond, sym, ap, ◌∙◌, arith}
use Rattle.at_adsp_end.specs.Ends.{is_remote}
use Rattle.at_adsp_ends.specs.Filed.{id_of, named}
use Rattle.at_adsp_ends.proofs.FiledLemmas.{filed_removed}
use Rattle.at_adsp_ends.proofs.Places.{table}
use Rattle.at_adsp_ends.proofs.TableLaws.{gone_lawful}
use Rattle.at_adsp_ends.proofs.ends.Ends.remove_at.Goals as goal

pub invariant_of-self : goal.invariant_of-self
invariant_of-self g c =
    let t = table c.self.inside.listening c.self.inside.next c.self.inside.rooms c.self.inside.ends.items in
    let its : c.remove-end.result.remote ≡ Some c.in-Some.remote = sym c.remote.ensures ∙ c.in-Some.is in (
      gone_lawful t c.args.index c.remove-end.result c.remove-end.new.self.items c.self.invariant.0
          c.remove-end.ensures.value c.remove-end.ensures.items,
      filed_removed c.self.invariant.1 c.args.index c.remove-end.result c.remove-end.ensures.value
          c.remove-end.new.self (named c.forget.new.remotes) _ c.remove-end.ensures.items
          (c.remove-end.ensures.keyed id_of c.self.invariant.1.keyed)
          (λ r. c.forget.ensures.under r
          ∙ ap (λ o. cond (is_remote r o) None (named c.self.inside.remotes r)) (sym its))
          c.self.invariant.0.remotes_differ c.forget.ensures.room,
    )

pub invariant_of-self-in_default : goal.invariant_of-self-in_default
invariant_of-self-in_default g c =
    let t = table c.self.inside.listening c.self.inside.next c.self.inside.rooms c.self.inside.ends.items in
    let its : c.remove-end.result.remote ≡ None = sym c.remote.ensures ∙ c.in_default.is in (
      gone_lawful t c.args.index c.remove-end.result c.remove-end.new.self.items c.self.invariant.0
          c.remove-end.ensures.value c.remove-end.ensures.items,
      filed_removed c.self.invariant.1 c.args.index c.remove-end.result c.remove-end.ensures.value
          c.remove-end.new.self (named c.self.inside.remotes) _ c.remove-end.ensures.items
          (c.remove-end.ensures.keyed id_of c.self.invariant.1.keyed)
          (λ r. ap (λ o. cond (is_remote r o) None (named c.self.inside.remotes r)) (sym its))
          c.self.invariant.0.remotes_differ (omega arith),
    )
