use Rattle.std.proofs.Common.{length, map, sym, ap, subst, List, arith}
use Rattle.std.specs.Prelude.{All}
use Rattle.at_nbp.specs.Tuples.{FitsStrings, content}
use Rattle.at_nbp.specs.declared.tuple.Tuple.{Tuple}
use Rattle.at_nbp.specs.Replies.{matching}
use Rattle.at_nbp.proofs.ReplyExistence.{replies_exist}
use Rattle.at_nbp.proofs.names.Names.answer.Goals as goal
use Rattle.at_ddp.proofs.CaseLemmas.{on_err}

pub send_replies-requires-clause-short : goal.send_replies-requires-clause-short
send_replies-requires-clause-short g c = subst (λ (l : List Tuple). All FitsStrings (map content l))
    (sym c.deref.ensures.value) c.in_ok-found.ensures.short

pub send_replies-requires-clause-few : goal.send_replies-requires-clause-few
send_replies-requires-clause-few g c =
    omega (arith, ap (length {A = Tuple}) c.deref.ensures.value, c.in_ok-found.ensures.few)

pub returns-in_err-found-clause-owed : goal.returns-in_err-found-clause-owed
returns-in_err-found-clause-owed g c =
    on_err _ _ (replies_exist (matching c.args.self.now c.args.pattern.now) c.count_matching-count.ensures.short)

pub returns-in_err-send_replies-clause-owed : goal.returns-in_err-send_replies-clause-owed
returns-in_err-send_replies-clause-owed g c =
    on_err _ _ (replies_exist (matching c.args.self.now c.args.pattern.now) c.count_matching-count.ensures.short)
