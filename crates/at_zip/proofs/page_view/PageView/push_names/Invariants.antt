use Rattle.std.proofs.Common.{vec_len, vec_capacity}
use Rattle.at_zip.proofs.ListLemmas.{IsCopiedTo}
use Rattle.at_zip.proofs.page_view.PageView.push_names.Given as goal

abbrev pub invariant-loop : goal.invariant-loop
invariant-loop g l = IsCopiedTo l.self l.counter l.end l.rest l.fn.list.items l.list.items (vec_len l.list)
    (vec_capacity l.list)
