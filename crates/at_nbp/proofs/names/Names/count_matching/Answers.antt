use Rattle.std.proofs.Common.{◌≡◌, ◌+◌, ◌<◌, ◌≤◌, List, length, get_or, sym, subst, ap, ◌∙◌, arith}
use Rattle.at_nbp.specs.Names.{is_match}
use Rattle.at_nbp.specs.Replies.{entry_in, name_in}
use Rattle.at_nbp.specs.Tuples.{FitsStrings}
use Rattle.at_nbp.specs.declared.names.Registered.{Registered}
use Rattle.at_nbp.proofs.ReplyExistence.{AreCounted, counted_all, counted_more, counted_same}
use Rattle.at_nbp.proofs.names.Names.count_matching.Goals as goal
use Rattle.at_nbp.proofs.names.Names.count_matching.Goals.{then-is_match, else-is_match}

pub loop-name-preserved : goal.loop-name-preserved
loop-name-preserved g c =
    let m = c.loop-name.invariant in
    let i = c.loop-name.name-index in
    let table = c.args.self.now in
    let r : Registered = c.name-item.result in
    let lt : i < length table.names = subst (λ (l : List Registered). i < length l) m.0 c.loop-name-test.true in
    let name : r ≡ get_or table.names i r = c.name-item.is ∙ ap (λ (l : List Registered). get_or l i r) m.0 in
    let test : is_match c.args.pattern.now (name_in table (get_or table.names i r)) ≡ c.is_match.result =
    ap (λ (x : Registered). is_match c.args.pattern.now (name_in table x)) (sym name) ∙ sym c.is_match.ensures in
    elim c.if-is_match.branch [
      | then-is_match w ↦ (
        m.0,
        subst (AreCounted table c.args.pattern.now (i + 1)) (sym w.count-is)
            (counted_more table c.args.pattern.now i c.loop-name.count r m.1 lt (test ∙ w.if-is_match.true)
            (subst FitsStrings (w.tuple_of-tuple.ensures.entry ∙ ap (entry_in table) name)
            w.tuple_of-tuple.ensures.short)),
      )
      | else-is_match w ↦ (
        m.0,
        subst (AreCounted table c.args.pattern.now (i + 1)) (sym w.count-is)
            (counted_same table c.args.pattern.now i c.loop-name.count r m.1 lt (test ∙ w.if-is_match.false)),
      )
    ]

pub returns-clause-short : goal.returns-clause-short
returns-clause-short g c =
    counted_all c.args.self.now c.args.pattern.now c.loop-name.name-index c.loop-name.count c.loop-name.invariant.1
    (subst (λ (l : List Registered). length l ≤ c.loop-name.name-index) c.loop-name.invariant.0
    (omega (arith, c.loop-name-test.false)))
