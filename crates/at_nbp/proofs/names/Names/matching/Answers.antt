use Rattle.std.proofs.Common.{Vec, ◌≡◌, ◌+◌, ◌<◌, List, length, get_or, vec_capacity, subst, sym, ap, ◌∙◌}
use Rattle.at_nbp.specs.Names.{is_match}
use Rattle.at_nbp.specs.Replies.{entry_in, name_in}
use Rattle.at_nbp.specs.declared.names.Registered.{Registered}
use Rattle.at_nbp.specs.declared.tuple.Tuple.{Tuple}
use Rattle.at_nbp.proofs.ReplyLemmas.{AreMatching, matching_more, matching_same}
use Rattle.at_nbp.proofs.names.Names.matching.Goals as goal
use Rattle.at_nbp.proofs.names.Names.matching.Goals.{then-is_match, else-is_match}

pub loop-name-preserved : goal.loop-name-preserved
loop-name-preserved g c =
    let m = c.loop-name.invariant in
    let i = c.loop-name.name-index in
    let r : Registered = c.name-item.result in
    let lt : i < length c.args.self.now.names =
    subst (λ (l : List Registered). i < length l) m.0 c.loop-name-test.true in
    let name : r ≡ get_or c.args.self.now.names i r = c.name-item.is ∙ ap (λ (l : List Registered). get_or l i r) m.0 in
    let test : is_match c.args.pattern.now (name_in c.args.self.now (get_or c.args.self.now.names i r))
    ≡ c.is_match.result =
    ap (λ (x : Registered). is_match c.args.pattern.now (name_in c.args.self.now x)) (sym name)
    ∙ sym c.is_match.ensures in
    elim c.if-is_match.branch [
      | then-is_match w ↦ (
        m.0,
        subst (λ (v : Vec Tuple g.row.A.Denot). AreMatching c.args.self.now c.args.pattern.now (i + 1) v.items
            (vec_capacity v)) (sym w.found-is)
            (matching_more c.args.self.now c.args.pattern.now i c.loop-name.found.items w.push.new.self.items
            (vec_capacity c.loop-name.found) (vec_capacity w.push.new.self) r w.tuple_of.result m.1 lt
            (test ∙ w.if-is_match.true) (w.tuple_of.ensures.entry ∙ ap (entry_in c.args.self.now) name)
            w.tuple_of.ensures.short (rw w.unwrap.ensures at w.push.ensures.items) w.push.ensures.capacity),
      )
      | else-is_match w ↦ (
        m.0,
        subst (λ (v : Vec Tuple g.row.A.Denot). AreMatching c.args.self.now c.args.pattern.now (i + 1) v.items
            (vec_capacity v)) (sym w.found-is)
            (matching_same c.args.self.now c.args.pattern.now i c.loop-name.found.items
            (vec_capacity c.loop-name.found) r m.1 lt (test ∙ w.if-is_match.false)),
      )
    ]
