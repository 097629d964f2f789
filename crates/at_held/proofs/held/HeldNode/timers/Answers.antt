use Rattle.std.proofs.Common.{◌≡◌, ◌∙◌, [], ap, subst}
use Rattle.std.specs.Prelude.{IfOk}
use Rattle.std.specs.List.{flat_map}
use Rattle.at_node.specs.Timers.{timers_of}
use Rattle.at_print.specs.Reports.{timer_line}
use Rattle.at_held.specs.Held.{HeldState}
use Rattle.at_held.proofs.HandingLemmas.{nothing_placed}
use Rattle.at_held.proofs.held.HeldNode.timers.Goals as goal

-- Where no timer is listed, no line is.
pub returns-clause-none : goal.returns-clause-none
returns-clause-none c none =
    let node = c.self.inside.node in
    let unlisted : timers_of node ≡ [] = ap (λ (h : HeldState). timers_of h.node) c.self.view_is ∙ none in
    let lines = ap (flat_map (timer_line node.seat.net)) unlisted in
    nothing_placed c.args.room.now c.place_text.new.room c.place_text.result
    (c.place_text.ensures.text [] (subst (λ l. IfOk c.timer_lines.result (λ written. written.items ≡ l)) lines
    c.timer_lines.ensures.lines))
    (c.place_text.ensures.memory (c.timer_lines.ensures.none unlisted))
