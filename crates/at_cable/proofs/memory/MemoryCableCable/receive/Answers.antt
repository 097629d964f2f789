use Rattle.std.proofs.Common.{length, map, take, Ok, Some, sym, ap, subst, ◌∙◌, arith}
use Rattle.at_ddp.proofs.TableLemmas.{found_by}
use Rattle.at_cable.specs.Memory.{MemoryState, Receives, is_for}
use Rattle.at_cable.specs.Waits.{posted}
use Rattle.at_cable.proofs.WaitingLemmas.{received_nothing, received_first}
use Rattle.at_cable.proofs.memory.MemoryCableCable.receive.Goals as goal

pub returns-in_default-clause-answer : goal.returns-in_default-clause-answer
returns-in_default-clause-answer g c =
    received_nothing posted c.args.self.now c.begin.new.self c.self.inside.waiting.items c.deref.result.now c.args.node
    (length c.args.buffer.now) c.place_of.result c.begin.ensures.begun
    (ap (λ (m : MemoryState). m.waiting) c.self.view_is)
    (sym c.begin.ensures.fails ∙ c.if-begin.false) c.deref.ensures.value c.place_of.ensures c.in_default.is

pub remove-first-requires : goal.remove-first-requires
remove-first-requires g c =
    let place = found_by (λ w. is_for c.args.node (posted w)) c.self.inside.waiting.items c.deref.result.now
    c.place_of.result c.in-Some.place c.deref.ensures.value c.place_of.ensures c.in-Some.is in
    omega (arith, place.within, c.self.inside.waiting.ok.0)

pub returns-clause-answer : goal.returns-clause-answer
returns-clause-answer g c =
    let left = map posted c.remove-first.new.self.items in
    let got = take c.copy_start.result c.copy_start.new.buffer in
    let same = ap (λ (m : MemoryState). record m { waiting = left }) c.self.view_is in
    subst (λ s. Receives c.args.self.now c.args.node (length c.args.buffer.now) (Ok (Some got)) s) (sym same)
    (received_first posted c.args.self.now c.begin.new.self c.self.inside.waiting.items c.deref.result.now c.args.node
    (length c.args.buffer.now) c.place_of.result c.begin.ensures.begun
    (ap (λ (m : MemoryState). m.waiting) c.self.view_is)
    (sym c.begin.ensures.fails ∙ c.if-begin.false) c.deref.ensures.value c.place_of.ensures c.in-Some.place
    c.remove-first.result c.remove-first.new.self.items got c.in-Some.is c.remove-first.ensures.value
    c.remove-first.ensures.items
    (c.copy_start.ensures.copied ∙ ap (take (length c.args.buffer.now)) c.as_slice.ensures))
