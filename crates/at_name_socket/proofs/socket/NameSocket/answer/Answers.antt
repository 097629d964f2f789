use Rattle.std.proofs.lemmas.Grind.{common_steps}
use Rattle.std.proofs.Common.{◌≡◌, List, length, subst, sym, arith}
use Rattle.std.proofs.lemmas.Bool.{false≢true}
use Rattle.at_nbp.specs.Replies.{AreReplies, matching, pattern_of}
use Rattle.at_nbp.specs.Tuples.{Entry, content}
use Rattle.at_nbp.specs.declared.name.Name.{Name}
use Rattle.at_name_socket.specs.NameSockets.{SocketState}
use Rattle.at_name_socket.proofs.OwedLemmas.{answers_some}
use Rattle.at_name_socket.proofs.socket.NameSocket.answer.Goals as goal
use Rattle.at_ddp.proofs.CaseLemmas.{on_err}

pub name-requires : goal.name-requires
name-requires g c = λ k d lt. (c.only-tuple.ensures.lawful.each k d lt).fits

pub returns-then-count-eq0-clause-ok : goal.returns-then-count-eq0-clause-ok
returns-then-count-eq0-clause-ok g c = grind (arith, common_steps)

pub returns-else-count-eq0-clause-ok : goal.returns-else-count-eq0-clause-ok
returns-else-count-eq0-clause-ok g c = grind (arith, common_steps)

pub returns-in_err-count-clause-owed : goal.returns-in_err-count-clause-owed
returns-in_err-count-clause-owed g c =
    let some =
    subst (λ (n : Name). (replies : List (List Entry)) × AreReplies (matching c.args.self.now.table n) replies)
    c.name.ensures
    (subst (λ (s : SocketState). (replies : List (List Entry)) × AreReplies (matching s.table c.name.result) replies)
    c.self.view_is c.in_err-count.ensures.owed) in
    let more : length (matching c.args.self.now.table (pattern_of (content c.only-tuple.result))) ≡ 0 → ⊥ =
    λ none. absurd (false≢true (c.in_err-count.ensures.ignored
    (subst (λ (s : SocketState). length (matching s.table c.name.result) ≡ 0) (sym c.self.view_is)
    (subst (λ (n : Name). length (matching c.args.self.now.table n) ≡ 0) (sym c.name.ensures) none)))) in
    on_err c.from_residual.result _
    (answers_some c.args.self.now c.args.packet.now.id (content c.only-tuple.result) some more
    c.args.packet.now.tuples c.only-tuple.ensures.value)
