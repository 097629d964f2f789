use Rattle.std.proofs.Common.{subst}
use Rattle.at_words.specs.Hexes.{IsHex}
use Rattle.at_call_words.specs.Calls.Transactions.{IsPacketWord}
use Rattle.at_call_words.proofs.PacketLemmas.{same_data}
use Rattle.at_call_words.proofs.WordLemmas.{exit_of, some_of, told_on}
use Rattle.at_call_words.proofs.call.answers.packet_of.Goals as goal

pub returns-in_err-data_of : goal.returns-in_err-data_of
returns-in_err-data_of g c =
    let some = some_of c.packet_words.result _ c.ok_or.result
    (c.in_ok-user.user, c.in_ok-user.bytes) c.ok_or.ensures.value c.in_ok-user.was in
    let (front, parts, first) = rw some at c.packet_words.ensures.said in
    told_on (IsHex c.in_ok-user.bytes.now)
    (IsPacketWord c.args.word.now) c.data_of.result c.from_residual-in_err-data_of.result
    c.in_err-data_of.field-0.0 c.in_err-data_of.was
    (exit_of c.from_residual-in_err-data_of.result _ c.from_residual-in_err-data_of.ensures.1) c.data_of.ensures
    (λ never packet (u, b, is, spells, hex).
    never packet.data_ (subst (λ l. IsHex l packet.data_)
    (same_data c.args.word.now front u c.in_ok-user.user packet.user c.in_ok-user.bytes.now b parts first is
    spells) hex))
