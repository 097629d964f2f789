use Rattle.at_words.specs.Words.{words_of}
use Rattle.at_call_words.specs.Calls.Transactions.{IsPacketWord}
use Rattle.std.specs.List.{AllZip}
use Rattle.at_call_words.proofs.WordLemmas.{exit_of, next_said, one_lacks, told_on}
use Rattle.at_call_words.proofs.call.answers.packets_of.Goals as goal

pub loop-word-preserved : goal.loop-word-preserved
loop-word-preserved g c =
    next_said IsPacketWord (words_of c.args.words.rest.now) (words_of c.loop-word.word-iterator.rest.now)
    (words_of c.next.new.self.rest.now) c.loop-word.packets.items c.push.new.self.items c.in-Some.word.now
    c.in_ok-packet_of.field-0
    c.loop-word.invariant c.in-Some.ensures.steps c.in_ok-packet_of.ensures c.in_ok-push.ensures.items

pub returns-in_err-packet_of : goal.returns-in_err-packet_of
returns-in_err-packet_of g c =
    let ws = words_of c.args.words.rest.now in
    told_on (IsPacketWord c.in-Some.word.now) (AllZip IsPacketWord ws) c.packet_of.result c.from_residual.result
    c.in_err-packet_of.field-0.0 c.in_err-packet_of.was
    (exit_of c.from_residual.result _ c.from_residual.ensures.1) c.packet_of.ensures
    (λ never. one_lacks IsPacketWord ws (words_of c.loop-word.word-iterator.rest.now)
    (words_of c.next.new.self.rest.now) c.loop-word.packets.items c.in-Some.word.now c.loop-word.invariant
    c.in-Some.ensures.steps never)
