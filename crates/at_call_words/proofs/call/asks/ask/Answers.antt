use Rattle.std.proofs.Common.{codes, refl, Err}
use Rattle.at_words.specs.Hexes.{IsHex}
use Rattle.at_words.specs.Words.{words_of}
use Rattle.at_call_words.proofs.CallLemmas.{call_told_on, unlawful_call}
use Rattle.at_call_words.proofs.CallLemmas.Transactions.{ask_at}
use Rattle.at_call_words.proofs.call.asks.ask.Goals as goal

pub returns-in_default : goal.returns-in_default
returns-in_default g c =
    unlawful_call (Err c.broken.result) c.broken.result (codes "ask") (words_of c.args.words.rest.now) refl
    (λ (node, socket, user, bytes, wanted, once, retries, says).
    let (n, s, u, d, w, m, r, are, one, two, three, four, five, six, seven) = says in
    c.in_default.ensures.only refl n s u d w m r node socket wanted retries user once are one two three five six seven)

pub returns-in-Err : goal.returns-in-Err
returns-in-Err g c =
    let bytes_word = c.in-Some.said.data_.now in
    let ws = words_of c.args.words.rest.now in
    let (n, s, u, w, m, r, are, is_node, is_socket, is_user, is_wanted, is_mode, is_byte) = c.in-Some.ensures.said in
    call_told_on (IsHex bytes_word) c.data_of.result (Err c.in-Err.fault) c.in-Err.fault (codes "ask") ws c.in-Err.is
    refl c.data_of.ensures
    (λ never (node, socket, user, bytes, wanted, once, retries, says).
    let (one, two, three, four, five, six, seven) = ask_at ws n s u bytes_word w m r are node socket user bytes wanted
    once retries says in
    never bytes four)
