use Rattle.std.proofs.Common.{◌≡◌, ◌≢◌, ◌∷◌, codes, rules, subst, sym}
use Rattle.at_call_words.specs.Calls.{AreCallBy}
use Rattle.at_call_words.specs.Readings.{IsFoundInMemory}
use Rattle.at_call_words.specs.Requesters.{Names}
use Rattle.at_words.specs.Words.{words_of}
use Rattle.at_call_words.proofs.RequesterLemmas.{plain_said}
use Rattle.at_call_words.proofs.call.call_by.Goals as goal

pub returns : goal.returns
returns g c =
    let named = Names c.args.requesters c.args.net in
    let left = words_of c.next.new.self.rest.now in
    let words : words_of c.args.words.rest.now ≡ c.in_ok-word.word.now ∷ left = search rules in
    let other : c.in_ok-word.word.now ≢ codes "answer" = search rules in
    subst (λ ws. IsFoundInMemory c.said_by.result (AreCallBy named ws)) (sym words)
    (plain_said named c.in_ok-word.word.now left c.said_by.result other c.said_by.ensures)
