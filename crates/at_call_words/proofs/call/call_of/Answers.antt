use Rattle.at_words.specs.Words.{words_of}
use Rattle.at_call_words.proofs.RequesterLemmas.{call_here, call_read}
use Rattle.at_call_words.proofs.call.call_of.Goals as goal

pub returns-clause-said : goal.returns-clause-said
returns-clause-said g c =
    call_read c.args.net (words_of c.args.words.rest.now) c.call_by.result c.call_by.ensures

pub returns-clause-here : goal.returns-clause-here
returns-clause-here g c =
    call_here c.args.net (words_of c.args.words.rest.now) c.call_by.result c.call_by.ensures
