use Rattle.at_words.specs.Words.{words_of}
use Rattle.at_call_words.proofs.RequesterLemmas.{timer_here, timer_read}
use Rattle.at_call_words.proofs.timer.timer_of.Goals as goal

pub returns-clause-said : goal.returns-clause-said
returns-clause-said c =
    timer_read c.args.net (words_of c.args.words.rest.now) c.timer_by.result c.timer_by.ensures

pub returns-clause-here : goal.returns-clause-here
returns-clause-here c =
    timer_here c.args.net (words_of c.args.words.rest.now) c.timer_by.result c.timer_by.ensures
