use Rattle.std.proofs.Common.{refl}
use Rattle.at_words.specs.Words.{words_of}
use Rattle.at_schedule.proofs.EventLemmas.{no_delivery}
use Rattle.at_schedule.proofs.event_line.delivery_event.Goals as goal

pub returns-in-None-clause-said : goal.returns-in-None-clause-said
returns-in-None-clause-said g c = no_delivery (words_of c.args.words.rest.now) (c.in-None.ensures.only refl)
