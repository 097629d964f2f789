use Rattle.std.proofs.Common.{◌≡◌, ◌∷◌, [], rules}
use Rattle.at_words.specs.Words.{words_of}
use Rattle.at_schedule.proofs.EventLemmas.{no_forgery}
use Rattle.at_schedule.proofs.event_line.forged_event.Goals as goal

pub returns-in-Err-clause-said : goal.returns-in-Err-clause-said
returns-in-Err-clause-said g c =
    let are : words_of c.args.words.rest.now ≡ c.in_ok-node.node.now ∷ c.in_ok-hex.hex.now ∷ [] = search rules in
    no_forgery g.row.A.Denot c.in-Err.fault (words_of c.args.words.rest.now) c.in_ok-node.node.now
    c.in_ok-hex.hex.now are c.in-Err.ensures
