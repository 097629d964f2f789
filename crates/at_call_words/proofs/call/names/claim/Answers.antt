use Rattle.std.proofs.Common.{codes, refl, Err, ap}
use Rattle.std.specs.Prelude.{is_some}
use Rattle.at_words.specs.Words.{words_of}
use Rattle.at_call_words.proofs.CallLemmas.{unlawful_call}
use Rattle.at_call_words.proofs.call.names.claim.Goals as goal

pub returns-in_default : goal.returns-in_default
returns-in_default g c =
    unlawful_call (Err c.broken.result) c.broken.result (codes "claim") (words_of c.args.words.rest.now) refl
    (λ (object, kind, socket, (o, k, s, is, one, two, three)). c.socket_name.ensures.only (ap is_some c.in_default.is) o
    k s object kind socket is one two three)
