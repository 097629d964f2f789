use Rattle.std.proofs.Common.{◌∙◌, ap, subst}
use Rattle.at_call_words.specs.Calls.{AreAnyCall}
use Rattle.at_held.specs.Held.{HeldState}
use Rattle.at_held.specs.Lines.{Calls}
use Rattle.at_words.specs.Words.{words_of}
use Rattle.at_held.proofs.held.HeldNode.play_call.Goals as goal

pub returns : goal.returns
returns c line begins =
    let here = c.net.ensures ∙ ap (λ (h : HeldState). h.node.seat.net) c.self.view_is in (
      Calls c.in_ok-call.call,
      (
        _,
        begins,
        subst (λ net. AreAnyCall net (words_of c.args.words.rest.now) c.in_ok-call.call) here c.in_ok-call.ensures,
      ),
      c.in_ok-take.ensures,
    )
