use Rattle.std.proofs.Common.{◌∙◌, ap, subst}
use Rattle.at_call_words.specs.Timers.{AreAnyTimer}
use Rattle.at_held.specs.Held.{HeldState}
use Rattle.at_held.specs.Lines.{Fires}
use Rattle.at_words.specs.Words.{words_of}
use Rattle.at_held.proofs.held.HeldNode.play_timer.Goals as goal

pub returns-in_ok-take-in-Ok : goal.returns-in_ok-take-in-Ok
returns-in_ok-take-in-Ok c line begins =
    let here = c.net.ensures ∙ ap (λ (h : HeldState). h.node.seat.net) c.self.view_is in (
      Fires c.in-Ok.timer,
      (_, begins, subst (λ net. AreAnyTimer net (words_of c.args.words.rest.now) c.in-Ok.timer) here c.in-Ok.ensures),
      c.in_ok-take-in-Ok.ensures,
    )
