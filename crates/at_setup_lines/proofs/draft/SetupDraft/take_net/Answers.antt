use Rattle.std.proofs.Common.{refl, ap, ◌∙◌}
use Rattle.at_words.specs.Words.{words_of}
use Rattle.std.specs.Prelude.{codes, ◌∷◌}
use Rattle.at_setup_lines.specs.Drafts.{Refuses}
use Rattle.at_setup_lines.specs.SetupLines.{SaysNet}
use Rattle.at_setup_lines.specs.contracts.draft.SetupDraft.take_net.{A-type}
use Rattle.at_setup_lines.proofs.DraftLemmas.{no_net, none_read, refused, second_net}
use Rattle.at_setup_lines.proofs.draft.SetupDraft.take_net.Goals as goal

pub returns-in_err-net-clause-only : goal.returns-in_err-net-clause-only
returns-in_err-net-clause-only g c =
    let line = codes "net" ∷ words_of c.args.words.rest.now in
    let none = none_read (SaysNet line) c.net_of.result _ _ c.in_err-net.ensures.value c.net_of.ensures in
    refused c.from_residual.result (Refuses (A-type g.row.A) c.args.self.now line)
    (no_net (A-type g.row.A) c.args.self.now (words_of c.args.words.rest.now) none)

pub returns-in_default : goal.returns-in_default
returns-in_default g c =
    record {
      taken = tt;
      kept = refl;
      only = λ _. second_net (A-type g.row.A) c.args.self.now (words_of c.args.words.rest.now)
          (λ e. c.in_default.not-Net (ap (λ d. d.stage) c.self.view_is ∙ e));
      early = tt;
      late = λ _. refl;
      net = λ _. refl;
    }
