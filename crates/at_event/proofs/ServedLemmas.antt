-- Events of which the service hears nothing.
use Rattle.std.proofs.Common.{◌≡◌, ℕ, false, List, refl}
use Rattle.std.proofs.lemmas.Bool.{true≢false}
use Rattle.at_atp_responder.specs.declared.reception.Key.{Key}
use Rattle.at_event.specs.Services.{Serves, is_asked}
use Rattle.at_event.specs.declared.Report.{Report}
use Rattle.at_event.specs.declared.Report.TheVariants as report
use Rattle.at_event.specs.declared.transactions.TransactionReport.TheVariants as atp_report
use Rattle.at_event.specs.declared.service.Reply.{Reply}

-- the service was not called
pub not_served : {A S : Type 0} (serves : S → Key → List ℕ → List ℕ → Reply A → S → Type 0) (r : Report A)
    (said : Reply A) (s : S) → is_asked r ≡ false → Serves serves r said s s
not_served serves (report.Transactions (atp_report.Asked key user bytes)) said s h = absurd (true≢false h)
not_served serves r said s h = refl
