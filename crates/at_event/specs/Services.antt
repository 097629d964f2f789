-- The service behind a node's service socket (Inside AppleTalk, ATP, "Transactions").
use Rattle.std.specs.Prelude.{◌≡◌, ℕ, ◌≤◌, Bool, true, false, List, length}
use Rattle.at_atp_responder.specs.Records.{fit}
use Rattle.at_atp_responder.specs.declared.reception.Key.{Key}
use Rattle.at_event.specs.declared.Report.{Report}
use Rattle.at_event.specs.declared.Report.TheVariants as report
use Rattle.at_event.specs.declared.transactions.TransactionReport.TheVariants as atp_report
use Rattle.at_event.specs.declared.service.Reply.{Reply}
use Rattle.at_event.specs.declared.service.Reply.TheVariants as reply

-- a request was delivered to the service
abbrev pub is_asked : {A : Type 0} → Report A → Bool
is_asked (report.Transactions (atp_report.Asked key user bytes)) = true
is_asked other = false

-- If a new request was delivered to the service, it was called once and replied this. Otherwise it stays as it was.
abbrev pub Serves : {A S : Type 0} → (S → Key → List ℕ → List ℕ → Reply A → S → Type 0) → Report A → Reply A → S → S
    → Type 0
Serves serves (report.Transactions (atp_report.Asked key user bytes)) said before after =
    serves before key user bytes said after
Serves serves r said before after = after ≡ before

-- an answer that can be sent: 1 to 8 packets of at most 578 bytes each
abbrev pub IsReply : {A : Type 0} → Reply A → Type 0
IsReply (reply.Now packets) = (1 ≤ length packets) × (length packets ≤ 8) × (fit packets ≡ true)
IsReply reply.Later = Unit {0}
