-- What makes an outcome safe.
use Rattle.std.proofs.Common.{◌≡◌, ℕ, ◌≤◌, List, length, Option, Some, None, refl, sym, ap, subst, ◌∙◌, arith}
use Rattle.std.proofs.lemmas.List.{length-map}
use Rattle.at_ddp.specs.declared.address.Address.{Address}
use Rattle.at_atp_frame.specs.Frames.{Content as Frame, spelled, spelled_all}
use Rattle.at_zip.specs.Fault as zip
use Rattle.at_zip.specs.declared.fault.ZipFault.{ZipFault}
use Rattle.at_event.specs.Outcomes.{Outcome, Outgoing, idle, over, refused_as, sent_by}
use Rattle.at_event.specs.declared.Report.{Report}
use Rattle.at_event.specs.declared.Report.TheVariants as report
use Rattle.at_event.specs.declared.zones.ZoneReport.TheVariants as zip_report
use Rattle.at_node.specs.Nodes.{NodeState}
use Rattle.at_steps.specs.Safety.{IsSafe, IsTrueOf, TransactionTable, number_told}
use Rattle.at_event.specs.declared.Reason.TheVariants.{OfZones}
use Rattle.at_event.specs.declared.Reason.{Reason}
use Rattle.at_event.specs.Kinds.{number_of}

-- ---- how much is sent

pub sent_few : (from : Address) (kind : ℕ) (pushes : List (Address × List ℕ)) (most : ℕ) → length pushes ≤ most
    → length (sent_by from kind pushes) ≤ most
sent_few from kind pushes most few =
    let as_many = length-map {B = Outgoing} pushes
    (λ (p : Address × List ℕ). record { from = from; to = p.0; kind = kind; data_ = p.1 }) in
    omega (arith, few, as_many)

pub packets_few : (from : Address) (kind : ℕ) (sent : List (Address × Frame)) (most : ℕ) → length sent ≤ most
    → length (sent_by from kind (spelled_all sent)) ≤ most
packets_few from kind sent most few =
    sent_few from kind (spelled_all sent) most
    (omega (arith, few, length-map {B = Address × List ℕ} sent (λ (s : Address × Frame). (s.0, spelled s.1))))

-- ---- an outcome

module _ (A : Type 0) where
  not_refused : (r : Report A) (k : ℕ) → number_told r ≡ None → r ≡ report.Refused k → ⊥
  not_refused r k none is = let told : number_told r ≡ Some k = ap number_told is in cc

  module _ (Wants : TransactionTable → Type 0) (n : NodeState) {S : Type 0} (old : S) where
    abbrev Safe : Outcome A S → Type 0
    Safe o = IsSafe Wants n old o

    pub by : (o q : Outcome A S) → o ≡ q → Safe q → Safe o
    by o q is safe = subst Safe (sym is) safe

    -- no number is told
    pub quiet : (o : Outcome A S) → number_told o.report ≡ None → length o.out ≤ 131070 → Safe o
    quiet o none few = record {
      reason = λ k told. absurd (cc);
      no_effect = λ k told. absurd (not_refused o.report k none told);
      few = few;
    }

    refused_so : (why : Reason) (number : Option ℕ) → IsTrueOf Wants n why → number_of why ≡ number
        → Safe (idle old (refused_as number))
    refused_so why None holds is = quiet (idle old (refused_as None)) refl (omega arith)
    refused_so why (Some x) holds is = record {
      reason = λ k told. let same : x ≡ k = cc in record {
        why = why;
        numbered = is ∙ ap (λ i. Some i) same;
        is_true = holds;
      };
      no_effect = λ k told. let same : x ≡ k = cc in ap (λ i. idle old (report.Refused i)) same;
      few = omega arith;
    }

    pub refused : (why : Reason) → IsTrueOf Wants n why → Safe (idle old (refused_as (number_of why)))
    refused why holds = refused_so why (number_of why) holds refl

    -- a fault of what came
    pub faulted : (why : Reason) (x : ℕ) (o : Outcome A S) → IsTrueOf Wants n why → number_of why ≡ Some x
        → o ≡ idle old (report.Refused x) → Safe o
    faulted why x o holds is so = by o (idle old (report.Refused x)) so (refused_so why (Some x) holds is)

    -- a fault of a page
    pub page_faulted : (fault : ZipFault) (x : ℕ) (o : Outcome A S) → zip.number_of fault ≡ Some x
        → o.report ≡ report.Zones (zip_report.Fault x) → length o.out ≤ 131070 → Safe o
    page_faulted fault x o is told few = record {
      reason = λ k says.
          let tells : number_told o.report ≡ Some x = ap number_told told in
          let same : x ≡ k = cc in
          record { why = OfZones fault; numbered = is ∙ ap (λ i. Some i) same; is_true = tt };
      no_effect = λ k says. absurd (cc);
      few = few;
    }

  -- a part and the whole
  pub through : (Wants : TransactionTable → Type 0) (n : NodeState) {S : Type 0} (f : S
      → NodeState) (old : S) (o : Outcome A S)
      → f old ≡ n → IsSafe Wants n old o → IsSafe Wants n n (over f o)
  through Wants n f old o whole safe = record {
    reason = safe.reason;
    no_effect = λ k told. ap (over f) (safe.no_effect k told) ∙ ap (λ x. idle x (report.Refused k)) whole;
    few = safe.few;
  }
