-- What a session keeps of the end of a lookup, and of what comes of a packet of ATP.
use Rattle.std.proofs.Common.{◌≡◌, ℕ, Bool, true, false, List, [], Option, Some, None, refl, sym, ap, subst, ◌∙◌}
use Rattle.std.specs.Prelude.{MatchBool, find}
use Rattle.std.proofs.lemmas.Bool.{true≢false}
use Rattle.at_ddp.specs.Outbox.{Posted}
use Rattle.at_nbp.specs.Fault.{number_of}
use Rattle.at_nbp.specs.Lookups.{Search, search_of}
use Rattle.at_nbp.specs.declared.fault.NbpFault.{NbpFault}
use Rattle.at_nbp.specs.declared.fault.NbpFault.TheVariants.{NoSuchLookup}
use Rattle.at_nbp.specs.declared.find.Find.{Find}
use Rattle.at_name_socket.specs.NameSockets.{SocketState, claim_ended, claim_fault, ended, ending, fault_of, finds_told}
use Rattle.at_name_socket.specs.NameSockets.{finish_fault, is_claim, taker, told_at_end}
use Rattle.at_name_socket.specs.declared.claim.Claim.{Claim}
use Rattle.at_event.specs.Outcomes.{Comes, Exactly, IsStep, Outcome, Through, refused_as, wants_memory}
use Rattle.at_event.specs.Kinds.{takes_memory}
use Rattle.at_event.specs.declared.Report.{Report}
use Rattle.at_event.specs.declared.Report.TheVariants as report
use Rattle.at_event.specs.declared.names.NameReport.TheVariants as nbp_report
use Rattle.at_session.specs.Sessions.{SessionState, finds_kept, list_kept}
use Rattle.at_zone_socket.specs.AtpParts.{AtpState}
use Rattle.at_node.specs.NameCalls.{finish_called, finished_as, told_of}
use Rattle.at_node.specs.Nodes.{NodeState, over_atp, over_finish}

-- out of memory, nothing is kept
nothing_kept : (A : Type 0) (s : SessionState) (r : Report A) → wants_memory r ≡ true → (finds_kept s r ≡ s)
    × (list_kept s r ≡ s)
nothing_kept A s report.NoMemory h = (refl, refl)
nothing_kept A s r h = absurd (true≢false (sym h))

-- ---- the end of a lookup

module _ (A : Type 0) (n : SocketState) (id : ℕ) where
  -- the report of the end of a lookup, by what is open
  abbrev end_report : Option Search → Option Claim → Option NbpFault → Report A
  end_report x y (Some fault) = refused_as (number_of fault)
  end_report None y None = report.Names (nbp_report.Found [])
  end_report (Some search) y None = told_of (ended {A = A} n id search.finds y).finished

  is_end : (fault : Option NbpFault) (x : Option Search) → search_of n.lookups id ≡ x
      → (finished_as {A = A} n id fault).report ≡ end_report x (find (is_claim id) n.claims) fault
  is_end (Some fault) x e = refl
  is_end None None e = ap (λ (o : Option Search). told_of (ending {A = A} n id o).finished) e
  is_end None (Some search) e = ap (λ (o : Option Search). told_of (ending {A = A} n id o).finished) e

  no_refusal : (number : Option ℕ) (found : List Find)
      → ◌≡◌ {A = Report A} (refused_as number) (report.Names (nbp_report.Found found))
      → {P : Type 0} → P
  no_refusal None found h = absurd (cc)
  no_refusal (Some k) found h = absurd (cc)

  finds_same : (finds found : List Find)
      → ◌≡◌ {A = Report A} (report.Names (nbp_report.Found finds)) (report.Names (nbp_report.Found found))
      → finds ≡ found
  finds_same finds found h = cc

  -- a claim finds nothing that is kept
  abbrev end_claim_report : Claim → Option Find → Option NbpFault → Report A
  end_claim_report claim t (Some fault) = refused_as (number_of fault)
  end_claim_report claim t None = told_of (claim_ended {A = A} n id claim t).finished

  claim_report : (search : Search) (claim : Claim) (fault : Option NbpFault)
      → end_report (Some search) (Some claim) fault ≡ end_claim_report claim (taker n search.finds claim) fault
  claim_report search claim (Some fault) = refl
  claim_report search claim None = refl

  claim_finds_none : (search : Search) (claim : Claim) (t : Option Find) (fault : Option NbpFault) (found : List Find)
      → end_claim_report claim t fault ≡ report.Names (nbp_report.Found found) → {P : Type 0} → P
  claim_finds_none search claim t (Some fault) found h = no_refusal (number_of fault) found h
  claim_finds_none search claim (Some f) None found h = absurd (cc)
  claim_finds_none search claim None None found h = absurd (cc)

  told_so : (x : Option Search) (y : Option Claim) (found : List Find) → end_report x y (fault_of n x y)
      ≡ report.Names (nbp_report.Found found) → told_at_end x y ≡ Some found
  told_so None y found h = no_refusal (number_of NoSuchLookup) found h
  told_so (Some search) None found h = ap Some (finds_same search.finds found h)
  told_so (Some search) (Some claim) found h = claim_finds_none search claim (taker n search.finds claim)
      (claim_fault n claim (taker n search.finds claim)) found
      (sym (claim_report search claim (claim_fault n claim (taker n search.finds claim))) ∙ h)

  -- what the end tells is what was found
  pub finds_are_told : (r : Report A) (new : SocketState) → IsStep (finish_called n id) n [] r new []
      → (found : List Find) → r ≡ report.Names (nbp_report.Found found) → finds_told n id ≡ Some found
  finds_are_told r new step found tells =
      let exactly : Exactly (finish_called {A = A} n id) [] r new [] =
      subst (λ (b : Bool). MatchBool b
      ((new ≡ n) × ◌≡◌ {A = List Posted} [] [] × (takes_memory (finish_called {A = A} n id).report ≡ true))
      (Exactly (finish_called {A = A} n id) [] r new [])) (ap wants_memory tells) step in
      told_so (search_of n.lookups id) (find (is_claim id) n.claims) found
      (sym (is_end (finish_fault n id) (search_of n.lookups id) refl) ∙ sym exactly.0 ∙ tells)

-- what comes of the end, and what the session keeps of it
pub finish_over : (A : Type 0) (n : NodeState) (id : ℕ) (before : List Posted) (r : Report A) (new : SocketState)
    (kept : SessionState) → IsStep (finish_called n.names id) n.names before r new before → kept
    ≡ finds_kept n.session r →
    IsStep (over_finish n (finish_called n.names id)) n before r (record n { names = new; session = kept }) before
finish_over A n id before r new kept step keeps = go (wants_memory r) refl step
  where
    o : Outcome A SocketState
    o = finish_called n.names id

    go : (b : Bool) → wants_memory r ≡ b
        → MatchBool b ((new ≡ n.names) × (before ≡ before) × (takes_memory o.report ≡ true))
        (Exactly o before r new before)
        → MatchBool b ((record n { names = new; session = kept } ≡ n) × (before ≡ before)
        × (takes_memory o.report ≡ true))
        (Exactly (over_finish n o) before r (record n { names = new; session = kept }) before)
    go true e h = let same : kept ≡ n.session = keeps ∙ (nothing_kept A n.session r e).0 in
        ((λ i. record n { names = h.0 i; session = same i }), h.1, h.2)
    go false e h = (h.0, (λ i. record n { names = h.1 i; session = (keeps ∙ ap (finds_kept n.session) h.0) i }), h.2)

-- ---- packets of ATP

-- what comes of a packet, and what the session keeps of it
pub heard_over : (A : Type 0) (n : NodeState) (May : Outcome A AtpState → Type 0) (before : List Posted) (r : Report A)
    (new : AtpState) (after : List Posted) (kept : SessionState) → Comes May n.atp before r new after → kept
    ≡ list_kept n.session r →
    Comes (Through (over_atp n) May) n before r (record n { atp = new; session = kept }) after
heard_over A n May before r new after kept comes keeps = go (wants_memory r) refl comes
  where
    go : (b : Bool) → wants_memory r ≡ b
        → MatchBool b ((new ≡ n.atp) × (after ≡ before)
        × ((o : Outcome A AtpState) × May o × (takes_memory o.report ≡ true)))
        ((o : Outcome A AtpState) × May o × Exactly o before r new after)
        → MatchBool b ((record n { atp = new; session = kept } ≡ n) × (after ≡ before)
        × ((o : Outcome A NodeState) × Through (over_atp n) May o × (takes_memory o.report ≡ true)))
        ((o : Outcome A NodeState) × Through (over_atp n) May o
        × Exactly o before r (record n { atp = new; session = kept }) after)
    go true e h =
        let same : kept ≡ n.session = keeps ∙ (nothing_kept A n.session r e).1 in
        let wanted = h.2 in (
          (λ i. record n { atp = h.0 i; session = same i }),
          h.1,
          (over_atp n wanted.0, (wanted.0, wanted.1, refl), wanted.2),
        )
    go false e h =
        let exactly = h.2 in (
          over_atp n h.0,
          (h.0, h.1, refl),
          (
            exactly.0,
            (λ i. record
                n { atp = exactly.1 i; session = (keeps ∙ ap (list_kept n.session) exactly.0) i }),
            exactly.2,
          ),
        )
