-- Ends of streams where all happens at our addresses: each is at one, and each that is not opening asked one, or
-- was asked from one.
use Rattle.std.proofs.Common.{◌≡◌, Bool, true, false, List, [], ◌∷◌}
use Rattle.std.proofs.Common.{◌⊎◌, inl, inr, sym, ap, ◌∙◌}
use Rattle.std.specs.Prelude.{Result, Ok, Err}
use Rattle.std.specs.List.{AllByRecursion}
use Rattle.at_ddp.specs.declared.address.Address.{Address}
use Rattle.at_adsp_frame.specs.Segments.{Content, Open, Part}
use Rattle.at_adsp_frame.specs.declared.segment.OpenKind.TheVariants.{Request, Acknowledgement}
use Rattle.at_adsp_frame.specs.declared.segment.OpenKind.TheVariants.{RequestAndAcknowledgement, Denial}
use Rattle.at_adsp_end.specs.Ends.{EndState, addressed}
use Rattle.at_adsp_end.specs.Ends.{is_opening}
use Rattle.at_adsp_end.specs.declared.fault.StreamFault.{StreamFault}
use Rattle.at_adsp_end.specs.declared.phase.Phase.TheVariants as phase
use Rattle.at_adsp_ends.specs.Tables.{Done, EndTable}
use Rattle.at_adsp.proofs.EndMoves.{Quiet}

pub record IsOurs (ours : Address → Bool) (at : Address) (e : EndState) : Type 0 where
  pub here : ours at ≡ true
  pub there : is_opening e.phase ≡ false → ours e.asked ≡ true

-- other addresses answer no request
pub record AreOurs (ours : Address → Bool) (at : Address) (t : EndTable) : Type 0 where
  pub listens : t.listening ≡ true → ours at ≡ true
  pub ends : AllByRecursion (IsOurs ours at) t.ends

-- nothing but denials comes from other addresses
abbrev pub SaysOurs : (Address → Bool) → Address → Part → Type 0
SaysOurs ours at (Open Denial dest) = Unit {0}
SaysOurs ours at (Open Request dest) = ours at ≡ true
SaysOurs ours at (Open Acknowledgement dest) = ours at ≡ true
SaysOurs ours at (Open RequestAndAcknowledgement dest) = ours at ≡ true
SaysOurs ours at other = ours at ≡ true

pub record KeepsOurs {X : Type 0} (ours : Address → Bool) (at : Address) (d : Done X) : Type 0 where
  pub table : AreOurs ours at d.after
  pub sent : AllByRecursion (λ (x : Address × Content). SaysOurs ours at x.1.body) d.sent

abbrev pub KeepsAny : {X : Type 0} → (Address → Bool) → Address → Result (Done X) StreamFault → Type 0
KeepsAny ours at (Err fault) = Unit {0}
KeepsAny ours at (Ok d) = KeepsOurs ours at d

pub quiet_ours : (ours : Address → Bool) (at : Address) (e f : EndState) → Quiet e f → IsOurs ours at e → IsOurs ours at f
quiet_ours ours at e f q h = go q.phase
  where
    go : (f.phase ≡ e.phase) ⊎ ((e.phase ≡ phase.Open) × (f.phase ≡ phase.Closed)) → IsOurs ours at f
    go (inl same) = record {
      here = h.here;
      there = λ other. ap ours q.asked ∙ h.there (ap is_opening (sym same) ∙ other);
    }
    go (inr is) = record { here = h.here; there = λ other. ap ours q.asked ∙ h.there (ap is_opening is.0) }

ours_say : (ours : Address → Bool) (at : Address) (part : Part) → ours at ≡ true → SaysOurs ours at part
ours_say ours at (Open Denial dest) here = tt
ours_say ours at (Open Request dest) here = here
ours_say ours at (Open Acknowledgement dest) here = here
ours_say ours at (Open RequestAndAcknowledgement dest) here = here
ours_say ours at other here = here

pub all_say : (ours : Address → Bool) (at to : Address) (out : List Content) → ours at ≡ true
    → AllByRecursion (λ (x : Address × Content). SaysOurs ours at x.1.body) (addressed to out)
all_say ours at to [] here = tt
all_say ours at to (x ∷ out) here = (ours_say ours at x.body here, all_say ours at to out here)
