-- What comes of a packet for the socket that asks.
use Rattle.std.proofs.Common.{◌≡◌, ℕ, true, false, List, ◌++◌, map, refl, ap}
use Rattle.at_ddp.specs.Outbox.{Posted}
use Rattle.at_ddp.specs.Protocols.{atp_kind}
use Rattle.at_atp_frame.specs.Frames.{spelled_all}
use Rattle.at_atp_requester.specs.Requests.{Heard, is_ignored}
use Rattle.at_atp_requester.specs.declared.progress.RequestProgress.{RequestProgress}
use Rattle.at_atp_requester.specs.declared.progress.RequestProgress.TheVariants as step
use Rattle.at_event.specs.declared.seat.Seat.{Seat}
use Rattle.at_event.specs.Kinds.{takes_memory}
use Rattle.at_event.specs.Outcomes.{IsStep, posted, sent_by, wants_memory}
use Rattle.at_transaction_socket.specs.TransactionSockets.{TransactionState, asking}
use Rattle.at_transaction_socket.specs.RequesterSocket.{hears_other, reported_other}

other_some : {A : Type 0} (tid : ℕ) (x : RequestProgress A) → wants_memory (reported_other tid x) ≡ false
other_some tid step.Ignored = refl
other_some tid step.Kept = refl
other_some tid step.AskAgain = refl
other_some tid (step.Finished packets) = refl

module _ {A : Type 0} (s : Seat) (t : TransactionState) (tid : ℕ) (h : Heard A) where
  pub steps_other : (x : RequestProgress A) (before after : List Posted) (new : TransactionState) → x ≡ h.step
      → new ≡ record t { requester = h.after }
      → after ≡ before ++ map posted (sent_by (asking s.net s.number) atp_kind (spelled_all h.sent))
      → IsStep (hears_other s t tid h) t before (reported_other tid x) new after
  steps_other x before after new is same sent = rw (other_some tid x) (ap (reported_other tid) is, same, sent)

-- a step that has an effect may take memory
pub other_wanted : {A : Type 0} (tid : ℕ) (x : RequestProgress A) → (is_ignored x ≡ true → ⊥)
    → takes_memory (reported_other tid x) ≡ true
other_wanted tid step.Ignored heeds = absurd (heeds refl)
other_wanted tid step.Kept heeds = refl
other_wanted tid step.AskAgain heeds = refl
other_wanted tid (step.Finished packets) heeds = refl
