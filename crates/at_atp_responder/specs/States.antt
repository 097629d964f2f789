-- What a record holds, as the definitions see it.
use Rattle.std.specs.Prelude.{◌≡◌, ◌≤◌, true, length, is_some}
use Rattle.at_atp_responder.specs.Records.{State, Waiting, Answered, Released, fit}
use Rattle.at_atp_responder.specs.declared.record.RecordState.{RecordState}
use Rattle.at_atp_responder.specs.declared.record.RecordState.TheVariants as kept

-- a request that has memory for an answer to keep is exactly-once
abbrev pub state_of : {A : Type 0} → RecordState A → State
state_of (kept.Waiting bitmap room) = Waiting (is_some room) bitmap
state_of (kept.Answered packets) = Answered packets
state_of kept.Released = Released

-- an answer that is kept can be sent again
abbrev pub CanBeSent : State → Type 0
CanBeSent (Waiting xo bitmap) = Unit {0}
CanBeSent (Answered packets) = (length packets ≤ 8) × (fit packets ≡ true)
CanBeSent Released = Unit {0}
