-- That a table moved as it was to move, and sent what it was to send.
use Rattle.std.specs.Prelude.{◌≡◌, ℕ, List, [], take, Result, Ok, Err}
use Rattle.at_ddp.specs.Outbox.{Outbox}
use Rattle.at_ddp.specs.Sending.{Sends}
use Rattle.at_adsp_end.specs.Ends.{spelled_all}
use Rattle.at_adsp_end.specs.declared.fault.StreamFault.{StreamFault}
use Rattle.at_adsp_end.specs.declared.fault.StreamFault.TheVariants.{NoMemory}
use Rattle.at_adsp_end.specs.declared.item.Item.{Item}
use Rattle.at_adsp_end.specs.declared.change.EndChange.{EndChange}
use Rattle.at_adsp_ends.specs.Tables.{Done, EndTable}

pub record IsDone {X : Type 0} (d : Done X) (answer : X) (new : EndTable) (before after : Outbox) : Type 0 where
  pub answer_is : answer ≡ d.answer
  pub state : new ≡ d.after
  pub sent : Sends before after (spelled_all d.sent)

-- nothing changed, and nothing was sent
pub record IsNothing (old new : EndTable) (before after : Outbox) : Type 0 where
  pub state : new ≡ old
  pub sent : Sends before after []

-- a segment did this, or memory was out
abbrev pub IsTaken : {E : Type 0} → Done EndChange → Result EndChange E → EndTable → EndTable → Outbox → Outbox → Type 0
IsTaken d (Ok step) old new before after = IsDone d step new before after
IsTaken d (Err e) old new before after = IsNothing old new before after

-- A call did this, or was refused for this reason. A call that is not to be refused may find memory out.
abbrev pub IsCalled : {X : Type 0} → Result (Done X) StreamFault → Result X StreamFault → EndTable → EndTable → Outbox
    → Outbox → Type 0
IsCalled (Ok d) (Ok answer) old new before after = IsDone d answer new before after
IsCalled (Ok d) (Err fault) old new before after = (fault ≡ NoMemory) × IsNothing old new before after
IsCalled (Err refusal) r old new before after = (r ≡ Err refusal) × IsNothing old new before after

-- what a call that counts has read, by what its buffer holds then
abbrev pub read_of : Result ℕ StreamFault → List Item → Result (List Item) StreamFault
read_of (Ok count) buffer = Ok (take count buffer)
read_of (Err fault) buffer = Err fault
