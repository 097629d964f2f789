-- That an end moved as it was to move, and sent what it was to send.
use Rattle.std.specs.Prelude.{◌≡◌, List, ◌++◌}
use Rattle.at_adsp_frame.specs.Segments.{Content}
use Rattle.at_ddp.specs.Outbox.{Outbox}
use Rattle.at_ddp.specs.declared.address.Address.{Address}
use Rattle.at_adsp_end.specs.Ends.{Change, EndState, SendsTo}
use Rattle.at_adsp_end.specs.Hearing.{Outcome}
use Rattle.at_adsp_end.specs.declared.change.EndChange.{EndChange}
use Rattle.at_adsp_end.specs.declared.change.EndChange.TheVariants.{Closed, Opened}

pub record IsChange (c : Change) (to : Address) (new : EndState) (before after : Outbox) : Type 0 where
  pub state : new ≡ c.after
  pub sent : SendsTo before after to c.sent

pub record IsOutcome (o : Outcome) (to : Address) (step : EndChange) (new : EndState)
    (before after : Outbox) : Type 0 where
  pub step_is : step ≡ o.step
  pub state : new ≡ o.after
  pub sent : SendsTo before after to o.sent

-- an end is closed by this change
abbrev pub closed : EndState → Change → Outcome
closed e c = record { step = Closed e.id; after = c.after; sent = c.sent }

-- an end opens by this change, and sends these packets first
abbrev pub opened : EndState → List Content → Change → Outcome
opened e first c = record { step = Opened e.id; after = c.after; sent = first ++ c.sent }
