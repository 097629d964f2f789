-- When two segments do the same at a table of ends, and make an end alike.
use Rattle.std.proofs.Common.{◌≡◌, ℕ, Bool, true, false, cond}
use Rattle.std.proofs.Common.{ap, ◌∙◌}
use Rattle.at_ddp.specs.declared.address.Address.{Address}
use Rattle.at_adsp_frame.specs.Segments.{Content}
use Rattle.at_adsp_end.specs.Ends.{Change}
use Rattle.at_adsp_end.specs.Hearing.{Advises, Answers, Asks, Brings, Closes, Resets, Saying, after_hearing}
use Rattle.at_adsp_end.specs.Hearing.{is_empty}
use Rattle.at_adsp_end.specs.Positions.{whole, wire}
use Rattle.at_adsp_end.specs.declared.forward.Forward.TheVariants.{Jump, Older, Beyond}
use Rattle.at_adsp_end.specs.declared.change.EndChange.{EndChange}
use Rattle.at_adsp_end.specs.declared.change.EndChange.TheVariants as step
use Rattle.at_adsp_ends.specs.Receiving.{received}
use Rattle.at_adsp_ends.specs.Tables.{Done, EndTable}
use Rattle.at_adsp.proofs.WireCalls.{wired_done}
use Rattle.at_adsp.proofs.WireCalls.{wired_table}

-- the same is done, and an end is made here where one is made there
pub record Alike (d k : Done EndChange) : Type 0 where
  pub after : d.after ≡ k.after
  pub changed : d.changed ≡ k.changed
  pub sent : d.sent ≡ k.sent
  pub makes : (id : ℕ) → k.answer ≡ step.Made id → d.answer ≡ step.Made id

pub alike_same : (d k : Done EndChange) → d ≡ k → Alike d k
alike_same d k h = record {
  after = ap (λ (x : Done EndChange). x.after) h;
  changed = ap (λ (x : Done EndChange). x.changed) h;
  sent = ap (λ (x : Done EndChange). x.sent) h;
  makes = λ id is. ap (λ (x : Done EndChange). x.answer) h ∙ is;
}

-- what an open end hears makes no end
pub never_makes : (c : Change) (ack : Bool) (s : Saying) (id : ℕ) → (after_hearing whole c ack s).step ≡ step.Made id
    → {A : Type 0} → A
never_makes c ack (Brings items) id is = absurd (cc)
never_makes c ack Asks id is = absurd (cc)
never_makes c ack Closes id is = absurd (cc)
never_makes c ack (Resets (Jump d)) id is = absurd (cc)
never_makes c ack (Resets Older) id is = absurd (cc)
never_makes c ack (Resets Beyond) id is = absurd (cc)
never_makes c ack (Answers false) id is = absurd (cc)
never_makes c ack (Answers true) id is = absurd (cc)
never_makes c ack Advises id is = go (is_empty c.after.sender.unacknowledged) is
  where
    go : (b : Bool) → cond b (step.Heard c.after.id 0) step.Again ≡ step.Made id → {A : Type 0} → A
    go true h = absurd (cc)
    go false h = absurd (cc)

-- another segment of the same end that does the same
pub record LiftedAt (t : EndTable) (from : Address) (s : Content) : Type 0 where
  pub segment : Content
  pub source : segment.source ≡ s.source
  pub window : segment.window ≡ s.window
  pub alike : Alike (received wire (wired_table t) from s) (wired_done (received whole t from segment))
