-- What an end sends, the room for it, and how it is cut.
use Rattle.std.specs.Prelude.{◌≡◌, ℕ, ◌+◌, ◌*◌, ◌≤◌, List, [], ◌∷◌, ◌++◌, length, take, drop, Option, Some, None}
use Rattle.std.specs.Prelude.{IfSome}
use Rattle.at_ddp.specs.Outbox.{Outbox}
use Rattle.at_adsp_end.specs.Cuts.{bytes_of, cut_now, numbered, pieces}
use Rattle.at_adsp_end.specs.Ends.{EndState, Sender, SendsTo}
use Rattle.at_adsp_end.specs.Loads.{LeavesRoom}
use Rattle.at_adsp_end.specs.Positions.{wire}
use Rattle.at_adsp_end.specs.Sending.{acknowledged, going}
use Rattle.at_adsp_end.specs.declared.item.Item.{Item}

pub record Outgoing : Type 0 where
  pub sender : Sender
  pub room : ℕ

-- all that is queued for sending, in the order of writing
abbrev pub queued : Sender → List Item
queued s = s.unacknowledged ++ s.waiting

-- so many of the queued items, from this place on
abbrev pub stretch : Sender → ℕ → ℕ → List Item
stretch s from count = take count (drop from (queued s))

-- an end acknowledges no more than was sent
abbrev pub IsWithin : Sender → Option ℕ → Type 0
IsWithin s acks = IfSome acks (λ k. k ≤ length s.unacknowledged)

-- the items that go once so many are acknowledged
abbrev pub going_after : Sender → ℕ → Option ℕ → List Item
going_after s window None = []
going_after s window (Some k) = going (acknowledged wire k window s)

-- how many more items may be sent then, while none go
abbrev pub credit_after : Sender → ℕ → Option ℕ → ℕ
credit_after s window None = s.credit
credit_after s window (Some k) = (acknowledged wire k window s).credit

-- One more item is cut: what goes now went, and whatever follows the item, the others are those of the new segment.
pub record Cuts (old new : Outbox) (by : EndState) (first : ℕ) (got : List ℕ) (item : Item) (after : ℕ) (left : List ℕ)
    : Type 0 where
  pub sent : SendsTo old new by.asked (cut_now wire by first got item)
  pub rest : (xs : List Item) → numbered wire by first (pieces got (item ∷ xs))
      ≡ cut_now wire by first got item ++ numbered wire by after (pieces left xs)
  pub room : LeavesRoom old new by.asked (cut_now wire by first got item)

-- so many pieces, and one that has so many bytes so far, are counted of the pieces of all items, and so many bytes in
-- all of them; these items are left
pub record Counted (segments filled bytes : ℕ) (all left : List Item) : Type 0 where
  pub got : List ℕ
  pub has : length got ≡ filled
  pub whole : segments + length (pieces got left) ≡ length (pieces [] all)
  pub carried : 13 * segments + bytes + bytes_of (pieces got left) ≡ bytes_of (pieces [] all) + length got
