-- The open transactions in their table (Inside AppleTalk, ATP, "Transactions").
use Rattle.std.specs.Prelude.{ℕ, List, Option}
use Rattle.at_table.specs.Rows.{AreKeyed, Rows}
use Rattle.at_atp_requester.specs.Requests.{Transaction, closing}

-- what a transaction is found by
abbrev pub tid_of : Transaction → ℕ
tid_of t = t.tid

-- each transaction is found by its own number
abbrev pub AreFiled : Rows ℕ Transaction → Type 0
AreFiled t = AreKeyed tid_of t

-- those that are open once the transaction of a number is closed
abbrev pub left_open : List Transaction → Option ℕ → List Transaction
left_open ts closed = (closing (record { next = 0; standing = ts }) closed).standing
