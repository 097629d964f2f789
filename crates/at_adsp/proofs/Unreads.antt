-- That an end has no more unread than it received, and keeps whom it asked.
use Rattle.std.proofs.Common.{◌≤◌, length}
use Rattle.at_adsp_end.specs.Ends.{EndState}

-- no more is unread than was received
abbrev pub Unread : EndState → Type 0
Unread e = length e.receiver.unread ≤ e.receiver.received
