use Rattle.std.proofs.Common.{◌≡◌, ℕ, List}
use Rattle.std.specs.Io.Buffered.{reader_remaining}
use Rattle.at_schedule.specs.Drafts.{IsRead, number_after}
use Rattle.at_schedule.proofs.LineLemmas.{Left}
use Rattle.at_schedule.proofs.schedule.read_setup.Given as goal

-- the draft was read of the lines so far, the number is that of the next one, and the others are in what is left of the
-- text
abbrev pub invariant-loop-turn : goal.invariant-loop-turn
invariant-loop-turn g l =
    (read : List (List ℕ)) × IsRead g.row.A.Denot read l.draft × (l.number ≡ number_after read)
    × Left (g.R.Read.remaining l.fn.reader) (reader_remaining (λ r. g.R.Read.remaining r.now) l.lines) read
