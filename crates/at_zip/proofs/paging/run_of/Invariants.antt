use Rattle.std.proofs.Common.{◌≡◌, ◌++◌, take, drop}
use Rattle.at_zip.specs.Page.{longest_run}
use Rattle.at_zip.proofs.paging.run_of.Given as goal

-- the run is the names so far, and the run of those left in the room that is left
abbrev pub invariant-loop-index : goal.invariant-loop-index
invariant-loop-index l = longest_run 578 l.names ≡ take l.index l.names ++ longest_run l.room (drop l.index l.names)
