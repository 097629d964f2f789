use Rattle.std.proofs.Common.{◌≡◌, take}
use Rattle.std.specs.Prelude.{map}
use Rattle.at_drive.specs.Drives.{Runs, noting, number_of, opening_drive}
use Rattle.at_drive.specs.Steps.{numbers_of}
use Rattle.at_drive.proofs.driving.drive.Given as goal

-- the log so far is that of the steps so far, and the nodes keep their numbers
abbrev pub invariant-loop-at : goal.invariant-loop-at
invariant-loop-at g l = record {
  runs : Runs g.C.Cable.sends g.C.Cable.receives 0 (take l.at l.steps) (opening_drive l.fn.setup) l.fn.cable
      (noting l.drive l.log) l.cable;
  numbers : map number_of l.drive.nodes ≡ numbers_of l.fn.setup;
}
