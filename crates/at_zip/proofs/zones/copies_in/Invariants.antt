use Rattle.std.proofs.Common.{◌≡◌, take}
use Rattle.at_zip.proofs.zones.copies_in.Given as goal

-- the names so far are copied
abbrev pub invariant-loop-name : goal.invariant-loop-name
invariant-loop-name g l = l.copies.items ≡ take l.name-index l.names
