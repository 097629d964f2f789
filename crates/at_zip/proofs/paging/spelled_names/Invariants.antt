use Rattle.std.proofs.Common.{◌≡◌, ◌≤◌, take, vec_capacity}
use Rattle.at_zip.specs.Names.{spelled}
use Rattle.at_zip.proofs.paging.spelled_names.Given as goal

abbrev pub invariant-loop-name : goal.invariant-loop-name
invariant-loop-name g l = (l.bytes.items ≡ spelled (take l.name-index l.names)) × (578 ≤ vec_capacity l.bytes)
