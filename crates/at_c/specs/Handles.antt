-- The memory behind a handle: none at null, and else the box of a node, which the handle owns.
use base.Fml.{Fml, ftrue, ffalse}
use denote.RawPtr.{Ptr, block_ptr, null_ptr}
use Rattle.std.specs.Prelude.{Option}
use Rattle.std.specs.declared.option.Option.TheVariants.{None, Some}
use Rattle.libc.specs.Heap.{chunk}
use Rattle.std.specs.Box.Ownership.{box_owns}
use Rattle.at_held.specs.Held.{HeldState}
use Rattle.at_held.specs.contracts.held.HeldNode.{the_row}

abbrev pub holds : Ptr → Option HeldState → Fml
holds null_ptr None = ftrue
holds null_ptr (Some n) = ffalse
holds (block_ptr b o) None = ffalse
holds (block_ptr b o) (Some n) = box_owns chunk the_row (block_ptr b o) n
