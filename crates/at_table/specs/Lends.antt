-- What a table is once a `&mut` to one of its values has ended.
use Rattle.std.specs.Prelude.{ℕ}
use Rattle.std.specs.Borrow.{Fml, RattleType, MutBor, Lends}
use Rattle.std.specs.HashMap.Lent.{HashMembers}
use Rattle.std.specs.declared.alloc.Allocator as alloc
use Rattle.at_table.specs.Rows.{Rows, with_item}
use Rattle.at_table.specs.contracts.table.Table.{the_row}

-- the value at the index is the last that was written through r
abbrev pub lends_item : (K V A : RattleType) (key : HashMembers K.Denot) (heap : alloc.Ghosts A.Denot)
    → MutBor (Rows K.Denot V.Denot) → ℕ → MutBor V.Denot → Fml
lends_item K V A key heap t index r =
    Lends (the_row K V A (record { eq = key.eq }) (record { hash_input = key.hash_input }) heap) V t r
    (with_item t.now index)
