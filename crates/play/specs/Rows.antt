-- The rows of a roadmap's index.
use Rattle.std.specs.Prelude.{◌*◌, ◌<◌, ◌^◌}
use Rattle.std.specs.Borrow.{RattleType}
use Rattle.std.specs.Mem.{type_size}
use Rattle.scan.specs.contracts.rows.Row as plain
use Rattle.gnat_rows.specs.contracts.Row as tree

-- 64 of either kind fit in memory
abbrev pub RowsFit : RattleType → Type 0
RowsFit R = (64 * type_size (plain.the_row R) < 2 ^ 63) × (64 * type_size (tree.the_row R) < 2 ^ 63)
