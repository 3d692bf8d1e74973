use Rattle.std.proofs.Common.{◌≡◌, ◌≤◌, length, take}
use Rattle.gnat_rows.specs.Shows.{held}
use Rattle.gnat_filing.specs.Dropping.{without_row}
use Rattle.gnat_filing.proofs.dropping.shortened.Given as goal

abbrev pub invariant-loop-row : goal.invariant-loop-row
invariant-loop-row l = (l.rest.count ≤ l.row-index) × (length l.rest.rows ≡ 32) × (held l.rest ≡ without_row l.at (take l.row-index l.row-items))
