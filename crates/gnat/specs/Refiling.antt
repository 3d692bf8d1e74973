-- Rows whose samples are filed anew.
use Rattle.std.specs.Prelude.{◌≡◌, ℕ, List, length, take}
use Rattle.gnat_theory.specs.Rebuilding.{rebuilt}
use Rattle.gnat_theory.specs.Shuffles.{Shuffle}
use Rattle.gnat_rows.specs.declared.Node.{Node}
use Rattle.gnat_rows.specs.declared.Row.{Row}
use Rattle.gnat_rows.specs.Lying.{OnlyIn}
use Rattle.gnat_rows.specs.Shows.{Shows}
use Rattle.gnat_rows.specs.Trees.{samples_at}

-- After j of the rows in this order: the node shows the tree of their samples, which lies in them, and only these rows
-- have changed, but not their samples or places.
pub record Refiled {E : Type 0} (dist : E → E → ℕ) (degree bucket : ℕ) (rows : List (Row E)) (order : List ℕ) (j : ℕ) (new : List (Row E)) (root : Node) : Type 0 where
  pub lies : List ℕ
  pub shows : Shows new root (rebuilt dist degree bucket (samples_at rows (take j order))) lies
  pub same_rows : Shuffle ℕ lies (take j order)
  pub only : OnlyIn order rows new
  pub as_long : length new ≡ length rows
