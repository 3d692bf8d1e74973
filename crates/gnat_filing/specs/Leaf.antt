-- A leaf with one more row.
use Rattle.std.specs.Prelude.{◌≡◌, ℕ, ◌+◌, [], ◌∷◌, ◌++◌, length}
use Rattle.gnat_rows.specs.declared.Leaf.{Leaf as LeafRecord}
use Rattle.gnat_rows.specs.Shows.{held}

pub record Pushed (l l' : LeafRecord) (at : ℕ) : Type 0 where
  pub rows : held l' ≡ held l ++ (at ∷ [])
  pub count : l'.count ≡ l.count + 1
  pub thirty_two : length l'.rows ≡ 32
