-- A row of a table that is replaced, seen down the table's columns. Assumes nothing.
use Rattle.std.proofs.Common.{◌≡◌, ℕ, List, [], length, get_or, set}
use Rattle.std.proofs.lemmas.List.{length-map, map-set}
use Rattle.std.proofs.Math.ListN.{get_or-map}
use Rattle.std.proofs.Math.Seq.{map-set_same}
use Rattle.gnat_rows.specs.Shows.{down}

pub length_down : (table : List (List ℕ)) (j : ℕ) → length (down table j) ≡ length table
length_down table j = length-map table (λ row. get_or row j 0)

-- one number of a column
pub down_at : (table : List (List ℕ)) (i j : ℕ) → get_or (down table j) i 0 ≡ get_or (get_or table i []) j 0
down_at table i j = get_or-map (λ row. get_or row j 0) table i []

-- a row is replaced
module _ (table : List (List ℕ)) (i j : ℕ) (row : List ℕ) where
  pub down_replaced : down (set table i row) j ≡ set (down table j) i (get_or row j 0)
  down_replaced = map-set (λ row. get_or row j 0) table i row

  -- where it has the number that was there, the column stays
  pub down_kept : get_or row j 0 ≡ get_or (get_or table i []) j 0 → down (set table i row) j ≡ down table j
  down_kept same = map-set_same (λ row. get_or row j 0) table i row [] same
