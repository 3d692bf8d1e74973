-- Rebuilding, where every row is in use.
use Rattle.std.specs.Prelude.{ℕ, cond, List, [], length, nat_lt}
use Rattle.hits.specs.Samples.{Sample}
use Rattle.gnat_theory.specs.Tree.{Tree, members}
use Rattle.gnat_theory.specs.Tree.Tree.{leaf}
use Rattle.gnat_theory.specs.Filing.{filed_all}
use Rattle.gnat_theory.specs.Splitting.{kept_or_split, grown}

module _ {E : Type 0} (dist : E → E → ℕ) (degree bucket : ℕ) where
  -- these samples filed anew, one by one
  abbrev pub rebuilt : List (Sample E) → Tree E
  rebuilt xs = filed_all dist (kept_or_split dist degree bucket) xs (leaf [])

  -- the tree if one of so many rows is free, else the samples xs that stand filed anew, without the marked ones
  abbrev pub made_room : ℕ → List (Sample E) → Tree E → Tree E
  made_room rows xs t = cond (nat_lt (length (members t)) rows) t (rebuilt xs)

  -- the tree after adding s to the samples xs
  abbrev pub extended : ℕ → List (Sample E) → Sample E → Tree E → Tree E
  extended rows xs s t = grown dist degree bucket s (made_room rows xs t)
