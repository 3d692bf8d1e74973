-- The states of a GNAT: what each means, which tree it holds, and what is so in all of them.
use Rattle.std.specs.Prelude.{ℕ, ◌+◌, ◌≤◌, min, List, length, take}
use Rattle.std.specs.List.{AllByRecursion}
use Rattle.hits.specs.Samples.{Sample, Rising, numbers_of}
use Rattle.index.specs.Meaning.{Meaning}
use Rattle.gnat_theory.specs.Tree.{Tree, members, standing}
use Rattle.gnat_theory.specs.Keeping.{Files}
use Rattle.gnat_theory.specs.Ranges.{Ranged, Placed}
use Rattle.gnat_theory.specs.Shapes.{Branching, Leaves}
use Rattle.gnat_theory.specs.Shuffles.{Apart, SameTimes}
use Rattle.gnat_rows.specs.declared.Node.{Node}
use Rattle.gnat_rows.specs.declared.Row.{Row}
use Rattle.gnat_rows.specs.Lying.{Distinct}
use Rattle.gnat_rows.specs.Trees.{samples_at, tree_of, rows_of, IsShown}
use Rattle.gnat_order.specs.Order.{Within, places}
use Rattle.gnat_filing.specs.declared.settings.Settings.{Settings}

-- the fields of a GNAT
pub record State (E : Type 0) : Type 0 where
  pub rows : List (Row E)
  pub root : Node
  pub settings : Settings
  pub standing : ℕ
  pub marked : ℕ
  pub last : ℕ

module _ {E : Type 0} where
  abbrev pub state : List (Row E) → Node → Settings → ℕ → ℕ → ℕ → State E
  state rows root settings standing marked last = record { rows = rows; root = root; settings = settings; standing = standing; marked = marked; last = last }

  -- the rows that it uses
  abbrev pub capacity_of : State E → ℕ
  capacity_of g = min (length g.rows) 1024

  -- the rows of the samples that stand, by rising number
  abbrev pub listed : State E → List ℕ
  listed g = take g.standing (places g.rows)

  -- those of the marked samples behind them: all rows in use
  abbrev pub in_use : State E → List ℕ
  in_use g = take (g.standing + g.marked) (places g.rows)

  abbrev pub standing_in : State E → List (Sample E)
  standing_in g = samples_at g.rows (listed g)

  abbrev pub meaning_of : State E → Meaning E
  meaning_of g = record { capacity = capacity_of g; last = g.last; standing = standing_in g }

  -- no tree over 1,024 rows is more branches deep
  abbrev pub tree_in : State E → Tree E
  tree_in g = tree_of 1025 g.rows g.root

  module _ (dist : E → E → ℕ) where
    -- What is so in every state: each fact holds in one way only, so that a type can keep it.
    pub record GnatSound (g : State E) : Type 0 where
      pub last_bound : g.last ≤ 65535
      -- the places list rows in use, each once
      pub few : g.standing + g.marked ≤ capacity_of g
      pub within : Within (take (capacity_of g) (places g.rows)) (capacity_of g)
      pub apart : Distinct (take (capacity_of g) (places g.rows))
      pub rising : Rising 0 g.last (standing_in g)
      -- the rows show a tree, which lies in those that stand and those that are marked
      pub shown : IsShown 1025 g.rows g.root
      pub lies : SameTimes (rows_of 1025 g.rows g.root) (in_use g)
      -- just the standing samples stand in it, and it is built by the settings
      pub stands : SameTimes (numbers_of (standing (tree_in g))) (numbers_of (standing_in g))
      pub branching : Branching g.settings.degree (tree_in g)
      pub leaves : Leaves g.settings.bucket (tree_in g)
      pub ranged : Ranged dist (tree_in g)
      pub placed : Placed dist (tree_in g)
      -- its numbers, those of marked samples too, are apart, and none is to come
      pub numbers : Apart (members (tree_in g))
      pub given : AllByRecursion (λ s. s.number ≤ g.last) (members (tree_in g))

    -- Its tree is that of an index with its standing samples: just these stand in it, each once, every range holds the
    -- distances that it speaks of, every sample is under its nearest pivot, and no leaf is too large.
    abbrev pub FilesAll : State E → Type 0
    FilesAll g = Files dist g.settings.degree g.settings.bucket (standing_in g) (tree_in g)
