-- What rebuilding, filing and dropping make of a state g of a GNAT.
use Rattle.std.specs.Prelude.{◌≡◌, ℕ, ◌+◌, Some}
use Rattle.index.specs.Meaning.{added, dropped}
use Rattle.gnat_theory.specs.Splitting.{grown}
use Rattle.gnat_theory.specs.Dropping.{shrunk}
use Rattle.gnat_theory.specs.Rebuilding.{rebuilt, extended}
use Rattle.gnat_order.specs.Order.{Listed}
use Rattle.gnat.specs.States.{State, capacity_of, standing_in, meaning_of, tree_in}

module _ {E : Type 0} (dist : E → E → ℕ) (g : State E) where
  -- it means the same, its samples are filed anew, and no row is marked
  pub record Rebuilt (h : State E) : Type 0 where
    pub means : meaning_of h ≡ meaning_of g
    pub tree : tree_in h ≡ rebuilt dist g.settings.degree g.settings.bucket (standing_in g)
    pub settings : h.settings ≡ g.settings
    pub standing : h.standing ≡ g.standing
    pub marked : h.marked ≡ 0
    pub last : h.last ≡ g.last

  -- it means one sample more, filed in its tree
  pub record FiledNew (e : E) (h : State E) : Type 0 where
    pub means : meaning_of h ≡ added (meaning_of g) e
    pub tree : tree_in h ≡ grown dist g.settings.degree g.settings.bucket (record { number = g.last + 1; element = e }) (tree_in g)
    pub settings : h.settings ≡ g.settings
    pub last : h.last ≡ g.last + 1

  -- it means the sample n less, out of its leaf or marked
  pub record TakenOut (n : ℕ) (h : State E) : Type 0 where
    pub means : meaning_of h ≡ dropped (meaning_of g) n
    pub tree : tree_in h ≡ shrunk n (tree_in g)
    pub settings : h.settings ≡ g.settings

  -- whatever number the sample listed at this place has
  abbrev pub TakesOut : ℕ → State E → Type 0
  TakesOut at h = (n : ℕ) → Listed g.rows g.standing n (Some at) → TakenOut n h

  -- it means one sample more, and its tree is as adding leaves it: rebuilt before if every row was in use
  pub record Inserted (e : E) (h : State E) : Type 0 where
    pub means : meaning_of h ≡ added (meaning_of g) e
    pub tree : tree_in h ≡ extended dist g.settings.degree g.settings.bucket (capacity_of g) (standing_in g) (record { number = g.last + 1; element = e }) (tree_in g)
    pub settings : h.settings ≡ g.settings
    pub last : h.last ≡ g.last + 1
