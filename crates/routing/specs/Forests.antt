-- Places in a forest: each has a parent, itself or a smaller one.
use Rattle.std.specs.Prelude.{◌≡◌, ℕ, ◌<◌, ◌≤◌, List, length, slice_index}
use Rattle.chains.specs.declared.Edge.{Edge}
use Rattle.chains.specs.Chains.{Joined}
use Rattle.std.specs.List.{AllByRecursion}
use Rattle.chains.specs.Edges.{Linked, Inside}

abbrev pub IsForest : List ℕ → Type 0
IsForest parents = (p : ℕ) → p < length parents → slice_index parents p ≤ p

-- the way up from a place ends at r
pub data Top (parents : List ℕ) : ℕ → ℕ → Type 0 where
  ends : (p : ℕ) → slice_index parents p ≡ p → Top parents p p
  climbs : (p r : ℕ) → slice_index parents p < p → Top parents (slice_index parents p) r → Top parents p r

-- a chain of these edges joins two places
abbrev pub JoinedIn : ℕ → List Edge → ℕ → ℕ → Type 0
JoinedIn n edges = Joined (λ i. i < n) (Linked edges)

-- a chain of these edges, which are between places, joins every place to its parent
pub record Grown (edges : List Edge) (parents : List ℕ) : Type 0 where
  pub inside : AllByRecursion (Inside (length parents)) edges
  pub joined : (p : ℕ) → p < length parents → JoinedIn (length parents) edges p (slice_index parents p)

-- two ways up end at one place
abbrev pub Together : List ℕ → ℕ → ℕ → Type 0
Together parents p q = (r : ℕ) × Top parents p r × Top parents q r

-- the way up from a place was gone to its end r, and no way up ends elsewhere than before
pub record Climbed (from : ℕ) (before after : List ℕ) (r : ℕ) : Type 0 where
  pub long : length after ≡ length before
  pub forest : IsForest after
  pub top : Top after from r
  pub below : r ≤ from
  pub same : (p q : ℕ) → Top before p q → Top after p q
  pub grown : (edges : List Edge) → Grown edges before → Grown edges after

-- two places have one island now, and those that had one still have
pub record United (one other : ℕ) (before after : List ℕ) : Type 0 where
  pub long : length after ≡ length before
  pub forest : IsForest after
  pub together : Together after one other
  pub still : (p q : ℕ) → Together before p q → Together after p q
  pub grown : (edges : List Edge) → JoinedIn (length before) edges one other → Grown edges before → Grown edges after
