-- Which numbers a list of edges joins.
use Rattle.std.specs.Prelude.{ℕ, ◌<◌, ◌≤◌, ◌⊎◌, List, [], ◌∷◌}
use Rattle.hits.specs.Samples.{Among}
use Rattle.chains.specs.declared.Edge.{Edge}

abbrev pub edge : ℕ → ℕ → ℕ → Edge
edge x y d = record { elder = x; younger = y; length = d }

-- one of the edges joins x and y, whichever is the elder, and is d long
abbrev pub Linked : List Edge → ℕ → ℕ → ℕ → Type 0
Linked edges x y d = Among (edge x y d) edges ⊎ Among (edge y x d) edges

-- an edge under other names
abbrev pub renamed : (ℕ → ℕ) → Edge → Edge
renamed f e = edge (f e.elder) (f e.younger) e.length

-- both ends are below n, and it is no longer than the greatest distance of any kind
abbrev pub Inside : ℕ → Edge → Type 0
Inside n e = (e.elder < n) × (e.younger < n) × (e.length ≤ 1048576)

-- numbers rise, from above `low`
abbrev pub Rises : ℕ → List ℕ → Type 0
Rises low [] = Unit {0}
Rises low (n ∷ ns) = (low < n) × Rises n ns
