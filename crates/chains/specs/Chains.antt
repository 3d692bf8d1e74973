-- Chains of joined numbers, islands, and the chain that the rule chooses.
use Rattle.std.specs.Prelude.{◌≡◌, ℕ, ◌+◌, ◌<◌, ◌≤◌, ◌⊎◌, List, [], ◌∷◌, length}

abbrev pub Starts : ℕ → List ℕ → Type 0
Starts a [] = ⊥
Starts a (n ∷ rest) = a ≡ n

abbrev pub Ends : ℕ → List ℕ → Type 0
Ends b [] = ⊥
Ends b (n ∷ []) = b ≡ n
Ends b (n ∷ (m ∷ rest)) = Ends b (m ∷ rest)

-- the smaller number at the first place where they differ, or no such place
abbrev pub NotAfter : List ℕ → List ℕ → Type 0
NotAfter [] os = Unit {0}
NotAfter (n ∷ ns) [] = ⊥
NotAfter (n ∷ ns) (o ∷ os) = (n < o) ⊎ ((n ≡ o) × NotAfter ns os)

-- the shorter of two chains, then the one of fewer numbers, then the one with the smaller number at the first place where
-- they differ
abbrev pub Preferred : ℕ → List ℕ → ℕ → List ℕ → Type 0
Preferred l ns t os = (l < t) ⊎ ((l ≡ t) × ((length ns < length os) ⊎ ((length ns ≡ length os) × NotAfter ns os)))

-- `Stands n`: n may be part of a chain. `Step x y d`: x and y are joined and d apart.
module _ (Stands : ℕ → Type 0) (Step : ℕ → ℕ → ℕ → Type 0) where
  -- one or more standing numbers, every two neighbours joined; its length is the sum of their distances
  abbrev pub Chain : List ℕ → ℕ → Type 0
  Chain [] l = ⊥
  Chain (n ∷ []) l = Stands n × (l ≡ 0)
  Chain (n ∷ (m ∷ rest)) l = (d : ℕ) × (t : ℕ) × Step n m d × Chain (m ∷ rest) t × (l ≡ d + t)

  -- a chain of length l from a to b
  pub record Joins (a b : ℕ) (ns : List ℕ) (l : ℕ) : Type 0 where
    pub chain : Chain ns l
    pub starts : Starts a ns
    pub ends : Ends b ns

  -- some chain joins a and b
  pub record Joined (a b : ℕ) : Type 0 where
    pub numbers : List ℕ
    pub long : ℕ
    pub joins : Joins a b numbers long

  -- the smallest number that a chain joins to n
  pub record Island (n m : ℕ) : Type 0 where
    pub joined : Joined n m
    pub smallest : (j : ℕ) → Joined n j → m ≤ j

  -- the chain that the rule chooses, and its length
  pub record Route (a b : ℕ) (ns : List ℕ) (l : ℕ) : Type 0 where
    pub joins : Joins a b ns l
    pub best : (os : List ℕ) (t : ℕ) → Joins a b os t → Preferred l ns t os
