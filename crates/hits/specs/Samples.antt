-- Samples, and the hits of a query among them.
use Rattle.std.specs.Prelude.{◌≡◌, ℕ, ◌<◌, ◌≤◌, ◌⊎◌, List, [], ◌∷◌, length, map}
use Rattle.std.specs.Coded.{Unit-prop, le_prop}
use mathlib.Core.HLevel.{×₃_prop}
use Rattle.hits.specs.declared.Hit.{Hit}
use Rattle.hits.specs.Order.{InOrder, put}

-- an element that was filed under a number
pub record Sample (E : Type 0) : Type 0 where
  pub number : ℕ
  pub element : E

-- their numbers
abbrev pub numbers_of : {E : Type 0} → List (Sample E) → List ℕ
numbers_of xs = map (λ s. s.number) xs

-- x is one of these
abbrev pub Among : {X : Type 0} → X → List X → Type 0
Among x [] = ⊥
Among x (y ∷ ys) = (x ≡ y) ⊎ Among x ys

-- numbers rise, from above `low` up to `high`
abbrev pub Rising : {E : Type 0} → ℕ → ℕ → List (Sample E) → Type 0
Rising low high [] = Unit {0}
Rising low high (s ∷ rest) = (low < s.number) × (s.number ≤ high) × Rising s.number high rest

-- that numbers rise has one proof at most
pub Rising-prop : {E : Type 0} (low high : ℕ) (xs : List (Sample E)) → IsProp (Rising low high xs)
Rising-prop low high [] = Unit-prop
Rising-prop low high (s ∷ rest) = ×₃_prop le_prop le_prop (Rising-prop s.number high rest)

module _ {E : Type 0} (dist : E → E → ℕ) (q : E) where
  -- a sample's hit: its number and its distance from the query
  abbrev pub hit_of : Sample E → Hit
  hit_of s = record { number = s.number; distance = dist q s.element }

  -- the hits of all these samples, each put into its place
  abbrev pub hits : List (Sample E) → List Hit
  hits [] = []
  hits (s ∷ rest) = put (hit_of s) (hits rest)

  -- the hits are exactly the samples with their distances, each once, in order
  pub record Ranked (samples : List (Sample E)) (hs : List Hit) : Type 0 where
    -- each sample has its hit
    pub each : (s : Sample E) → Among s samples → Among (hit_of s) hs
    -- no other hit is there
    pub only : (h : Hit) → Among h hs → (s : Sample E) × Among s samples × (h ≡ hit_of s)
    -- as many hits as samples
    pub once : length hs ≡ length samples
    -- by distance and then number, none twice
    pub ordered : InOrder hs
