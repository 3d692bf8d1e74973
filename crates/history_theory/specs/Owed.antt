-- What is owed of the islands and routes of a history.
use Rattle.std.specs.Prelude.{◌≡◌, ℕ, ◌<◌, ◌≤◌, Bool, true, ◌⊎◌, List, [], ◌∷◌, length}
use Rattle.hits.specs.Lists.{over}
use Rattle.chains.specs.Chains.{Joins, Joined, Island, Route}
use Rattle.roadmap.specs.Roads.{Stands}
use Rattle.history_theory.specs.History.{Asked, asks_add, asks_drop, asks_element, asks_tally, asks_near, asks_within, asks_island, asks_route, Reply, names, leads, Lists, number_list, History, samples, Brought, Pair}

module _ {E : Type 0} (dist : E → E → ℕ) where
  -- the step from x to y passes in this direction, by the checker given when z came
  pub record PassesBy (h : History E) (x y z : ℕ) : Type 0 where
    pub from : Stands (samples h) x
    pub to : Stands (samples h) y
    pub element : E
    pub passes : E → E → Bool
    pub before : History E
    pub brought : Brought h z element passes before
    pub passed : passes from.0 to.0 ≡ true

  -- its younger end is the one that came later
  abbrev pub StepPasses : History E → ℕ → ℕ → Type 0
  StepPasses h x y = ((x < y) × PassesBy h x y y) ⊎ ((y < x) × PassesBy h x y x)

  abbrev pub StepsPass : History E → List ℕ → Type 0
  StepsPass h [] = Unit {0}
  StepsPass h (n ∷ []) = Unit {0}
  StepsPass h (n ∷ (m ∷ rest)) = StepPasses h n m × StepsPass h (m ∷ rest)

  -- Islands. island names the smallest number that a chain of admitted pairs joins to n, and another sample has the same
  -- exactly if such a chain joins the two
  pub record IslandOwed (h : History E) (n : ℕ) (a : Reply E) : Type 0 where
    pub number : ℕ
    pub answers : a ≡ names number
    pub smallest : Island (Stands (samples h)) (Pair dist h) n number
    pub shared : (other its : ℕ) → Island (Stands (samples h)) (Pair dist h) other its → (number ≡ its → Joined (Stands (samples h)) (Pair dist h) n other) × (Joined (Stands (samples h)) (Pair dist h) n other → number ≡ its)

  -- Routes. route gives the chain of admitted pairs that the rule chooses, with its length and count, if the list has
  -- places; every other such chain is at least as long; and each step passes in the direction travelled
  pub record RouteOwed (h : History E) (x y : ℕ) (list : List ℕ) (a : Reply E) (l : Lists) : Type 0 where
    pub chain : List ℕ
    pub long : ℕ
    pub chosen : Route (Stands (samples h)) (Pair dist h) x y chain long
    pub shortest : (other : List ℕ) (t : ℕ) → Joins (Stands (samples h)) (Pair dist h) x y other t → long ≤ t
    pub passing : StepsPass h chain
    pub given : length chain ≤ length list → (a ≡ leads long (length chain)) × (l ≡ number_list (over chain list))

  abbrev pub Owed : History E → Asked E → Reply E → Lists → Type 0
  Owed h (asks_add e p) a l = Unit {0}
  Owed h (asks_drop n) a l = Unit {0}
  Owed h (asks_element n) a l = Unit {0}
  Owed h asks_tally a l = Unit {0}
  Owed h (asks_near q k list) a l = Unit {0}
  Owed h (asks_within q r list) a l = Unit {0}
  Owed h (asks_island n) a l = Stands (samples h) n → IslandOwed h n a
  Owed h (asks_route x y list) a l = (m : ℕ) → Island (Stands (samples h)) (Pair dist h) x m → Island (Stands (samples h)) (Pair dist h) y m → RouteOwed h x y list a l
