-- The walk along a chain of least cost.
use Rattle.std.specs.Prelude.{◌≡◌, ℕ, ◌+◌, ◌<◌, ◌≤◌, min, Bool, true, false, cond, ◌&&◌, List, Some, None, Option, ◌==◌}
use Rattle.hits.specs.Lists.{over}
use Rattle.hits.specs.Samples.{Among}
use Rattle.chains.specs.declared.Edge.{Edge}
use Rattle.chains.specs.Chains.{Route}
use Rattle.chains.specs.Edges.{Linked}
use Rattle.routing.specs.declared.cost.Cost.{Cost}
use Rattle.routing.specs.declared.neighbours.Neighbour.{Neighbour}
use Rattle.routing.specs.Ranks.{cost_of}

abbrev pub steps_of : Option Cost → ℕ
steps_of None = 0
steps_of (Some c) = c.steps

-- a step so far, from a place of cost c to one of this cost, lies on a chain of least cost
abbrev pub leads_on : Option Cost → Option Cost → ℕ → Bool
leads_on None next d = false
leads_on (Some c) None d = false
leads_on (Some c) (Some n) d = n.length + d == c.length && n.steps + 1 == c.steps

abbrev pub smaller : Option ℕ → ℕ → ℕ
smaller None p = p
smaller (Some b) p = min b p

-- the smaller of the best so far and a neighbour of this cost, if such a step leads to it
abbrev pub better : Option ℕ → Option Cost → Option Cost → Neighbour → Option ℕ
better best c next n = cond (leads_on c next n.length) (Some (smaller best n.place)) best

-- of the neighbours to which such a step leads, r is the smallest, if there is one
pub data SmallestOn (c : Option Cost) (neighbours : List Neighbour) (costs : List (Option Cost)) : Option ℕ → Type 0 where
  ends : ((n : Neighbour) → Among n neighbours → leads_on c (cost_of costs n.place) n.length ≡ false) → SmallestOn c neighbours costs None
  goes : (n : Neighbour) → Among n neighbours → leads_on c (cost_of costs n.place) n.length ≡ true
      → ((m : Neighbour) → Among m neighbours → leads_on c (cost_of costs m.place) m.length ≡ true → n.place ≤ m.place) → SmallestOn c neighbours costs (Some n.place)

-- the chosen chain from start to goal was written
pub record Walked (edges : List Edge) (places : ℕ) (start goal : ℕ) (before after : List ℕ) : Type 0 where
  pub numbers : List ℕ
  pub long : ℕ
  pub route : Route (λ i. i < places) (Linked edges) start goal numbers long
  pub writes : after ≡ over numbers before
