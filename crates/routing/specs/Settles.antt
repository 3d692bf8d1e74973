-- Costs that are offered from place to place until none can be lowered.
use Rattle.std.specs.Prelude.{◌≡◌, ℕ, ◌*◌, ◌<◌, ◌≤◌, true, false, List, [], ◌∷◌, length, Some, Option, slice_set}
use Rattle.routing.specs.declared.cost.Cost.{Cost}
use Rattle.routing.specs.declared.knockout.Waiting.{Waiting}
use Rattle.routing.specs.declared.neighbours.Neighbour.{Neighbour}
use Rattle.routing.specs.Ranks.{lowers, onward, cost_of}
use Rattle.routing.specs.Knockouts.{IsKnockout, PutIn, waits}

-- one place waits for each cost, and each that waits does so with its cost
pub record Agrees (costs : List (Option Cost)) (waiting : List (Option Waiting)) : Type 0 where
  pub knockout : IsKnockout waiting
  pub twice : length waiting ≡ 2 * length costs
  pub few : length costs ≤ 1024
  pub same : (p : ℕ) (w : Waiting) → p < length costs → waits waiting p ≡ Some w → cost_of costs p ≡ Some w.cost

-- the cost at p is lowered to c, and p waits with it; or it was no higher, and all is as it was
pub data Offered (p : ℕ) (c : Cost) (costs : List (Option Cost)) (waiting : List (Option Waiting)) : List (Option Cost) → List (Option Waiting) → Type 0 where
  kept : lowers c (cost_of costs p) ≡ false → Offered p c costs waiting costs waiting
  lowered : (after : List (Option Waiting)) → lowers c (cost_of costs p) ≡ true → PutIn p c waiting after → Offered p c costs waiting (slice_set costs p (Some c)) after

-- each of these neighbours in turn is offered the cost by way of a place of cost c
pub data HandedOn (c : Cost) : List Neighbour → List (Option Cost) → List (Option Waiting) → List (Option Cost) → List (Option Waiting) → Type 0 where
  none_left : (costs : List (Option Cost)) (waiting : List (Option Waiting)) → HandedOn c [] costs waiting costs waiting
  one_more : (n : Neighbour) (ns : List Neighbour) (costs costs' costs'' : List (Option Cost)) (waiting waiting' waiting'' : List (Option Waiting))
      → Offered n.place (onward c n.length) costs waiting costs' waiting' → HandedOn c ns costs' waiting' costs'' waiting'' → HandedOn c (n ∷ ns) costs waiting costs'' waiting''

-- every cost is of fewer steps than there are places, and no longer than so many of the greatest distance
abbrev pub FewSteps : List (Option Cost) → Type 0
FewSteps costs = (i : ℕ) (c : Cost) → i < length costs → cost_of costs i ≡ Some c → (c.steps < length costs) × (c.length ≤ 1024 * 1048576)
