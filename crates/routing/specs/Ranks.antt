-- What chains cost, and which of two costs is less.
use Rattle.std.specs.Prelude.{ℕ, ◌+◌, ◌*◌, ◌&&◌, ◌||◌, Bool, true, List, map, Some, None, Option, ◌==◌, nat_lt, slice_index_or}
use Rattle.chains.specs.Costs.{none}
use Rattle.routing.specs.declared.cost.Cost.{Cost}

abbrev pub cost : ℕ → ℕ → Cost
cost length steps = record { length = length; steps = steps }

-- one step in front, so far
abbrev pub onward : Cost → ℕ → Cost
onward c apart = cost (c.length + apart) (c.steps + 1)

-- the shorter, and of two equally long the one of fewer steps
unfoldable pub cheaper : Cost → Cost → Bool
cheaper a b = nat_lt a.length b.length || (a.length == b.length && nat_lt a.steps b.steps)

-- less than a cost that is known, or none is
abbrev pub lowers : Cost → Option Cost → Bool
lowers c None = true
lowers c (Some known) = cheaper c known

-- the cost of the chain from a place, where one is known
abbrev pub cost_of : List (Option Cost) → ℕ → Option Cost
cost_of costs i = slice_index_or costs i None

-- The number that the theory of chains has for a cost. It orders the costs of chains of fewer than 65,536 steps as they are, and
-- settled costs have fewer steps than there are places.
abbrev pub rank : Cost → ℕ
rank c = c.length * 65536 + c.steps

abbrev pub rank_of : Option Cost → ℕ
rank_of None = none
rank_of (Some c) = rank c

abbrev pub ranks : List (Option Cost) → List ℕ
ranks costs = map rank_of costs
