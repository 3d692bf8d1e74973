-- Costs of chains to one goal. A step costs its length times 65,536 and one more: so the cost of a chain of few steps
-- orders chains by length, and equally long ones by their count.
use Rattle.std.specs.Prelude.{◌≡◌, ℕ, ◌+◌, ◌*◌, ◌<◌, ◌≤◌, List, length, slice_index_or}
use Rattle.std.specs.List.{AllByRecursion}
use Rattle.chains.specs.declared.Edge.{Edge}
use Rattle.chains.specs.Edges.{Linked}

-- the cost of what no chain reaches, above that of any chain
abbrev pub none : ℕ
none = 4611686018427387904

abbrev pub step_cost : ℕ → ℕ
step_cost d = d * 65536 + 1

abbrev pub cost_at : List ℕ → ℕ → ℕ
cost_at costs i = slice_index_or costs i none

-- some chain of edges from i to the goal has this cost
pub data Way (edges : List Edge) (goal : ℕ) : ℕ → ℕ → Type 0 where
  stays : (i c : ℕ) → i ≡ goal → c ≡ 0 → Way edges goal i c
  goes : (i c j d rest : ℕ) → Linked edges i j d → Way edges goal j rest → c ≡ rest + step_cost d → Way edges goal i c

-- neither end of the edge can be lowered by way of the other
pub record SettledAt (costs : List ℕ) (e : Edge) : Type 0 where
  pub elder : cost_at costs e.younger < none → cost_at costs e.elder ≤ cost_at costs e.younger + step_cost e.length
  pub younger : cost_at costs e.elder < none → cost_at costs e.younger ≤ cost_at costs e.elder + step_cost e.length

-- every cost that was found is some chain's
pub record Attained (edges : List Edge) (goal : ℕ) (costs : List ℕ) : Type 0 where
  pub inside : goal < length costs
  pub start : cost_at costs goal ≡ 0
  pub attained : (i : ℕ) → cost_at costs i < none → Way edges goal i (cost_at costs i)

-- and none can be lowered
pub record Settled (edges : List Edge) (goal : ℕ) (costs : List ℕ) : Type 0 where
  pub attained : Attained edges goal costs
  pub settled : AllByRecursion (SettledAt costs) edges

-- of all next ones on a chain of least cost, r is the smallest
pub record Onward (edges : List Edge) (costs : List ℕ) (i r : ℕ) : Type 0 where
  pub smallest : (j d : ℕ) → Linked edges i j d → cost_at costs j + step_cost d ≡ cost_at costs i → r ≤ j
  pub joined : r < length costs → (d : ℕ) × Linked edges i r d × (cost_at costs r + step_cost d ≡ cost_at costs i)
