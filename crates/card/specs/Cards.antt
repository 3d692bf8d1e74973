-- The distance of two cards.
use Rattle.std.specs.Prelude.{ℕ, ◌+◌, cond, ◌==◌, slice_index}
use Rattle.card.specs.declared.Card.{Card}

-- what it costs to change a slot from one value to another
unfoldable pub slot_cost : ℕ → ℕ → ℕ → ℕ
slot_cost cost a b = cond (a == b) 0 cost

-- the cost of the slot at a place between two cards
abbrev pub change_at : ℕ → ℕ → Card → Card → ℕ
change_at i cost e f = slot_cost cost (slice_index e.slots i) (slice_index f.slots i)

abbrev pub card_distance : Card → Card → ℕ
card_distance e f = change_at 0 40 e f + change_at 1 40 e f + change_at 2 20 e f + change_at 3 20 e f + change_at 4 10 e f + change_at 5 10 e f + change_at 6 6 e f + change_at 7 6 e f
