-- The pairs of cards that Mix passes.
use Rattle.std.specs.Prelude.{ℕ, Bool, not, ◌&&◌, List, ◌==◌, slice_index}
use Rattle.std.specs.List.{range_with_len, list_all, list_any}
use Rattle.card.specs.declared.Card.{Card}
use Rattle.card_checker.specs.declared.CardWall.{CardWall}

-- a slot of a wall is other than 255 and differs from both cards
abbrev pub free : ℕ → ℕ → ℕ → Bool
free asked a b = not (asked == 255) && not (asked == a) && not (asked == b)

-- that, of the slot at a place
abbrev pub free_at : CardWall → Card → Card → ℕ → Bool
free_at w e f i = free (slice_index w.slots i) (slice_index e.slots i) (slice_index f.slots i)

-- two cards are clear of a wall if it holds of some slot
unfoldable pub clear : CardWall → Card → Card → Bool
clear w e f = list_any (free_at w e f) (range_with_len 0 8)

-- Mix passes if they are clear of each wall
unfoldable pub mix_passes : List CardWall → Card → Card → Bool
mix_passes walls e f = list_all (λ w. clear w e f) walls
