-- How cards and their walls are written.
use Rattle.std.specs.Prelude.{◌≡◌, ℕ, List, refl}
use Rattle.card.specs.declared.Card.{Card}
use Rattle.card_checker.specs.declared.CardWall.{CardWall}

-- a card by its eight slots
abbrev pub card_numbers : Card → List ℕ
card_numbers e = e.slots

abbrev pub card_of : List ℕ → Card
card_of ns = record { slots = ns }

pub card_faithful : (e : Card) → card_of (card_numbers e) ≡ e
card_faithful e = refl

-- a wall too
abbrev pub wall_numbers : CardWall → List ℕ
wall_numbers w = w.slots

abbrev pub wall_of : List ℕ → CardWall
wall_of ns = record { slots = ns }

pub wall_faithful : (w : CardWall) → wall_of (wall_numbers w) ≡ w
wall_faithful w = refl
