-- Numbers in a row.
use Rattle.std.specs.Prelude.{ℕ, List, [], ◌∷◌}
use Rattle.hits.specs.declared.Hit.{Hit}

-- the number and the distance of each hit
abbrev pub hit_numbers : List Hit → List ℕ
hit_numbers [] = []
hit_numbers (h ∷ hs) = h.number ∷ (h.distance ∷ hit_numbers hs)
