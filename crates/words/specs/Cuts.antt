-- A text that is cut in two.
use Rattle.std.specs.Prelude.{◌≡◌, ℕ, ◌+◌, List, [], ◌∷◌, length, Some, None, Option}
use Rattle.std.specs.Borrow.{Bor}
use Rattle.level_theory.specs.Words.{split}

-- the first piece and what the others are cut from, or nothing where there is one piece
abbrev pub Cut : ℕ → List ℕ → Option (Bor (List ℕ) × Bor (List ℕ)) → Type 0
Cut c text None = split c text ≡ text ∷ []
Cut c text (Some p) = (split c text ≡ p.0.now ∷ split c p.1.now) × (length p.0.now + length p.1.now + 1 ≡ length text)
