-- Lists that a call writes into.
use Rattle.std.specs.Prelude.{◌≡◌, ℕ, ◌-◌, List, ◌++◌, length, take, drop}
use Rattle.hits.specs.declared.Hit.{Hit}
use Rattle.hits.specs.Order.{Sorted, put}

-- a list after writing from its start: what is written, then the places behind as they were
abbrev pub over : {X : Type 0} → List X → List X → List X
over new old = new ++ drop (length new) old

-- one more hit was put into its place among the first `held`, which were in order, and what has no place is gone
abbrev pub PutIn : ℕ → Hit → List Hit → List Hit → Type 0
PutIn held hit old new = Sorted (take held old) → new ≡ over (take (length old) (put hit (take held old))) old

-- the part of a list from `at` up to `used`
abbrev pub part : {X : Type 0} → ℕ → ℕ → List X → List X
part at used xs = take (used - at) (drop at xs)

-- the first `used` values close up over the one at `at`, which goes behind them
abbrev pub closed : {X : Type 0} → ℕ → ℕ → List X → List X
closed at used xs = take at xs ++ ((drop 1 (part at used xs) ++ take 1 (part at used xs)) ++ drop used xs)
