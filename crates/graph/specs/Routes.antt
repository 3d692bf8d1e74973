-- What a call for a route tells and writes.
use Rattle.std.specs.Prelude.{ℕ, ◌<◌, ◌≤◌, List, [], ◌∷◌, length}
use Rattle.hits.specs.Samples.{Among}
use Rattle.hits.specs.Lists.{over}
use Rattle.chains.specs.Chains.{Joined, Route}
use Rattle.index.specs.Outcomes.{Outcome, gives, refuses}
use Rattle.links.specs.declared.Links.{Links}
use Rattle.links.specs.Records.{numbers}

-- a record has this number
abbrev pub Standing : List Links → ℕ → Type 0
Standing links n = Among n (numbers links)

-- between two that stand: refused by 6 if no chain joins them, by 7 if the list is shorter than the chosen chain, else
-- that chain is written, and its length and count are given
pub data Routed (Stands : ℕ → Type 0) (Step : ℕ → ℕ → ℕ → Type 0) (a b : ℕ) (list : List ℕ) : Outcome (ℕ × ℕ) → List ℕ → Type 0 where
  apart : (Joined Stands Step a b → ⊥) → Routed Stands Step a b list (refuses 6 []) list
  too_short : (ns : List ℕ) (l : ℕ) → Route Stands Step a b ns l → length list < length ns → Routed Stands Step a b list (refuses 7 (length ns ∷ [])) list
  written : (ns : List ℕ) (l : ℕ) → Route Stands Step a b ns l → length ns ≤ length list → Routed Stands Step a b list (gives (l, length ns)) (over ns list)
