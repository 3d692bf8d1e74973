-- What a roadmap's values mean, and what its making and its search for a place tell.
use Rattle.std.specs.Prelude.{◌≡◌, ℕ, ◌<◌, ◌≤◌, ◌⊎◌, [], take, Some, None, Ok, Err, Option, Result}
use Rattle.index.specs.Meaning.{Meaning, element_at}
use Rattle.index.specs.declared.refusal.Refusal.{Refusal}
use Rattle.index.specs.declared.refusal.Refusal.TheVariants.{NotStanding}
use Rattle.links.specs.Records.{number_at, edges_of}
use Rattle.roadmap.specs.declared.Roadmap.{Roadmap}
use Rattle.roadmap.specs.declared.Unmade.{Unmade}
use Rattle.roadmap.specs.declared.Unmade.TheVariants.{Setting, TooFewRecords}
use Rattle.roadmap.specs.Roads.{Road, Stands}

abbrev pub road_of : {I E : Type 0} {J : _} {M : _} → (I → Meaning E) → Roadmap I E J M → Road E
road_of meaning r = record { index = meaning r.index; k = r.k; edges = edges_of (take r.used r.links.now) }

-- where the record of a number is, or that it does not stand
abbrev pub Placed : {I E : Type 0} {J : _} {M : _} → (I → Meaning E) → Roadmap I E J M → ℕ → Option ℕ → Type 0
Placed meaning r n None = element_at n (meaning r.index).standing ≡ None
Placed meaning r n (Some i) = (i < r.used) × (number_at (take r.used r.links.now) i ≡ n) × Stands (meaning r.index) n

-- the same as a call tells it: that it does not stand is a refusal
abbrev pub PlaceTold : {I E : Type 0} {J : _} {M : _} → (I → Meaning E) → Roadmap I E J M → ℕ → Result ℕ Refusal → Type 0
PlaceTold meaning r n (Ok i) = Placed meaning r n (Some i)
PlaceTold meaning r n (Err refusal) = (refusal ≡ NotStanding n) × Placed meaning r n None

-- What is made: a roadmap without edges; or k is refused exactly if it is outside 1 to 8; or, if not, the records exactly
-- if they are fewer than the capacity.
abbrev pub Made : {I E : Type 0} {J : _} {M : _} → (I → Meaning E) → I → ℕ → ℕ → Result (Roadmap I E J M) Unmade → Type 0
Made meaning i k places (Ok r) = (1 ≤ k) × (k ≤ 8) × ((meaning i).capacity ≤ places) × (road_of meaning r ≡ record { index = meaning i; k = k; edges = [] })
Made meaning i k places (Err (Setting v)) = (v ≡ k) × ((k ≡ 0) ⊎ (8 < k))
Made meaning i k places (Err (TooFewRecords n)) = (1 ≤ k) × (k ≤ 8) × (n ≡ (meaning i).capacity) × (places < (meaning i).capacity)
