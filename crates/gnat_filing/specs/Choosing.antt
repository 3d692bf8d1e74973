-- Choosing the pivots of a split.
use Rattle.std.specs.Prelude.{◌≡◌, ℕ, ◌-◌, min, Bool, ◌&&◌, ◌||◌, List, [], ◌∷◌, ◌++◌, map, take, ◌==◌, nat_lt, slice_index_or}
use Rattle.hits.specs.Samples.{Sample}
use Rattle.gnat_theory.specs.Choice.{first_place, removed}
use Rattle.gnat_theory.specs.Filing.{distances}
use Rattle.gnat_theory.specs.Splitting.{least, farther, chosen}
use Rattle.gnat_theory.specs.Shuffles.{Shuffle}
use Rattle.gnat_rows.specs.declared.Leaf.{Leaf}
use Rattle.gnat_rows.specs.declared.Row.{Row}
use Rattle.gnat_rows.specs.Rows.{HasRow}
use Rattle.gnat_rows.specs.Shows.{sample_in, held, HoldsSamples}
use Rattle.gnat_filing.specs.declared.choosing.Candidate.{Candidate}

-- where there is no pivot yet, a distance above all
unfoldable pub top : ℕ
top = 4294967295

abbrev pub blank : Candidate
blank = record { row = 0; number = 0; gap = 0 }

-- the farther from its nearest pivot, the smaller number if equal
abbrev pub farther_one : Candidate → Candidate → Bool
farther_one c d = nat_lt d.gap c.gap || (d.gap == c.gap && nat_lt c.number d.number)

abbrev pub rows_of : List Candidate → List ℕ
rows_of cs = map (λ c. c.row) cs

-- the row i put down as a candidate, before any pivot is chosen
pub record CandidateOf {E : Type 0} (rows : List (Row E)) (i : ℕ) (c : Candidate) : Type 0 where
  pub row : c.row ≡ i
  pub number : HasRow rows i (λ r. c.number ≡ r.number)
  pub gap : c.gap ≡ top

module _ {E : Type 0} (dist : E → E → ℕ) (rows : List (Row E)) where
  -- the distance of a sample to its nearest of the pivots ps
  abbrev pub reach : List (Sample E) → Sample E → ℕ
  reach ps x = least top (distances dist ps x)

  -- the candidates for the next pivot after ps: their rows hold the samples xs
  abbrev pub Candidates : List (Sample E) → List Candidate → List (Sample E) → Type 0
  Candidates ps [] [] = Unit {0}
  Candidates ps [] (x ∷ xs) = ⊥
  Candidates ps (c ∷ cs) [] = ⊥
  Candidates ps (c ∷ cs) (x ∷ xs) = HasRow rows c.row (λ r. sample_in r ≡ x) × (c.number ≡ x.number) × (c.gap ≡ reach ps x) × Candidates ps cs xs

  -- the distance to a pivot with the element e counts in
  pub record Renewed (e : E) (c c' : Candidate) : Type 0 where
    pub row : c'.row ≡ c.row
    pub number : c'.number ≡ c.number
    pub gap : HasRow rows c.row (λ r. c'.gap ≡ min c.gap (dist e r.element))

  abbrev pub SomeCandidates : List Candidate → Type 0
  SomeCandidates cs = (ps : List (Sample E)) × (xs : List (Sample E)) × Candidates ps cs xs

  -- the next pivot of the candidates is taken, and the others are the next candidates
  pub record TakesNext (cs cs' : List Candidate) (i : ℕ) (ps xs : List (Sample E)) (d : Sample E) : Type 0 where
    pub pivot : HasRow rows i (λ r. sample_in r ≡ slice_index_or xs (first_place (farther dist ps) xs) d)
    pub others : Candidates (ps ++ (slice_index_or xs (first_place (farther dist ps) xs) d ∷ [])) cs' (removed (first_place (farther dist ps) xs) xs)
    pub same_rows : Shuffle ℕ (i ∷ rows_of cs') (rows_of cs)

  abbrev pub TakesItsNext : List Candidate → List Candidate → ℕ → Type 0
  TakesItsNext cs cs' i = (ps xs : List (Sample E)) (d : Sample E) → Candidates ps cs xs → TakesNext cs cs' i ps xs d

  abbrev pub FirstCandidates : List Candidate → Type 0
  FirstCandidates cs = (xs : List (Sample E)) × Candidates [] cs xs

  -- c of the candidates are chosen as pivots
  pub record Chosen (degree c : ℕ) (cs cs' : List Candidate) (is : List ℕ) (xs : List (Sample E)) : Type 0 where
    pub pivots : List (Sample E)
    pub rest : List (Sample E)
    pub holds : HoldsSamples rows (take c is) pivots
    pub others : Candidates pivots cs' rest
    pub same_choice : chosen dist (degree - c) pivots rest ≡ chosen dist degree [] xs
    pub same_rows : Shuffle ℕ (take c is ++ rows_of cs') (rows_of cs)

  abbrev pub ChoosesFirst : ℕ → ℕ → List Candidate → List Candidate → List ℕ → Type 0
  ChoosesFirst degree c cs cs' is = (xs : List (Sample E)) → Candidates [] cs xs → Chosen degree c cs cs' is xs

  -- the rows of a leaf and the row `at`, put down as candidates
  abbrev pub ListsCandidates : Leaf → ℕ → List Candidate → Type 0
  ListsCandidates l at cs = (xs : List (Sample E)) → HoldsSamples rows (held l ++ (at ∷ [])) xs → Candidates [] cs xs × (rows_of cs ≡ held l ++ (at ∷ []))
