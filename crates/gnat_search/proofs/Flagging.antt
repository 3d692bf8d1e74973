-- The children that the pivots strike, pivot by pivot. Assumes nothing.
use Rattle.std.proofs.Common.{◌≡◌, ℕ, zero, suc, ◌<◌, Bool, false, ◌||◌, List, [], ◌∷◌, ◌++◌, length, get_or, Some, None, Option, sym, refl, ap, ◌∙◌, arith}
use Rattle.std.specs.List.{slice_get}
use Rattle.std.proofs.lemmas.Option.{slice_get_within, get_or_from_slice_get}
use Rattle.gnat_theory.specs.Tree.{Range}
use Rattle.gnat_theory.specs.Searching.{Sight, outside, strikes, struck}
use Rattle.gnat_theory.specs.Searching.Sight.{seen}
use Rattle.gnat_theory.proofs.Steps.{struck_push}
use Rattle.gnat_rows.specs.declared.Branch.{Branch}
use Rattle.gnat_rows.specs.Shows.{ranges, down, column}
use Rattle.gnat_rows.proofs.Columns.{length_down, down_at}
use Rattle.gnat_search.specs.Nodes.{Flags, StruckMore}

struck_quiet : (ss : List Sight) (rs : List Range) (s : Sight) → ((r : Range) → strikes s r ≡ false) → struck (ss ++ (s ∷ [])) rs ≡ struck ss rs
struck_quiet [] [] s q = refl
struck_quiet [] (x ∷ rs) s q = ap (λ t. t || false) (q x)
struck_quiet (t ∷ ss) [] s q = refl
struck_quiet (t ∷ ss) (x ∷ rs) s q = ap (λ z. strikes t x || z) (struck_quiet ss rs s q)

-- a pivot that strikes nothing
pub quiet_flags : (b : Branch) (flags : List Bool) (ss : List Sight) (s : Sight) → ((r : Range) → strikes s r ≡ false) → Flags b flags ss → Flags b flags (ss ++ (s ∷ []))
quiet_flags b flags ss s q f j l = f j l ∙ sym (struck_quiet ss (column b j) s q)

pub range_there : (n : ℕ) (lows highs : List ℕ) (i : ℕ) → i < n → i < length lows → i < length highs → slice_get (ranges n lows highs) i ≡ Some (record { low = get_or lows i 0; high = get_or highs i 0 })
range_there zero lows highs i k l h = absurd (omega arith)
range_there (suc n) [] highs i k l h = absurd (omega arith)
range_there (suc n) (x ∷ lows) [] i k l h = absurd (omega arith)
range_there (suc n) (x ∷ lows) (y ∷ highs) zero k l h = refl
range_there (suc n) (x ∷ lows) (y ∷ highs) (suc i) k l h = range_there n lows highs i (omega arith) (omega arith) (omega arith)

-- every child was held against its range
pub tested_all : (b : Branch) (i d R : ℕ) (before after : List Bool) → i < b.count → i < length b.low → i < length b.high
    → ((j : ℕ) → j < b.count → get_or after j false ≡ (get_or before j false || outside d R (record { low = get_or (get_or b.low i []) j 0; high = get_or (get_or b.high i []) j 0 }))) → StruckMore b i (seen d (Some R)) before after
tested_all b i d R before after k lows highs tested ss long flags j l =
    let col = column b j in
    let range : Range = record { low = get_or (down b.low j) i 0; high = get_or (down b.high j) i 0 } in
    let at : slice_get col i ≡ Some range = range_there b.count (down b.low j) (down b.high j) i k (omega (arith, length_down b.low j)) (omega (arith, length_down b.high j)) in
    let there : length ss < length col = omega (arith, long, slice_get_within col i range at) in
    let here : get_or col (length ss) range ≡ range = ap (λ n. get_or col n range) long ∙ get_or_from_slice_get col i range range at in
    let low : get_or (down b.low j) i 0 ≡ get_or (get_or b.low i []) j 0 = down_at b.low i j in
    let high : get_or (down b.high j) i 0 ≡ get_or (get_or b.high i []) j 0 = down_at b.high i j in
    tested j l
    ∙ ((λ e. get_or before j false || outside d R (record { low = sym low e; high = sym high e }))
    ∙ (ap (λ z. z || outside d R range) (flags j l)
    ∙ (ap (λ r. struck ss col || outside d R r) (sym here) ∙ sym (struck_push ss col (seen d (Some R)) range there))))

-- without a reach a pivot strikes nothing
pub strikes_none : (o : Option ℕ) (d : ℕ) → ((x : ℕ) → o ≡ Some x → ⊥) → (r : Range) → strikes (seen d o) r ≡ false
strikes_none None d n r = refl
strikes_none (Some x) d n r = absurd (n x refl)
