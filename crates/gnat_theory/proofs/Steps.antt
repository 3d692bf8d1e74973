-- One step more of what loops build up. Assumes nothing.
use Rattle.std.proofs.Common.{◌≡◌, ℕ, zero, suc, ◌<◌, min, max, Bool, true, false, ◌||◌, leb, List, [], ◌∷◌, ◌++◌, length, get_or, Some, None, refl, ap, ◌∙◌, arith}
use Rattle.std.proofs.lemmas.Bool.{cond_both}
use Rattle.hits.specs.declared.Hit.{Hit}
use Rattle.hits.specs.Order.{Sorted, put}
use Rattle.hits.specs.Samples.{Sample}
use Rattle.hits.proofs.Putting.{put_sorted}
use Rattle.hits.proofs.Keeping.{take_sorted}
use Rattle.gnat_theory.specs.Tree.{Range}
use Rattle.gnat_theory.specs.Filing.{widened, distances}
use Rattle.gnat_theory.specs.Splitting.{least, gap}
use Rattle.gnat_theory.specs.Searching.{Want, State, Sight, kth, nearest_hits, hits_within, strikes, struck, measure, measure_all}

or_none : (x : Bool) → (x || false) ≡ x
or_none true = refl
or_none false = refl

or_group : (x y z : Bool) → (x || (y || z)) ≡ ((x || y) || z)
or_group true y z = refl
or_group false y z = refl

-- one more pivot strikes by its own range
pub struck_push : (ss : List Sight) (rs : List Range) (s : Sight) (r : Range) → length ss < length rs → struck (ss ++ (s ∷ [])) rs ≡ (struck ss rs || strikes s (get_or rs (length ss) r))
struck_push [] [] s r l = absurd (omega arith)
struck_push [] (x ∷ rs) s r l = or_none (strikes s x)
struck_push (t ∷ ss) [] s r l = absurd (omega arith)
struck_push (t ∷ ss) (x ∷ rs) s r l =
    ap (λ z. strikes t x || z) (struck_push ss rs s r (omega arith)) ∙ or_group (strikes t x) (struck ss rs) (strikes s (get_or rs (length ss) r))

-- a column that is widened, place by place
pub length_widened : (rs : List Range) (ds : List ℕ) → length (widened rs ds) ≡ length rs
length_widened [] ds = refl
length_widened (r ∷ rs) [] = refl
length_widened (r ∷ rs) (d ∷ ds) = ap suc (length_widened rs ds)

pub low_widened : (rs : List Range) (ds : List ℕ) (i : ℕ) (r : Range) (d : ℕ) → i < length rs → i < length ds → (get_or (widened rs ds) i r).low ≡ min (get_or rs i r).low (get_or ds i d)
low_widened [] ds i r d l m = absurd (omega arith)
low_widened (x ∷ rs) [] i r d l m = absurd (omega arith)
low_widened (x ∷ rs) (y ∷ ds) zero r d l m = refl
low_widened (x ∷ rs) (y ∷ ds) (suc i) r d l m = low_widened rs ds i r d (omega arith) (omega arith)

pub high_widened : (rs : List Range) (ds : List ℕ) (i : ℕ) (r : Range) (d : ℕ) → i < length rs → i < length ds → (get_or (widened rs ds) i r).high ≡ max (get_or rs i r).high (get_or ds i d)
high_widened [] ds i r d l m = absurd (omega arith)
high_widened (x ∷ rs) [] i r d l m = absurd (omega arith)
high_widened (x ∷ rs) (y ∷ ds) zero r d l m = refl
high_widened (x ∷ rs) (y ∷ ds) (suc i) r d l m = high_widened rs ds i r d (omega arith) (omega arith)

least_push : (d : ℕ) (xs : List ℕ) (y : ℕ) → least d (xs ++ (y ∷ [])) ≡ min (least d xs) y
least_push d [] y = refl
least_push d (x ∷ xs) y = least_push (min d x) xs y

module _ {E : Type 0} (dist : E → E → ℕ) where
  -- the distances of the pivots, place by place, and of one pivot more
  pub get_or_distances : (ps : List (Sample E)) (s : Sample E) (i d : ℕ) (p : Sample E) → i < length ps → get_or (distances dist ps s) i d ≡ dist (get_or ps i p).element s.element
  get_or_distances [] s i d p l = absurd (omega arith)
  get_or_distances (x ∷ ps) s zero d p l = refl
  get_or_distances (x ∷ ps) s (suc i) d p l = get_or_distances ps s i d p (omega arith)

  pub distances_push : (ps : List (Sample E)) (p s : Sample E) → distances dist (ps ++ (p ∷ [])) s ≡ distances dist ps s ++ (dist p.element s.element ∷ [])
  distances_push [] p s = refl
  distances_push (x ∷ ps) p s = ap (λ z. dist x.element s.element ∷ z) (distances_push ps p s)

  -- a sample's gap after the first pivot, and after one more
  pub gap_first : (p s : Sample E) → gap dist (p ∷ []) s ≡ dist p.element s.element
  gap_first p s = refl

  pub gap_push : (x : Sample E) (ps : List (Sample E)) (p s : Sample E) → gap dist ((x ∷ ps) ++ (p ∷ [])) s ≡ min (gap dist (x ∷ ps) s) (dist p.element s.element)
  gap_push x ps p s =
      ap (least (dist x.element s.element)) (distances_push ps p s) ∙ least_push (dist x.element s.element) (distances dist ps s) (dist p.element s.element)

  pub measure_push : (q : E) (w : Want) (xs : List (Sample E)) (s : Sample E) (st : State) → measure_all dist q w (xs ++ (s ∷ [])) st ≡ measure dist q w s (measure_all dist q w xs st)
  measure_push q w [] s st = refl
  measure_push q w (x ∷ xs) s st = measure_push q w xs s (measure dist q w x st)

-- the k-th hit where there are as many, and none where there are fewer
pub kth_there : (k : ℕ) (hs : List Hit) (h : Hit) → k < length hs → kth (suc k) hs ≡ Some (get_or hs k h).distance
kth_there k [] h l = absurd (omega arith)
kth_there zero (x ∷ hs) h l = refl
kth_there (suc k) (x ∷ hs) h l = kth_there k hs h (omega arith)

pub kth_none : (k : ℕ) (hs : List Hit) → length hs < k → kth k hs ≡ None
kth_none zero hs l = refl
kth_none (suc k) [] l = refl
kth_none (suc zero) (x ∷ hs) l = absurd (omega arith)
kth_none (suc (suc k)) (x ∷ hs) l = kth_none (suc k) hs (omega arith)

-- what is kept stays in order
pub nearest_sorted : (k : ℕ) (h : Hit) (hs : List Hit) → Sorted hs → Sorted ((nearest_hits k).keep h hs)
nearest_sorted k h hs o = take_sorted k (put h hs) (put_sorted h hs o)

pub within_sorted : (r : ℕ) (h : Hit) (hs : List Hit) → Sorted hs → Sorted ((hits_within r).keep h hs)
within_sorted r h hs o = cond_both (leb h.distance r) (put h hs) hs Sorted (λ e. put_sorted h hs o) (λ e. o)
