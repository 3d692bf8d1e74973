-- What exchanging two of a list, or moving one behind others, leaves of it. Assumes nothing.
use Rattle.std.proofs.Common.{◌≡◌, ℕ, zero, suc, ◌+◌, ◌-◌, ◌<◌, ◌≤◌, List, [], ◌∷◌, ◌++◌, length, get_or, take, drop, set, sym, refl, ap, ◌∙◌, subst, arith, drop-cons}
use Rattle.std.proofs.lemmas.List.{set_split, set-get_or, append-nil, append_assoc, take-append-drop, drop-drop, get_or-take, length-set, length-take-le, take-take, length-append, length-take, length-drop, take-set-le, get_or-set_same, get_or_at}
use Rattle.hits.specs.Lists.{closed}
use Rattle.hits.proofs.Closing.{closed_pieces, closed_parts}
use Rattle.gnat_theory.specs.Shuffles.{Shuffle}
use Rattle.gnat_theory.specs.Shuffles.Shuffle.{after, in_turn}
use Rattle.gnat_theory.proofs.Shuffling.{shuffle_equal, shuffle_back, shuffle_behind, shuffle_before, shuffle_front}
use Rattle.gnat_order.specs.Order.{swapped}

pub swapped_same : (i : ℕ) (ps : List ℕ) → swapped i i ps ≡ ps
swapped_same i ps = ap (λ z. set z i (get_or ps i 0)) (set-get_or ps i 0) ∙ set-get_or ps i 0

-- two places that are apart
pub swapped_apart : (s m : ℕ) (ps : List ℕ) → s + suc m < length ps → swapped s (s + suc m) ps ≡ take s ps ++ (get_or ps (s + suc m) 0 ∷ (take m (drop (suc s) ps) ++ (get_or ps s 0 ∷ drop (suc (s + suc m)) ps)))
swapped_apart s m [] l = absurd (omega arith)
swapped_apart zero m (p ∷ ps) l =
    let e : 0 + suc m ≡ suc m = omega arith in
    ap (λ k. swapped 0 k (p ∷ ps)) e
    ∙ (ap (λ z. get_or ps m 0 ∷ z) (set_split ps m p (omega arith))
    ∙ ap (λ k. get_or (p ∷ ps) k 0 ∷ (take m ps ++ (p ∷ drop (suc k) (p ∷ ps)))) (sym e))
swapped_apart (suc s) m (p ∷ ps) l =
    let e : suc s + suc m ≡ suc (s + suc m) = omega arith in
    ap (λ k. swapped (suc s) k (p ∷ ps)) e
    ∙ (ap (λ z. p ∷ z) (swapped_apart s m ps (omega arith))
    ∙ ap (λ k. p ∷ (take s ps ++ (get_or (p ∷ ps) k 0 ∷ (take m (drop (suc s) ps) ++ (get_or ps s 0 ∷ drop (suc k) (p ∷ ps)))))) (sym e))

-- the first of the free rows comes right behind those that stand, before the marked ones
pub record Enlisted (s m : ℕ) (ps : List ℕ) : Type 0 where
  pub marked : List ℕ
  pub same_marked : Shuffle ℕ marked (take m (drop s ps))
  pub is : swapped s (s + m) ps ≡ take s ps ++ (get_or ps (s + m) 0 ∷ (marked ++ drop (suc (s + m)) ps))

pub enlisted : (s m : ℕ) (ps : List ℕ) → s + m < length ps → Enlisted s m ps
enlisted s zero ps l =
    let e : s + 0 ≡ s = omega arith in
    let at : drop s ps ≡ get_or ps s 0 ∷ drop (suc s) ps = drop-cons ps s 0 (omega arith) in
    record {
      marked = [];
      same_marked = shuffle_equal [] [] refl;
      is = ap (λ k. swapped s k ps) e ∙ (swapped_same s ps ∙ (sym (take-append-drop s ps) ∙ (ap (λ z. take s ps ++ z) at ∙ ap (λ k. take s ps ++ (get_or ps k 0 ∷ drop (suc k) ps)) (sym e))));
    }
enlisted s (suc m) ps l =
    let mid = take m (drop (suc s) ps) in
    let at : drop s ps ≡ get_or ps s 0 ∷ drop (suc s) ps = drop-cons ps s 0 (omega arith) in
    let back = drop (suc (s + suc m)) ps in
    record {
      marked = mid ++ (get_or ps s 0 ∷ []);
      same_marked = subst (Shuffle ℕ (mid ++ (get_or ps s 0 ∷ []))) (ap (λ z. get_or ps s 0 ∷ z) (append-nil mid) ∙ sym (ap (take (suc m)) at)) (shuffle_front mid (get_or ps s 0) []);
      is = swapped_apart s m ps l ∙ ap (λ z. take s ps ++ (get_or ps (s + suc m) 0 ∷ z)) (sym (append_assoc mid (get_or ps s 0 ∷ []) back));
    }

-- nothing is lost
pub shuffled_closed : (at count : ℕ) (ps : List ℕ) → at < count → count ≤ length ps → Shuffle ℕ (closed at count ps) ps
shuffled_closed at count ps l b =
    let mid = take (count - suc at) (drop (suc at) ps) in
    let e : suc at + (count - suc at) ≡ count = omega arith in
    let rest : drop (suc at) ps ≡ mid ++ drop count ps = sym (take-append-drop (count - suc at) (drop (suc at) ps)) ∙ ap (λ z. mid ++ z) (drop-drop (count - suc at) (suc at) ps ∙ ap (λ k. drop k ps) e) in
    let whole : take at ps ++ (get_or ps at 0 ∷ (mid ++ drop count ps)) ≡ ps = ap (λ z. take at ps ++ (get_or ps at 0 ∷ z)) (sym rest) ∙ (ap (λ z. take at ps ++ z) (sym (drop-cons ps at 0 (omega arith))) ∙ take-append-drop at ps) in
    subst (λ z. Shuffle ℕ z ps) (sym (closed_pieces at count ps l b 0)) (subst (Shuffle ℕ (take at ps ++ (mid ++ (get_or ps at 0 ∷ drop count ps)))) whole (shuffle_behind (take at ps) (mid ++ (get_or ps at 0 ∷ drop count ps)) (get_or ps at 0 ∷ (mid ++ drop count ps)) (shuffle_front mid (get_or ps at 0) (drop count ps))))

-- nothing is lost by an exchange of a standing place with a free one either
pub shuffled_enlisted : (s m : ℕ) (ps : List ℕ) → s + m < length ps → Shuffle ℕ (swapped s (s + m) ps) ps
shuffled_enlisted s m ps l =
    let x = enlisted s m ps l in
    let y = get_or ps (s + m) 0 in
    let back = drop (suc (s + m)) ps in
    let marked = take m (drop s ps) in
    let rest : drop s ps ≡ marked ++ (y ∷ back) = sym (take-append-drop m (drop s ps)) ∙ ap (λ z. marked ++ z) (drop-drop m s ps ∙ drop-cons ps (s + m) 0 l) in
    let whole : take s ps ++ (marked ++ (y ∷ back)) ≡ ps = ap (λ z. take s ps ++ z) (sym rest) ∙ take-append-drop s ps in
    let there : Shuffle ℕ (y ∷ (x.marked ++ back)) (marked ++ (y ∷ back)) = in_turn _ _ _ (after y _ _ (shuffle_before back x.marked marked x.same_marked)) (shuffle_back _ _ (shuffle_front marked y back)) in
    subst (Shuffle ℕ (swapped s (s + m) ps)) whole (subst (λ z. Shuffle ℕ z (take s ps ++ (marked ++ (y ∷ back)))) (sym x.is) (shuffle_behind (take s ps) _ _ there))

take_set_below : (k i : ℕ) (x : ℕ) (ps : List ℕ) → take k (set ps i x) ≡ set (take k ps) i x
take_set_below zero i x ps = refl
take_set_below (suc k) i x [] = refl
take_set_below (suc k) zero x (p ∷ ps) = refl
take_set_below (suc k) (suc i) x (p ∷ ps) = ap (λ z. p ∷ z) (take_set_below k i x ps)

-- an exchange among the first k
pub take_swapped : (k i j : ℕ) (ps : List ℕ) → i < k → j < k → take k (swapped i j ps) ≡ swapped i j (take k ps)
take_swapped k i j ps a b =
    take_set_below k j (get_or ps i 0) (set ps i (get_or ps j 0))
    ∙ (ap (λ z. set z j (get_or ps i 0)) (take_set_below k i (get_or ps j 0) ps)
    ∙ (ap (λ x. set (set (take k ps) i x) j (get_or ps i 0)) (sym (get_or-take k ps j 0 b))
    ∙ ap (λ x. set (set (take k ps) i (get_or (take k ps) j 0)) j x) (sym (get_or-take k ps i 0 a))))

pub length_swapped : (i j : ℕ) (ps : List ℕ) → length (swapped i j ps) ≡ length ps
length_swapped i j ps = length-set (set ps i (get_or ps j 0)) j (get_or ps i 0) ∙ length-set ps i (get_or ps j 0)

take_past : (k : ℕ) (xs ys : List ℕ) → length xs ≤ k → take k (xs ++ ys) ≡ xs ++ take (k - length xs) ys
take_past k [] ys l = let e : k ≡ k - 0 = omega arith in ap (λ n. take n ys) e
take_past zero (x ∷ xs) ys l = absurd (omega arith)
take_past (suc k) (x ∷ xs) ys l =
    let e : k - length xs ≡ suc k - suc (length xs) = omega arith in
    ap (λ z. x ∷ z) (take_past k xs ys (omega arith) ∙ ap (λ n. xs ++ take n ys) e)

-- the first k after an exchange among them
pub swapped_firsts : (s m k : ℕ) (ps : List ℕ) → s + m < k → s + m < length ps → Shuffle ℕ (take k ps) (take k (swapped s (s + m) ps))
swapped_firsts s m k ps a b =
    let enough : s + m < length (take k ps) = simp length-take (omega arith) in
    subst (Shuffle ℕ (take k ps)) (sym (take_swapped k s (s + m) ps (omega arith) a)) (shuffle_back _ _ (shuffled_enlisted s m (take k ps) enough))

-- the first k after one of them is moved behind others of them
pub closed_firsts : (at count k : ℕ) (ps : List ℕ) → at < count → count ≤ k → count ≤ length ps → Shuffle ℕ (take k ps) (take k (closed at count ps))
closed_firsts at count k ps l a b =
    let L = take count ps in
    let x = get_or ps at 0 in
    let size : length L ≡ count = length-take-le count ps b in
    let front = take at L in
    let back = drop (suc at) L in
    let same : take at ps ≡ front = sym (take-take at count ps (omega arith)) in
    let read : get_or L at 0 ≡ x = get_or-take count ps at 0 l in
    let whole : L ≡ front ++ (x ∷ back) = sym (take-append-drop at L) ∙ (ap (λ z. front ++ z) (drop-cons L at 0 (omega arith)) ∙ ap (λ z. front ++ (z ∷ back)) read) in
    let moved : closed at count ps ≡ ((front ++ back) ++ (x ∷ [])) ++ drop count ps =
    closed_parts at count ps l b 0 ∙ (ap (λ z. (z ++ back) ++ (x ∷ drop count ps)) same ∙ sym (append_assoc (front ++ back) (x ∷ []) (drop count ps))) in
    let long : length ((front ++ back) ++ (x ∷ [])) ≡ count = simp (length-append, length-take, length-drop) (omega arith) in
    let rest = take (k - count) (drop count ps) in
    let left : take k ps ≡ L ++ rest = ap (take k) (sym (take-append-drop count ps)) ∙ (take_past k L (drop count ps) (omega arith) ∙ ap (λ n. L ++ take (k - n) (drop count ps)) size) in
    let right : take k (closed at count ps) ≡ ((front ++ back) ++ (x ∷ [])) ++ rest = ap (take k) moved ∙ (take_past k ((front ++ back) ++ (x ∷ [])) (drop count ps) (omega arith) ∙ ap (λ n. ((front ++ back) ++ (x ∷ [])) ++ take (k - n) (drop count ps)) long) in
    let turned : Shuffle ℕ (front ++ (x ∷ back)) ((front ++ back) ++ (x ∷ [])) =
    in_turn _ _ _ (shuffle_front front x back) (shuffle_back _ _ (subst (λ z. Shuffle ℕ ((front ++ back) ++ (x ∷ [])) (x ∷ z)) (append-nil (front ++ back)) (shuffle_front (front ++ back) x []))) in
    subst (Shuffle ℕ (take k ps)) (sym right) (subst (λ z. Shuffle ℕ z (((front ++ back) ++ (x ∷ [])) ++ rest)) (sym (left ∙ ap (λ z. z ++ rest) whole)) (shuffle_before rest _ _ turned))

-- those before a place that is exchanged with a later one
pub take_before : (s m : ℕ) (ps : List ℕ) → take s (swapped s (s + m) ps) ≡ take s ps
take_before s m ps = take-set-le s (set ps s (get_or ps (s + m) 0)) (s + m) (get_or ps s 0) (omega arith) ∙ take-set-le s ps s (get_or ps (s + m) 0) (omega arith)

-- what the later place then has
pub get_or_swapped : (s m : ℕ) (ps : List ℕ) → s + m < length ps → get_or (swapped s (s + m) ps) (s + m) 0 ≡ get_or ps s 0
get_or_swapped s m ps l = get_or-set_same (set ps s (get_or ps (s + m) 0)) (s + m) (get_or ps s 0) 0 (simp length-set (omega arith))

-- the one that goes behind the others of the first `count` comes right before those that follow
pub closed_last : (at count : ℕ) (ps : List ℕ) → at < count → count ≤ length ps → get_or (closed at count ps) (count - 1) 0 ≡ get_or ps at 0
closed_last at count ps l b =
    let left = take at ps ++ drop (suc at) (take count ps) in
    let size : length left ≡ count - 1 = simp (length-append, length-take, length-drop) (omega arith) in
    ap (λ z. get_or z (count - 1) 0) (closed_parts at count ps l b 0) ∙ get_or_at left (get_or ps at 0) (drop count ps) 0 (count - 1) size
