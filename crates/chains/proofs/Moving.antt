-- Chains under other names. Assumes nothing.
use Rattle.std.proofs.Common.{◌≡◌, ℕ, ◌<◌, ◌≤◌, ◌⊎◌, List, [], ◌∷◌, map, length, sym, refl, ap, ◌∙◌, subst, inl, inr, arith}
use Rattle.std.specs.List.{AllByRecursion}
use Rattle.std.proofs.lemmas.List.{length-map, map-id}
use Rattle.std.proofs.lemmas.Bool.{cases_order}
use Rattle.chains.specs.Chains.{Starts, Ends, NotAfter, Preferred, Chain, Joins, Joined, Island, Route}
use Rattle.chains.proofs.Joining.{chain_all, joins_start, joins_end}

module _ (S : ℕ → Type 0) (T : ℕ → ℕ → ℕ → Type 0) (S' : ℕ → Type 0) (T' : ℕ → ℕ → ℕ → Type 0) (f : ℕ → ℕ) (stands : (n : ℕ) → S n → S' (f n)) (step : (x y d : ℕ) → T x y d → T' (f x) (f y) d) where
  chain_moved : (ns : List ℕ) (l : ℕ) → Chain S T ns l → Chain S' T' (map f ns) l
  chain_moved [] l c = c
  chain_moved (n ∷ []) l c = (stands n c.0, c.1)
  chain_moved (n ∷ (m ∷ rest)) l c = (c.0, c.1, step n m c.0 c.2, chain_moved (m ∷ rest) c.1 c.3, c.4)

  starts_moved : (a : ℕ) (ns : List ℕ) → Starts a ns → Starts (f a) (map f ns)
  starts_moved a [] s = s
  starts_moved a (n ∷ ns) s = ap f s

  ends_moved : (b : ℕ) (ns : List ℕ) → Ends b ns → Ends (f b) (map f ns)
  ends_moved b [] s = s
  ends_moved b (n ∷ []) s = ap f s
  ends_moved b (n ∷ (m ∷ rest)) s = ends_moved b (m ∷ rest) s

  pub joins_moved : (a b : ℕ) (ns : List ℕ) (l : ℕ) → Joins S T a b ns l → Joins S' T' (f a) (f b) (map f ns) l
  joins_moved a b ns l j = record { chain = chain_moved ns l j.chain; starts = starts_moved a ns j.starts; ends = ends_moved b ns j.ends }

-- two ways to name the same joined numbers, in the same order
pub record Renames (S : ℕ → Type 0) (T : ℕ → ℕ → ℕ → Type 0) (S' : ℕ → Type 0) (T' : ℕ → ℕ → ℕ → Type 0) : Type 0 where
  pub to : ℕ → ℕ
  pub fro : ℕ → ℕ
  pub stands : (n : ℕ) → S n → S' (to n)
  pub stands' : (n : ℕ) → S' n → S (fro n)
  pub step : (x y d : ℕ) → T x y d → T' (to x) (to y) d
  pub step' : (x y d : ℕ) → T' x y d → T (fro x) (fro y) d
  pub there : (n : ℕ) → S n → fro (to n) ≡ n
  pub back : (n : ℕ) → S' n → to (fro n) ≡ n
  pub rises : (x y : ℕ) → S x → S y → x < y → to x < to y
  pub ends : (x y d : ℕ) → T x y d → S x × S y
  pub ends' : (x y d : ℕ) → T' x y d → S' x × S' y

module _ (S : ℕ → Type 0) (T : ℕ → ℕ → ℕ → Type 0) (S' : ℕ → Type 0) (T' : ℕ → ℕ → ℕ → Type 0) (m : Renames S T S' T') where
  not_after_moved : (ns os : List ℕ) → AllByRecursion S ns → AllByRecursion S' os → NotAfter ns (map m.fro os) → NotAfter (map m.to ns) os
  not_after_moved [] os x y a = tt
  not_after_moved (n ∷ ns) [] x y a = a
  not_after_moved (n ∷ ns) (o ∷ os) x y (inl a) = inl (omega (arith, m.rises n (m.fro o) x.0 (m.stands' o y.0) a, m.back o y.0))
  not_after_moved (n ∷ ns) (o ∷ os) x y (inr a) = inr (ap m.to a.0 ∙ m.back o y.0, not_after_moved ns os x.1 y.1 a.1)

  joins_fro : (a b : ℕ) → S a → S b → (os : List ℕ) (t : ℕ) → Joins S' T' (m.to a) (m.to b) os t → Joins S T a b (map m.fro os) t
  joins_fro a b sa sb os t j =
      let P : ℕ → Type 0 = λ z. Joins S T z b (map m.fro os) t in
      let Q : ℕ → Type 0 = λ z. Joins S T (m.fro (m.to a)) z (map m.fro os) t in
      subst P (m.there a sa) (subst Q (m.there b sb) (joins_moved S' T' S T m.fro m.stands' m.step' (m.to a) (m.to b) os t j))

  pub joined_moved : (a b : ℕ) → Joined S T a b → Joined S' T' (m.to a) (m.to b)
  joined_moved a b j = record { numbers = map m.to j.numbers; long = j.long; joins = joins_moved S T S' T' m.to m.stands m.step a b j.numbers j.long j.joins }

  pub joined_fro : (a b : ℕ) → S a → S b → Joined S' T' (m.to a) (m.to b) → Joined S T a b
  joined_fro a b sa sb j = record { numbers = map m.fro j.numbers; long = j.long; joins = joins_fro a b sa sb j.numbers j.long j.joins }

  pub island_moved : (n i : ℕ) → Island S T n i → Island S' T' (m.to n) (m.to i)
  island_moved n i x = record { joined = joined_moved n i x.joined; smallest = least }
    where
      sn : S n
      sn = joins_start S T m.ends n i x.joined.numbers x.joined.long x.joined.joins

      si : S i
      si = joins_end S T m.ends n i x.joined.numbers x.joined.long x.joined.joins

      least : (j : ℕ) → Joined S' T' (m.to n) j → m.to i ≤ j
      least j y =
          let sj = joins_end S' T' m.ends' (m.to n) j y.numbers y.long y.joins in
          let e = m.back j sj in
          let P : ℕ → Type 0 = λ z. Joined S' T' (m.to n) z in
          let low = x.smallest (m.fro j) (joined_fro n (m.fro j) sn (m.stands' j sj) (subst P (sym e) y)) in
          go sj e low (cases_order i (m.fro j))
        where
          go : S' j → m.to (m.fro j) ≡ j → i ≤ m.fro j → (i ≡ m.fro j) ⊎ ((i < m.fro j) ⊎ (m.fro j < i)) → m.to i ≤ j
          go sj e low (inl z) = omega (arith, ap m.to z)
          go sj e low (inr (inl z)) = omega (arith, m.rises i (m.fro j) si (m.stands' j sj) z)
          go sj e low (inr (inr z)) = absurd (omega arith)

  preferred_moved : (l t : ℕ) (ns os : List ℕ) → AllByRecursion S ns → AllByRecursion S' os → Preferred l ns t (map m.fro os) → Preferred l (map m.to ns) t os
  preferred_moved l t ns os x y (inl p) = inl p
  preferred_moved l t ns os x y (inr p) = inr (p.0, go p.1)
    where
      go : (length ns < length (map m.fro os)) ⊎ ((length ns ≡ length (map m.fro os)) × NotAfter ns (map m.fro os)) → (length (map m.to ns) < length os) ⊎ ((length (map m.to ns) ≡ length os) × NotAfter (map m.to ns) os)
      go (inl q) = inl (omega (arith, length-map os m.fro, length-map ns m.to))
      go (inr q) = inr (omega (arith, length-map os m.fro, length-map ns m.to, q.0), not_after_moved ns os x y q.1)

  pub route_moved : (a b : ℕ) (ns : List ℕ) (l : ℕ) → Route S T a b ns l → Route S' T' (m.to a) (m.to b) (map m.to ns) l
  route_moved a b ns l r = record { joins = joins_moved S T S' T' m.to m.stands m.step a b ns l r.joins; best = best }
    where
      sa : S a
      sa = joins_start S T m.ends a b ns l r.joins

      sb : S b
      sb = joins_end S T m.ends a b ns l r.joins

      best : (os : List ℕ) (t : ℕ) → Joins S' T' (m.to a) (m.to b) os t → Preferred l (map m.to ns) t os
      best os t j = preferred_moved l t ns os (chain_all S T m.ends ns l r.joins.chain) (chain_all S' T' m.ends' os t j.chain) (r.best (map m.fro os) t (joins_fro a b sa sb os t j))

-- the same numbers, joined alike
pub record Same (S : ℕ → Type 0) (T : ℕ → ℕ → ℕ → Type 0) (S' : ℕ → Type 0) (T' : ℕ → ℕ → ℕ → Type 0) : Type 0 where
  pub stands : (n : ℕ) → S n → S' n
  pub stands' : (n : ℕ) → S' n → S n
  pub step : (x y d : ℕ) → T x y d → T' x y d
  pub step' : (x y d : ℕ) → T' x y d → T x y d
  pub ends : (x y d : ℕ) → T x y d → S x × S y

module _ (S : ℕ → Type 0) (T : ℕ → ℕ → ℕ → Type 0) (S' : ℕ → Type 0) (T' : ℕ → ℕ → ℕ → Type 0) (s : Same S T S' T') where
  abbrev renames_same : Renames S T S' T'
  renames_same = record {
    to = λ n. n;
    fro = λ n. n;
    stands = s.stands;
    stands' = s.stands';
    step = s.step;
    step' = s.step';
    there = λ n _. refl;
    back = λ n _. refl;
    rises = λ x y _ _ l. l;
    ends = s.ends;
    ends' = λ x y d t. let p = s.ends x y d (s.step' x y d t) in (s.stands x p.0, s.stands y p.1);
  }

  pub joined_same : (a b : ℕ) → Joined S T a b → Joined S' T' a b
  joined_same a b j = joined_moved S T S' T' renames_same a b j

  pub island_same : (n i : ℕ) → Island S T n i → Island S' T' n i
  island_same n i x = island_moved S T S' T' renames_same n i x

  pub route_same : (a b : ℕ) (ns : List ℕ) (l : ℕ) → Route S T a b ns l → Route S' T' a b ns l
  route_same a b ns l r =
      let P : List ℕ → Type 0 = λ z. Route S' T' a b z l in
      subst P (map-id ns) (route_moved S T S' T' renames_same a b ns l r)
