-- Chains put together and turned round; the island and the chosen chain are unique. Assumes nothing.
use Rattle.std.proofs.Common.{◌≡◌, ℕ, ◌+◌, ◌<◌, ◌⊎◌, List, [], ◌∷◌, length, sym, refl, subst, inl, inr, arith}
use Rattle.std.specs.List.{AllByRecursion}
use Rattle.chains.specs.Chains.{Starts, Ends, NotAfter, Preferred, Chain, Joins, Joined, Island, Route}
use Rattle.chains.proofs.Settling.{longer}

not_after_both : (ns os : List ℕ) → NotAfter ns os → NotAfter os ns → ns ≡ os
not_after_both [] [] x y = refl
not_after_both [] (o ∷ os) x y = absurd y
not_after_both (n ∷ ns) [] x y = absurd x
not_after_both (n ∷ ns) (o ∷ os) (inl x) (inl y) = absurd (omega arith)
not_after_both (n ∷ ns) (o ∷ os) (inl x) (inr y) = let e = y.0 in absurd (omega arith)
not_after_both (n ∷ ns) (o ∷ os) (inr x) (inl y) = let e = x.0 in absurd (omega arith)
not_after_both (n ∷ ns) (o ∷ os) (inr x) (inr y) = let e = x.0 in let r = not_after_both ns os x.1 y.1 in cc

preferred_both : (l t : ℕ) (ns os : List ℕ) → Preferred l ns t os → Preferred t os l ns → (ns ≡ os) × (l ≡ t)
preferred_both l t ns os (inl p) (inl q) = absurd (omega arith)
preferred_both l t ns os (inl p) (inr q) = let e = q.0 in absurd (omega arith)
preferred_both l t ns os (inr p) (inl q) = let e = p.0 in absurd (omega arith)
preferred_both l t ns os (inr p) (inr q) = both p.1 q.1
  where
    both : (length ns < length os) ⊎ ((length ns ≡ length os) × NotAfter ns os) → (length os < length ns) ⊎ ((length os ≡ length ns) × NotAfter os ns) → (ns ≡ os) × (l ≡ t)
    both (inl s) (inl u) = absurd (omega arith)
    both (inl s) (inr u) = let e = u.0 in absurd (omega arith)
    both (inr s) (inl u) = let e = s.0 in absurd (omega arith)
    both (inr s) (inr u) = (not_after_both ns os s.1 u.1, p.0)

module _ (S : ℕ → Type 0) (T : ℕ → ℕ → ℕ → Type 0) where
  pub island_one : (n a b : ℕ) → Island S T n a → Island S T n b → a ≡ b
  island_one n a b x y = omega (arith, x.smallest b y.joined, y.smallest a x.joined)

  pub route_one : (a b : ℕ) (ns os : List ℕ) (l t : ℕ) → Route S T a b ns l → Route S T a b os t → (ns ≡ os) × (l ≡ t)
  route_one a b ns os l t x y = preferred_both l t ns os (x.best os t y.joins) (y.best ns l x.joins)

  module _ (ends : (x y d : ℕ) → T x y d → S x × S y) where
    pub chain_all : (ns : List ℕ) (l : ℕ) → Chain S T ns l → AllByRecursion S ns
    chain_all [] l c = tt
    chain_all (n ∷ []) l c = (c.0, tt)
    chain_all (n ∷ (m ∷ rest)) l c = ((ends n m c.0 c.2).0, chain_all (m ∷ rest) c.1 c.3)

    start_in : (a : ℕ) (ns : List ℕ) → Starts a ns → AllByRecursion S ns → S a
    start_in a [] s x = absurd s
    start_in a (n ∷ ns) s x = subst S (sym s) x.0

    end_in : (b : ℕ) (ns : List ℕ) → Ends b ns → AllByRecursion S ns → S b
    end_in b [] s x = absurd s
    end_in b (n ∷ []) s x = subst S (sym s) x.0
    end_in b (n ∷ (m ∷ rest)) s x = end_in b (m ∷ rest) s x.1

    pub joins_start : (a b : ℕ) (ns : List ℕ) (l : ℕ) → Joins S T a b ns l → S a
    joins_start a b ns l j = start_in a ns j.starts (chain_all ns l j.chain)

    pub joins_end : (a b : ℕ) (ns : List ℕ) (l : ℕ) → Joins S T a b ns l → S b
    joins_end a b ns l j = end_in b ns j.ends (chain_all ns l j.chain)

    module _ (turns : (x y d : ℕ) → T x y d → T y x d) where
      -- the walk as a relation of its own, easier to turn and to join
      data Walk : ℕ → ℕ → Type 0 where
        stay : (a : ℕ) → S a → Walk a a
        step : (a b c d : ℕ) → T a b d → Walk b c → Walk a c

      walk_join : (a b c : ℕ) → Walk a b → Walk b c → Walk a c
      walk_join a b c (stay x s) w = w
      walk_join a b c (step x y z d p v) w = step x y c d p (walk_join y z c v w)

      walk_back : (a b : ℕ) → Walk a b → Walk b a
      walk_back a b (stay x s) = stay x s
      walk_back a b (step x y z d p v) = walk_join z y x (walk_back y z v) (step y x x d (turns x y d p) (stay x (ends x y d p).0))

      walk_of : (ns : List ℕ) (l a b : ℕ) → Chain S T ns l → Starts a ns → Ends b ns → Walk a b
      walk_of [] l a b c s e = absurd c
      walk_of (n ∷ []) l a b c s e =
          let P : ℕ → Type 0 = λ z. Walk z b in
          let Q : ℕ → Type 0 = λ z. Walk n z in
          subst P (sym s) (subst Q (sym e) (stay n c.0))
      walk_of (n ∷ (m ∷ rest)) l a b c s e =
          let P : ℕ → Type 0 = λ z. Walk z b in
          subst P (sym s) (step n m b c.0 c.2 (walk_of (m ∷ rest) c.1 m b c.3 refl e))

      walked : (a b : ℕ) → Walk a b → Joined S T a b
      walked a b (stay x s) = record { numbers = x ∷ []; long = 0; joins = record { chain = (s, refl); starts = refl; ends = refl } }
      walked a b (step x y z d p w) = let r = walked y z w in record { numbers = x ∷ r.numbers; long = d + r.long; joins = longer S T x y d z r.numbers r.long p r.joins }

      walk : (a b : ℕ) → Joined S T a b → Walk a b
      walk a b j = walk_of j.numbers j.long a b j.joins.chain j.joins.starts j.joins.ends

      pub joined_back : (a b : ℕ) → Joined S T a b → Joined S T b a
      joined_back a b j = walked b a (walk_back a b (walk a b j))

      pub joined_on : (a b c : ℕ) → Joined S T a b → Joined S T b c → Joined S T a c
      joined_on a b c i j = walked a c (walk_join a b c (walk a b i) (walk b c j))

      -- two have the same island exactly if a chain joins them
      pub shared : (n m x y : ℕ) → Island S T n m → Island S T x y → (m ≡ y → Joined S T n x) × (Joined S T n x → m ≡ y)
      shared n m x y i j = (
        λ e. let P : ℕ → Type 0 = λ z. Joined S T n z in joined_on n y x (subst P e i.joined) (joined_back x y j.joined),
        λ w. omega (arith, i.smallest y (joined_on n x y w j.joined), j.smallest m (joined_on x n m (joined_back n x w) i.joined)),
      )
