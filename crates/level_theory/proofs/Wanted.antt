-- A line has its form exactly if its words are those that are wanted, with numbers as they are written.
use Rattle.std.proofs.Common.{◌≡◌, ℕ, ◌+◌, ◌^◌, ◌<◌, ◌≤◌, Bool, true, false, cond, eqb, List, [], ◌∷◌, Some, None, decimal, Option, sym, refl, subst, arith, eq-eqb, eqb-true}
use Rattle.level_theory.specs.Words.{same_bytes, number_word, Want, the_word, a_number, Taken, right, wrong, with_number, take_words}
use Rattle.level_theory.proofs.Numbers.{and_both, number_right, number_is}

-- the words of these wants with these numbers
abbrev pub spelled : List Want → List ℕ → List (List ℕ)
spelled [] ns = []
spelled (the_word v ∷ xs) ns = v ∷ spelled xs ns
spelled (a_number limit ∷ xs) [] = []
spelled (a_number limit ∷ xs) (n ∷ ns) = decimal n ∷ spelled xs ns

-- as many numbers as are wanted, each within its limit
abbrev pub Meets : List Want → List ℕ → Type 0
Meets [] [] = Unit {0}
Meets [] (n ∷ ns) = ⊥
Meets (the_word v ∷ xs) ns = Meets xs ns
Meets (a_number limit ∷ xs) [] = ⊥
Meets (a_number limit ∷ xs) (n ∷ ns) = (n ≤ limit) × Meets xs ns

-- no limit is beyond 64 bits
abbrev pub Small : List Want → Type 0
Small [] = Unit {0}
Small (the_word v ∷ xs) = Small xs
Small (a_number limit ∷ xs) = (limit < 2 ^ 64) × Small xs

pub same_itself : (w : List ℕ) → same_bytes w w ≡ true
same_itself [] = refl
same_itself (b ∷ w) = rw (eq-eqb b b refl, same_itself w) refl

pub same_is : (v w : List ℕ) → same_bytes v w ≡ true → v ≡ w
same_is [] [] e = refl
same_is [] (c ∷ w) e = absurd (let z : ◌≡◌ {A = ℕ} 0 1 = cc in omega arith)
same_is (b ∷ v) [] e = absurd (let z : ◌≡◌ {A = ℕ} 0 1 = cc in omega arith)
same_is (b ∷ v) (c ∷ w) e =
    let p = and_both (eqb b c) (same_bytes v w) e in
    let q = eqb-true b c p.0 in
    let r = same_is v w p.1 in
    cc

pub taken_right : (xs : List Want) (ns : List ℕ) (i : ℕ) → Small xs → Meets xs ns → take_words xs (spelled xs ns) i ≡ right ns
taken_right [] [] i s m = refl
taken_right [] (n ∷ ns) i s m = absurd m
taken_right (the_word v ∷ xs) ns i s m = rw (same_itself v, taken_right xs ns (i + 1) s m) refl
taken_right (a_number limit ∷ xs) [] i s m = absurd m
taken_right (a_number limit ∷ xs) (n ∷ ns) i s m = rw (number_right limit n s.0 m.0, taken_right xs ns (i + 1) s.1 m.1) refl

word_taken : (b : Bool) (t : Taken) (i : ℕ) (ns : List ℕ) → cond b t (wrong i) ≡ right ns → (b ≡ true) × (t ≡ right ns)
word_taken true t i ns e = (refl, e)
word_taken false t i ns e = absurd (let z : ◌≡◌ {A = ℕ} 0 1 = cc in omega arith)

pub record NumberTaken (o : Option ℕ) (t : Taken) (ns : List ℕ) : Type 0 where
  pub first : ℕ
  pub rest : List ℕ
  pub number : o ≡ Some first
  pub others : t ≡ right rest
  pub all : ns ≡ first ∷ rest

number_taken : (o : Option ℕ) (t : Taken) (i : ℕ) (ns : List ℕ) → with_number o i t ≡ right ns → NumberTaken o t ns
number_taken None t i ns e = absurd (let z : ◌≡◌ {A = ℕ} 0 1 = cc in omega arith)
number_taken (Some n) (right ms) i ns e = record { first = n; rest = ms; number = refl; others = refl; all = cc }
number_taken (Some n) (wrong j) i ns e = absurd (let z : ◌≡◌ {A = ℕ} 0 1 = cc in omega arith)

pub taken_is : (xs : List Want) (ws : List (List ℕ)) (i : ℕ) (ns : List ℕ) → Small xs → take_words xs ws i ≡ right ns → (ws ≡ spelled xs ns) × Meets xs ns
taken_is [] [] i [] s e = (refl, tt)
taken_is [] [] i (n ∷ ns) s e = absurd (let z : ◌≡◌ {A = ℕ} 0 1 = cc in omega arith)
taken_is [] (w ∷ ws) i ns s e = absurd (let z : ◌≡◌ {A = ℕ} 0 1 = cc in omega arith)
taken_is (the_word v ∷ xs) [] i ns s e = absurd (let z : ◌≡◌ {A = ℕ} 0 1 = cc in omega arith)
taken_is (a_number limit ∷ xs) [] i ns s e = absurd (let z : ◌≡◌ {A = ℕ} 0 1 = cc in omega arith)
taken_is (the_word v ∷ xs) (w ∷ ws) i ns s e =
    let c = word_taken (same_bytes v w) (take_words xs ws (i + 1)) i ns e in
    let rest = taken_is xs ws (i + 1) ns s c.1 in
    let first = same_is v w c.0 in
    let others = rest.0 in
    (cc, rest.1)
taken_is (a_number limit ∷ xs) (w ∷ ws) i ns s e =
    let c = number_taken (number_word limit w) (take_words xs ws (i + 1)) i ns e in
    let n = number_is limit c.first w s.0 c.number in
    let rest = taken_is xs ws (i + 1) c.rest s.1 c.others in
    let P : List ℕ → Type 0 = λ ms. (w ∷ ws ≡ spelled (a_number limit ∷ xs) ms) × Meets (a_number limit ∷ xs) ms in
    let word = n.0 in
    let others = rest.0 in
    subst P (sym c.all) (cc, (n.1, rest.1))
