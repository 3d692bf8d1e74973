-- The place of the first wrong word: the words before it begin a line of the form, and with it none begins.
use Rattle.std.proofs.Common.{◌≡◌, ℕ, ◌+◌, Bool, true, false, cond, List, [], ◌∷◌, ◌++◌, length, Some, None, decimal, Option, refl, ap, arith, subst, ◌≤◌}
use Rattle.level_theory.specs.Words.{same_bytes, number_word, Want, the_word, a_number, Taken, right, wrong, with_number, take_words}
use Rattle.level_theory.specs.Refusing.{Stops, lacking, wrong_word, WrongAt}
use Rattle.level_theory.proofs.Numbers.{number_right, number_is}
use Rattle.level_theory.proofs.Wanted.{spelled, Meets, Small, same_itself, same_is}

-- the same, with places from i on
pub record WrongFrom (IsLine : List (List ℕ) → Type 0) (ws : List (List ℕ)) (i place : ℕ) : Type 0 where
  pub first : List (List ℕ)
  pub at : place ≡ i + length first
  pub more : List (List ℕ)
  pub is_line : IsLine (first ++ more)
  pub stops : Stops IsLine ws first

-- behind a word, of lines that have it
pub behind : (A B : List (List ℕ) → Type 0) (w : List ℕ) → ((ws : List (List ℕ)) → A ws → B (w ∷ ws)) → ((ws : List (List ℕ)) → B (w ∷ ws) → A ws) → (ws : List (List ℕ)) (i place : ℕ) → WrongFrom A ws (i + 1) place → WrongFrom B (w ∷ ws) i place
behind A B w up down ws i place f = record {
  first = w ∷ f.first;
  at = (let a = f.at in omega arith);
  more = f.more;
  is_line = up (f.first ++ f.more) f.is_line;
  stops = go f.stops;
}
  where
    go : Stops A ws f.first → Stops B (w ∷ ws) (w ∷ f.first)
    go (lacking e n) = lacking (ap (λ x. w ∷ x) e) (λ x. n (down f.first x))
    go (wrong_word v others e n) = wrong_word v others (ap (λ x. w ∷ x) e) (λ more x. n more (down (f.first ++ (v ∷ more)) x))

-- of the same lines
pub of_same : (A B : List (List ℕ) → Type 0) → ((ws : List (List ℕ)) → A ws → B ws) → ((ws : List (List ℕ)) → B ws → A ws) → (ws : List (List ℕ)) (i place : ℕ) → WrongFrom A ws i place → WrongFrom B ws i place
of_same A B up down ws i place f = record {
  first = f.first;
  at = f.at;
  more = f.more;
  is_line = up (f.first ++ f.more) f.is_line;
  stops = go f.stops;
}
  where
    go : Stops A ws f.first → Stops B ws f.first
    go (lacking e n) = lacking e (λ x. n (down f.first x))
    go (wrong_word v others e n) = wrong_word v others e (λ more x. n more (down (f.first ++ (v ∷ more)) x))

pub from_first : (A : List (List ℕ) → Type 0) (ws : List (List ℕ)) (place : ℕ) → WrongFrom A ws 1 place → WrongAt A ws place
from_first A ws place f = record { first = f.first; at = (let a = f.at in omega arith); more = f.more; is_line = f.is_line; stops = f.stops }

-- at the first word
pub at_once : (A : List (List ℕ) → Type 0) (ws more : List (List ℕ)) (i : ℕ) → A more → Stops A ws [] → WrongFrom A ws i i
at_once A ws more i a s = record { first = []; at = omega arith; more = more; is_line = a; stops = s }

-- a line of these wants
abbrev pub Spelled : List Want → List (List ℕ) → Type 0
Spelled xs ws = (ns : List ℕ) × Meets xs ns × (ws ≡ spelled xs ns)

-- there is one, with all numbers 0
pub some_spelled : (xs : List Want) → (ws : List (List ℕ)) × Spelled xs ws
some_spelled [] = ([], ([], tt, refl))
some_spelled (the_word v ∷ xs) = (let r = some_spelled xs in (v ∷ r.0, (r.1.0, r.1.1, ap (λ x. v ∷ x) r.1.2)))
some_spelled (a_number limit ∷ xs) = (let r = some_spelled xs in (decimal 0 ∷ r.0, (0 ∷ r.1.0, (omega arith, r.1.1), ap (λ x. decimal 0 ∷ x) r.1.2)))

none_wanted : (ws : List (List ℕ)) (w : List ℕ) → Spelled [] (w ∷ ws) → ⊥
none_wanted ws w s = (let e = s.2 in cc)

one_lacking : (x : Want) (xs : List Want) → Spelled (x ∷ xs) [] → ⊥
one_lacking (the_word v) xs s = (let e = s.2 in cc)
one_lacking (a_number limit) xs ([], m, e) = absurd m
one_lacking (a_number limit) xs (n ∷ ns, m, e) = cc

word_up : (v w : List ℕ) (xs : List Want) → v ≡ w → (ws : List (List ℕ)) → Spelled xs ws → Spelled (the_word v ∷ xs) (w ∷ ws)
word_up v w xs e ws s = (let f = s.2 in (s.0, s.1, cc))

word_down : (v w : List ℕ) (xs : List Want) (ws : List (List ℕ)) → Spelled (the_word v ∷ xs) (w ∷ ws) → (v ≡ w) × Spelled xs ws
word_down v w xs ws s = (let f = s.2 in (cc, (s.0, s.1, cc)))

number_up : (limit n : ℕ) (w : List ℕ) (xs : List Want) → w ≡ decimal n → n ≤ limit → (ws : List (List ℕ)) → Spelled xs ws → Spelled (a_number limit ∷ xs) (w ∷ ws)
number_up limit n w xs e h ws s = (let f = s.2 in (n ∷ s.0, (h, s.1), cc))

number_down : (limit : ℕ) (w : List ℕ) (xs : List Want) (ws : List (List ℕ)) → Spelled (a_number limit ∷ xs) (w ∷ ws) → (n : ℕ) × (w ≡ decimal n) × (n ≤ limit) × Spelled xs ws
number_down limit w xs ws ([], m, e) = absurd m
number_down limit w xs ws (n ∷ ns, m, e) = (n, cc, m.0, (ns, m.1, cc))

wrong_same : (i j : ℕ) → wrong i ≡ wrong j → i ≡ j
wrong_same i j e = cc

pub take_wrong : (xs : List Want) (ws : List (List ℕ)) (i j : ℕ) → Small xs → take_words xs ws i ≡ wrong j → WrongFrom (Spelled xs) ws i j
take_wrong [] [] i j s e = absurd (cc)
take_wrong [] (w ∷ ws) i j s e =
    subst (WrongFrom (Spelled []) (w ∷ ws) i) (wrong_same i j e) (at_once (Spelled []) (w ∷ ws) [] i ([], tt, refl) (wrong_word w ws refl (λ more x. none_wanted more w x)))
take_wrong (the_word v ∷ xs) [] i j s e =
    let r = some_spelled (the_word v ∷ xs) in
    subst (WrongFrom (Spelled (the_word v ∷ xs)) [] i) (wrong_same i j e) (at_once (Spelled (the_word v ∷ xs)) [] r.0 i r.1 (lacking refl (one_lacking (the_word v) xs)))
take_wrong (a_number limit ∷ xs) [] i j s e =
    let r = some_spelled (a_number limit ∷ xs) in
    subst (WrongFrom (Spelled (a_number limit ∷ xs)) [] i) (wrong_same i j e) (at_once (Spelled (a_number limit ∷ xs)) [] r.0 i r.1 (lacking refl (one_lacking (a_number limit) xs)))
take_wrong (the_word v ∷ xs) (w ∷ ws) i j s e = go (same_bytes v w) refl (take_wrong xs ws (i + 1) j s) e
  where
    go : (b : Bool) → same_bytes v w ≡ b → (take_words xs ws (i + 1) ≡ wrong j → WrongFrom (Spelled xs) ws (i + 1) j) → cond b (take_words xs ws (i + 1)) (wrong i) ≡ wrong j → WrongFrom (Spelled (the_word v ∷ xs)) (w ∷ ws) i j
    go true t rest f = behind (Spelled xs) (Spelled (the_word v ∷ xs)) w (word_up v w xs (same_is v w t)) (λ x y. (word_down v w xs x y).1) ws i j (rest f)
    go false t rest f =
        let r = some_spelled (the_word v ∷ xs) in
        let never : (more : List (List ℕ)) → Spelled (the_word v ∷ xs) (w ∷ more) → ⊥ = λ more x. (let d = word_down v w xs more x in let g = same_itself v in let h = d.0 in cc) in
        subst (WrongFrom (Spelled (the_word v ∷ xs)) (w ∷ ws) i) (wrong_same i j f) (at_once (Spelled (the_word v ∷ xs)) (w ∷ ws) r.0 i r.1 (wrong_word w ws refl never))
take_wrong (a_number limit ∷ xs) (w ∷ ws) i j s e = go (number_word limit w) (take_words xs ws (i + 1)) refl (take_wrong xs ws (i + 1) j s.1) e
  where
    go : (o : Option ℕ) (t : Taken) → number_word limit w ≡ o → (t ≡ wrong j → WrongFrom (Spelled xs) ws (i + 1) j) → with_number o i t ≡ wrong j → WrongFrom (Spelled (a_number limit ∷ xs)) (w ∷ ws) i j
    go None t g rest f =
        let r = some_spelled (a_number limit ∷ xs) in
        let never : (more : List (List ℕ)) → Spelled (a_number limit ∷ xs) (w ∷ more) → ⊥ = λ more x. (let d = number_down limit w xs more x in let k = number_right limit d.0 s.0 d.2 in let q = d.1 in cc) in
        subst (WrongFrom (Spelled (a_number limit ∷ xs)) (w ∷ ws) i) (wrong_same i j f) (at_once (Spelled (a_number limit ∷ xs)) (w ∷ ws) r.0 i r.1 (wrong_word w ws refl never))
    go (Some n) (right ns) g rest f = absurd (cc)
    go (Some n) (wrong k) g rest f =
        let word = number_is limit n w s.0 g in
        behind (Spelled xs) (Spelled (a_number limit ∷ xs)) w (number_up limit n w xs word.0 word.1) (λ x y. (number_down limit w xs x y).3) ws i j (rest f)
