-- The first word of a line, by its token. Assumes nothing.
use Rattle.std.proofs.Common.{◌≡◌, ℕ, ◌+◌, ◌<◌, Bool, true, false, cond, ◌&&◌, not, eqb, nat_eq, List, [], ◌∷◌, length, Some, None, Ok, Err, Option, Bor, codes, Decides, sym, refl, ap, ◌∙◌, arith, rules, ne_eqb}
use mathlib.Core.Bool.{and-false, and-true}
use Rattle.std.proofs.lemmas.Slice.Eq.{IsBytesEq, compares_Decides, slice_eq-Decides}
use Rattle.std.proofs.lemmas.Bool.Decides.{Decides-eqb}
use Rattle.std.specs.Cmp.Lexicographic.{pointwise}
use Rattle.std.specs.Option.{ok_or}
use Rattle.level_theory.specs.Words.{letter, digit, all_bytes, same_bytes, Want, the_word, wrong, take_words}
use Rattle.level_theory.specs.Reading.{letter_of, setting_wants}
use Rattle.words.specs.declared.cursor.Misplaced.{Misplaced}
use Rattle.words.specs.Tokens.{Word, letters, digits, amiss, word_of, place_of, letters_of, shown_bytes}
use Rattle.words.specs.Cursors.{first_word, words_after, place_after}
use Rattle.lines.specs.declared.header.Kind.TheVariants.{Arms, Cards}
use Rattle.lines.specs.Headers.{kind_of_letters, kind_named, settings_read, with_kind, header_read}
use Rattle.lines.specs.Calls.{sole, letter_named, named}

compares : IsBytesEq same_bytes
compares = search rules

pub same_decides : (xs ys : List ℕ) → Decides (same_bytes xs ys) (xs ≡ ys)
same_decides xs ys = compares_Decides same_bytes compares xs ys

-- the token of a word
pub place_word : (w : List ℕ) (i : ℕ) → place_of (word_of w i) ≡ i
place_word [] i = refl
place_word (b ∷ bs) i = elim (all_bytes letter (b ∷ bs)) as (λ t. place_of (cond t (letters (b ∷ bs) i) (cond (all_bytes digit (b ∷ bs)) (digits (b ∷ bs) i) (amiss i))) ≡ i) [
  | true ↦ refl
  | false ↦ elim (all_bytes digit (b ∷ bs)) as (λ t. place_of (cond t (digits (b ∷ bs) i) (amiss i)) ≡ i) [ true ↦ refl | false ↦ refl ]
]

pub place_first : (ws : List (List ℕ)) (i : ℕ) → place_of (first_word ws i) ≡ i
place_first [] i = refl
place_first (w ∷ ws) i = place_word w i

abbrev pub of_letters : Word → Bool
of_letters (letters w i) = true
of_letters (digits w i) = false
of_letters (amiss i) = false

letters_word : (w : List ℕ) (i : ℕ) → 0 < length w → all_bytes letter w ≡ true → of_letters (word_of w i) ≡ true
letters_word [] i h a = absurd (omega arith)
letters_word (b ∷ bs) i h a = ap (λ t. of_letters (cond t (letters (b ∷ bs) i) (cond (all_bytes digit (b ∷ bs)) (digits (b ∷ bs) i) (amiss i)))) a

letters_are : (w : List ℕ) (i : ℕ) → of_letters (word_of w i) ≡ true → word_of w i ≡ letters w i
letters_are [] i e = let n : ◌≡◌ {A = ℕ} 0 1 = cc in absurd (omega arith)
letters_are (b ∷ bs) i e = elim (all_bytes letter (b ∷ bs)) as (λ t. of_letters (cond t (letters (b ∷ bs) i) (cond (all_bytes digit (b ∷ bs)) (digits (b ∷ bs) i) (amiss i))) ≡ true → cond t (letters (b ∷ bs) i) (cond (all_bytes digit (b ∷ bs)) (digits (b ∷ bs) i) (amiss i)) ≡ letters (b ∷ bs) i) [
  | true ↦ λ f. refl
  | false ↦ elim (all_bytes digit (b ∷ bs)) as (λ t. of_letters (cond t (digits (b ∷ bs) i) (amiss i)) ≡ true → cond t (digits (b ∷ bs) i) (amiss i) ≡ letters (b ∷ bs) i) [
    | true ↦ λ f. let n : ◌≡◌ {A = ℕ} 0 1 = cc in absurd (omega arith)
    | false ↦ λ f. let n : ◌≡◌ {A = ℕ} 0 1 = cc in absurd (omega arith)
  ]
] e

-- a name of letters is another word than one that is no letters
not_named : (name w : List ℕ) (i : ℕ) → 0 < length name → all_bytes letter name ≡ true → of_letters (word_of w i) ≡ false → same_bytes name w ≡ true → ⊥
not_named name w i h a f e =
    let same : name ≡ w = (same_decides name w).0 e in
    let yes-letters : of_letters (word_of w i) ≡ true = ap (λ v. of_letters (word_of v i)) (sym same) ∙ letters_word name i h a in
    let z : true ≡ false = sym yes-letters ∙ f in
    let n : ◌≡◌ {A = ℕ} 0 1 = cc in omega arith

pub other_word : (name : List ℕ) (xs : List Want) (ws : List (List ℕ)) (i : ℕ) → 0 < length name → all_bytes letter name ≡ true → of_letters (first_word ws i) ≡ false → wrong i ≡ take_words (the_word name ∷ xs) ws i
other_word name xs [] i h a f = refl
other_word name xs (w ∷ ws) i h a f = elim (same_bytes name w) as (λ t. same_bytes name w ≡ t → wrong i ≡ cond t (take_words xs ws (i + 1)) (wrong i)) [
  | true ↦ λ e. absurd (not_named name w i h a f e)
  | false ↦ λ e. refl
] refl

-- the kind that a word names
not_same : (w name : List ℕ) (i : ℕ) → 0 < length name → all_bytes letter name ≡ true → of_letters (word_of w i) ≡ false → same_bytes w name ≡ false
not_same w name i h a f = elim (same_bytes w name) as (λ t. same_bytes w name ≡ t → t ≡ false) [
  | true ↦ λ e. absurd (not_named name w i h a f ((same_decides name w).1 (sym ((same_decides w name).0 e))))
  | false ↦ λ e. refl
] refl

no_kind : (w : List ℕ) (i : ℕ) → of_letters (word_of w i) ≡ false → kind_of_letters w i ≡ Err (record { 0 = i })
no_kind w i f =
    let a : same_bytes w (codes "arm") ≡ false = not_same w (codes "arm") i (omega arith) refl f in
    let b : same_bytes w (codes "card") ≡ false = not_same w (codes "card") i (omega arith) refl f in
    rw (a, b)

kind_word : (w : List ℕ) (i : ℕ) (t : Word) → word_of w i ≡ t → kind_of_letters w i ≡ kind_named t
kind_word w i (letters v j) e = ap kind_named (sym (letters_are w i (ap of_letters e)) ∙ e)
kind_word w i (digits v j) e = no_kind w i (ap of_letters e) ∙ ap (λ p. Err (record { 0 = p })) (sym (place_word w i) ∙ ap place_of e)
kind_word w i (amiss j) e = no_kind w i (ap of_letters e) ∙ ap (λ p. Err (record { 0 = p })) (sym (place_word w i) ∙ ap place_of e)

pub header_by_word : (ws : List (List ℕ)) (i : ℕ) → header_read ws i ≡ with_kind (kind_named (first_word ws i)) (settings_read (take_words setting_wants (words_after ws) (place_after ws i)))
header_by_word [] i = refl
header_by_word (w ∷ ws) i = ap (λ k. with_kind k (settings_read (take_words setting_wants ws (i + 1)))) (kind_word w i (word_of w i) refl)

-- the letter of a call
not_letter : (b c : ℕ) → letter b ≡ false → letter c ≡ true → eqb b c ≡ false
not_letter b c f t = ne_eqb b c (λ e. let z : true ≡ false = sym t ∙ ap letter (sym e) ∙ f in let n : ◌≡◌ {A = ℕ} 0 1 = cc in omega arith)

no_letter : (b : ℕ) → letter b ≡ false → letter_named b ≡ None
no_letter b f = rw (not_letter b 97 f refl, not_letter b 100 f refl, not_letter b 110 f refl, not_letter b 119 f refl, not_letter b 105 f refl, not_letter b 114 f refl)

one_byte : (b : ℕ) → letter_of (b ∷ []) ≡ letter_named b
one_byte b = simp and-true

more_bytes : (b c : ℕ) (bs : List ℕ) → letter_of (b ∷ (c ∷ bs)) ≡ None
more_bytes b c bs = simp and-false

pub letter_word : (w : List ℕ) (i : ℕ) → letter_of w ≡ named (sole (word_of w i))
letter_word [] i = refl
letter_word (b ∷ []) i = elim (letter b) as (λ t. letter b ≡ t → letter_of (b ∷ []) ≡ named (sole (cond (t && true) (letters (b ∷ []) i) (cond (all_bytes digit (b ∷ [])) (digits (b ∷ []) i) (amiss i))))) [
  | true ↦ λ e. one_byte b
  | false ↦ λ e. one_byte b ∙ no_letter b e ∙ elim (all_bytes digit (b ∷ [])) as (λ t. None ≡ named (sole (cond t (digits (b ∷ []) i) (amiss i)))) [ true ↦ refl | false ↦ refl ]
] refl
letter_word (b ∷ (c ∷ bs)) i = more_bytes b c bs ∙ elim (all_bytes letter (b ∷ (c ∷ bs))) as (λ t. None ≡ named (sole (cond t (letters (b ∷ (c ∷ bs)) i) (cond (all_bytes digit (b ∷ (c ∷ bs))) (digits (b ∷ (c ∷ bs)) i) (amiss i))))) [
  | true ↦ refl
  | false ↦ elim (all_bytes digit (b ∷ (c ∷ bs))) as (λ t. None ≡ named (sole (cond t (digits (b ∷ (c ∷ bs)) i) (amiss i)))) [ true ↦ refl | false ↦ refl ]
]

-- a word that is not the name
not_same_bytes : (xs ys : List ℕ) → (xs ≡ ys → ⊥) → same_bytes xs ys ≡ false
not_same_bytes xs ys n = elim (same_bytes xs ys) as (λ t. same_bytes xs ys ≡ t → t ≡ false) [
  | true ↦ λ e. absurd (n ((same_decides xs ys).0 e))
  | false ↦ λ e. refl
] refl

word_letters : (w : List ℕ) (i : ℕ) (l : List ℕ) → Some l ≡ letters_of (word_of w i) → l ≡ w
word_letters [] i l e = cc
word_letters (b ∷ bs) i l e = elim (all_bytes letter (b ∷ bs)) as (λ t. Some l ≡ letters_of (cond t (letters (b ∷ bs) i) (cond (all_bytes digit (b ∷ bs)) (digits (b ∷ bs) i) (amiss i))) → l ≡ b ∷ bs) [
  | true ↦ λ f. cc
  | false ↦ elim (all_bytes digit (b ∷ bs)) as (λ t. Some l ≡ letters_of (cond t (digits (b ∷ bs) i) (amiss i)) → l ≡ b ∷ bs) [ true ↦ λ f. cc | false ↦ λ f. cc ]
] e

none_of_letters : (t : Word) → None ≡ letters_of t → of_letters t ≡ false
none_of_letters (letters w i) e = cc
none_of_letters (digits w i) e = refl
none_of_letters (amiss i) e = refl

pub lacks_name : (name : List ℕ) (xs : List Want) (ws : List (List ℕ)) (i : ℕ) (t : Word) (found : Option (Bor (List ℕ))) (m f : Misplaced) → 0 < length name → all_bytes letter name ≡ true → t ≡ first_word ws i → shown_bytes found ≡ letters_of t → m.0 ≡ place_of t → ok_or found m ≡ Err f → wrong f.0 ≡ take_words (the_word name ∷ xs) ws i
lacks_name name xs ws i t None m f h a first e g k =
    let place : f.0 ≡ m.0 = cc in
    ap wrong (place ∙ g ∙ ap place_of first ∙ place_first ws i)
    ∙ other_word name xs ws i h a (ap of_letters (sym first) ∙ none_of_letters t e)
lacks_name name xs ws i t (Some w) m f h a first e g k = cc

pub other_name : (name : List ℕ) (xs : List Want) (ws : List (List ℕ)) (i : ℕ) (t : Word) (l : List ℕ) (p : ℕ) → t ≡ first_word ws i → Some l ≡ letters_of t → p ≡ place_of t → (l ≡ name → ⊥) → wrong p ≡ take_words (the_word name ∷ xs) ws i
other_name name xs [] i t l p first e g n = let none : Some l ≡ None = e ∙ ap letters_of first in cc
other_name name xs (w ∷ ws) i t l p first e g n =
    let own : l ≡ w = word_letters w i l (e ∙ ap letters_of first) in
    let no : same_bytes name w ≡ false = not_same_bytes name w (λ s. n (own ∙ sym s)) in
    ap wrong (g ∙ ap place_of first ∙ place_word w i) ∙ ap (λ t. cond t (take_words xs ws (i + 1)) (wrong i)) (sym no)

pub differ : (l name : List ℕ) (r : Bool) → r ≡ not (pointwise nat_eq l name) → r ≡ true → l ≡ name → ⊥
differ l name r e f s =
    let same : pointwise nat_eq l name ≡ true = (slice_eq-Decides Decides-eqb l name (pointwise nat_eq l name) refl).1 s in
    let z : false ≡ true = ap not (sym same) ∙ sym e ∙ f in
    cc

-- the kind of a word of letters, by its tests
same_pointwise : (xs ys : List ℕ) → pointwise nat_eq xs ys ≡ same_bytes xs ys
same_pointwise [] [] = refl
same_pointwise [] (y ∷ ys) = refl
same_pointwise (x ∷ xs) [] = refl
same_pointwise (x ∷ xs) (y ∷ ys) = ap (λ t. eqb x y && t) (same_pointwise xs ys)

pub kind_tested : (t : Word) (w : List ℕ) (p : ℕ) (a b : Bool) → Some w ≡ letters_of t → p ≡ place_of t → a ≡ pointwise nat_eq w (codes "arm") → b ≡ pointwise nat_eq w (codes "card") → cond a (Ok Arms) (cond b (Ok Cards) (Err (record { 0 = p }))) ≡ kind_named t
kind_tested (letters v i) w p a b e f arm card =
    let same : w ≡ v = cc in
    ap (λ x. cond x (Ok Arms) (cond b (Ok Cards) (Err (record { 0 = p })))) (arm ∙ same_pointwise w (codes "arm"))
    ∙ ap (λ x. cond (same_bytes w (codes "arm")) (Ok Arms) (cond x (Ok Cards) (Err (record { 0 = p })))) (card ∙ same_pointwise w (codes "card"))
    ∙ ap (kind_of_letters w) f
    ∙ ap (λ x. kind_of_letters x i) same
kind_tested (digits v i) w p a b e f arm card = cc
kind_tested (amiss i) w p a b e f arm card = cc
