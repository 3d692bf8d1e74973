-- Taking words by tokens, and a whole line in parts. Assumes nothing.
use Rattle.std.proofs.Common.{◌≡◌, ℕ, ◌+◌, ◌<◌, true, false, cond, List, [], ◌∷◌, ◌++◌, length, Some, None, Err, Option, Bor, sym, refl, ap, ◌∙◌, arith}
use Rattle.level_theory.specs.Words.{letter, digit, all_bytes, same_bytes, number_word, Want, the_word, a_number, Taken, right, wrong, with_number, take_words}
use Rattle.std.specs.Option.{ok_or}
use Rattle.words.specs.declared.cursor.Misplaced.{Misplaced}
use Rattle.words.specs.Tokens.{Word, letters, digits, amiss, word_of, place_of, digits_of, shown_bytes}
use Rattle.words.specs.Cursors.{first_word, words_after, place_after, Part, got, lacks, part_number, part}
use Rattle.words.proofs.Numbers.{not_digits, no_bytes, letters_no_digits}

abbrev pub read_number : Option ℕ → ℕ → List (List ℕ) → ℕ → Part
read_number None p ws j = lacks p ws j
read_number (Some n) p ws j = got (n ∷ []) ws j

abbrev pub from_token : ℕ → Word → List (List ℕ) → ℕ → Part
from_token limit (letters w p) ws j = lacks p ws j
from_token limit (digits w p) ws j = read_number (number_word limit w) p ws j
from_token limit (amiss p) ws j = lacks p ws j

-- a token that has no digits
pub token_lacks : (limit : ℕ) (t : Word) (ws : List (List ℕ)) (j : ℕ) (found : Option (Bor (List ℕ))) (m f : Misplaced) → shown_bytes found ≡ digits_of t → m.0 ≡ place_of t → ok_or found m ≡ Err f → lacks f.0 ws j ≡ from_token limit t ws j
token_lacks limit (letters w p) ws j None m f e g h = let same : f.0 ≡ m.0 = cc in ap (λ x. lacks x ws j) (same ∙ g)
token_lacks limit (digits w p) ws j None m f e g h = cc
token_lacks limit (amiss p) ws j None m f e g h = let same : f.0 ≡ m.0 = cc in ap (λ x. lacks x ws j) (same ∙ g)
token_lacks limit t ws j (Some ds) m f e g h = cc

single : (o : Option ℕ) (i : ℕ) (ws : List (List ℕ)) → part_number o i ws (got [] ws (i + 1)) ≡ read_number o i ws (i + 1)
single None i ws = refl
single (Some n) i ws = refl

-- the token of a word says whether it can be a number
word_number : (limit : ℕ) (w : List ℕ) (i : ℕ) (ws : List (List ℕ)) → read_number (number_word limit w) i ws (i + 1) ≡ from_token limit (word_of w i) ws (i + 1)
word_number limit [] i ws = ap (λ o. read_number o i ws (i + 1)) (no_bytes limit)
word_number limit (b ∷ bs) i ws = elim (all_bytes letter (b ∷ bs)) as (λ t. all_bytes letter (b ∷ bs) ≡ t → read_number (number_word limit (b ∷ bs)) i ws (i + 1) ≡ from_token limit (cond t (letters (b ∷ bs) i) (cond (all_bytes digit (b ∷ bs)) (digits (b ∷ bs) i) (amiss i))) ws (i + 1)) [
  | true ↦ λ e. ap (λ o. read_number o i ws (i + 1)) (not_digits limit (b ∷ bs) (letters_no_digits b bs e))
  | false ↦ λ e. elim (all_bytes digit (b ∷ bs)) as (λ t. all_bytes digit (b ∷ bs) ≡ t → read_number (number_word limit (b ∷ bs)) i ws (i + 1) ≡ from_token limit (cond t (digits (b ∷ bs) i) (amiss i)) ws (i + 1)) [
    | true ↦ λ d. refl
    | false ↦ λ d. ap (λ o. read_number o i ws (i + 1)) (not_digits limit (b ∷ bs) d)
  ] refl
] refl

pub by_token : (limit : ℕ) (ws : List (List ℕ)) (i : ℕ) → part (a_number limit ∷ []) ws i ≡ from_token limit (first_word ws i) (words_after ws) (place_after ws i)
by_token limit [] i = refl
by_token limit (w ∷ ws) i = single (number_word limit w) i ws ∙ word_number limit w i ws

-- what a token of digits holds
abbrev pub DigitsWord : Word → Type 0
DigitsWord (letters w p) = Unit {0}
DigitsWord (digits w p) = (0 < length w) × (all_bytes digit w ≡ true)
DigitsWord (amiss p) = Unit {0}

pub word_digits : (w : List ℕ) (i : ℕ) → DigitsWord (word_of w i)
word_digits [] i = tt
word_digits (b ∷ bs) i = elim (all_bytes letter (b ∷ bs)) as (λ t. DigitsWord (cond t (letters (b ∷ bs) i) (cond (all_bytes digit (b ∷ bs)) (digits (b ∷ bs) i) (amiss i)))) [
  | true ↦ tt
  | false ↦ elim (all_bytes digit (b ∷ bs)) as (λ t. all_bytes digit (b ∷ bs) ≡ t → DigitsWord (cond t (digits (b ∷ bs) i) (amiss i))) [
    | true ↦ λ d. (omega arith, d)
    | false ↦ λ d. tt
  ] refl
]

pub first_digits : (ws : List (List ℕ)) (i : ℕ) → DigitsWord (first_word ws i)
first_digits [] i = tt
first_digits (w ∷ ws) i = word_digits w i

-- a whole line
abbrev pub whole : Part → Taken
whole (got ns [] i) = right ns
whole (got ns (w ∷ ws) i) = wrong i
whole (lacks p ws i) = wrong p

whole_number : (o : Option ℕ) (i : ℕ) (ws : List (List ℕ)) (p : Part) → with_number o i (whole p) ≡ whole (part_number o i ws p)
whole_number None i ws p = refl
whole_number (Some n) i ws (got ns [] j) = refl
whole_number (Some n) i ws (got ns (v ∷ vs) j) = refl
whole_number (Some n) i ws (lacks q vs j) = refl

pub take_part : (xs : List Want) (ws : List (List ℕ)) (i : ℕ) → take_words xs ws i ≡ whole (part xs ws i)
take_part [] [] i = refl
take_part [] (w ∷ ws) i = refl
take_part (the_word v ∷ xs) [] i = refl
take_part (a_number limit ∷ xs) [] i = refl
take_part (the_word v ∷ xs) (w ∷ ws) i = elim (same_bytes v w) as (λ t. cond t (take_words xs ws (i + 1)) (wrong i) ≡ whole (cond t (part xs ws (i + 1)) (lacks i ws (i + 1)))) [ true ↦ take_part xs ws (i + 1) | false ↦ refl ]
take_part (a_number limit ∷ xs) (w ∷ ws) i = ap (with_number (number_word limit w) i) (take_part xs ws (i + 1)) ∙ whole_number (number_word limit w) i ws (part xs ws (i + 1))

-- wants one after another
abbrev pub in_front : List ℕ → Part → Part
in_front ms (got ns ws i) = got (ms ++ ns) ws i
in_front ms (lacks p ws i) = lacks p ws i

abbrev pub then_part : Part → List Want → Part
then_part (got ns ws i) xs = in_front ns (part xs ws i)
then_part (lacks p ws i) xs = lacks p ws i

front_none : (p : Part) → in_front [] p ≡ p
front_none (got ns ws i) = refl
front_none (lacks p ws i) = refl

front_number : (n : ℕ) (ns : List ℕ) (p : Part) (i : ℕ) (ws : List (List ℕ)) → part_number (Some n) i ws (in_front ns p) ≡ in_front (n ∷ ns) p
front_number n ns (got ms vs j) i ws = refl
front_number n ns (lacks p vs j) i ws = refl

number_then : (o : Option ℕ) (i : ℕ) (ws : List (List ℕ)) (p : Part) (ys : List Want) → part_number o i ws (then_part p ys) ≡ then_part (part_number o i ws p) ys
number_then None i ws p ys = refl
number_then (Some n) i ws (got ns vs j) ys = front_number n ns (part ys vs j) i ws
number_then (Some n) i ws (lacks q vs j) ys = refl

pub part_append : (xs ys : List Want) (ws : List (List ℕ)) (i : ℕ) → part (xs ++ ys) ws i ≡ then_part (part xs ws i) ys
part_append [] ys ws i = sym (front_none (part ys ws i))
part_append (the_word v ∷ xs) ys [] i = refl
part_append (a_number limit ∷ xs) ys [] i = refl
part_append (the_word v ∷ xs) ys (w ∷ ws) i = elim (same_bytes v w) as (λ t. cond t (part (xs ++ ys) ws (i + 1)) (lacks i ws (i + 1)) ≡ then_part (cond t (part xs ws (i + 1)) (lacks i ws (i + 1))) ys) [ true ↦ part_append xs ys ws (i + 1) | false ↦ refl ]
part_append (a_number limit ∷ xs) ys (w ∷ ws) i = ap (part_number (number_word limit w) i ws) (part_append xs ys ws (i + 1)) ∙ number_then (number_word limit w) i ws (part xs ws (i + 1)) ys

-- a number taken by the token of its word
pub number_from : (limit : ℕ) (ws : List (List ℕ)) (i : ℕ) (t : Word) (vs : List (List ℕ)) (j : ℕ) → t ≡ first_word ws i → vs ≡ words_after ws → j ≡ place_after ws i → from_token limit t vs j ≡ part (a_number limit ∷ []) ws i
number_from limit ws i t vs j e f g =
    ap (λ x. from_token limit x vs j) e
    ∙ ap (λ x. from_token limit (first_word ws i) x j) f
    ∙ ap (from_token limit (first_word ws i) (words_after ws)) g
    ∙ sym (by_token limit ws i)
