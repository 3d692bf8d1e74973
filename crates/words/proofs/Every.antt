-- One test of each byte. Assumes nothing.
use Rattle.std.proofs.Common.{◌≡◌, ℕ, ◌+◌, ◌<◌, ◌≤◌, Bool, true, false, cond, ◌&&◌, eqb, List, [], ◌∷◌, length, get_or, drop, sym, refl, ap, ◌∙◌}
use Rattle.std.proofs.lemmas.List.{at_drop_more, at_drop_all}
use Rattle.std.specs.List.{list_all}
use Rattle.level_theory.specs.Words.{letter, digit, all_bytes}
use Rattle.words.specs.Tokens.{Word, letters, digits, amiss, word_of}

pub every : (p : ℕ → Bool) (w : List ℕ) → list_all p w ≡ all_bytes p w
every p [] = refl
every p (b ∷ bs) = ap (λ t. p b && t) (every p bs)

-- a loop that asks the test of one byte after another, by what is left
module _ (p : ℕ → Bool) (w : List ℕ) (i : ℕ) where
  at : i < length w → all_bytes p (drop i w) ≡ (p (get_or w i 0) && all_bytes p (drop (i + 1) w))
  at h = at_drop_more (all_bytes p) w i 0 h

  pub stops : i < length w → false ≡ p (get_or w i 0) → all_bytes p (drop i w) ≡ all_bytes p w → false ≡ all_bytes p w
  stops h b inv = ap (λ t. t && all_bytes p (drop (i + 1) w)) b ∙ sym (at h) ∙ inv

  pub goes_on : i < length w → true ≡ p (get_or w i 0) → all_bytes p (drop i w) ≡ all_bytes p w → all_bytes p (drop (i + 1) w) ≡ all_bytes p w
  goes_on h b inv = ap (λ t. t && all_bytes p (drop (i + 1) w)) b ∙ sym (at h) ∙ inv

  pub ends : length w ≤ i → all_bytes p (drop i w) ≡ all_bytes p w → true ≡ all_bytes p w
  ends h inv = sym (at_drop_all (all_bytes p) w i h) ∙ inv

-- the token of a word that is not empty
abbrev pub word_by : List ℕ → ℕ → Bool → Bool → Word
word_by w i a b = cond a (letters w i) (cond b (digits w i) (amiss i))

word_tests : (w : List ℕ) (i : ℕ) → false ≡ eqb (length w) 0 → word_by w i (all_bytes letter w) (all_bytes digit w) ≡ word_of w i
word_tests [] i n = cc
word_tests (b ∷ bs) i n = refl

pub word_tested : (w : List ℕ) (i : ℕ) (a b : Bool) → false ≡ eqb (length w) 0 → a ≡ all_bytes letter w → b ≡ all_bytes digit w → word_by w i a b ≡ word_of w i
word_tested w i a b n e f = ap (λ t. word_by w i t b) e ∙ ap (word_by w i (all_bytes letter w)) f ∙ word_tests w i n
