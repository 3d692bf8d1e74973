-- A line, word by word.
use Rattle.std.proofs.Common.{suc, ◌*◌, Fits, w64, lit<, ◌≡◌, ℕ, ◌+◌, ◌<◌, ◌≤◌, List, [], ◌∷◌, ◌++◌, map, length, get_or, take, drop, decimal, sym, refl, ap, ◌∙◌, append_assoc, append-nil, arith, length-append, rules}
use Rattle.std.proofs.lemmas.List.{take_more, take_all, take-append-drop}
use Rattle.std.proofs.lemmas.List.Sums.{sum_by-cons}
use Rattle.std.specs.List.{sum_by}
use Rattle.std.proofs.lemmas.Fmt.{length-decimal-le}
use Rattle.level_theory.specs.Texts.{spaced}
use Rattle.printing.specs.Outputs.{word_line}

-- each number with a space before it
abbrev pub tail_of : List ℕ → List ℕ
tail_of [] = []
tail_of (n ∷ ns) = 32 ∷ (decimal n ++ tail_of ns)

spaced_tail : (word : List ℕ) (ns : List ℕ) → spaced (word ∷ map decimal ns) ≡ word ++ tail_of ns
spaced_tail word [] = sym (append-nil word)
spaced_tail word (n ∷ ns) = ap (λ bs. word ++ (32 ∷ bs)) (spaced_tail (decimal n) ns)

pub line_tail : (word ns : List ℕ) → word_line word ns ≡ (word ++ tail_of ns) ++ (10 ∷ [])
unfolding word_line
line_tail word ns = ap (λ bs. bs ++ (10 ∷ [])) (spaced_tail word ns)

tail_append : (ms ns : List ℕ) → tail_of (ms ++ ns) ≡ tail_of ms ++ tail_of ns
tail_append [] ns = refl
tail_append (m ∷ ms) ns = ap (λ bs. 32 ∷ bs) (ap (λ bs. decimal m ++ bs) (tail_append ms ns) ∙ sym (append_assoc (decimal m) (tail_of ms) (tail_of ns)))

tail_one : (n : ℕ) → tail_of (n ∷ []) ≡ 32 ∷ decimal n
tail_one n = ap (λ bs. 32 ∷ bs) (append-nil (decimal n))

-- one number more
pub tail_more : (ns : List ℕ) (i : ℕ) → i < length ns → tail_of (take (i + 1) ns) ≡ tail_of (take i ns) ++ (32 ∷ decimal (get_or ns i 0))
tail_more ns i h = ap tail_of (take_more ns i 0 h) ∙ (tail_append (take i ns) (get_or ns i 0 ∷ []) ∙ ap (λ bs. tail_of (take i ns) ++ bs) (tail_one (get_or ns i 0)))

pub tail_len : (ns : List ℕ) (i : ℕ) → i < length ns → length (tail_of (take (i + 1) ns)) ≡ length (tail_of (take i ns)) + 1 + length (decimal (get_or ns i 0))
tail_len ns i h = ap length (tail_more ns i h) ∙ (length-append (tail_of (take i ns)) (32 ∷ decimal (get_or ns i 0)) ∙ search rules)

-- all numbers
pub tail_le : (ns : List ℕ) (i : ℕ) → length (tail_of (take i ns)) ≤ length (tail_of ns)
tail_le ns i =
    let e : tail_of ns ≡ tail_of (take i ns) ++ tail_of (drop i ns) = ap tail_of (sym (take-append-drop i ns)) ∙ tail_append (take i ns) (drop i ns) in
    omega (arith, ap length e ∙ length-append (tail_of (take i ns)) (tail_of (drop i ns)))

pub line_len : (word ns : List ℕ) → length (word_line word ns) ≡ length word + length (tail_of ns) + 1
line_len word ns = ap length (line_tail word ns) ∙ simp length-append

pub tail_sum : (ns : List ℕ) → length (tail_of ns) ≡ sum_by (λ n. length (decimal n) + 1) ns
tail_sum [] = refl
tail_sum (n ∷ ns) = omega (arith, length-append (decimal n) (tail_of ns), tail_sum ns, sum_by-cons (λ m. length (decimal m) + 1) n ns)

-- a word and some of the numbers, and one number more
pub text_more : (word ns : List ℕ) (i : ℕ) → i < length ns → (word ++ tail_of (take i ns)) ++ (32 ∷ decimal (get_or ns i 0)) ≡ word ++ tail_of (take (i + 1) ns)
text_more word ns i h = append_assoc word (tail_of (take i ns)) (32 ∷ decimal (get_or ns i 0)) ∙ ap (λ bs. word ++ bs) (sym (tail_more ns i h))

pub text_len : (word ns : List ℕ) (i : ℕ) → i < length ns → length (word ++ tail_of (take i ns)) + length (32 ∷ decimal (get_or ns i 0)) + 1 ≤ length (word_line word ns)
text_len word ns i h = omega (arith, length-append word (tail_of (take i ns)), tail_len ns i h, tail_le ns (i + 1), line_len word ns)

pub text_whole : (word ns : List ℕ) (i : ℕ) → length ns ≤ i → (word ++ tail_of (take i ns)) ++ (10 ∷ []) ≡ word_line word ns
text_whole word ns i h = ap (λ ms. (word ++ tail_of ms) ++ (10 ∷ [])) (take_all i ns h) ∙ sym (line_tail word ns)

-- at most 20 digits a number
pub tail_short : (ns : List ℕ) → ((i : ℕ) → Fits w64 (get_or ns i 0)) → length (tail_of ns) ≤ 21 * length ns
tail_short [] fit = omega arith
tail_short (n ∷ ns) fit =
    omega (arith, length-decimal-le 20 n (lit< tt) (omega (arith, fit 0)) (omega (arith, fit 0)), length-append (decimal n) (tail_of ns), tail_short ns (λ i. fit (suc i)))
