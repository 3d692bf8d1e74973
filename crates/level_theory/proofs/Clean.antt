-- The words of a level's lines have no space and no newline.
use Rattle.std.proofs.Common.{◌≡◌, ℕ, ◌^◌, ◌<◌, ◌≤◌, true, leb, List, [], ◌∷◌, ◌++◌, map, length, codes, decimal, refl, arith, lit<, lit≤, ne_eqb, leb-true}
use Rattle.std.specs.List.{AllByRecursion}
use Rattle.std.proofs.lemmas.Fmt.{digits_decimal}
use Rattle.level_theory.specs.Words.{digit, all_bytes}
use Rattle.level_theory.specs.Levels.{Kind, arms, cards, form_of, LineCall, call_add, call_drop, call_near, call_within, call_island, call_route, Level, CallFits}
use Rattle.level_theory.specs.Texts.{Without, SomePiece, Clean, spaced, kind_word, call_words}
use Rattle.level_theory.specs.Reading.{Stage, Progress}
use Rattle.level_theory.proofs.Numbers.{own, and_both}
use Rattle.level_theory.proofs.Steps.{Step, step_header, step_wall_count, step_wall, step_call_count, step_call}
use Rattle.level_theory.proofs.Sections.{Remains, no_more, one_more}

digits_without : (c : ℕ) (w : List ℕ) → c < 48 → all_bytes digit w ≡ true → Without c w
digits_without c [] h e = tt
digits_without c (b ∷ w) h e =
    let p = and_both (digit b) (all_bytes digit w) e in
    let q = and_both (leb 48 b) (leb b 57) p.0 in
    let low = leb-true 48 b q.0 in
    (ne_eqb b c (λ f. omega arith), digits_without c w h p.1)

decimal_without : (c n : ℕ) → c < 48 → n < 2 ^ 64 → Without c (decimal n)
decimal_without c n h s = digits_without c (decimal n) h (digits_decimal own n s)

numbers_without : (c largest : ℕ) (ns : List ℕ) → c < 48 → largest < 2 ^ 64 → AllByRecursion (λ n. n ≤ largest) ns → AllByRecursion (Without c) (map decimal ns)
numbers_without c largest [] h s f = tt
numbers_without c largest (n ∷ ns) h s f = (decimal_without c n h (omega (arith, f.0)), numbers_without c largest ns h s f.1)

some_numbers : (ns : List ℕ) → 0 < length ns → SomePiece (map decimal ns)
some_numbers [] h = absurd (omega arith)
some_numbers (n ∷ ns) h = tt

-- a word followed by numbers
spoken : (w : List ℕ) (ns : List ℕ) (largest : ℕ) → Without 32 w → Without 10 w → largest < 2 ^ 64 → AllByRecursion (λ n. n ≤ largest) ns → Clean (w ∷ map decimal ns)
spoken w ns largest a b s f = record {
  some = tt;
  spaces = (a, numbers_without 32 largest ns (lit< tt) s f);
  newlines = (b, numbers_without 10 largest ns (lit< tt) s f);
}

weaker : (small large : ℕ) (ns : List ℕ) → small ≤ large → AllByRecursion (λ n. n ≤ small) ns → AllByRecursion (λ n. n ≤ large) ns
weaker small large [] h f = tt
weaker small large (n ∷ ns) h f = (omega (arith, f.0), weaker small large ns h f.1)

form_least : (kind : Kind) → (form_of kind).largest ≤ 1048576
form_least arms = lit≤ tt
form_least cards = lit≤ tt

call_clean : (kind : Kind) (call : LineCall) → CallFits (form_of kind) call → Clean (call_words call)
call_clean kind (call_add e) f = spoken (codes "a") e 1048576 (refl, tt) (refl, tt) (lit< tt) (weaker (form_of kind).largest 1048576 e (form_least kind) f.1)
call_clean kind (call_drop n) f = spoken (codes "d") (n ∷ []) 65535 (refl, tt) (refl, tt) (lit< tt) (f, tt)
call_clean kind (call_near k e) f = spoken (codes "n") (k ∷ e) 1048576 (refl, tt) (refl, tt) (lit< tt) (f.0, weaker (form_of kind).largest 1048576 e (form_least kind) f.1.1)
call_clean kind (call_within r e) f = spoken (codes "w") (r ∷ e) 1048576 (refl, tt) (refl, tt) (lit< tt) (f.0, weaker (form_of kind).largest 1048576 e (form_least kind) f.1.1)
call_clean kind (call_island n) f = spoken (codes "i") (n ∷ []) 65535 (refl, tt) (refl, tt) (lit< tt) (f, tt)
call_clean kind (call_route a b) f = spoken (codes "r") (a ∷ (b ∷ [])) 65535 (refl, tt) (refl, tt) (lit< tt) (f.0, (f.1, tt))

some_walls : (kind : Kind) (ns : List ℕ) → length ns ≡ (form_of kind).wall_numbers → 0 < length ns
some_walls arms ns e = omega arith
some_walls cards ns e = omega arith

pub header_clean : (kind : Kind) (d b k : ℕ) → d ≤ 1048576 → b ≤ 1048576 → k ≤ 1048576 → Clean (kind_word kind ∷ (decimal d ∷ (decimal b ∷ (decimal k ∷ []))))
header_clean arms d b k x y z = spoken (codes "arm") (d ∷ (b ∷ (k ∷ []))) 1048576 (refl, (refl, (refl, tt))) (refl, (refl, (refl, tt))) (lit< tt) (x, (y, (z, tt)))
header_clean cards d b k x y z = spoken (codes "card") (d ∷ (b ∷ (k ∷ []))) 1048576 (refl, (refl, (refl, (refl, tt)))) (refl, (refl, (refl, (refl, tt)))) (lit< tt) (x, (y, (z, tt)))

step_clean : (stage : Stage) (level : Level) (ws : List (List ℕ)) (p : Progress) → Step stage level ws p → Clean ws
step_clean stage level ws p (step_header level' kind d b k x y z o) = header_clean kind d b k x y z
step_clean stage level ws p (step_wall_count level' n h) = spoken (codes "walls") (n ∷ []) 64 (refl, (refl, (refl, (refl, (refl, tt))))) (refl, (refl, (refl, (refl, (refl, tt))))) (lit< tt) (h, tt)
step_clean stage level ws p (step_wall level' n wall f) = record {
  some = some_numbers wall (some_walls level.kind wall f.0);
  spaces = numbers_without 32 1048576 wall (lit< tt) (lit< tt) (weaker (form_of level.kind).largest 1048576 wall (form_least level.kind) f.1);
  newlines = numbers_without 10 1048576 wall (lit< tt) (lit< tt) (weaker (form_of level.kind).largest 1048576 wall (form_least level.kind) f.1);
}
step_clean stage level ws p (step_call_count level' n h) = spoken (codes "calls") (n ∷ []) 512 (refl, (refl, (refl, (refl, (refl, tt))))) (refl, (refl, (refl, (refl, (refl, tt))))) (lit< tt) (h, tt)
step_clean stage level ws p (step_call level' n call f) = call_clean level.kind call f

pub remains_clean : (stage : Stage) (level : Level) (lss : List (List (List ℕ))) (all : Level) → Remains stage level lss all → AllByRecursion Clean lss
remains_clean stage level lss all (no_more level') = tt
remains_clean stage level lss all (one_more stage' level' ws p rest all' s r) = (step_clean stage level ws p s, remains_clean p.stage p.level rest all r)

without_append : (c : ℕ) (v w : List ℕ) → Without c v → Without c w → Without c (v ++ w)
without_append c [] w h k = k
without_append c (b ∷ v) w h k = (h.0, without_append c v w h.1 k)

pub spaced_without : (ws : List (List ℕ)) → AllByRecursion (Without 10) ws → Without 10 (spaced ws)
spaced_without [] h = tt
spaced_without (w ∷ []) h = h.0
spaced_without (w ∷ (v ∷ ws)) h = without_append 10 w (32 ∷ spaced (v ∷ ws)) h.0 (refl, spaced_without (v ∷ ws) h.1)

pub clean_lines : (lss : List (List (List ℕ))) → AllByRecursion Clean lss → AllByRecursion (λ ws. Without 10 (spaced ws)) lss
clean_lines [] h = tt
clean_lines (ws ∷ lss) h = (spaced_without ws h.0.newlines, clean_lines lss h.1)
