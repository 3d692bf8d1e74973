-- The text of a level is no longer than a file may be.
use Rattle.std.proofs.Common.{ℕ, ◌+◌, ◌*◌, ◌≤◌, List, [], ◌∷◌, ◌++◌, map, length, codes, decimal, refl, arith, lit<, length-append}
use Rattle.std.specs.List.{AllByRecursion}
use Rattle.std.proofs.lemmas.Fmt.{length-decimal-le}
use Rattle.level_theory.specs.Levels.{Kind, arms, cards, form_of, LineCall, call_add, call_drop, call_near, call_within, call_island, call_route, Level, WallFits, CallFits, Valid}
use Rattle.level_theory.specs.Texts.{spaced, line_of, lines_of, kind_word, count_words, header_words, call_words, text_of}
use Rattle.level_theory.specs.Accepting.{Accepted}
use Rattle.level_theory.proofs.Settings.{settings_small}

-- each word with a byte behind it
abbrev width : List (List ℕ) → ℕ
width [] = 0
width (w ∷ ws) = length w + 1 + width ws

spaced_width : (ws : List (List ℕ)) → length (spaced ws) ≤ width ws
spaced_width [] = omega arith
spaced_width (w ∷ []) = omega arith
spaced_width (w ∷ (v ∷ ws)) = omega (arith, length-append w (32 ∷ spaced (v ∷ ws)), spaced_width (v ∷ ws))

line_width : (ws : List (List ℕ)) → length (line_of ws) ≤ width ws + 1
line_width ws = omega (arith, length-append (spaced ws) (10 ∷ []), spaced_width ws)

decimal_width : (n : ℕ) → n ≤ 1048576 → length (decimal n) ≤ 7
decimal_width n h = length-decimal-le 7 n (lit< tt) (omega arith) (omega arith)

numbers_width : (largest : ℕ) (ns : List ℕ) → largest ≤ 1048576 → AllByRecursion (λ n. n ≤ largest) ns → width (map decimal ns) ≤ 8 * length ns
numbers_width largest [] h f = omega arith
numbers_width largest (n ∷ ns) h f = omega (arith, decimal_width n (omega (arith, f.0)), numbers_width largest ns h f.1)

-- a word and numbers
spoken_width : (w : List ℕ) (ns : List ℕ) → AllByRecursion (λ n. n ≤ 1048576) ns → length (line_of (w ∷ map decimal ns)) ≤ length w + 2 + 8 * length ns
spoken_width w ns f = omega (arith, line_width (w ∷ map decimal ns), numbers_width 1048576 ns (omega arith) f)

weaker : (kind : Kind) (ns : List ℕ) → AllByRecursion (λ n. n ≤ (form_of kind).largest) ns → AllByRecursion (λ n. n ≤ 1048576) ns
weaker kind [] f = tt
weaker arms (n ∷ ns) f = (omega (arith, f.0), weaker arms ns f.1)
weaker cards (n ∷ ns) f = (omega (arith, f.0), weaker cards ns f.1)

few_numbers : (kind : Kind) → (form_of kind).numbers ≤ 8
few_numbers arms = omega arith
few_numbers cards = omega arith

few_bounds : (kind : Kind) → (form_of kind).wall_numbers ≤ 12
few_bounds arms = omega arith
few_bounds cards = omega arith

call_width : (kind : Kind) (call : LineCall) → CallFits (form_of kind) call → length (line_of (call_words call)) ≤ 75
call_width kind (call_add e) f = omega (arith, f.0, few_numbers kind, spoken_width (codes "a") e (weaker kind e f.1))
call_width kind (call_drop n) f = omega (arith, spoken_width (codes "d") (n ∷ []) (omega arith, tt))
call_width kind (call_near k e) f = omega (arith, f.1.0, few_numbers kind, spoken_width (codes "n") (k ∷ e) (f.0, weaker kind e f.1.1))
call_width kind (call_within r e) f = omega (arith, f.1.0, few_numbers kind, spoken_width (codes "w") (r ∷ e) (f.0, weaker kind e f.1.1))
call_width kind (call_island n) f = omega (arith, spoken_width (codes "i") (n ∷ []) (omega arith, tt))
call_width kind (call_route a b) f = omega (arith, spoken_width (codes "r") (a ∷ (b ∷ [])) (omega (arith, f.0), (omega (arith, f.1), tt)))

calls_width : (kind : Kind) (calls : List LineCall) → AllByRecursion (CallFits (form_of kind)) calls → length (lines_of (map call_words calls)) ≤ 75 * length calls
calls_width kind [] f = omega arith
calls_width kind (call ∷ calls) f = omega (arith, length-append (line_of (call_words call)) (lines_of (map call_words calls)), call_width kind call f.0, calls_width kind calls f.1)

wall_width : (kind : Kind) (wall : List ℕ) → WallFits (form_of kind) wall → length (line_of (map decimal wall)) ≤ 97
wall_width kind wall f = omega (arith, f.0, few_bounds kind, line_width (map decimal wall), numbers_width 1048576 wall (omega arith) (weaker kind wall f.1))

-- the walls and what follows them
walls_width : (kind : Kind) (walls : List (List ℕ)) (rest : List (List (List ℕ))) → AllByRecursion (WallFits (form_of kind)) walls → length (lines_of (map (map decimal) walls ++ rest)) ≤ 97 * length walls + length (lines_of rest)
walls_width kind [] rest f = omega arith
walls_width kind (wall ∷ walls) rest f = omega (arith, length-append (line_of (map decimal wall)) (lines_of (map (map decimal) walls ++ rest)), wall_width kind wall f.0, walls_width kind walls rest f.1)

kind_width : (kind : Kind) → length (kind_word kind) ≤ 4
kind_width arms = omega arith
kind_width cards = omega arith

pub text_short : (level : Level) → Valid level → length (text_of level) ≤ 65536
unfolding text_of
text_short level v =
    let s = settings_small level.degree level.bucket level.k v.settings in
    let calls : List (List (List ℕ)) = count_words (codes "calls") (length level.calls) ∷ map call_words level.calls in
    let walls : List (List (List ℕ)) = map (map decimal) level.walls ++ calls in
    let h = spoken_width (kind_word level.kind) (level.degree ∷ (level.bucket ∷ (level.k ∷ []))) (s.0, (s.1, (s.2, tt))) in
    let few_walls = v.few_walls in
    let few_calls = v.few_calls in
    let w = spoken_width (codes "walls") (length level.walls ∷ []) (omega arith, tt) in
    let c = spoken_width (codes "calls") (length level.calls ∷ []) (omega arith, tt) in
    let a = length-append (line_of (header_words level)) (lines_of (count_words (codes "walls") (length level.walls) ∷ walls)) in
    let b = length-append (line_of (count_words (codes "walls") (length level.walls))) (lines_of walls) in
    let d = length-append (line_of (count_words (codes "calls") (length level.calls))) (lines_of (map call_words level.calls)) in
    omega (arith, kind_width level.kind, h, w, c, a, b, d, walls_width level.kind level.walls calls v.walls, calls_width level.kind level.calls v.calls)

pub accepted_level : (level : Level) → Valid level → Accepted level
accepted_level level v = record { short = text_short level v; valid = v; text = refl }
