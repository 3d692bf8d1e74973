-- The figures of a fault are small.
use Rattle.std.proofs.Common.{◌≡◌, ℕ, zero, suc, ◌+◌, ◌≤◌, Bool, true, false, cond, ◌&&◌, eqb, leb, List, [], ◌∷◌, ◌++◌, length, get_or, Some, None, codes, Option, refl, arith, lit<, lit≤, leb-true}
use Rattle.std.specs.List.{AllByRecursion}
use Rattle.index.specs.Outcomes.{Outcome, gives, refuses}
use Rattle.gnat.specs.Chosen.{outside}
use Rattle.level_theory.specs.Words.{onto, split, words_of, pieces_of, same_bytes, number_word, Want, the_word, a_number, Taken, right, wrong, with_number, take_words}
use Rattle.level_theory.specs.Levels.{Kind, arms, cards, Form, form_of, LineCall, Level, neighbours_outcome, then_neighbours, header_outcome}
use Rattle.level_theory.specs.Reading.{Stage, at_header, at_wall_count, at_walls, at_call_count, at_calls, at_end, walls_left, calls_left, number_wants, setting_wants, count_wants, Letter, letter_of, call_wants, call_of, formed, carried, header_of, read_header, read_call_at, read_call, level_with, Progress, progress, then_level, then_call, read_line, read_rest, read_lines, start_reading, reading}
use Rattle.level_theory.specs.Accepting.{SmallTold}
use Rattle.level_theory.proofs.Wanted.{Meets, taken_is}

-- a text has one piece more than it has bytes at most
pub few_pieces : (c : ℕ) (bs : List ℕ) → length (split c bs) ≤ length bs + 1
few_pieces c [] = omega arith
few_pieces c (b ∷ bs) = go (eqb b c) (few_pieces c bs)
  where
    onto_length : (ws : List (List ℕ)) → length (onto b ws) ≤ length ws + 1
    onto_length [] = omega arith
    onto_length (w ∷ ws) = omega arith

    go : (t : Bool) → length (split c bs) ≤ length bs + 1 → length (cond t ([] ∷ split c bs) (onto b (split c bs))) ≤ suc (length bs) + 1
    go true h = omega arith
    go false h = let l = onto_length (split c bs) in omega arith

-- the place of a wrong word
wrong_place : (xs : List Want) (ws : List (List ℕ)) (i j : ℕ) → take_words xs ws i ≡ wrong j → j ≤ i + length ws
wrong_place [] [] i j e = absurd (let z : ◌≡◌ {A = ℕ} 0 1 = cc in omega arith)
wrong_place [] (w ∷ ws) i j e = let s : i ≡ j = cc in omega arith
wrong_place (the_word v ∷ xs) [] i j e = let s : i ≡ j = cc in omega arith
wrong_place (a_number limit ∷ xs) [] i j e = let s : i ≡ j = cc in omega arith
wrong_place (the_word v ∷ xs) (w ∷ ws) i j e = go (same_bytes v w) (wrong_place xs ws (i + 1) j) e
  where
    go : (b : Bool) → (take_words xs ws (i + 1) ≡ wrong j → j ≤ (i + 1) + length ws) → cond b (take_words xs ws (i + 1)) (wrong i) ≡ wrong j → j ≤ i + suc (length ws)
    go true h f = let k = h f in omega arith
    go false h f = let s : i ≡ j = cc in omega arith
wrong_place (a_number limit ∷ xs) (w ∷ ws) i j e = go (number_word limit w) (take_words xs ws (i + 1)) (wrong_place xs ws (i + 1) j) e
  where
    go : (o : Option ℕ) (t : Taken) → (t ≡ wrong j → j ≤ (i + 1) + length ws) → with_number o i t ≡ wrong j → j ≤ i + suc (length ws)
    go None t h f = let s : i ≡ j = cc in omega arith
    go (Some n) (right ns) h f = absurd (let z : ◌≡◌ {A = ℕ} 0 1 = cc in omega arith)
    go (Some n) (wrong k) h f = let s = h f in omega arith

-- a line's fault
formed_small : {A : Type 0} (line : ℕ) (t : Taken) (f : List ℕ → Outcome A) → line ≤ 1048576 → ((j : ℕ) → t ≡ wrong j → j ≤ 1048576) → ((ns : List ℕ) → t ≡ right ns → SmallTold (f ns)) → SmallTold (formed line t f)
formed_small line (right ns) f l w r = r ns refl
formed_small line (wrong j) f l w r = (lit≤ tt, (l, (w j refl, tt)))

neighbours_small : (k : ℕ) → k ≤ 1048576 → SmallTold (neighbours_outcome k)
neighbours_small k h = go (leb 1 k && leb k 8)
  where
    go : (b : Bool) → SmallTold (cond {A = Outcome Unit} b (gives tt) (refuses 1 (k ∷ [])))
    go true = tt
    go false = (lit≤ tt, (h, tt))

header_small : (degree bucket k : ℕ) → degree ≤ 1048576 → bucket ≤ 1048576 → k ≤ 1048576 → SmallTold (header_outcome degree bucket k)
header_small degree bucket k d b l = go (eqb degree 0 && eqb bucket 0) (outside 2 8 degree) (outside degree 32 bucket)
  where
    go : (x y z : Bool) → SmallTold (cond x (neighbours_outcome k) (then_neighbours {A = ℕ × ℕ} (cond y (refuses 1 (degree ∷ [])) (cond z (refuses 1 (bucket ∷ [])) (gives (degree, bucket)))) k))
    go true y z = neighbours_small k l
    go false true z = (lit≤ tt, (d, tt))
    go false false true = (lit≤ tt, (b, tt))
    go false false false = neighbours_small k l

carried_small : {A : Type 0} (line : ℕ) (o : Outcome Unit) (x : A) → line ≤ 1048576 → SmallTold o → SmallTold (carried line o x)
carried_small line (gives u) x l s = tt
carried_small line (refuses n figures) x l s = (s.0, (l, s.1))

-- the settings of a line that has its form are within their limit
setting_met : (ns : List ℕ) → Meets setting_wants ns → (get_or ns 0 0 ≤ 1048576) × (get_or ns 1 0 ≤ 1048576) × (get_or ns 2 0 ≤ 1048576)
setting_met [] m = absurd m
setting_met (d ∷ []) m = absurd m.1
setting_met (d ∷ (b ∷ [])) m = absurd m.1.1
setting_met (d ∷ (b ∷ (k ∷ ns))) m = (m.0, m.1.0, m.1.1.0)

header_of_small : (line : ℕ) (kind : Kind) (ws : List (List ℕ)) → line ≤ 1048576 → 2 + length ws ≤ 1048576 → SmallTold (header_of line kind ws)
header_of_small line kind ws l h =
    formed_small line (take_words setting_wants ws 2) _ l
    (λ j e. let p = wrong_place setting_wants ws 2 j e in omega arith)
    (λ ns e.
    let m = setting_met ns (taken_is setting_wants ws 2 ns (lit< tt, (lit< tt, (lit< tt, tt))) e).1 in
    carried_small line (header_outcome (get_or ns 0 0) (get_or ns 1 0) (get_or ns 2 0)) _ l (header_small (get_or ns 0 0) (get_or ns 1 0) (get_or ns 2 0) m.0 m.1 m.2))

read_header_small : (line : ℕ) (ws : List (List ℕ)) → line ≤ 1048576 → 2 + length ws ≤ 1048576 → SmallTold (read_header line ws)
read_header_small line [] l h = (lit≤ tt, (l, (lit≤ tt, tt)))
read_header_small line (w ∷ ws) l h = go (same_bytes w (codes "arm")) (same_bytes w (codes "card"))
  where
    go : (x y : Bool) → SmallTold (cond x (header_of line arms ws) (cond y (header_of line cards ws) (refuses 8 (line ∷ (1 ∷ [])))))
    go true y = header_of_small line arms ws l (omega arith)
    go false true = header_of_small line cards ws l (omega arith)
    go false false = (lit≤ tt, (l, (lit≤ tt, tt)))

-- lines of one form each
formed_line : {A : Type 0} (line i : ℕ) (xs : List Want) (ws : List (List ℕ)) (f : List ℕ → A) → line ≤ 1048576 → i + length ws ≤ 1048576 → SmallTold (formed line (take_words xs ws i) (λ ns. gives (f ns)))
formed_line line i xs ws f l h = formed_small line (take_words xs ws i) _ l (λ j e. let p = wrong_place xs ws i j e in omega arith) (λ ns e. tt)

read_call_small : (form : Form) (line : ℕ) (ws : List (List ℕ)) → line ≤ 1048576 → 2 + length ws ≤ 1048576 → SmallTold (read_call form line ws)
read_call_small form line [] l h = (lit≤ tt, (l, (lit≤ tt, tt)))
read_call_small form line (w ∷ ws) l h = go (letter_of w)
  where
    small : 2 + length ws ≤ 1048576
    small = omega arith

    go : (x : Option Letter) → SmallTold (read_call_at form line x ws)
    go None = (lit≤ tt, (l, (lit≤ tt, tt)))
    go (Some letter) = formed_line line 2 (call_wants form letter) ws (call_of letter) l small

level_then : (o : Outcome Level) (f : Level → Progress) → SmallTold o → SmallTold (then_level o f)
level_then (gives x) f s = tt
level_then (refuses n figures) f s = s

call_then : (o : Outcome LineCall) (f : LineCall → Progress) → SmallTold o → SmallTold (then_call o f)
call_then (gives x) f s = tt
call_then (refuses n figures) f s = s

no_line : (A : Type 0) (line : ℕ) → line ≤ 1048576 → SmallTold {A = A} (refuses 9 (line ∷ []))
no_line A line l = (lit≤ tt, (l, tt))

read_line_small : (stage : Stage) (line : ℕ) (level : Level) (ws : List (List ℕ)) → line ≤ 1048576 → 2 + length ws ≤ 1048576 → SmallTold (read_line stage line level ws)
read_line_small at_header line level ws l h = level_then (read_header line ws) (progress at_wall_count) (read_header_small line ws l h)
read_line_small at_wall_count line level ws l h = formed_line line 1 (count_wants (codes "walls") 64) ws (λ ns. progress (walls_left (get_or ns 0 0)) level) l (omega arith)
read_line_small (at_walls zero) line level ws l h = no_line Progress line l
read_line_small (at_walls (suc n)) line level ws l h = formed_line line 1 (number_wants (form_of level.kind).wall_numbers (form_of level.kind).largest) ws (λ ns. progress (walls_left n) (level_with level (level.walls ++ (ns ∷ [])) level.calls)) l (omega arith)
read_line_small at_call_count line level ws l h = formed_line line 1 (count_wants (codes "calls") 512) ws (λ ns. progress (calls_left (get_or ns 0 0)) level) l (omega arith)
read_line_small (at_calls zero) line level ws l h = no_line Progress line l
read_line_small (at_calls (suc n)) line level ws l h = call_then (read_call (form_of level.kind) line ws) (λ call. progress (calls_left n) (level_with level level.walls (level.calls ++ (call ∷ [])))) (read_call_small (form_of level.kind) line ws l h)
read_line_small at_end line level ws l h = no_line Progress line l

read_rest_small : (stage : Stage) (line : ℕ) (level : Level) (rest : List ℕ) → line ≤ 1048576 → SmallTold (read_rest stage line level rest)
read_rest_small at_header line level rest l = no_line Level line l
read_rest_small at_wall_count line level rest l = no_line Level line l
read_rest_small (at_walls n) line level rest l = no_line Level line l
read_rest_small at_call_count line level rest l = no_line Level line l
read_rest_small (at_calls n) line level rest l = no_line Level line l
read_rest_small at_end line level [] l = tt
read_rest_small at_end line level (b ∷ bs) l = no_line Level line l

lines_small : (o : Outcome Progress) (line : ℕ) (pieces : List (List ℕ)) → SmallTold o → line + length pieces ≤ 65538 → AllByRecursion (λ p. length p ≤ 65536) pieces → SmallTold (read_lines o line pieces)
lines_small (refuses n figures) line pieces s h f = s
lines_small (gives p) line [] s h f = no_line Level line (omega arith)
lines_small (gives p) line (rest ∷ []) s h f = read_rest_small p.stage line p.level rest (omega arith)
lines_small (gives p) line (l ∷ (m ∷ ms)) s h f =
    lines_small (read_line p.stage line p.level (words_of l)) (line + 1) (m ∷ ms)
    (read_line_small p.stage line p.level (words_of l) (omega arith) (omega (arith, few_pieces 32 l, f.0)))
    (omega arith) f.1

-- each piece is no longer than the text
short_pieces : (c : ℕ) (bs : List ℕ) → AllByRecursion (λ p. length p ≤ length bs) (split c bs)
short_pieces c [] = (omega arith, tt)
short_pieces c (b ∷ bs) = go (eqb b c) (short_pieces c bs)
  where
    longer : (ws : List (List ℕ)) → AllByRecursion (λ p. length p ≤ length bs) ws → AllByRecursion (λ p. length p ≤ suc (length bs)) ws
    longer [] f = tt
    longer (w ∷ ws) f = (omega (arith, f.0), longer ws f.1)

    begun : (ws : List (List ℕ)) → AllByRecursion (λ p. length p ≤ length bs) ws → AllByRecursion (λ p. length p ≤ suc (length bs)) (onto b ws)
    begun [] f = (omega arith, tt)
    begun (w ∷ ws) f = (omega (arith, f.0), longer ws f.1)

    go : (t : Bool) → AllByRecursion (λ p. length p ≤ length bs) (split c bs) → AllByRecursion (λ p. length p ≤ suc (length bs)) (cond t ([] ∷ split c bs) (onto b (split c bs)))
    go true f = (omega arith, longer (split c bs) f)
    go false f = begun (split c bs) f

at_most : (n : ℕ) (ws : List (List ℕ)) → n ≤ 65536 → AllByRecursion (λ p. length p ≤ n) ws → AllByRecursion (λ p. length p ≤ 65536) ws
at_most n [] h f = tt
at_most n (w ∷ ws) h f = (omega (arith, f.0), at_most n ws h f.1)

pub reading_small : (bytes : List ℕ) → SmallTold (reading bytes)
unfolding reading
reading_small bytes = go (leb (length bytes) 65536) refl
  where
    go : (b : Bool) → leb (length bytes) 65536 ≡ b → SmallTold (cond b (read_lines start_reading 1 (pieces_of bytes)) (refuses 10 []))
    go true e = let l = leb-true (length bytes) 65536 e in lines_small start_reading 1 (pieces_of bytes) tt (omega (arith, few_pieces 10 bytes)) (at_most (length bytes) (pieces_of bytes) l (short_pieces 10 bytes))
    go false e = (lit≤ tt, tt)
