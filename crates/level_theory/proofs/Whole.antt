-- The lines of a whole level.
use Rattle.std.proofs.Common.{◌≡◌, ℕ, zero, suc, ◌≤◌, List, [], ◌∷◌, ◌++◌, map, length, codes, decimal, sym, refl, ap, ◌∙◌, subst, append_assoc, append-nil, arith}
use Rattle.std.specs.List.{AllByRecursion}
use Rattle.level_theory.specs.Levels.{Kind, form_of, LineCall, Level, WallFits, CallFits, Valid}
use Rattle.level_theory.specs.Texts.{call_words, count_words, header_words, level_lines}
use Rattle.level_theory.specs.Reading.{at_header, at_wall_count, at_call_count, at_calls, at_end, walls_left, calls_left, level_with, header_level, nothing_read}
use Rattle.level_theory.proofs.Steps.{step_header, step_wall_count, step_wall, step_call_count, step_call}
use Rattle.level_theory.proofs.Sections.{Remains, no_more, one_more}

abbrev with_walls : Level → List (List ℕ) → Level
with_walls level walls = level_with level (level.walls ++ walls) level.calls

abbrev with_calls : Level → List LineCall → Level
with_calls level calls = level_with level level.walls (level.calls ++ calls)

no_walls : (level : Level) → level ≡ with_walls level []
no_walls level = ap (λ x. level_with level x level.calls) (sym (append-nil level.walls))

no_calls : (level : Level) → level ≡ with_calls level []
no_calls level = ap (λ x. level_with level level.walls x) (sym (append-nil level.calls))

more_walls : (level : Level) (wall : List ℕ) (walls : List (List ℕ)) → with_walls (with_walls level (wall ∷ [])) walls ≡ with_walls level (wall ∷ walls)
more_walls level wall walls = ap (λ x. level_with level x level.calls) (append_assoc level.walls (wall ∷ []) walls)

more_calls : (level : Level) (call : LineCall) (calls : List LineCall) → with_calls (with_calls level (call ∷ [])) calls ≡ with_calls level (call ∷ calls)
more_calls level call calls = ap (λ x. level_with level level.walls x) (append_assoc level.calls (call ∷ []) calls)

record CallsRead (n : ℕ) (level : Level) (lss : List (List (List ℕ))) (all : Level) : Type 0 where
  calls : List LineCall
  count : length calls ≡ n
  fit : AllByRecursion (CallFits (form_of level.kind)) calls
  lines : lss ≡ map call_words calls
  made : all ≡ with_calls level calls

calls_are : (n : ℕ) (level : Level) (lss : List (List (List ℕ))) (all : Level) → Remains (calls_left n) level lss all → CallsRead n level lss all
calls_are zero level lss all (no_more level') = record { calls = []; count = refl; fit = tt; lines = refl; made = no_calls level }
calls_are zero level lss all (one_more stage level' ws p rest all' x r) = elim x [ ]
calls_are (suc n) level lss all (one_more stage level' ws p rest all' (step_call level'' m call f) r) =
    let more = calls_are n (with_calls level (call ∷ [])) rest all r in
    record {
      calls = call ∷ more.calls;
      count = ap suc more.count;
      fit = (f, more.fit);
      lines = ap (λ x. call_words call ∷ x) more.lines;
      made = more.made ∙ more_calls level call more.calls;
    }

record WallsRead (n : ℕ) (level : Level) (lss : List (List (List ℕ))) (all : Level) : Type 0 where
  walls : List (List ℕ)
  count : length walls ≡ n
  fit : AllByRecursion (WallFits (form_of level.kind)) walls
  rest : List (List (List ℕ))
  lines : lss ≡ map (map decimal) walls ++ rest
  remains : Remains at_call_count (with_walls level walls) rest all

walls_are : (n : ℕ) (level : Level) (lss : List (List (List ℕ))) (all : Level) → Remains (walls_left n) level lss all → WallsRead n level lss all
walls_are zero level lss all r =
    let P : Level → Type 0 = λ x. Remains at_call_count x lss all in
    record { walls = []; count = refl; fit = tt; rest = lss; lines = refl; remains = subst P (no_walls level) r }
walls_are (suc n) level lss all (one_more stage level' ws p rest all' (step_wall level'' m wall f) r) =
    let more = walls_are n (with_walls level (wall ∷ [])) rest all r in
    let P : Level → Type 0 = λ x. Remains at_call_count x more.rest all in
    record {
      walls = wall ∷ more.walls;
      count = ap suc more.count;
      fit = (f, more.fit);
      rest = more.rest;
      lines = ap (λ x. map decimal wall ∷ x) more.lines;
      remains = subst P (more_walls level wall more.walls) more.remains;
    }

-- what is read as a whole level
count_and_calls : (level : Level) (lss : List (List (List ℕ))) (all : Level) → Remains at_call_count level lss all → (n : ℕ) × (n ≤ 512) × ((rest : List (List (List ℕ))) × (lss ≡ count_words (codes "calls") n ∷ rest) × CallsRead n level rest all)
count_and_calls level lss all (one_more stage level' ws p rest all' (step_call_count level'' n h) r) = (n, h, (rest, refl, calls_are n level rest all r))

-- the level of these settings, walls and calls
abbrev level_of : Kind → ℕ → ℕ → ℕ → List (List ℕ) → List LineCall → Level
level_of kind degree bucket k walls calls = record { kind = kind; degree = degree; bucket = bucket; k = k; walls = walls; calls = calls }

pub whole_is : (lss : List (List (List ℕ))) (all : Level) → Remains at_header nothing_read lss all → Valid all × (lss ≡ level_lines all)
whole_is lss all (one_more stage level ws p rest all' (step_header level' kind degree bucket k d b l o) (one_more stage'' level'' ws'' p'' rest'' all'' (step_wall_count level''' n h) r)) =
    let w = walls_are n (header_level kind (degree ∷ (bucket ∷ (k ∷ [])))) rest'' all r in
    let m = count_and_calls (with_walls (header_level kind (degree ∷ (bucket ∷ (k ∷ [])))) w.walls) w.rest all w.remains in
    let c = m.2.2 in
    let whole : Level = level_of kind degree bucket k w.walls c.calls in
    let P : Level → Type 0 = λ x. Valid x × ((header_words whole ∷ (count_words (codes "walls") n ∷ rest'')) ≡ level_lines x) in
    let few_calls : length c.calls ≤ 512 = omega (arith, m.1, c.count) in
    let few_walls : length w.walls ≤ 64 = omega (arith, w.count) in
    let lines : rest'' ≡ map (map decimal) w.walls ++ (count_words (codes "calls") (length c.calls) ∷ map call_words c.calls) =
    w.lines ∙ ap (λ x. map (map decimal) w.walls ++ x) (m.2.1 ∙ (λ i. count_words (codes "calls") (sym c.count i) ∷ c.lines i)) in
    subst P (sym c.made) (
      record { settings = o; few_walls = few_walls; walls = w.fit; few_calls = few_calls; calls = c.fit },
      (λ i. header_words whole ∷ (count_words (codes "walls") (sym w.count i) ∷ lines i)),
    )

-- a whole level is read
calls_remain : (level : Level) (calls : List LineCall) → AllByRecursion (CallFits (form_of level.kind)) calls → Remains (calls_left (length calls)) level (map call_words calls) (with_calls level calls)
calls_remain level [] f = (let P : Level → Type 0 = λ x. Remains at_end level [] x in subst P (no_calls level) (no_more level))
calls_remain level (call ∷ calls) f =
    let P : Level → Type 0 = λ x. Remains (at_calls (suc (length calls))) level (call_words call ∷ map call_words calls) x in
    subst P (more_calls level call calls) (one_more _ level (call_words call) _ (map call_words calls) _ (step_call level (length calls) call f.0) (calls_remain (with_calls level (call ∷ [])) calls f.1))

walls_remain : (level : Level) (walls : List (List ℕ)) (rest : List (List (List ℕ))) (all : Level) → AllByRecursion (WallFits (form_of level.kind)) walls → Remains at_call_count (with_walls level walls) rest all → Remains (walls_left (length walls)) level (map (map decimal) walls ++ rest) all
walls_remain level [] rest all f r = (let P : Level → Type 0 = λ x. Remains at_call_count x rest all in subst P (sym (no_walls level)) r)
walls_remain level (wall ∷ walls) rest all f r =
    let P : Level → Type 0 = λ x. Remains at_call_count x rest all in
    one_more _ level (map decimal wall) _ (map (map decimal) walls ++ rest) all (step_wall level (length walls) wall f.0) (walls_remain (with_walls level (wall ∷ [])) walls rest all f.1 (subst P (sym (more_walls level wall walls)) r))

pub whole_right : (level : Level) → level.degree ≤ 1048576 → level.bucket ≤ 1048576 → level.k ≤ 1048576 → Valid level → Remains at_header nothing_read (level_lines level) level
whole_right level d b k v =
    let header : Level = header_level level.kind (level.degree ∷ (level.bucket ∷ (level.k ∷ []))) in
    let calls : Remains (calls_left (length level.calls)) (with_walls header level.walls) (map call_words level.calls) level = calls_remain (with_walls header level.walls) level.calls v.calls in
    one_more at_header nothing_read _ _ _ level (step_header nothing_read level.kind level.degree level.bucket level.k d b k v.settings)
    (one_more at_wall_count header _ _ _ level (step_wall_count header (length level.walls) v.few_walls)
    (walls_remain header level.walls _ level v.walls
    (one_more at_call_count (with_walls header level.walls) _ _ _ level (step_call_count (with_walls header level.walls) (length level.calls) v.few_calls) calls)))
