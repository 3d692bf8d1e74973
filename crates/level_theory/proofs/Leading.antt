-- Where the first lines of a file lead: they are the first lines of a level.
use Rattle.std.proofs.Common.{◌≡◌, ℕ, zero, suc, ◌≤◌, List, [], ◌∷◌, ◌++◌, map, codes, decimal, sym, refl, ap, ◌∙◌, subst, append_assoc, append-nil, arith, lit<}
use Rattle.index.specs.Outcomes.{gives}
use Rattle.level_theory.specs.Levels.{form_of, call_drop, Level, header_outcome, NumbersFit, Valid}
use Rattle.level_theory.specs.Texts.{line_of, lines_of, call_words, count_words, header_words, level_lines}
use Rattle.level_theory.specs.Reading.{Stage, at_header, at_wall_count, at_walls, at_call_count, at_calls, at_end, walls_left, calls_left, level_with, nothing_read, Progress, progress}
use Rattle.level_theory.specs.Refusing.{Formed, Begins}
use Rattle.level_theory.proofs.Numbers.{number_right}
use Rattle.level_theory.proofs.Steps.{Step, step_header, step_wall_count, step_wall, step_call_count, step_call, read_right}
use Rattle.level_theory.proofs.Sections.{Remains, no_more, one_more}
use Rattle.level_theory.proofs.Settings.{settings_small}
use Rattle.level_theory.specs.Accepting.{Accepted}
use Rattle.level_theory.proofs.Short.{accepted_level}
use Rattle.level_theory.proofs.Whole.{whole_is, whole_right}

-- these lines, read one by one
pub data Leads : Stage → Level → List (List (List ℕ)) → Progress → Type 0 where
  here : (stage : Stage) (level : Level) → Leads stage level [] (progress stage level)
  onward : (stage : Stage) (level : Level) (ws : List (List ℕ)) (p : Progress) (lss : List (List (List ℕ))) (q : Progress) → Step stage level ws p → Leads p.stage p.level lss q → Leads stage level (ws ∷ lss) q

pub one_further : (stage : Stage) (level : Level) (lss : List (List (List ℕ))) (q : Progress) (ws : List (List ℕ)) (r : Progress) → Leads stage level lss q → Step q.stage q.level ws r → Leads stage level (lss ++ (ws ∷ [])) r
one_further stage level lss q ws r (here stage' level') s = onward stage level ws r [] r s (here r.stage r.level)
one_further stage level lss q ws r (onward stage' level' vs p rest q' t more) s = onward stage level vs p (rest ++ (ws ∷ [])) r t (one_further p.stage p.level rest q ws r more s)

step_one : (stage : Stage) (level : Level) (ws : List (List ℕ)) (p q : Progress) → Step stage level ws p → Step stage level ws q → p ≡ q
step_one stage level ws p q s t = (let e = read_right 1 stage level ws p s in let f = read_right 1 stage level ws q t in cc)

-- what remains behind them
pub remains_before : (stage : Stage) (level : Level) (lss : List (List (List ℕ))) (q : Progress) (more : List (List (List ℕ))) (all : Level) → Leads stage level lss q → Remains q.stage q.level more all → Remains stage level (lss ++ more) all
remains_before stage level lss q more all (here stage' level') r = r
remains_before stage level lss q more all (onward stage' level' ws p rest q' s l) r = one_more stage level ws p (rest ++ more) all s (remains_before p.stage p.level rest q more all l r)

pub record OneRead (stage : Stage) (level : Level) (ws : List (List ℕ)) (rest : List (List (List ℕ))) (all : Level) : Type 0 where
  pub next : Progress
  pub step : Step stage level ws next
  pub remains : Remains next.stage next.level rest all

pub one_read : (stage : Stage) (level : Level) (ws : List (List ℕ)) (rest : List (List (List ℕ))) (all : Level) → Remains stage level (ws ∷ rest) all → OneRead stage level ws rest all
one_read stage level ws rest all (one_more stage' level' ws' p rest' all' s r) = record { next = p; step = s; remains = r }

pub remains_behind : (stage : Stage) (level : Level) (lss : List (List (List ℕ))) (q : Progress) (more : List (List (List ℕ))) (all : Level) → Leads stage level lss q → Remains stage level (lss ++ more) all → Remains q.stage q.level more all
remains_behind stage level lss q more all (here stage' level') r = r
remains_behind stage level lss q more all (onward stage' level' ws p rest q' s l) r =
    let o = one_read stage level ws (rest ++ more) all r in
    let P : Progress → Type 0 = λ x. Remains x.stage x.level (rest ++ more) all in
    remains_behind p.stage p.level rest q more all l (subst P (step_one stage level ws o.next p o.step s) o.remains)

-- a stage that can be reached
abbrev pub Proper : Stage → Type 0
Proper at_header = Unit {0}
Proper at_wall_count = Unit {0}
Proper (at_walls zero) = ⊥
Proper (at_walls (suc n)) = Unit {0}
Proper at_call_count = Unit {0}
Proper (at_calls zero) = ⊥
Proper (at_calls (suc n)) = Unit {0}
Proper at_end = Unit {0}

-- one behind line 1
abbrev pub Begun : Stage → Type 0
Begun at_header = ⊥
Begun at_wall_count = Unit {0}
Begun (at_walls n) = Unit {0}
Begun at_call_count = Unit {0}
Begun (at_calls n) = Unit {0}
Begun at_end = Unit {0}

walls_proper : (n : ℕ) → Proper (walls_left n) × Begun (walls_left n)
walls_proper zero = (tt, tt)
walls_proper (suc n) = (tt, tt)

calls_proper : (n : ℕ) → Proper (calls_left n) × Begun (calls_left n)
calls_proper zero = (tt, tt)
calls_proper (suc n) = (tt, tt)

pub step_proper : (stage : Stage) (level : Level) (ws : List (List ℕ)) (p : Progress) → Step stage level ws p → Proper p.stage × Begun p.stage
step_proper stage level ws p (step_header level' kind d b k x y z o) = (tt, tt)
step_proper stage level ws p (step_wall_count level' n h) = walls_proper n
step_proper stage level ws p (step_wall level' n wall f) = walls_proper n
step_proper stage level ws p (step_call_count level' n h) = calls_proper n
step_proper stage level ws p (step_call level' n call f) = calls_proper n

pub leads_begun : (stage : Stage) (level : Level) (ws : List (List ℕ)) (lss : List (List (List ℕ))) (q : Progress) → Leads stage level (ws ∷ lss) q → Begun q.stage
leads_begun stage level ws lss q (onward stage' level' ws' p lss' q' s (here stage'' level'')) = (step_proper stage level ws p s).1
leads_begun stage level ws lss q (onward stage' level' ws' p lss' q' s (onward stage'' level'' vs r rest q'' t more)) = leads_begun p.stage p.level vs rest q (onward p.stage p.level vs r rest q t more)

-- each such stage leads on to a whole level
abbrev Completed : Stage → Level → Type 0
Completed stage level = (lss : List (List (List ℕ))) × (all : Level) × Remains stage level lss all

complete_calls : (n : ℕ) (level : Level) → Completed (calls_left n) level
complete_calls zero level = ([], level, no_more level)
complete_calls (suc n) level =
    let next : Level = level_with level level.walls (level.calls ++ (call_drop 0 ∷ [])) in
    let r = complete_calls n next in
    (call_words (call_drop 0) ∷ r.0, r.1, one_more (at_calls (suc n)) level (call_words (call_drop 0)) (progress (calls_left n) next) r.0 r.1 (step_call level n (call_drop 0) (omega arith)) r.2)

complete_count : (level : Level) → Completed at_call_count level
complete_count level =
    let r = complete_calls 0 level in
    (count_words (codes "calls") 0 ∷ r.0, r.1, one_more at_call_count level (count_words (codes "calls") 0) (progress (calls_left 0) level) r.0 r.1 (step_call_count level 0 (omega arith)) r.2)

zeros : (count largest : ℕ) → (ns : List ℕ) × NumbersFit count largest ns
zeros zero largest = ([], (refl, tt))
zeros (suc count) largest = (let r = zeros count largest in (0 ∷ r.0, (ap suc r.1.0, (omega arith, r.1.1))))

complete_walls : (n : ℕ) (level : Level) → Completed (walls_left n) level
complete_walls zero level = complete_count level
complete_walls (suc n) level =
    let w = zeros (form_of level.kind).wall_numbers (form_of level.kind).largest in
    let next : Level = level_with level (level.walls ++ (w.0 ∷ [])) level.calls in
    let r = complete_walls n next in
    (map decimal w.0 ∷ r.0, r.1, one_more (at_walls (suc n)) level (map decimal w.0) (progress (walls_left n) next) r.0 r.1 (step_wall level n w.0 w.1) r.2)

complete : (stage : Stage) (level : Level) → Begun stage → Proper stage → Completed stage level
complete at_header level b h = absurd b
complete at_wall_count level b h =
    let r = complete_walls 0 level in
    (count_words (codes "walls") 0 ∷ r.0, r.1, one_more at_wall_count level (count_words (codes "walls") 0) (progress (walls_left 0) level) r.0 r.1 (step_wall_count level 0 (omega arith)) r.2)
complete (at_walls zero) level b h = absurd h
complete (at_walls (suc n)) level b h = complete_walls (suc n) level
complete at_call_count level b h = complete_count level
complete (at_calls zero) level b h = absurd h
complete (at_calls (suc n)) level b h = complete_calls (suc n) level
complete at_end level b h = complete_calls 0 level

-- the first lines of a level, once there is one
pub begun_valid : (before : List (List (List ℕ))) (p : Progress) → Leads at_header nothing_read before p → Begun p.stage → Proper p.stage → Begins Accepted before
begun_valid before p l b h =
    let c = complete p.stage p.level b h in
    let w = whole_is (before ++ c.0) c.1 (remains_before at_header nothing_read before p c.0 c.1 l c.2) in
    record { level = c.1; such = accepted_level c.1 w.0; more = c.0; begun = sym w.1 }

pub valid_formed : (level : Level) → Valid level → Formed level
valid_formed level v =
    let s = settings_small level.degree level.bucket level.k v.settings in
    record { degree = s.0; bucket = s.1; k = s.2; few_walls = v.few_walls; walls = v.walls; few_calls = v.few_calls; calls = v.calls }

-- numbers that are written alike are the same
pub decimal_same : (n m : ℕ) → n ≤ 1048576 → m ≤ 1048576 → decimal n ≡ decimal m → n ≡ m
decimal_same n m h g e = (let a = number_right 1048576 n (lit< tt) h in let b = number_right 1048576 m (lit< tt) g in cc)

-- the settings of line 1 hold once it is read
holds_at : (level : Level) (start : Level) (ws : List (List ℕ)) (p : Progress) → Formed level → ws ≡ header_words level → Step at_header start ws p → header_outcome level.degree level.bucket level.k ≡ gives tt
holds_at level start ws p f e (step_header level' kind d b k x y z o) =
    let da = decimal_same d level.degree x f.degree (cc) in
    let ba = decimal_same b level.bucket y f.bucket (cc) in
    let ka = decimal_same k level.k z f.k (cc) in
    (λ i. header_outcome (sym da i) (sym ba i) (sym ka i)) ∙ o

header_holds : (level : Level) (start : Level) (p : Progress) → Formed level → Step at_header start (header_words level) p → header_outcome level.degree level.bucket level.k ≡ gives tt
header_holds level start p f s = holds_at level start (header_words level) p f refl s

-- a level that begins with lines that are read is one whose settings hold
pub formed_valid : (before : List (List (List ℕ))) (ws : List (List ℕ)) (p : Progress) (level : Level) (more : List (List (List ℕ))) → Formed level → Leads at_header nothing_read (ws ∷ before) p → level_lines level ≡ (ws ∷ before) ++ more → Valid level
formed_valid before ws p level more f (onward stage level' ws' q rest p' s l) e =
    let P : List (List ℕ) → Type 0 = λ x. Step at_header nothing_read x q in
    let same : ws ≡ header_words level = cc in
    record { settings = header_holds level nothing_read q f (subst P same s); few_walls = f.few_walls; walls = f.walls; few_calls = f.few_calls; calls = f.calls }

-- what remains of a level behind its first lines
pub level_behind : (before : List (List (List ℕ))) (p : Progress) (level : Level) (more : List (List (List ℕ))) → Leads at_header nothing_read before p → Valid level → level_lines level ≡ before ++ more → Remains p.stage p.level more level
level_behind before p level more l v e =
    let s = settings_small level.degree level.bucket level.k v.settings in
    let P : List (List (List ℕ)) → Type 0 = λ x. Remains at_header nothing_read x level in
    remains_behind at_header nothing_read before p more level l (subst P e (whole_right level s.0 s.1 s.2 v))

pub lines_further : (lss : List (List (List ℕ))) (ws : List (List ℕ)) (rest : List ℕ) → lines_of lss ++ (line_of ws ++ rest) ≡ lines_of (lss ++ (ws ∷ [])) ++ rest
lines_further [] ws rest = ap (λ x. x ++ rest) (sym (append-nil (line_of ws)))
lines_further (vs ∷ lss) ws rest = append_assoc (line_of vs) (lines_of lss) (line_of ws ++ rest) ∙ (ap (λ x. line_of vs ++ x) (lines_further lss ws rest) ∙ sym (append_assoc (line_of vs) (lines_of (lss ++ (ws ∷ []))) rest))
