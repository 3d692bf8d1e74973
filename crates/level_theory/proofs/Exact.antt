-- A file that has a fault is refused with it: so it has one fault only.
use Rattle.std.proofs.Common.{◌≡◌, ◌≢◌, ℕ, suc, ◌+◌, ◌<◌, ◌≤◌, Bool, true, false, cond, ◌&&◌, eqb, ltb, leb, ◌⊎◌, inl, inr, List, [], ◌∷◌, ◌++◌, length, decimal, sym, refl, ap, ◌∙◌, subst, append_assoc, append-nil, arith, lit<, lt-ltb, le-leb, ne_eqb, eq-eqb, eqb-true, length-append}
use Rattle.std.proofs.lemmas.Bool.{cases_lt, lt-leb}
use Rattle.std.specs.List.{AllByRecursion}
use Rattle.index.specs.Outcomes.{Outcome, gives, refuses}
use Rattle.gnat.specs.Chosen.{outside}
use Rattle.level_theory.specs.Words.{split, pieces_of, right, take_words}
use Rattle.level_theory.specs.Levels.{Kind, arms, cards, Level, neighbours_outcome, header_outcome}
use Rattle.level_theory.specs.Texts.{SomePiece, Clean, joined, spaced, line_of, lines_of, kind_word, header_words, level_lines}
use Rattle.level_theory.specs.Reading.{Stage, at_header, at_wall_count, at_walls, at_call_count, at_calls, at_end, setting_wants, carried, header_level, nothing_read, Progress, progress, then_level, read_header, read_line, read_rest, read_lines, start_reading, reading}
use Rattle.level_theory.specs.Refusing.{Begins, Stops, lacking, wrong_word, WrongAt, WordFault, Ends, missing, left_over, LineFault, Beyond, Within, FirstBeyond, bad_degree, bad_bucket, bad_k, SettingFault, Fault, too_long, bad_word, bad_line, bad_setting, RefusesExactly}
use Rattle.level_theory.proofs.Numbers.{or_right}
use Rattle.level_theory.proofs.Wanted.{taken_right}
use Rattle.level_theory.proofs.Cutting.{split_some, joined_split, split_append, split_last, split_joined}
use Rattle.level_theory.proofs.Steps.{Step, step_header, step_wall_count, step_wall, step_call_count, step_call, read_right}
use Rattle.level_theory.proofs.Sections.{Remains, no_more, one_more, read_more}
use Rattle.level_theory.proofs.Clean.{header_clean, remains_clean, spaced_without}
use Rattle.level_theory.proofs.Settings.{settings_small}
use Rattle.level_theory.proofs.Whole.{whole_is, whole_right}
use Rattle.level_theory.specs.Accepting.{Accepted}
use Rattle.level_theory.proofs.Short.{accepted_level}
use Rattle.level_theory.proofs.Wrong.{from_first}
use Rattle.level_theory.proofs.Leading.{Leads, here, onward, remains_before, Proper, one_read, level_behind}
use Rattle.level_theory.proofs.Misread.{SettingsRead}
use Rattle.level_theory.proofs.Refused.{NextLine, next_begins, next_reads, header_begins, stage_left, no_lines, LineRefused, at_word, at_settings, at_over, line_refused, refused_stays, refuses_rightly}

-- of two beginnings of one list the longer goes on behind the shorter
prefix_behind : (f g r s : List (List ℕ)) (w : List ℕ) → f ++ r ≡ g ++ (w ∷ s) → length g < length f → (more : List (List ℕ)) × (f ≡ g ++ (w ∷ more))
prefix_behind [] [] r s w e h = absurd (omega arith)
prefix_behind [] (y ∷ g) r s w e h = absurd (omega arith)
prefix_behind (x ∷ f) [] r s w e h = (let same : x ≡ w = cc in (f, ap (λ y. y ∷ f) same))
prefix_behind (x ∷ f) (y ∷ g) r s w e h =
    let same : x ≡ y = cc in
    let rest : f ++ r ≡ g ++ (w ∷ s) = cc in
    let m = prefix_behind f g r s w rest (omega arith) in
    (m.0, (λ i. same i ∷ m.1 i))

-- the place of a wrong word is one only
module _ (IsLine : List (List ℕ) → Type 0) (ws : List (List ℕ)) where
  stops_begin : (first : List (List ℕ)) → Stops IsLine ws first → (r : List (List ℕ)) × (ws ≡ first ++ r)
  stops_begin first (lacking e n) = ([], e ∙ sym (append-nil first))
  stops_begin first (wrong_word w others e n) = (w ∷ others, e)

  no_longer : (f g more r : List (List ℕ)) → Stops IsLine ws g → IsLine (f ++ more) → ws ≡ f ++ r → length f ≤ length g
  no_longer f g more r s x e = go s (cases_lt (length g) (length f))
    where
      go : Stops IsLine ws g → (length g < length f) ⊎ (length f ≤ length g) → length f ≤ length g
      go s (inr h) = h
      go (lacking d n) (inl h) =
          let k : length g ≡ length f + length r = ap length (sym d ∙ e) ∙ length-append f r in
          absurd (omega arith)
      go (wrong_word w others d n) (inl h) =
          let m = prefix_behind f g r others w (sym e ∙ d) h in
          absurd (n (m.0 ++ more) (subst IsLine (ap (λ y. y ++ more) m.1 ∙ append_assoc g (w ∷ m.0) more) x))

  pub place_one : (a b : ℕ) → WrongAt IsLine ws a → WrongAt IsLine ws b → a ≡ b
  place_one a b x y =
      let p = stops_begin x.first x.stops in
      let q = stops_begin y.first y.stops in
      let h = no_longer x.first y.first x.more p.0 y.stops x.is_line p.1 in
      let g = no_longer y.first x.first y.more q.0 x.stops y.is_line q.1 in
      let d = x.at in
      let e = y.at in
      omega arith

  not_line : (a : ℕ) → WrongAt IsLine ws a → IsLine ws → ⊥
  not_line a x l = go x.stops
    where
      go : Stops IsLine ws x.first → ⊥
      go (lacking e n) = n (subst IsLine e l)
      go (wrong_word w others e n) = n others (subst IsLine e l)

-- where the first lines of a level lead
step_from : (stage : Stage) (level : Level) (ws : List (List ℕ)) (p : Progress) → Step stage level ws p → Proper stage
step_from stage level ws p (step_header level' kind d b k x y z o) = tt
step_from stage level ws p (step_wall_count level' n h) = tt
step_from stage level ws p (step_wall level' n wall f) = tt
step_from stage level ws p (step_call_count level' n h) = tt
step_from stage level ws p (step_call level' n call f) = tt

remains_from : (stage : Stage) (level : Level) (lss : List (List (List ℕ))) (all : Level) → Remains stage level lss all → Proper stage
remains_from stage level lss all (no_more level') = tt
remains_from stage level lss all (one_more stage' level' ws p rest all' s r) = step_from stage level ws p s

record Led (stage : Stage) (level : Level) (before more : List (List (List ℕ))) (all : Level) : Type 0 where
  to : Progress
  leads : Leads stage level before to
  remains : Remains to.stage to.level more all

led : (stage : Stage) (level : Level) (before more : List (List (List ℕ))) (all : Level) → Remains stage level (before ++ more) all → Led stage level before more all
led stage level [] more all r = record { to = progress stage level; leads = here stage level; remains = r }
led stage level (ws ∷ before) more all r =
    let o = one_read stage level ws (before ++ more) all r in
    let m = led o.next.stage o.next.level before more all o.remains in
    record { to = m.to; leads = onward stage level ws o.next before m.to o.step m.leads; remains = m.remains }

first_clean : (before more : List (List (List ℕ))) → AllByRecursion Clean (before ++ more) → AllByRecursion Clean before
first_clean [] more c = tt
first_clean (ws ∷ before) more c = (c.0, first_clean before more c.1)

-- lines at the head of a text
cut_line : (ws : List (List ℕ)) (rest : List ℕ) → Clean ws → pieces_of (line_of ws ++ rest) ≡ spaced ws ∷ pieces_of rest
cut_line ws rest c = ap (split 10) (append_assoc (spaced ws) (10 ∷ []) rest) ∙ split_append 10 (spaced ws) rest (spaced_without ws c.newlines)

read_first : (p : Progress) (line : ℕ) (ws : List (List ℕ)) (rest : List ℕ) → Clean ws → read_lines (gives p) line (pieces_of (line_of ws ++ rest)) ≡ read_lines (read_line p.stage line p.level ws) (line + 1) (pieces_of rest)
read_first p line ws rest c =
    ap (read_lines (gives p) line) (cut_line ws rest c)
    ∙ (read_more p line (spaced ws) (pieces_of rest) (split_some 10 rest)
    ∙ ap (λ x. read_lines (read_line p.stage line p.level x) (line + 1) (pieces_of rest)) (split_joined 32 ws c.some c.spaces))

read_behind : (stage : Stage) (level : Level) (before : List (List (List ℕ))) (p : Progress) (line : ℕ) (rest : List ℕ) → Leads stage level before p → AllByRecursion Clean before → read_lines (gives (progress stage level)) line (pieces_of (lines_of before ++ rest)) ≡ read_lines (gives p) (line + length before) (pieces_of rest)
read_behind stage level before p line rest (here stage' level') c =
    let same : line ≡ line + length before = omega arith in
    ap (λ x. read_lines (gives (progress stage level)) x (pieces_of rest)) same
read_behind stage level before p line rest (onward stage' level' ws q lss p' s l) c =
    let same : (line + 1) + length lss ≡ line + suc (length lss) = omega arith in
    ap (λ x. read_lines (gives (progress stage level)) line (pieces_of x)) (append_assoc (line_of ws) (lines_of lss) rest)
    ∙ (read_first (progress stage level) line ws (lines_of lss ++ rest) c.0
    ∙ (ap (λ o. read_lines o (line + 1) (pieces_of (lines_of lss ++ rest))) (read_right line stage level ws q s)
    ∙ (read_behind q.stage q.level lss p (line + 1) rest l c.1
    ∙ ap (λ x. read_lines (gives p) x (pieces_of rest)) same)))

-- what is known once the lines before are read
record ReadTo (bytes : List ℕ) (before : List (List (List ℕ))) (line : ℕ) (rest : List ℕ) : Type 0 where
  to : Progress
  leads : Leads at_header nothing_read before to
  proper : Proper to.stage
  reads : reading bytes ≡ read_lines (gives to) line (pieces_of rest)

read_to : (bytes : List ℕ) (before : List (List (List ℕ))) (line : ℕ) (rest : List ℕ) → length bytes ≤ 65536 → Begins Accepted before → line ≡ length before + 1 → bytes ≡ lines_of before ++ rest → ReadTo bytes before line rest
unfolding reading
read_to bytes before line rest short b at text =
    let small = settings_small b.level.degree b.level.bucket b.level.k b.such.valid.settings in
    let P : List (List (List ℕ)) → Type 0 = λ x. Remains at_header nothing_read x b.level in
    let r = subst P b.begun (whole_right b.level small.0 small.1 small.2 b.such.valid) in
    let m = led at_header nothing_read before b.more b.level r in
    let c = first_clean before b.more (remains_clean at_header nothing_read (before ++ b.more) b.level r) in
    let same : 1 + length before ≡ line = omega arith in
    record {
      to = m.to;
      leads = m.leads;
      proper = remains_from m.to.stage m.to.level b.more b.level m.remains;
      reads = rw (le-leb (length bytes) 65536 short)
          (ap (λ x. read_lines start_reading 1 (pieces_of x)) text
          ∙ (read_behind at_header nothing_read before m.to 1 rest m.leads c
          ∙ ap (λ x. read_lines (gives m.to) x (pieces_of rest)) same));
    }

-- a wrong word
refused_same : (n m : ℕ) (figures others : List ℕ) → n ≡ m → figures ≡ others → ◌≡◌ {A = Outcome Level} (refuses n figures) (refuses m others)
refused_same n m figures others e f = (λ i. refuses (e i) (f i))

none_at_end : (before : List (List (List ℕ))) (p : Progress) (line : ℕ) → Leads at_header nothing_read before p → p.stage ≡ at_end → (ws : List (List ℕ)) → NextLine before ws → ⊥
none_at_end [] p line l e ws b = (let z = no_lines p.stage p.level l in cc)
none_at_end (first ∷ before) p line l e ws b =
    let r = next_reads first before p line l ws b in
    let f : ◌≡◌ {A = Outcome Progress} (refuses 9 (line ∷ [])) (gives r.0) = ap (λ s. read_line s line p.level ws) (sym e) ∙ r.1 in
    cc

settings_line : (line : ℕ) (ws : List (List ℕ)) (n : ℕ) (figures : List ℕ) → SettingsRead line ws n figures → NextLine [] ws
settings_line line ws n figures s = header_begins ws (s.kind, _, s.words, (s.degree ∷ (s.bucket ∷ (s.k ∷ [])), (s.small.0, (s.small.1, (s.small.2, tt))), refl))

word_read : (bytes : List ℕ) (line word : ℕ) → length bytes ≤ 65536 → WordFault bytes line word → reading bytes ≡ refuses 8 (line ∷ (word ∷ []))
word_read bytes line word short f =
    t.reads ∙ (read_first t.to line f.words f.rest f.clean ∙ go (read_line t.to.stage line t.to.level f.words) refl)
  where
    t : ReadTo bytes f.before line (line_of f.words ++ f.rest)
    t = read_to bytes f.before line (line_of f.words ++ f.rest) short f.begins f.at f.text

    one : (n : ℕ) (figures : List ℕ) → LineRefused f.before t.to line f.words n figures → (n ≡ 8) × (figures ≡ line ∷ (word ∷ []))
    one n figures (at_word m) =
        let same = place_one (NextLine f.before) f.words m.place word (from_first (NextLine f.before) f.words m.place m.wrong) f.wrong in
        (m.number, m.told ∙ ap (λ x. line ∷ (x ∷ [])) same)
    one n figures (at_settings e s) =
        let P : List (List (List ℕ)) → Type 0 = λ x. NextLine x f.words in
        absurd (not_line (NextLine f.before) f.words word f.wrong (subst P (sym e) (settings_line line f.words n figures s)))
    one n figures (at_over e a b) = absurd (none_at_end f.before t.to line t.leads e (f.wrong.first ++ f.wrong.more) f.wrong.is_line)

    go : (o : Outcome Progress) → read_line t.to.stage line t.to.level f.words ≡ o → read_lines o (line + 1) (pieces_of f.rest) ≡ refuses 8 (line ∷ (word ∷ []))
    go (gives q) e = absurd (not_line (NextLine f.before) f.words word f.wrong (next_begins f.before t.to line t.leads f.words (q, e)))
    go (refuses n figures) e =
        let r = one n figures (line_refused f.before t.to line f.words n figures t.leads t.proper e) in
        refused_stays n figures (line + 1) (pieces_of f.rest) ∙ refused_same n 8 figures (line ∷ (word ∷ [])) r.0 r.1

-- a line that is missing or left over
rest_open : (stage : Stage) (line : ℕ) (level : Level) (rest : List ℕ) → (stage ≡ at_end → ⊥) → read_rest stage line level rest ≡ refuses 9 (line ∷ [])
rest_open at_header line level rest n = refl
rest_open at_wall_count line level rest n = refl
rest_open (at_walls m) line level rest n = refl
rest_open at_call_count line level rest n = refl
rest_open (at_calls m) line level rest n = refl
rest_open at_end line level rest n = absurd (n refl)

rest_over : (level : Level) (line : ℕ) (pieces : List (List ℕ)) → SomePiece pieces → joined 10 pieces ≢ [] → read_lines (gives (progress at_end level)) line pieces ≡ refuses 9 (line ∷ [])
rest_over level line [] s n = absurd s
rest_over level line ([] ∷ []) s n = absurd (n refl)
rest_over level line ((b ∷ rest) ∷ []) s n = refl
rest_over level line (piece ∷ (m ∷ ms)) s n = refused_stays 9 (line ∷ []) (line + 1) (m ∷ ms)

line_read : (bytes : List ℕ) (line : ℕ) → length bytes ≤ 65536 → LineFault bytes line → reading bytes ≡ refuses 9 (line ∷ [])
line_read bytes line short f =
    t.reads ∙ go f.ends
  where
    t : ReadTo bytes f.before line f.rest
    t = read_to bytes f.before line f.rest short f.begins f.at f.text

    ended : (level : Level) → Accepted level → level_lines level ≡ f.before → t.to.stage ≡ at_end
    ended level v e = stage_left t.to.stage t.to.level level (level_behind f.before t.to level [] t.leads v.valid (e ∙ sym (append-nil f.before)))

    go : Ends f.before f.rest → read_lines (gives t.to) line (pieces_of f.rest) ≡ refuses 9 (line ∷ [])
    go (missing w n) =
        let open_stage : t.to.stage ≡ at_end → ⊥ = λ e. (
        let P : Stage → Type 0 = λ x. Leads at_header nothing_read f.before (progress x t.to.level) in
        let v = whole_is (f.before ++ []) t.to.level (remains_before at_header nothing_read f.before (progress at_end t.to.level) [] t.to.level (subst P e t.leads) (no_more t.to.level)) in
        n t.to.level (accepted_level t.to.level v.0) (sym v.1 ∙ append-nil f.before)
        ) in
        ap (read_lines (gives t.to) line) (split_last 10 f.rest w) ∙ rest_open t.to.stage line t.to.level f.rest open_stage
    go (left_over level v e some) =
        let P : Stage → Type 0 = λ x. read_lines (gives (progress x t.to.level)) line (pieces_of f.rest) ≡ refuses 9 (line ∷ []) in
        subst P (sym (ended level v e)) (rest_over t.to.level line (pieces_of f.rest) (split_some 10 f.rest) (λ x. some (sym (joined_split 10 f.rest) ∙ x)))

-- settings outside their ranges
outside_is : (low high n : ℕ) → Beyond low high n → outside low high n ≡ true
outside_is low high n (inl g) = rw (lt-ltb n low g) refl
outside_is low high n (inr g) = or_right (ltb n low) (ltb high n) (lt-ltb high n g)

inside_is : (low high n : ℕ) → Within low high n → outside low high n ≡ false
inside_is low high n w = rw (lt-leb (suc n) low (omega (arith, w.0)), lt-leb (suc high) n (omega (arith, w.1))) refl

no_scan : (degree bucket : ℕ) → (degree ≡ 0 → bucket ≡ 0 → ⊥) → (eqb degree 0 && eqb bucket 0) ≡ false
no_scan degree bucket n = go (eqb degree 0) refl
  where
    go : (b : Bool) → eqb degree 0 ≡ b → (b && eqb bucket 0) ≡ false
    go true e = ne_eqb bucket 0 (n (eqb-true degree 0 e))
    go false e = refl

no_k : (k : ℕ) → Beyond 1 8 k → neighbours_outcome k ≡ refuses 1 (k ∷ [])
no_k k (inl g) = rw (lt-leb 1 k g) refl
no_k k (inr g) = go (leb 1 k)
  where
    go : (b : Bool) → cond {A = Outcome Unit} (b && leb k 8) (gives tt) (refuses 1 (k ∷ [])) ≡ refuses 1 (k ∷ [])
    go true = rw (lt-leb k 8 g) refl
    go false = refl

settings_right : (degree bucket k value : ℕ) → FirstBeyond degree bucket k value → header_outcome degree bucket k ≡ refuses 1 (value ∷ [])
settings_right degree bucket k value (bad_degree n b) = rw (no_scan degree bucket n, outside_is 2 8 degree b) refl
settings_right degree bucket k value (bad_bucket w b) = rw (no_scan degree bucket (λ e f. omega (arith, w.0)), inside_is 2 8 degree w, outside_is degree 32 bucket b) refl
settings_right degree bucket k value (bad_k (inl c) b) = rw (eq-eqb degree 0 c.0, eq-eqb bucket 0 c.1) (no_k k b)
settings_right degree bucket k value (bad_k (inr c) b) = rw (no_scan degree bucket (λ e f. omega (arith, c.0.0)), inside_is 2 8 degree c.0, inside_is degree 32 bucket c.1) (no_k k b)

header_told : (kind : Kind) (d b k : ℕ) → d ≤ 1048576 → b ≤ 1048576 → k ≤ 1048576 → read_header 1 (kind_word kind ∷ (decimal d ∷ (decimal b ∷ (decimal k ∷ [])))) ≡ carried 1 (header_outcome d b k) (header_level kind (d ∷ (b ∷ (k ∷ []))))
header_told kind d b k x y z = go kind
  where
    settings : take_words setting_wants (decimal d ∷ (decimal b ∷ (decimal k ∷ []))) 2 ≡ right (d ∷ (b ∷ (k ∷ [])))
    settings = taken_right setting_wants (d ∷ (b ∷ (k ∷ []))) 2 (lit< tt, (lit< tt, (lit< tt, tt))) (x, (y, (z, tt)))

    go : (kind : Kind) → read_header 1 (kind_word kind ∷ (decimal d ∷ (decimal b ∷ (decimal k ∷ [])))) ≡ carried 1 (header_outcome d b k) (header_level kind (d ∷ (b ∷ (k ∷ []))))
    go arms = rw settings refl
    go cards = rw settings refl

setting_read : (bytes : List ℕ) (value : ℕ) → length bytes ≤ 65536 → SettingFault bytes value → reading bytes ≡ refuses 1 (1 ∷ (value ∷ []))
unfolding reading
setting_read bytes value short f =
    let l = f.level in
    let c = header_clean l.kind l.degree l.bucket l.k f.formed.degree f.formed.bucket f.formed.k in
    rw (le-leb (length bytes) 65536 short)
    (ap (λ x. read_lines start_reading 1 (pieces_of x)) f.text
    ∙ (read_first (progress at_header nothing_read) 1 (header_words l) f.rest c
    ∙ (ap (λ o. read_lines (then_level o (progress at_wall_count)) 2 (pieces_of f.rest)) (header_told l.kind l.degree l.bucket l.k f.formed.degree f.formed.bucket f.formed.k ∙ ap (λ o. carried 1 o (header_level l.kind (l.degree ∷ (l.bucket ∷ (l.k ∷ []))))) (settings_right l.degree l.bucket l.k value f.first))
    ∙ refused_stays 1 (1 ∷ (value ∷ [])) 2 (pieces_of f.rest))))

long_read : (bytes : List ℕ) → 65536 < length bytes → reading bytes ≡ refuses 10 []
unfolding reading
long_read bytes h = rw (lt-leb (length bytes) 65536 h) refl

fault_refused : (bytes : List ℕ) (n : ℕ) (figures : List ℕ) → Fault bytes n figures → reading bytes ≡ refuses n figures
fault_refused bytes n figures (too_long h) = long_read bytes h
fault_refused bytes n figures (bad_word line word short f) = word_read bytes line word short f
fault_refused bytes n figures (bad_line line short f) = line_read bytes line short f
fault_refused bytes n figures (bad_setting value short f) = setting_read bytes value short f

pub refuses_exactly : (bytes : List ℕ) → RefusesExactly bytes
refuses_exactly bytes n figures = (refuses_rightly bytes n figures, fault_refused bytes n figures)
