-- A file that is refused has the fault that it is refused with.
use Rattle.std.proofs.Common.{◌≡◌, ℕ, zero, suc, ◌+◌, ◌≤◌, Bool, true, false, cond, eqb, leb, List, [], ◌∷◌, ◌++◌, length, get_or, codes, sym, refl, ap, ◌∙◌, subst, append_assoc, append-nil, arith, lit<, leb-true, leb-false, length-append}
use Rattle.std.specs.List.{AllByRecursion}
use Rattle.index.specs.Outcomes.{Outcome, gives, refuses}
use Rattle.level_theory.specs.Words.{onto, split, words_of, pieces_of}
use Rattle.level_theory.specs.Levels.{Kind, arms, form_of, Level}
use Rattle.level_theory.specs.Texts.{Without, SomePiece, Clean, joined, spaced, line_of, lines_of, kind_word, count_words, header_words, level_lines}
use Rattle.level_theory.specs.Reading.{Stage, at_header, at_wall_count, at_walls, at_call_count, at_calls, at_end, walls_left, calls_left, number_wants, setting_wants, count_wants, level_with, header_level, nothing_read, Progress, progress, then_level, read_header, read_line, read_rest, read_lines, start_reading, reading}
use Rattle.level_theory.specs.Refusing.{Formed, Begins, Ends, missing, left_over, Fault, too_long, bad_word, bad_line, bad_setting}
use Rattle.level_theory.proofs.Cutting.{split_some, joined_split}
use Rattle.level_theory.proofs.Steps.{Step, form_small, small_numbers, read_right, read_is}
use Rattle.level_theory.proofs.Sections.{Remains, no_more}
use Rattle.level_theory.proofs.Whole.{whole_is}
use Rattle.level_theory.specs.Accepting.{Accepted}
use Rattle.level_theory.proofs.Short.{accepted_level}
use Rattle.level_theory.proofs.Wrong.{from_first, Spelled}
use Rattle.level_theory.proofs.Misread.{Misread, misread_same, fixed, Reads, call_line_misread, HeaderLine, SettingsRead, HeaderMisread, in_word, in_setting, header_misread}
use Rattle.level_theory.proofs.Leading.{Leads, here, one_further, remains_before, one_read, Proper, step_proper, leads_begun, begun_valid, valid_formed, formed_valid, level_behind, lines_further}

-- the pieces of a text that is cut
pub split_without : (c : ℕ) (bs : List ℕ) → AllByRecursion (Without c) (split c bs)
split_without c [] = (tt, tt)
split_without c (b ∷ bs) = go (eqb b c) refl (split_without c bs)
  where
    begun : (ws : List (List ℕ)) → eqb b c ≡ false → AllByRecursion (Without c) ws → AllByRecursion (Without c) (onto b ws)
    begun [] e h = ((e, tt), tt)
    begun (w ∷ ws) e h = ((e, h.0), h.1)

    go : (t : Bool) → eqb b c ≡ t → AllByRecursion (Without c) (split c bs) → AllByRecursion (Without c) (cond t ([] ∷ split c bs) (onto b (split c bs)))
    go true e h = (tt, h)
    go false e h = begun (split c bs) e h

-- no byte comes to a piece that was not in the text
pub split_keeps : (c d : ℕ) (bs : List ℕ) → Without d bs → AllByRecursion (Without d) (split c bs)
split_keeps c d [] w = (tt, tt)
split_keeps c d (b ∷ bs) w = go (eqb b c) (split_keeps c d bs w.1)
  where
    begun : (ws : List (List ℕ)) → AllByRecursion (Without d) ws → AllByRecursion (Without d) (onto b ws)
    begun [] h = ((w.0, tt), tt)
    begun (v ∷ ws) h = ((w.0, h.0), h.1)

    go : (t : Bool) → AllByRecursion (Without d) (split c bs) → AllByRecursion (Without d) (cond t ([] ∷ split c bs) (onto b (split c bs)))
    go true h = (tt, h)
    go false h = begun (split c bs) h

words_clean : (l : List ℕ) → Without 10 l → Clean (words_of l)
words_clean l w = record { some = split_some 32 l; spaces = split_without 32 l; newlines = split_keeps 32 10 l w }

fault_as : (bytes : List ℕ) (n m : ℕ) (figures others : List ℕ) → n ≡ m → figures ≡ others → Fault bytes m others → Fault bytes n figures
fault_as bytes n m figures others e f x =
    let P : ℕ → Type 0 = λ y. Fault bytes y others in
    let Q : List ℕ → Type 0 = λ y. Fault bytes n y in
    subst Q (sym f) (subst P (sym e) x)

-- a line behind these: it goes on from them exactly if some level begins so
abbrev pub NextLine : List (List (List ℕ)) → List (List ℕ) → Type 0
NextLine before ws = Begins Formed (before ++ (ws ∷ []))

pub next_begins : (before : List (List (List ℕ))) (p : Progress) (line : ℕ) → Leads at_header nothing_read before p → (ws : List (List ℕ)) → Reads p.stage line p.level ws → NextLine before ws
next_begins before p line l ws r =
    let s = read_is line p.stage p.level ws r.0 r.1 in
    let h = step_proper p.stage p.level ws r.0 s in
    let b = begun_valid (before ++ (ws ∷ [])) r.0 (one_further at_header nothing_read before p ws r.0 l s) h.1 h.0 in
    record { level = b.level; such = valid_formed b.level b.such.valid; more = b.more; begun = b.begun }

pub next_reads : (first : List (List ℕ)) (before : List (List (List ℕ))) (p : Progress) (line : ℕ) → Leads at_header nothing_read (first ∷ before) p → (ws : List (List ℕ)) → NextLine (first ∷ before) ws → Reads p.stage line p.level ws
next_reads first before p line l ws b =
    let e : level_lines b.level ≡ (first ∷ before) ++ (ws ∷ b.more) = b.begun ∙ append_assoc (first ∷ before) (ws ∷ []) b.more in
    let v = formed_valid before first p b.level (ws ∷ b.more) b.such l e in
    let o = one_read p.stage p.level ws b.more b.level (level_behind (first ∷ before) p b.level (ws ∷ b.more) l v e) in
    (o.next, read_right line p.stage p.level ws o.next o.step)

-- what is known where a line is refused
record Met (bytes : List ℕ) (before : List (List (List ℕ))) (line : ℕ) (ws : List (List ℕ)) : Type 0 where
  short : length bytes ≤ 65536
  at : line ≡ length before + 1
  clean : Clean ws
  rest : List ℕ
  text : bytes ≡ lines_of before ++ (line_of ws ++ rest)

word_fault : (bytes : List ℕ) (before : List (List (List ℕ))) (line : ℕ) (ws : List (List ℕ)) (n : ℕ) (figures : List ℕ) → Met bytes before line ws → Begins Accepted before → Misread (NextLine before) line 1 ws n figures → Fault bytes n figures
word_fault bytes before line ws n figures k b m =
    fault_as bytes n 8 figures (line ∷ (m.place ∷ [])) m.number m.told
    (bad_word line m.place k.short record { before = before; begins = b; at = k.at; words = ws; clean = k.clean; wrong = from_first (NextLine before) ws m.place m.wrong; rest = k.rest; text = k.text })

-- at line 1
settings_formed : (kind : Kind) (d b k : ℕ) → d ≤ 1048576 → b ≤ 1048576 → k ≤ 1048576 → Formed (header_level kind (d ∷ (b ∷ (k ∷ []))))
settings_formed kind d b k x y z = record { degree = x; bucket = y; k = z; few_walls = omega arith; walls = tt; few_calls = omega arith; calls = tt }

-- no walls and no calls
abbrev empty_sections : List (List (List ℕ))
empty_sections = count_words (codes "walls") 0 ∷ (count_words (codes "calls") 0 ∷ [])

three_spelled : (kind : Kind) (rest : List (List ℕ)) → Spelled setting_wants rest → NextLine [] (kind_word kind ∷ rest)
three_spelled kind rest ([], m, e) = absurd m
three_spelled kind rest (d ∷ [], m, e) = absurd m.1
three_spelled kind rest (d ∷ (b ∷ []), m, e) = absurd m.1.1
three_spelled kind rest (d ∷ (b ∷ (k ∷ (x ∷ ns))), m, e) = absurd m.1.1.1
three_spelled kind rest (d ∷ (b ∷ (k ∷ [])), m, e) =
    let level : Level = header_level kind (d ∷ (b ∷ (k ∷ []))) in
    record { level = level; such = settings_formed kind d b k m.0 m.1.0 m.1.1.0; more = empty_sections; begun = ap (λ x. (kind_word kind ∷ x) ∷ empty_sections) (sym e) }

pub header_begins : (ws : List (List ℕ)) → HeaderLine ws → NextLine [] ws
header_begins ws (kind, rest, e, s) = subst (NextLine []) (sym e) (three_spelled kind rest s)

header_reads : (ws : List (List ℕ)) → NextLine [] ws → HeaderLine ws
header_reads ws b =
    let e = b.begun in
    let same : ws ≡ header_words b.level = cc in
    (b.level.kind, _, same, (b.level.degree ∷ (b.level.bucket ∷ (b.level.k ∷ [])), (b.such.degree, (b.such.bucket, (b.such.k, tt))), refl))

setting_fault : (bytes : List ℕ) (line : ℕ) (ws : List (List ℕ)) (n : ℕ) (figures : List ℕ) → Met bytes [] line ws → SettingsRead line ws n figures → Fault bytes n figures
setting_fault bytes line ws n figures k s =
    let level : Level = header_level s.kind (s.degree ∷ (s.bucket ∷ (s.k ∷ []))) in
    let one : line ≡ 1 = (let a = k.at in omega arith) in
    fault_as bytes n 1 figures (1 ∷ (s.refused.value ∷ [])) s.refused.number (s.told ∙ (λ i. one i ∷ s.refused.told i))
    (bad_setting s.refused.value k.short record { level = level; formed = settings_formed s.kind s.degree s.bucket s.k s.small.0 s.small.1 s.small.2; first = s.refused.first; rest = k.rest; text = k.text ∙ ap (λ x. line_of x ++ k.rest) s.words })

level_refuses : (o : Outcome Level) (f : Level → Progress) (n : ℕ) (figures : List ℕ) → then_level o f ≡ refuses n figures → o ≡ refuses n figures
level_refuses (gives level) f n figures e = absurd (cc)
level_refuses (refuses m others) f n figures e = cc

-- levels before line 1
some_valid : Begins Accepted []
some_valid =
    let level : Level = header_level arms (0 ∷ (0 ∷ (1 ∷ []))) in
    record { level = level; such = accepted_level level (record { settings = refl; few_walls = omega arith; walls = tt; few_calls = omega arith; calls = tt }); more = level_lines level; begun = refl }

-- all lines are read, and something follows
over : (before : List (List (List ℕ))) (level : Level) (rest : List ℕ) → Leads at_header nothing_read before (progress at_end level) → (rest ≡ [] → ⊥) → Ends before rest
over before level rest l some =
    let w = whole_is (before ++ []) level (remains_before at_header nothing_read before (progress at_end level) [] level l (no_more level)) in
    left_over level (accepted_level level w.0) (sym w.1 ∙ append-nil before) some

end_fault : (bytes : List ℕ) (before : List (List (List ℕ))) (line : ℕ) (rest : List ℕ) (n : ℕ) (figures : List ℕ) → length bytes ≤ 65536 → line ≡ length before + 1 → bytes ≡ lines_of before ++ rest → Begins Accepted before → Ends before rest → n ≡ 9 → figures ≡ line ∷ [] → Fault bytes n figures
end_fault bytes before line rest n figures short at text b ends e f =
    fault_as bytes n 9 figures (line ∷ []) e f (bad_line line short record { before = before; begins = b; at = at; rest = rest; ends = ends; text = text })

-- the line after these is not all that is wanted
pub stage_left : (stage : Stage) (level : Level) (all : Level) → Remains stage level [] all → stage ≡ at_end
stage_left stage level all (no_more level') = refl

open_end : (before : List (List (List ℕ))) (p : Progress) (rest : List ℕ) → Leads at_header nothing_read before p → (p.stage ≡ at_end → ⊥) → Without 10 rest → Ends before rest
open_end before p rest l n w = missing w (λ level v e. n (stage_left p.stage p.level level (level_behind before p level [] l v.valid (e ∙ sym (append-nil before)))))

-- the first lines, or none
none_or_first : (before : List (List (List ℕ))) (p : Progress) → Leads at_header nothing_read before p → Proper p.stage → Begins Accepted before
none_or_first [] p l h = some_valid
none_or_first (first ∷ before) p l h = begun_valid (first ∷ before) p l (leads_begun at_header nothing_read first before p l) h

-- the piece behind the last byte 10
rest_fault : (bytes : List ℕ) (before : List (List (List ℕ))) (stage : Stage) (level : Level) (line : ℕ) (rest : List ℕ) (n : ℕ) (figures : List ℕ) → length bytes ≤ 65536 → line ≡ length before + 1 → bytes ≡ lines_of before ++ rest → Without 10 rest → Leads at_header nothing_read before (progress stage level) → Proper stage → read_rest stage line level rest ≡ refuses n figures → Fault bytes n figures
rest_fault bytes before at_header level line rest n figures short at text w l h e = end_fault bytes before line rest n figures short at text (none_or_first before _ l h) (open_end before (progress at_header level) rest l (λ f. cc) w) (cc) (cc)
rest_fault bytes before at_wall_count level line rest n figures short at text w l h e = end_fault bytes before line rest n figures short at text (none_or_first before _ l h) (open_end before (progress at_wall_count level) rest l (λ f. cc) w) (cc) (cc)
rest_fault bytes before (at_walls m) level line rest n figures short at text w l h e = end_fault bytes before line rest n figures short at text (none_or_first before _ l h) (open_end before (progress (at_walls m) level) rest l (λ f. cc) w) (cc) (cc)
rest_fault bytes before at_call_count level line rest n figures short at text w l h e = end_fault bytes before line rest n figures short at text (none_or_first before _ l h) (open_end before (progress at_call_count level) rest l (λ f. cc) w) (cc) (cc)
rest_fault bytes before (at_calls m) level line rest n figures short at text w l h e = end_fault bytes before line rest n figures short at text (none_or_first before _ l h) (open_end before (progress (at_calls m) level) rest l (λ f. cc) w) (cc) (cc)
rest_fault bytes before at_end level line [] n figures short at text w l h e = absurd (cc)
rest_fault bytes before at_end level line (b ∷ rest) n figures short at text w l h e = end_fault bytes before line (b ∷ rest) n figures short at text (none_or_first before _ l h) (over before level (b ∷ rest) l (λ f. cc)) (cc) (cc)

some_bytes : (ws : List (List ℕ)) (rest : List ℕ) → line_of ws ++ rest ≡ [] → ⊥
some_bytes ws rest e = go (spaced ws) e
  where
    go : (l : List ℕ) → (l ++ (10 ∷ [])) ++ rest ≡ [] → ⊥
    go [] f = cc
    go (b ∷ l) f = cc

-- line 1 is read first
pub no_lines : (stage : Stage) (level : Level) → Leads at_header nothing_read [] (progress stage level) → stage ≡ at_header
no_lines stage level l = none_led at_header nothing_read (progress stage level) l
  where
    none_led : (from : Stage) (start : Level) (q : Progress) → Leads from start [] q → q.stage ≡ from
    none_led from start q (here from' start') = refl

-- what is wrong with a whole line that is refused behind these
pub data LineRefused (before : List (List (List ℕ))) (p : Progress) (line : ℕ) (ws : List (List ℕ)) (n : ℕ) (figures : List ℕ) : Type 0 where
  at_word : Misread (NextLine before) line 1 ws n figures → LineRefused before p line ws n figures
  at_settings : before ≡ [] → SettingsRead line ws n figures → LineRefused before p line ws n figures
  at_over : p.stage ≡ at_end → n ≡ 9 → figures ≡ line ∷ [] → LineRefused before p line ws n figures

header_refused : (p : Progress) (line : ℕ) (ws : List (List ℕ)) (n : ℕ) (figures : List ℕ) → HeaderMisread line ws n figures → LineRefused [] p line ws n figures
header_refused p line ws n figures (in_word m) = at_word (misread_same HeaderLine (NextLine []) header_begins header_reads line 1 ws n figures m)
header_refused p line ws n figures (in_setting s) = at_settings refl s

later_refused : (first : List (List ℕ)) (before : List (List (List ℕ))) (p : Progress) (line : ℕ) (ws : List (List ℕ)) (n : ℕ) (figures : List ℕ) → Leads at_header nothing_read (first ∷ before) p → Misread (Reads p.stage line p.level) line 1 ws n figures → LineRefused (first ∷ before) p line ws n figures
later_refused first before p line ws n figures l m = at_word (misread_same (Reads p.stage line p.level) (NextLine (first ∷ before)) (next_begins (first ∷ before) p line l) (next_reads first before p line l) line 1 ws n figures m)

stage_refused : (before : List (List (List ℕ))) (stage : Stage) (level : Level) (line : ℕ) (ws : List (List ℕ)) (n : ℕ) (figures : List ℕ) → Leads at_header nothing_read before (progress stage level) → Proper stage → read_line stage line level ws ≡ refuses n figures → LineRefused before (progress stage level) line ws n figures
stage_refused [] at_header level line ws n figures l h e = header_refused (progress at_header level) line ws n figures (header_misread line ws n figures (level_refuses (read_header line ws) (progress at_wall_count) n figures e))
stage_refused (first ∷ before) at_header level line ws n figures l h e = absurd (leads_begun at_header nothing_read first before (progress at_header level) l)
stage_refused [] at_wall_count level line ws n figures l h e = absurd (let z = no_lines at_wall_count level l in cc)
stage_refused [] (at_walls m) level line ws n figures l h e = absurd (let z = no_lines (at_walls m) level l in cc)
stage_refused [] at_call_count level line ws n figures l h e = absurd (let z = no_lines at_call_count level l in cc)
stage_refused [] (at_calls m) level line ws n figures l h e = absurd (let z = no_lines (at_calls m) level l in cc)
stage_refused (first ∷ before) at_wall_count level line ws n figures l h e =
    later_refused first before (progress at_wall_count level) line ws n figures l
    (fixed line (count_wants (codes "walls") 64) (λ ns. progress (walls_left (get_or ns 0 0)) level) (lit< tt, tt) ws n figures e)
stage_refused (first ∷ before) (at_walls zero) level line ws n figures l h e = absurd h
stage_refused (first ∷ before) (at_walls (suc m)) level line ws n figures l h e =
    later_refused first before (progress (at_walls (suc m)) level) line ws n figures l
    (fixed line (number_wants (form_of level.kind).wall_numbers (form_of level.kind).largest) (λ ns. progress (walls_left m) (level_with level (level.walls ++ (ns ∷ [])) level.calls)) (small_numbers (form_of level.kind).wall_numbers (form_of level.kind).largest (form_small level.kind)) ws n figures e)
stage_refused (first ∷ before) at_call_count level line ws n figures l h e =
    later_refused first before (progress at_call_count level) line ws n figures l
    (fixed line (count_wants (codes "calls") 512) (λ ns. progress (calls_left (get_or ns 0 0)) level) (lit< tt, tt) ws n figures e)
stage_refused (first ∷ before) (at_calls zero) level line ws n figures l h e = absurd h
stage_refused (first ∷ before) (at_calls (suc m)) level line ws n figures l h e =
    later_refused first before (progress (at_calls (suc m)) level) line ws n figures l (call_line_misread line m level ws n figures e)
stage_refused before at_end level line ws n figures l h e = at_over refl (cc) (cc)

pub line_refused : (before : List (List (List ℕ))) (p : Progress) (line : ℕ) (ws : List (List ℕ)) (n : ℕ) (figures : List ℕ) → Leads at_header nothing_read before p → Proper p.stage → read_line p.stage line p.level ws ≡ refuses n figures → LineRefused before p line ws n figures
line_refused before p line ws n figures l h e = stage_refused before p.stage p.level line ws n figures l h e

line_fault : (bytes : List ℕ) (before : List (List (List ℕ))) (p : Progress) (line : ℕ) (ws : List (List ℕ)) (n : ℕ) (figures : List ℕ) → Met bytes before line ws → Leads at_header nothing_read before p → Proper p.stage → LineRefused before p line ws n figures → Fault bytes n figures
line_fault bytes before p line ws n figures k l h (at_word m) = word_fault bytes before line ws n figures k (none_or_first before p l h) m
line_fault bytes before p line ws n figures k l h (at_settings e s) = (let P : List (List (List ℕ)) → Type 0 = λ x. Met bytes x line ws in setting_fault bytes line ws n figures (subst P e k) s)
line_fault bytes before p line ws n figures k l h (at_over e f g) =
    let P : Stage → Type 0 = λ x. Leads at_header nothing_read before (progress x p.level) in
    end_fault bytes before line (line_of ws ++ k.rest) n figures k.short k.at k.text (none_or_first before p l h) (over before p.level (line_of ws ++ k.rest) (subst P e l) (some_bytes ws k.rest)) f g

joined_behind : (l : List ℕ) (pieces : List (List ℕ)) → SomePiece pieces → joined 10 (l ∷ pieces) ≡ line_of (words_of l) ++ joined 10 pieces
joined_behind l [] s = absurd s
joined_behind l (m ∷ ms) s = (let P : List ℕ → Type 0 = λ x. l ++ (10 ∷ joined 10 (m ∷ ms)) ≡ (x ++ (10 ∷ [])) ++ joined 10 (m ∷ ms) in subst P (sym (joined_split 32 l)) (sym (append_assoc l (10 ∷ []) (joined 10 (m ∷ ms)))))

pub refused_stays : (a : ℕ) (others : List ℕ) (line : ℕ) (pieces : List (List ℕ)) → read_lines (refuses a others) line pieces ≡ refuses a others
refused_stays a others line [] = refl
refused_stays a others line (m ∷ []) = refl
refused_stays a others line (m ∷ (k ∷ ks)) = refl

pub as_refused : {A B : Type 0} (a n : ℕ) (others figures : List ℕ) → ◌≡◌ {A = Outcome A} (refuses a others) (refuses n figures) → ◌≡◌ {A = Outcome B} (refuses a others) (refuses n figures)
as_refused a n others figures e = (let f : a ≡ n = cc in let g : others ≡ figures = cc in λ i. refuses (f i) (g i))

-- all lines, from these on
refused_at : (bytes : List ℕ) (pieces : List (List ℕ)) (before : List (List (List ℕ))) (p : Progress) (line n : ℕ) (figures : List ℕ) → length bytes ≤ 65536 → line ≡ length before + 1 → bytes ≡ lines_of before ++ joined 10 pieces → SomePiece pieces → AllByRecursion (Without 10) pieces → Leads at_header nothing_read before p → Proper p.stage → read_lines (gives p) line pieces ≡ refuses n figures → Fault bytes n figures
refused_at bytes [] before p line n figures short at text s w l h e = absurd s
refused_at bytes (rest ∷ []) before p line n figures short at text s w l h e = rest_fault bytes before p.stage p.level line rest n figures short at text w.0 l h e
refused_at bytes (piece ∷ (m ∷ ms)) before p line n figures short at text s w l h e =
    go (read_line p.stage line p.level (words_of piece)) refl
    (λ q step. refused_at bytes (m ∷ ms) (before ++ (words_of piece ∷ [])) q (line + 1) n figures short further_at further tt w.1 (one_further at_header nothing_read before p (words_of piece) q l step) (step_proper p.stage p.level (words_of piece) q step).0)
    e
  where
    split_text : bytes ≡ lines_of before ++ (line_of (words_of piece) ++ joined 10 (m ∷ ms))
    split_text = text ∙ ap (λ x. lines_of before ++ x) (joined_behind piece (m ∷ ms) tt)

    further : bytes ≡ lines_of (before ++ (words_of piece ∷ [])) ++ joined 10 (m ∷ ms)
    further = split_text ∙ lines_further before (words_of piece) (joined 10 (m ∷ ms))

    further_at : line + 1 ≡ length (before ++ (words_of piece ∷ [])) + 1
    further_at = rw (length-append before (words_of piece ∷ [])) (omega arith)

    go : (o : Outcome Progress) → read_line p.stage line p.level (words_of piece) ≡ o → ((q : Progress) → Step p.stage p.level (words_of piece) q → read_lines (gives q) (line + 1) (m ∷ ms) ≡ refuses n figures → Fault bytes n figures) → read_lines o (line + 1) (m ∷ ms) ≡ refuses n figures → Fault bytes n figures
    go (gives q) f rest g = rest q (read_is line p.stage p.level (words_of piece) q f) g
    go (refuses a others) f rest g = line_fault bytes before p line (words_of piece) n figures (record { short = short; at = at; clean = words_clean piece w.0; rest = joined 10 (m ∷ ms); text = split_text }) l h (line_refused before p line (words_of piece) n figures l h (f ∙ as_refused a n others figures (sym (refused_stays a others (line + 1) (m ∷ ms)) ∙ g)))

pub refuses_rightly : (bytes : List ℕ) (n : ℕ) (figures : List ℕ) → reading bytes ≡ refuses n figures → Fault bytes n figures
unfolding reading
refuses_rightly bytes n figures e = go (leb (length bytes) 65536) refl e
  where
    go : (b : Bool) → leb (length bytes) 65536 ≡ b → cond b (read_lines start_reading 1 (pieces_of bytes)) (refuses 10 []) ≡ refuses n figures → Fault bytes n figures
    go true f o = refused_at bytes (pieces_of bytes) [] (progress at_header nothing_read) 1 n figures (leb-true (length bytes) 65536 f) (omega arith) (sym (joined_split 10 bytes)) (split_some 10 bytes) (split_without 10 bytes) (here at_header nothing_read) tt o
    go false f o = fault_as bytes n 10 figures [] (cc) (cc) (too_long (leb-false (length bytes) 65536 f))
