-- The lines of a level file, one after another. Assumes nothing.
use Rattle.std.proofs.Common.{◌≡◌, ℕ, ◌+◌, ◌<◌, ◌≤◌, true, false, cond, eqb, List, [], ◌∷◌, length, Ok, Err, Result, sym, refl, ap, ◌∙◌}
use Rattle.std.proofs.lemmas.Bool.{le-leb, lt-leb}
use Rattle.metric.specs.declared.Metric.{Ghosts as Measured}
use Rattle.index.specs.Outcomes.{gives, refuses}
use Rattle.level_theory.specs.Words.{onto, split, words_of, pieces_of}
use Rattle.level_theory.specs.Levels.{Level as Meaning}
use Rattle.level_theory.specs.Reading.{Stage, at_header, at_wall_count, Progress, progress, then_level, read_header, read_line, read_lines, nothing_read, start_reading, reading}
use Rattle.words.specs.declared.cursor.Misplaced.{Misplaced}
use Rattle.written.specs.declared.written.Written.{Ghosts}
use Rattle.lines.specs.Faults.{at_line_of}
use Rattle.level.specs.declared.reader.Reader.{Reader}
use Rattle.level.specs.Readers.{line_told, line_read}

pub line_at : {E W : Type 0} {k : Ghosts E W} {m : Measured E} (line : ℕ) (r : Result Unit Misplaced) (reader : Reader E W k m) → line_read (at_line_of line r) reader ≡ line_told line r reader
line_at line (Ok u) reader = refl
line_at line (Err misplaced) reader = refl

-- a text has at least one piece, so that a line before it is a whole one
after_line : (p : Progress) (n : ℕ) (l : List ℕ) (pieces : List (List ℕ)) → Type 0
after_line p n l pieces = read_lines (gives p) n (l ∷ pieces) ≡ read_lines (read_line p.stage n p.level (words_of l)) (n + 1) pieces

onto_line : (p : Progress) (n : ℕ) (l : List ℕ) (b : ℕ) (pieces : List (List ℕ)) → after_line p n l (onto b pieces)
unfolding after_line
onto_line p n l b [] = refl
onto_line p n l b (m ∷ ms) = refl

split_line : (p : Progress) (n : ℕ) (l text : List ℕ) → after_line p n l (split 10 text)
unfolding after_line
split_line p n l [] = refl
split_line p n l (b ∷ bs) = elim (eqb b 10) as (λ t. read_lines (gives p) n (l ∷ cond t ([] ∷ split 10 bs) (onto b (split 10 bs))) ≡ read_lines (read_line p.stage n p.level (words_of l)) (n + 1) (cond t ([] ∷ split 10 bs) (onto b (split 10 bs)))) [ true ↦ refl | false ↦ onto_line p n l b (split 10 bs) ]

pub next_line : (p : Progress) (n : ℕ) (l text : List ℕ) → read_lines (gives p) n (l ∷ pieces_of text) ≡ read_lines (read_line p.stage n p.level (words_of l)) (n + 1) (pieces_of text)
unfolding after_line
next_line p n l text = split_line p n l text

-- a line that is read, and the rest behind it
module _ (p : Progress) (n : ℕ) (text l rest : List ℕ) (cut : pieces_of text ≡ l ∷ pieces_of rest) where
  pub goes_on : (q : Progress) → gives q ≡ read_line p.stage n p.level (words_of l) → read_lines (gives q) (n + 1) (pieces_of rest) ≡ read_lines (gives p) n (pieces_of text)
  goes_on q e = ap (λ o. read_lines o (n + 1) (pieces_of rest)) e ∙ sym (next_line p n l rest) ∙ ap (read_lines (gives p) n) (sym cut)

  pub stops : (m : ℕ) (figures : List ℕ) → refuses m figures ≡ read_line p.stage n p.level (words_of l) → refuses m figures ≡ read_lines (gives p) n (pieces_of text)
  stops m figures e = ap (λ o. read_lines o (n + 1) (pieces_of rest)) e ∙ sym (next_line p n l rest) ∙ ap (read_lines (gives p) n) (sym cut)

-- a whole file
pub reading_long : (bytes : List ℕ) → 65536 < length bytes → refuses 10 [] ≡ reading bytes
unfolding reading
reading_long bytes h = sym (ap (λ t. cond t (read_lines start_reading 1 (pieces_of bytes)) (refuses 10 [])) (lt-leb (length bytes) 65536 h))

module _ (bytes : List ℕ) (short : length bytes ≤ 65536) where
  reading_short : read_lines start_reading 1 (pieces_of bytes) ≡ reading bytes
  unfolding reading
  reading_short = sym (ap (λ t. cond t (read_lines start_reading 1 (pieces_of bytes)) (refuses 10 [])) (le-leb (length bytes) 65536 short))

  pub no_line : pieces_of bytes ≡ bytes ∷ [] → refuses 9 (1 ∷ []) ≡ reading bytes
  no_line e = ap (read_lines start_reading 1) (sym e) ∙ reading_short

  module _ (l rest : List ℕ) (cut : pieces_of bytes ≡ l ∷ pieces_of rest) where
    first_line : read_lines (then_level (read_header 1 (words_of l)) (progress at_wall_count)) 2 (pieces_of rest) ≡ reading bytes
    first_line = sym (next_line (progress at_header nothing_read) 1 l rest) ∙ ap (read_lines start_reading 1) (sym cut) ∙ reading_short

    pub header_stops : (m : ℕ) (figures : List ℕ) → refuses m figures ≡ read_header 1 (words_of l) → refuses m figures ≡ reading bytes
    header_stops m figures e = ap (λ o. read_lines (then_level o (progress at_wall_count)) 2 (pieces_of rest)) e ∙ first_line

    pub header_goes : (level : Meaning) (st : Stage) (start : Meaning) → gives level ≡ read_header 1 (words_of l) → st ≡ at_wall_count → start ≡ level → read_lines (gives (progress st start)) 2 (pieces_of rest) ≡ reading bytes
    header_goes level st start e f g =
        ap (λ s. read_lines (gives (progress s start)) 2 (pieces_of rest)) f
        ∙ ap (λ x. read_lines (gives (progress at_wall_count x)) 2 (pieces_of rest)) g
        ∙ ap (λ o. read_lines (then_level o (progress at_wall_count)) 2 (pieces_of rest)) e
        ∙ first_line
