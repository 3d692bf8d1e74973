-- A file is accepted exactly if it is the text of a level.
use Rattle.std.proofs.Common.{◌≡◌, ℕ, Bool, true, false, cond, leb, List, [], length, sym, refl, ap, ◌∙◌, subst, arith, le-leb, leb-true}
use Rattle.index.specs.Outcomes.{Outcome, gives, refuses}
use Rattle.level_theory.specs.Words.{pieces_of}
use Rattle.level_theory.specs.Levels.{Level}
use Rattle.level_theory.specs.Texts.{joined, level_lines, lines_of, text_of}
use Rattle.level_theory.specs.Reading.{at_header, Progress, progress, nothing_read, start_reading, read_lines, reading}
use Rattle.level_theory.specs.Accepting.{IsText, AcceptsExactly}
use Rattle.level_theory.proofs.Settings.{settings_small}
use Rattle.level_theory.proofs.Cutting.{joined_split, split_lines, joined_lines}
use Rattle.level_theory.proofs.Sections.{ReadAs, lines_are, lines_right, ended}
use Rattle.level_theory.proofs.Clean.{remains_clean, clean_lines}
use Rattle.level_theory.proofs.Whole.{whole_is, whole_right}

if_short : (b : Bool) (o : Outcome Level) (level : Level) → cond b o (refuses 10 []) ≡ gives level → (b ≡ true) × (o ≡ gives level)
if_short true o level e = (refl, e)
if_short false o level e = absurd (let z : ◌≡◌ {A = ℕ} 0 1 = cc in omega arith)

accepted_is : (bytes : List ℕ) (level : Level) → reading bytes ≡ gives level → IsText bytes level
unfolding reading text_of
accepted_is bytes level e =
    let s = if_short (leb (length bytes) 65536) (read_lines start_reading 1 (pieces_of bytes)) level e in
    let r = lines_are start_reading 1 (pieces_of bytes) level s.1 in
    let begun : progress at_header nothing_read ≡ r.0 = (let given = r.1 in cc) in
    let P : Progress → Type 0 = λ p. ReadAs p.stage p.level (pieces_of bytes) level in
    let a = subst P (sym begun) r.2 in
    let w = whole_is a.lines level a.remains in
    record {
      short = leb-true (length bytes) 65536 s.0;
      valid = w.0;
      text = sym (joined_split 10 bytes) ∙ (ap (joined 10) a.text ∙ (joined_lines a.lines ∙ ap lines_of w.1));
    }

text_accepted : (bytes : List ℕ) (level : Level) → IsText bytes level → reading bytes ≡ gives level
unfolding reading text_of
text_accepted bytes level t =
    let small = settings_small level.degree level.bucket level.k t.valid.settings in
    let w = whole_right level small.0 small.1 small.2 t.valid in
    let c = remains_clean at_header nothing_read (level_lines level) level w in
    let pieces : pieces_of bytes ≡ ended (level_lines level) = ap (λ x. pieces_of x) t.text ∙ split_lines (level_lines level) (clean_lines (level_lines level) c) in
    rw (le-leb (length bytes) 65536 t.short, pieces) (lines_right at_header nothing_read (level_lines level) level 1 w c)

pub accepts_exactly : (bytes : List ℕ) → AcceptsExactly bytes
accepts_exactly bytes level = (accepted_is bytes level, text_accepted bytes level)
