-- Where the answers end, by the lines in the output.
use Rattle.std.proofs.Common.{◌≡◌, ℕ, zero, suc, ◌+◌, ◌/◌, ◌%◌, ◌≤◌, Bool, true, false, cond, eqb, ltb, List, [], ◌∷◌, ◌++◌, map, length, get_or, take, drop, MatchBool, decimal, sym, refl, ap, ◌∙◌, subst, append_assoc, arith, ne_eqb, leb-true, length-append, length-drop}
use Rattle.std.specs.List.{AllByRecursion}
use Rattle.std.specs.Fmt.{digit_glyph, digits_onto, digits}
use Rattle.std.proofs.lemmas.List.{take-append-drop, length-take-le}
use Rattle.std.proofs.Math.Seq.{take-append_seam}
use Rattle.index.specs.Outcomes.{Outcome, gives, refuses}
use Rattle.level_theory.specs.Texts.{Without, spaced}
use Rattle.level_theory.proofs.Clean.{spaced_without}
use Rattle.history_theory.specs.History.{History, Reply, grew, shrank, shows, tallies, nears, withins, names, leads, refused, then_asks}
use Rattle.history.specs.declared.Call.{Call}
use Rattle.history.specs.Turns.{Lent, reply, asked}
use Rattle.printing.specs.Outputs.{written, fits_at, word_line, lines_length}
use Rattle.answers.specs.AnswerLines.{reply_word, reply_numbers, answer_line}
use Rattle.play_theory.specs.Answering.{Pairs, itself, Answered}

-- these bytes are so many whole lines, whatever follows
abbrev Whole : ℕ → List ℕ → Type 0
Whole n bs = (m : ℕ) (rest : List ℕ) → lines_length (n + m) (bs ++ rest) ≡ length bs + lines_length m rest

whole_none : Whole 0 []
whole_none m rest = (let e : 0 + m ≡ m = omega arith in ap (λ k. lines_length k rest) e ∙ omega arith)

line_counts : (w rest : List ℕ) (m : ℕ) → Without 10 w → lines_length (suc m) ((w ++ (10 ∷ [])) ++ rest) ≡ length (w ++ (10 ∷ [])) + lines_length m rest
line_counts [] rest m h = omega arith
line_counts (b ∷ w) rest m h = (let e = line_counts w rest m h.1 in rw h.0 (omega arith))

whole_more : (n : ℕ) (bs w : List ℕ) → Without 10 w → Whole n bs → Whole (n + 1) (bs ++ (w ++ (10 ∷ [])))
whole_more n bs w h k m rest =
    let l : List ℕ = w ++ (10 ∷ []) in
    let e : (n + 1) + m ≡ n + suc m = omega arith in
    let a : lines_length ((n + 1) + m) ((bs ++ l) ++ rest) ≡ lines_length (n + suc m) (bs ++ (l ++ rest)) = (λ i. lines_length (e i) (append_assoc bs l rest i)) in
    let b = k (suc m) (l ++ rest) in
    let c = line_counts w rest m h in
    let d = length-append bs l in
    a ∙ (b ∙ omega arith)

-- no digit is a byte 10
glyph_plain : (d : ℕ) → eqb (digit_glyph false d) 10 ≡ false
glyph_plain d = go (ltb d 10)
  where
    go : (b : Bool) → eqb (cond b (48 + d) (87 + d)) 10 ≡ false
    go true = ne_eqb (48 + d) 10 (λ e. omega arith)
    go false = ne_eqb (87 + d) 10 (λ e. omega arith)

onto_plain : (k n : ℕ) (acc : List ℕ) → Without 10 acc → Without 10 (digits_onto k 10 false n acc)
onto_plain zero n acc h = h
onto_plain (suc k) n acc h = go (eqb (n / 10) 0) (onto_plain k (n / 10) (digit_glyph false (n % 10) ∷ acc) (glyph_plain (n % 10), h))
  where
    go : (b : Bool) → Without 10 (digits_onto k 10 false (n / 10) (digit_glyph false (n % 10) ∷ acc)) → Without 10 (cond b (digit_glyph false (n % 10) ∷ acc) (digits_onto k 10 false (n / 10) (digit_glyph false (n % 10) ∷ acc)))
    go true x = (glyph_plain (n % 10), h)
    go false x = x

decimal_plain : (n : ℕ) → Without 10 (decimal n)
unfolding digits
decimal_plain n = onto_plain 64 n [] tt

numbers_plain : (ns : List ℕ) → AllByRecursion (Without 10) (map decimal ns)
numbers_plain [] = tt
numbers_plain (n ∷ ns) = (decimal_plain n, numbers_plain ns)

word_plain : {E : Type 0} (a : Reply E) → Without 10 (reply_word a)
word_plain (grew n edges) = (refl, tt)
word_plain shrank = (refl, tt)
word_plain (shows e) = tt
word_plain (tallies c s l) = tt
word_plain (nears n) = (refl, tt)
word_plain (withins n) = (refl, tt)
word_plain (names n) = (refl, tt)
word_plain (leads long n) = (refl, tt)
word_plain (refused n figures) = (refl, (refl, (refl, (refl, (refl, (refl, (refl, tt)))))))

word_line_is : (word ns : List ℕ) → word_line word ns ≡ spaced (word ∷ map decimal ns) ++ (10 ∷ [])
unfolding word_line
word_line_is word ns = refl

module _ {E : Type 0} (dist : E → E → ℕ) where
  -- a line more, written behind the others
  line_more : (c : Call E (Pairs E)) (a : Reply E) (m : Lent) (at lines : ℕ) (out : List ℕ) → at + length (answer_line c a m) ≤ length out → Whole lines (take at out) → Whole (lines + 1) (take (at + length (answer_line c a m)) (written out at (answer_line c a m))) × (length (written out at (answer_line c a m)) ≡ length out)
  line_more c a m at lines out h k =
      let line : List ℕ = answer_line c a m in
      let w : List ℕ = spaced (reply_word a ∷ map decimal (reply_numbers c a m)) in
      let is : line ≡ w ++ (10 ∷ []) = word_line_is (reply_word a) (reply_numbers c a m) in
      let first : length (take at out) ≡ at = length-take-le at out (omega arith) in
      let both : length (take at out ++ line) ≡ at + length line = length-append (take at out) line ∙ ap (λ x. x + length line) first in
      let cut : take (at + length line) (written out at line) ≡ take at out ++ line =
      ap (take (at + length line)) (sym (append_assoc (take at out) line (drop (at + length line) out)))
      ∙ (ap (λ x. take x ((take at out ++ line) ++ drop (at + length line) out)) (sym both) ∙ take-append_seam (take at out ++ line) (drop (at + length line) out)) in
      let P : List ℕ → Type 0 = Whole (lines + 1) in
      let Q : List ℕ → Type 0 = λ x. Whole (lines + 1) (take at out ++ x) in
      let whole = subst P (sym cut) (subst Q (sym is) (whole_more lines (take at out) w (spaced_without (reply_word a ∷ map decimal (reply_numbers c a m)) (word_plain a, numbers_plain (reply_numbers c a m))) k)) in
      let d = length-drop (at + length line) out in
      let e = length-append (take at out) (line ++ drop (at + length line) out) in
      let f = length-append line (drop (at + length line) out) in
      (whole, omega arith)

  -- what the result and the output say of the end
  abbrev pub EndsSo : Outcome ℕ → ℕ → List ℕ → Type 0
  EndsSo (gives n) end after = (end ≡ n) × (n ≤ length after)
  EndsSo (refuses n figures) end after = end ≡ lines_length (get_or figures 0 0) after

  full_so : (o : Outcome ℕ) (end at lines : ℕ) (out after : List ℕ) → at ≤ length out → Whole lines (take at out) → (o ≡ refuses 11 (lines ∷ [])) × (end ≡ at) × (after ≡ out) → EndsSo o end after
  full_so o end at lines out after h k x =
      let P : Outcome ℕ → Type 0 = λ p. EndsSo p end after in
      let Q : List ℕ → Type 0 = λ bs. end ≡ lines_length lines bs in
      let e : lines + 0 ≡ lines = omega arith in
      let w : lines_length lines out ≡ length (take at out) + 0 = (λ i. lines_length (sym e i) (sym (take-append-drop at out) i)) ∙ k 0 (drop at out) in
      let l = length-take-le at out h in
      let ends : end ≡ lines_length lines out = (let f = x.1 in omega arith) in
      subst P (sym x.0) (subst Q (sym x.2) ends)

  by_fit : (Next : Type 0) (o : Outcome ℕ) (end at lines : ℕ) (out after : List ℕ) (f : Bool) → (Next → f ≡ true → EndsSo o end after) → at ≤ length out → Whole lines (take at out) → MatchBool f Next ((o ≡ refuses 11 (lines ∷ [])) × (end ≡ at) × (after ≡ out)) → EndsSo o end after
  by_fit Next o end at lines out after true more h k x = more x refl
  by_fit Next o end at lines out after false more h k x = full_so o end at lines out after h k x

  ends_so_from : (h : History E) (cs : List (Call E (Pairs E))) (l : Lent) (at lines : ℕ) (out : List ℕ) (o : Outcome ℕ) (end : ℕ) (after : List ℕ) → at ≤ length out → Whole lines (take at out) → Answered dist h cs l at lines out o end after → EndsSo o end after
  ends_so_from h [] l at lines out o end after s k x =
      let P : Outcome ℕ → Type 0 = λ p. EndsSo p end after in
      let Q : List ℕ → Type 0 = λ bs. at ≤ length bs in
      subst P (sym x.0) (x.1, subst Q (sym x.2) s)
  ends_so_from h (c ∷ cs) l at lines out o end after s k (a, m, t, x) =
      by_fit _ o end at lines out after (fits_at (length out) at (answer_line c (reply a) m))
      (λ y f.
      let g = leb-true (at + length (answer_line c (reply a) m)) (length out) f in
      let w = line_more c (reply a) m at lines out g k in
      ends_so_from (then_asks h (asked itself c l)) cs m (at + length (answer_line c (reply a) m)) (lines + 1) (written out at (answer_line c (reply a) m)) o end after (omega (arith, w.1)) w.0 y)
      s k x

  pub ends_so : (h : History E) (cs : List (Call E (Pairs E))) (l : Lent) (out : List ℕ) (o : Outcome ℕ) (end : ℕ) (after : List ℕ) → Answered dist h cs l 0 0 out o end after → EndsSo o end after
  ends_so h cs l out o end after x = ends_so_from h cs l 0 0 out o end after (omega arith) whole_none x
