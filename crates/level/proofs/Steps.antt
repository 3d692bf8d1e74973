-- One line of a level file, by the stage at which it is read. Assumes nothing.
use Rattle.std.proofs.Common.{◌≡◌, ℕ, suc, ◌+◌, ◌-◌, ◌≤◌, Bool, true, false, cond, List, [], ◌∷◌, ◌++◌, get_or, None, codes, sym, refl, ap, ◌∙◌, arith}
use Rattle.index.specs.Outcomes.{Outcome, gives, refuses}
use Rattle.level_theory.specs.Words.{letter, digit, all_bytes, number_word, Want, a_number, Taken, right, wrong, with_number, take_words}
use Rattle.level_theory.specs.Levels.{Kind, arms, cards, form_of, LineCall}
use Rattle.level_theory.specs.Levels.{Level as Meaning}
use Rattle.level_theory.specs.Reading.{Stage, at_wall_count, at_walls, at_call_count, at_calls, walls_left, calls_left, count_wants, formed, level_with, number_wants, progress, then_call, read_call, read_call_at, read_line}
use Rattle.words.specs.Tokens.{Word, letters, digits, amiss, word_of}
use Rattle.words.specs.Cursors.{first_word}
use Rattle.words.proofs.Numbers.{not_digits, no_bytes, letters_no_digits}
use Rattle.written.specs.Wants.{wall_wants}
use Rattle.lines.specs.Calls.{sole, named}
use Rattle.level.specs.declared.stage.Stage as stage
use Rattle.level.specs.declared.stage.Stage.TheVariants.{WallCount, Walls, CallCount, Calls, End}
use Rattle.level.specs.Stages.{stage_shown}
use Rattle.level.proofs.Rooms.{SomeLeft, more_walls, more_calls}
use Rattle.lines.proofs.Firsts.{of_letters, other_word, letter_word}

module _ (line : ℕ) (level : Meaning) (ws : List (List ℕ)) (i : ℕ) (one : i ≡ 1) (st : Stage) where
  module _ (e : st ≡ at_wall_count) where
    wall_count_is : (t : Taken) → t ≡ take_words (count_wants (codes "walls") 64) ws i → formed line t (λ ns. gives (progress (walls_left (get_or ns 0 0)) level)) ≡ read_line st line level ws
    wall_count_is t h =
        ap (λ x. formed line x (λ ns. gives (progress (walls_left (get_or ns 0 0)) level))) (h ∙ ap (take_words (count_wants (codes "walls") 64) ws) one)
        ∙ ap (λ s. read_line s line level ws) (sym e)

    pub wall_count_gives : (n : ℕ) (st' : Stage) → right (n ∷ []) ≡ take_words (count_wants (codes "walls") 64) ws i → st' ≡ walls_left n → gives (progress st' level) ≡ read_line st line level ws
    wall_count_gives n st' h f = ap (λ s. gives (progress s level)) f ∙ wall_count_is (right (n ∷ [])) h

    pub wall_count_lacks : (m : ℕ) → wrong m ≡ take_words (count_wants (codes "walls") 64) ws i → refuses 8 (line ∷ (m ∷ [])) ≡ read_line st line level ws
    wall_count_lacks m h = wall_count_is (wrong m) h

  module _ (e : st ≡ at_call_count) where
    call_count_is : (t : Taken) → t ≡ take_words (count_wants (codes "calls") 512) ws i → formed line t (λ ns. gives (progress (calls_left (get_or ns 0 0)) level)) ≡ read_line st line level ws
    call_count_is t h =
        ap (λ x. formed line x (λ ns. gives (progress (calls_left (get_or ns 0 0)) level))) (h ∙ ap (take_words (count_wants (codes "calls") 512) ws) one)
        ∙ ap (λ s. read_line s line level ws) (sym e)

    pub call_count_gives : (n : ℕ) (st' : Stage) → right (n ∷ []) ≡ take_words (count_wants (codes "calls") 512) ws i → st' ≡ calls_left n → gives (progress st' level) ≡ read_line st line level ws
    call_count_gives n st' h f = ap (λ s. gives (progress s level)) f ∙ call_count_is (right (n ∷ [])) h

    pub call_count_lacks : (m : ℕ) → wrong m ≡ take_words (count_wants (codes "calls") 512) ws i → refuses 8 (line ∷ (m ∷ [])) ≡ read_line st line level ws
    call_count_lacks m h = call_count_is (wrong m) h

  module _ (n : ℕ) (some : 1 ≤ n) (e : st ≡ at_walls n) where
    at_more_walls : st ≡ at_walls (suc (n - 1))
    at_more_walls = let m : n ≡ suc (n - 1) = omega arith in e ∙ ap at_walls m

    wall_is : (t : Taken) → t ≡ take_words (wall_wants (form_of level.kind)) ws i → formed line t (λ ns. gives (progress (walls_left (n - 1)) (level_with level (level.walls ++ (ns ∷ [])) level.calls))) ≡ read_line st line level ws
    wall_is t h =
        ap (λ x. formed line x (λ ns. gives (progress (walls_left (n - 1)) (level_with level (level.walls ++ (ns ∷ [])) level.calls)))) (h ∙ ap (take_words (wall_wants (form_of level.kind)) ws) one)
        ∙ ap (λ s. read_line s line level ws) (sym at_more_walls)

    pub wall_gives : (ns : List ℕ) (st' : Stage) (level' : Meaning) → right ns ≡ take_words (wall_wants (form_of level.kind)) ws i → st' ≡ walls_left (n - 1) → level' ≡ level_with level (level.walls ++ (ns ∷ [])) level.calls → gives (progress st' level') ≡ read_line st line level ws
    wall_gives ns st' level' h f g = ap (λ s. gives (progress s level')) f ∙ ap (λ l. gives (progress (walls_left (n - 1)) l)) g ∙ wall_is (right ns) h

    pub wall_lacks : (m : ℕ) → wrong m ≡ take_words (wall_wants (form_of level.kind)) ws i → refuses 8 (line ∷ (m ∷ [])) ≡ read_line st line level ws
    wall_lacks m h = wall_is (wrong m) h

  module _ (n : ℕ) (some : 1 ≤ n) (e : st ≡ at_calls n) where
    at_more_calls : st ≡ at_calls (suc (n - 1))
    at_more_calls = let m : n ≡ suc (n - 1) = omega arith in e ∙ ap at_calls m

    call_is : (o : Outcome LineCall) → o ≡ read_call (form_of level.kind) line ws → then_call o (λ call. progress (calls_left (n - 1)) (level_with level level.walls (level.calls ++ (call ∷ [])))) ≡ read_line st line level ws
    call_is o h =
        ap (λ x. then_call x (λ call. progress (calls_left (n - 1)) (level_with level level.walls (level.calls ++ (call ∷ []))))) h
        ∙ ap (λ s. read_line s line level ws) (sym at_more_calls)

    pub call_gives : (call : LineCall) (st' : Stage) (level' : Meaning) → gives call ≡ read_call (form_of level.kind) line ws → st' ≡ calls_left (n - 1) → level' ≡ level_with level level.walls (level.calls ++ (call ∷ [])) → gives (progress st' level') ≡ read_line st line level ws
    call_gives call st' level' h f g = ap (λ s. gives (progress s level')) f ∙ ap (λ l. gives (progress (calls_left (n - 1)) l)) g ∙ call_is (gives call) h

    pub call_lacks : (m : ℕ) → refuses 8 (line ∷ (m ∷ [])) ≡ read_call (form_of level.kind) line ws → refuses 8 (line ∷ (m ∷ [])) ≡ read_line st line level ws
    call_lacks m h = call_is (refuses 8 (line ∷ (m ∷ []))) h

-- a line whose first word cannot be the one that is wanted
abbrev pub of_digits : Word → Bool
of_digits (letters w i) = false
of_digits (digits w i) = true
of_digits (amiss i) = false

no_number : (limit : ℕ) (w : List ℕ) (i : ℕ) → of_digits (word_of w i) ≡ false → number_word limit w ≡ None
no_number limit [] i f = no_bytes limit
no_number limit (b ∷ bs) i f = elim (all_bytes digit (b ∷ bs)) as (λ t. all_bytes digit (b ∷ bs) ≡ t → number_word limit (b ∷ bs) ≡ None) [
  | true ↦ λ d. elim (all_bytes letter (b ∷ bs)) as (λ t. all_bytes letter (b ∷ bs) ≡ t → of_digits (cond t (letters (b ∷ bs) i) (cond (all_bytes digit (b ∷ bs)) (digits (b ∷ bs) i) (amiss i))) ≡ false → number_word limit (b ∷ bs) ≡ None) [
    | true ↦ λ l h. not_digits limit (b ∷ bs) (letters_no_digits b bs l)
    | false ↦ λ l h. let z : true ≡ false = ap (λ t. of_digits (cond t (digits (b ∷ bs) i) (amiss i))) (sym d) ∙ h in let n : ◌≡◌ {A = ℕ} 0 1 = cc in absurd (omega arith)
  ] refl f
  | false ↦ λ d. not_digits limit (b ∷ bs) d
] refl

first_number : (limit : ℕ) (xs : List Want) (ws : List (List ℕ)) (i : ℕ) → of_digits (first_word ws i) ≡ false → wrong i ≡ take_words (a_number limit ∷ xs) ws i
first_number limit xs [] i f = refl
first_number limit xs (w ∷ ws) i f = ap (λ o. with_number o i (take_words xs ws (i + 1))) (sym (no_number limit w i f))

wall_first : (kind : Kind) (ws : List (List ℕ)) (i : ℕ) → of_digits (first_word ws i) ≡ false → wrong i ≡ take_words (wall_wants (form_of kind)) ws i
wall_first arms ws i f = first_number 4095 (number_wants 11 4095) ws i f
wall_first cards ws i f = first_number 255 (number_wants 7 255) ws i f

no_sole : (t : Word) → of_letters t ≡ false → named (sole t) ≡ None
no_sole (letters w i) f = let n : ◌≡◌ {A = ℕ} 0 1 = cc in absurd (omega arith)
no_sole (digits w i) f = refl
no_sole (amiss i) f = refl

call_first : (kind : Kind) (line : ℕ) (ws : List (List ℕ)) → of_letters (first_word ws 1) ≡ false → refuses 8 (line ∷ (1 ∷ [])) ≡ read_call (form_of kind) line ws
call_first kind line [] f = refl
call_first kind line (w ∷ ws) f = ap (λ letter. read_call_at (form_of kind) line letter ws) (sym (letter_word w 1 ∙ no_sole (word_of w 1) f))

module _ (line : ℕ) (level : Meaning) (ws : List (List ℕ)) (st : Stage) (t : Word) (first : t ≡ first_word ws 1) where
  other_wall_count : st ≡ at_wall_count → of_letters t ≡ false → refuses 8 (line ∷ (1 ∷ [])) ≡ read_line st line level ws
  other_wall_count e f = wall_count_lacks line level ws 1 refl st e 1 (other_word (codes "walls") (a_number 64 ∷ []) ws 1 (omega arith) refl (ap of_letters (sym first) ∙ f))

  other_call_count : st ≡ at_call_count → of_letters t ≡ false → refuses 8 (line ∷ (1 ∷ [])) ≡ read_line st line level ws
  other_call_count e f = call_count_lacks line level ws 1 refl st e 1 (other_word (codes "calls") (a_number 512 ∷ []) ws 1 (omega arith) refl (ap of_letters (sym first) ∙ f))

  other_wall : (n : ℕ) → 1 ≤ n → st ≡ at_walls n → of_digits t ≡ false → refuses 8 (line ∷ (1 ∷ [])) ≡ read_line st line level ws
  other_wall n some e f = wall_lacks line level ws 1 refl st n some e 1 (wall_first level.kind ws 1 (ap of_digits (sym first) ∙ f))

  other_call : (n : ℕ) → 1 ≤ n → st ≡ at_calls n → of_letters t ≡ false → refuses 8 (line ∷ (1 ∷ [])) ≡ read_line st line level ws
  other_call n some e f = call_lacks line level ws 1 refl st n some e 1 (call_first level.kind line ws (ap of_letters (sym first) ∙ f))

-- whether a line that is wanted can begin with such a word; none is wanted at the end
abbrev pub can_begin : stage.Stage → Word → Bool
can_begin WallCount t = of_letters t
can_begin (Walls n) t = of_digits t
can_begin CallCount t = of_letters t
can_begin (Calls n) t = of_letters t
can_begin End t = false

-- a line that is wanted, and cannot begin with such a word
pub cannot_begin : (line : ℕ) (level : Meaning) (ws : List (List ℕ)) (st : stage.Stage) (t : Word) → t ≡ first_word ws 1 → SomeLeft st → (st ≡ End → ⊥) → can_begin st t ≡ false → refuses 8 (line ∷ (1 ∷ [])) ≡ read_line (stage_shown st) line level ws
cannot_begin line level ws WallCount t first s more f = other_wall_count line level ws at_wall_count t first refl f
cannot_begin line level ws (Walls n) t first s more f = other_wall line level ws (at_walls n) t first n (more_walls n s) refl f
cannot_begin line level ws CallCount t first s more f = other_call_count line level ws at_call_count t first refl f
cannot_begin line level ws (Calls n) t first s more f = other_call line level ws (at_calls n) t first n (more_calls n s) refl f
cannot_begin line level ws End t first s more f = absurd (more refl)
