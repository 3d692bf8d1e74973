-- Lines that are read to their end. Assumes nothing.
use Rattle.std.proofs.Common.{◌≡◌, ℕ, true, false, cond, List, [], ◌∷◌, get_or, Some, None, Ok, Err, codes, Option, Result, sym, refl, ap, ◌∙◌, arith}
use Rattle.index.specs.Outcomes.{Outcome, gives, refuses}
use Rattle.level_theory.specs.Words.{same_bytes, Taken, right, wrong, take_words}
use Rattle.level_theory.specs.Levels.{Kind as Kinds, Form, LineCall, Level, arms, cards, header_outcome}
use Rattle.level_theory.specs.Reading.{Letter, letter_of, call_wants, call_of, formed, carried, setting_wants, header_level, header_of, read_header, read_call, read_call_at}
use Rattle.words.specs.declared.cursor.Misplaced.{Misplaced}
use Rattle.words.specs.Tokens.{Word}
use Rattle.words.specs.Cursors.{Part, got, end_of, first_word, words_after, place_after}
use Rattle.words.proofs.Parts.{whole, take_part}
use Rattle.lines.specs.declared.calls.CallLine.{CallLine}
use Rattle.lines.specs.declared.calls.CallLine.TheVariants.{Add, Drop, Near, Within, Island, Route}
use Rattle.lines.specs.declared.fault.ReadFault.{ReadFault}
use Rattle.lines.specs.declared.header.Kind.{Kind}
use Rattle.lines.specs.declared.header.Kind.TheVariants.{Arms, Cards}
use Rattle.lines.specs.declared.first.Asked.{Asked}
use Rattle.lines.specs.Faults.{fault_number, fault_figures, at_line_of}
use Rattle.lines.specs.Settings.{numbers_if}
use Rattle.lines.specs.Headers.{kind_shown, asked_numbers, settings_read, with_kind, header_read}
use Rattle.lines.specs.Calls.{sole, named, letter_shown, call_numbers, call_shown, call_part}
use Rattle.lines.proofs.Firsts.{letter_word}

pub ended : (ns : List ℕ) (ws : List (List ℕ)) (i : ℕ) → Ok tt ≡ end_of ws i → right ns ≡ whole (got ns ws i)
ended ns [] i e = refl
ended ns (w ∷ ws) i e = let n : ◌≡◌ {A = ℕ} 0 1 = cc in absurd (omega arith)

pub surplus : (ns : List ℕ) (ws : List (List ℕ)) (i : ℕ) (m : Misplaced) → Err m ≡ end_of ws i → wrong m.0 ≡ whole (got ns ws i)
surplus ns [] i m e = let n : ◌≡◌ {A = ℕ} 0 1 = cc in absurd (omega arith)
surplus ns (w ∷ ws) i m e = let same : m.0 ≡ i = cc in ap wrong same

-- the numbers behind a call's letter give the call
call_again : {E : Type 0} (listed : E → List ℕ) (call : CallLine E) → call_shown listed call ≡ call_of (letter_shown call) (call_numbers listed call)
call_again listed (Add e) = refl
call_again listed (Drop n) = refl
call_again listed (Near k e) = refl
call_again listed (Within r e) = refl
call_again listed (Island n) = refl
call_again listed (Route a b) = refl

-- the call that the numbers behind a letter give
abbrev pub call_said : ℕ → Option Letter → List ℕ → Outcome LineCall
call_said line None ns = refuses 8 (line ∷ (1 ∷ []))
call_said line (Some letter) ns = gives (call_of letter ns)

abbrev pub call_outcome : ℕ → Option Letter → Part → Outcome LineCall
call_outcome line letter p = formed line (whole p) (call_said line letter)

call_formed : (form : Form) (line : ℕ) (letter : Option Letter) (ws : List (List ℕ)) → read_call_at form line letter ws ≡ call_outcome line letter (call_part form letter ws 2)
call_formed form line None ws = refl
call_formed form line (Some letter) ws = ap (λ t. formed line t (λ ns. gives (call_of letter ns))) (take_part (call_wants form letter) ws 2)

call_by_word : (form : Form) (line : ℕ) (ws : List (List ℕ)) → read_call form line ws ≡ call_outcome line (named (sole (first_word ws 1))) (call_part form (named (sole (first_word ws 1))) (words_after ws) (place_after ws 1))
call_by_word form line [] = refl
call_by_word form line (w ∷ ws) =
    call_formed form line (letter_of w) ws
    ∙ ap (λ letter. call_outcome line letter (call_part form letter ws 2)) (letter_word w 1)

-- a call line, once its first word is taken
pub call_read : (form : Form) (ws : List (List ℕ)) (i : ℕ) (word : Word) (letter : Option ℕ) (vs : List (List ℕ)) (j : ℕ) (p : Part) → i ≡ 1 → letter ≡ sole word → word ≡ first_word ws i → vs ≡ words_after ws → j ≡ place_after ws i → p ≡ call_part form (named letter) vs j → (line : ℕ) → call_outcome line (named letter) p ≡ read_call form line ws
call_read form ws i word letter vs j p one a b f g taken line =
    let e : named letter ≡ named (sole (first_word ws 1)) = ap named (a ∙ ap sole (b ∙ ap (first_word ws) one)) in
    ap (call_outcome line (named letter)) taken
    ∙ ap (λ l. call_outcome line l (call_part form l vs j)) e
    ∙ ap (λ v. call_outcome line (named (sole (first_word ws 1))) (call_part form (named (sole (first_word ws 1))) v j)) f
    ∙ ap (λ k. call_outcome line (named (sole (first_word ws 1))) (call_part form (named (sole (first_word ws 1))) (words_after ws) k)) (g ∙ ap (place_after ws) one)
    ∙ sym (call_by_word form line ws)

pub call_gives : {E : Type 0} (listed : E → List ℕ) (call : CallLine E) (line : ℕ) (letter : Option Letter) (ws : List (List ℕ)) (i : ℕ) → Some (letter_shown call) ≡ letter → Ok tt ≡ end_of ws i → gives (call_shown listed call) ≡ call_outcome line letter (got (call_numbers listed call) ws i)
call_gives listed call line letter ws i e f =
    ap gives (call_again listed call) ∙ ap (λ l. call_said line l (call_numbers listed call)) e
    ∙ ap (λ t. formed line t (call_said line letter)) (ended (call_numbers listed call) ws i f)

pub call_surplus : (ns : List ℕ) (line : ℕ) (letter : Option Letter) (ws : List (List ℕ)) (i : ℕ) (m : Misplaced) → Err m ≡ end_of ws i → refuses 8 (line ∷ (m.0 ∷ [])) ≡ call_outcome line letter (got ns ws i)
call_surplus ns line letter ws i m e = ap (λ t. formed line t (call_said line letter)) (surplus ns ws i m e)

-- line 1, its settings looked at last
abbrev pub header_carried : Result (Kind × Asked) ReadFault → Outcome Level
header_carried (Ok found) = carried 1 (header_outcome found.1.degree found.1.bucket found.1.k) (header_level (kind_shown found.0) (asked_numbers found.1))
header_carried (Err fault) = refuses (fault_number fault) (fault_figures fault)

arms_carried : (t : Taken) → formed 1 t (λ ns. carried 1 (header_outcome (get_or ns 0 0) (get_or ns 1 0) (get_or ns 2 0)) (header_level arms ns)) ≡ header_carried (at_line_of 1 (with_kind (Ok Arms) (settings_read t)))
arms_carried (right ns) = refl
arms_carried (wrong p) = refl

cards_carried : (t : Taken) → formed 1 t (λ ns. carried 1 (header_outcome (get_or ns 0 0) (get_or ns 1 0) (get_or ns 2 0)) (header_level cards ns)) ≡ header_carried (at_line_of 1 (with_kind (Ok Cards) (settings_read t)))
cards_carried (right ns) = refl
cards_carried (wrong p) = refl

pub header_is : (ws : List (List ℕ)) → read_header 1 ws ≡ header_carried (at_line_of 1 (header_read ws 1))
header_is [] = refl
header_is (w ∷ ws) = elim (same_bytes w (codes "arm")) as (λ t. cond t (header_of 1 arms ws) (cond (same_bytes w (codes "card")) (header_of 1 cards ws) (refuses 8 (1 ∷ (1 ∷ [])))) ≡ header_carried (at_line_of 1 (with_kind (cond t (Ok Arms) (cond (same_bytes w (codes "card")) (Ok Cards) (Err (record { 0 = 1 })))) (settings_read (take_words setting_wants ws 2))))) [
  | true ↦ arms_carried (take_words setting_wants ws 2)
  | false ↦ elim (same_bytes w (codes "card")) as (λ t. cond t (header_of 1 cards ws) (refuses 8 (1 ∷ (1 ∷ []))) ≡ header_carried (at_line_of 1 (with_kind (cond t (Ok Cards) (Err (record { 0 = 1 }))) (settings_read (take_words setting_wants ws 2))))) [
    | true ↦ cards_carried (take_words setting_wants ws 2)
    | false ↦ refl
  ]
]

-- settings that are checked
pub checked_gives : (kind : Kinds) (o : Outcome Unit) (ms ns : List ℕ) → gives ms ≡ numbers_if o ns → gives (header_level kind ms) ≡ carried 1 o (header_level kind ns)
checked_gives kind (gives u) ms ns e = let same : ms ≡ ns = cc in ap (λ x. gives (header_level kind x)) same
checked_gives kind (refuses n figures) ms ns e = cc

pub checked_refuses : (kind : Kinds) (o : Outcome Unit) (n : ℕ) (figures ns : List ℕ) → refuses n figures ≡ numbers_if o ns → refuses n (1 ∷ figures) ≡ carried 1 o (header_level kind ns)
checked_refuses kind (gives u) n figures ns e = cc
checked_refuses kind (refuses m others) n figures ns e = let number : n ≡ m = cc in let same : figures ≡ others = cc in rw (number, same)
