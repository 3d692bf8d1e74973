-- One line that is refused: the first wrong word of it.
use Rattle.std.proofs.Common.{◌≡◌, ℕ, suc, ◌^◌, ◌<◌, ◌≤◌, Bool, true, false, cond, List, [], ◌∷◌, ◌++◌, get_or, codes, decimal, sym, refl, ap, ◌∙◌, subst, arith, lit<, Some, None, Option}
use Rattle.index.specs.Outcomes.{Outcome, gives, refuses}
use Rattle.level_theory.specs.Words.{same_bytes, Want, Taken, right, wrong, take_words}
use Rattle.level_theory.specs.Levels.{Kind, arms, cards, Form, form_of, LineCall, call_drop, Level, header_outcome}
use Rattle.level_theory.specs.Texts.{kind_word}
use Rattle.level_theory.specs.Reading.{Stage, at_calls, calls_left, setting_wants, Letter, adds, drops, nears, withins, islands, routes, letter_of, call_wants, call_of, formed, carried, level_with, header_level, header_of, read_header, read_call_at, read_call, Progress, progress, then_call, read_line}
use Rattle.level_theory.specs.Refusing.{lacking, wrong_word}
use Rattle.level_theory.proofs.Wanted.{spelled, Meets, Small, same_itself, same_is, taken_right, taken_is}
use Rattle.level_theory.proofs.Steps.{form_small, small_numbers, call_right, formed_gives, call_gives}
use Rattle.level_theory.proofs.Wrong.{WrongFrom, behind, of_same, at_once, Spelled, some_spelled, take_wrong}
use Rattle.level_theory.proofs.Beyond.{SettingsRefused, settings_refused}

-- refused for a word
pub record Misread (IsLine : List (List ℕ) → Type 0) (line i : ℕ) (ws : List (List ℕ)) (n : ℕ) (figures : List ℕ) : Type 0 where
  pub number : n ≡ 8
  pub place : ℕ
  pub told : figures ≡ line ∷ (place ∷ [])
  pub wrong : WrongFrom IsLine ws i place

module _ {A : Type 0} (line i : ℕ) (xs : List Want) (f : List ℕ → A) (small : Small xs) where
  abbrev pub FormRead : List (List ℕ) → Type 0
  FormRead ws = (x : A) × (formed line (take_words xs ws i) (λ ns. gives (f ns)) ≡ gives x)

  pub form_up : (ws : List (List ℕ)) → Spelled xs ws → FormRead ws
  form_up ws s = (f s.0, rw (s.2, taken_right xs s.0 i small s.1) refl)

  pub form_down : (ws : List (List ℕ)) → FormRead ws → Spelled xs ws
  form_down ws r = (let g = formed_gives line (take_words xs ws i) (λ ns. gives (f ns)) r.0 r.1 in let t = taken_is xs ws i g.0 small g.1 in (g.0, t.1, t.0))

  pub form_misread : (ws : List (List ℕ)) (n : ℕ) (figures : List ℕ) → formed line (take_words xs ws i) (λ ns. gives (f ns)) ≡ refuses n figures → Misread (Spelled xs) line i ws n figures
  form_misread ws n figures e = go (take_words xs ws i) refl e
    where
      go : (t : Taken) → take_words xs ws i ≡ t → formed line t (λ ns. gives (f ns)) ≡ refuses n figures → Misread (Spelled xs) line i ws n figures
      go (right ns) g o = absurd (cc)
      go (wrong j) g o = record { number = cc; place = j; told = cc; wrong = take_wrong xs ws i j small g }

pub misread_same : (A B : List (List ℕ) → Type 0) → ((ws : List (List ℕ)) → A ws → B ws) → ((ws : List (List ℕ)) → B ws → A ws) → (line i : ℕ) (ws : List (List ℕ)) (n : ℕ) (figures : List ℕ) → Misread A line i ws n figures → Misread B line i ws n figures
misread_same A B up down line i ws n figures m = record { number = m.number; place = m.place; told = m.told; wrong = of_same A B up down ws i m.place m.wrong }

-- a line of one form
pub fixed : {A : Type 0} (line : ℕ) (xs : List Want) (f : List ℕ → A) (small : Small xs) (ws : List (List ℕ)) (n : ℕ) (figures : List ℕ) → formed line (take_words xs ws 1) (λ ns. gives (f ns)) ≡ refuses n figures → Misread (FormRead line 1 xs f small) line 1 ws n figures
fixed line xs f small ws n figures e = misread_same (Spelled xs) (FormRead line 1 xs f small) (form_up line 1 xs f small) (form_down line 1 xs f small) line 1 ws n figures (form_misread line 1 xs f small ws n figures e)

-- a call
abbrev CallRead : Form → ℕ → List (List ℕ) → Type 0
CallRead form line ws = (call : LineCall) × (read_call form line ws ≡ gives call)

module _ (form : Form) (line : ℕ) (small : form.largest < 2 ^ 64) where
  some_call : CallRead form line (codes "d" ∷ (decimal 0 ∷ []))
  some_call = (call_drop 0, call_right line form (call_drop 0) small (omega arith))

  wants_small : (letter : Letter) → Small (call_wants form letter)
  wants_small adds = small_numbers form.numbers form.largest small
  wants_small drops = (lit< tt, tt)
  wants_small nears = (lit< tt, small_numbers form.numbers form.largest small)
  wants_small withins = (lit< tt, small_numbers form.numbers form.largest small)
  wants_small islands = (lit< tt, tt)
  wants_small routes = (lit< tt, (lit< tt, tt))

  -- of this letter
  of_letter : (w : List ℕ) (l : Letter) → letter_of w ≡ Some l → (ws : List (List ℕ)) (n : ℕ) (figures : List ℕ) → read_call_at form line (Some l) ws ≡ refuses n figures → Misread (CallRead form line) line 1 (w ∷ ws) n figures
  of_letter w l is ws n figures e =
      let m = form_misread line 2 (call_wants form l) (call_of l) (wants_small l) ws n figures e in
      let at : (more : List (List ℕ)) → read_call form line (w ∷ more) ≡ formed line (take_words (call_wants form l) more 2) (λ ns. gives (call_of l ns)) = λ more. ap (λ x. read_call_at form line x more) is in
      record {
        number = m.number;
        place = m.place;
        told = m.told;
        wrong = behind (Spelled (call_wants form l)) (CallRead form line) w
            (λ more x. let r = form_up line 2 (call_wants form l) (call_of l) (wants_small l) more x in (r.0, at more ∙ r.1))
            (λ more x. form_down line 2 (call_wants form l) (call_of l) (wants_small l) more (x.0, sym (at more) ∙ x.1))
            ws 1 m.place m.wrong;
      }

  call_misread : (ws : List (List ℕ)) (n : ℕ) (figures : List ℕ) → read_call form line ws ≡ refuses n figures → Misread (CallRead form line) line 1 ws n figures
  call_misread [] n figures e = record {
    number = cc;
    place = 1;
    told = cc;
    wrong = at_once (CallRead form line) [] (codes "d" ∷ (decimal 0 ∷ [])) 1 some_call (lacking refl (λ x. let y = x.1 in cc));
  }
  call_misread (w ∷ ws) n figures e = go (letter_of w) refl e
    where
      go : (l : Option Letter) → letter_of w ≡ l → read_call_at form line l ws ≡ refuses n figures → Misread (CallRead form line) line 1 (w ∷ ws) n figures
      go (Some l) is o = of_letter w l is ws n figures o
      go None is o =
          let never : (more : List (List ℕ)) → CallRead form line (w ∷ more) → ⊥ = λ more x. (let y = sym (ap (λ l. read_call_at form line l more) is) ∙ x.1 in cc) in
          record {
            number = cc;
            place = 1;
            told = cc;
            wrong = at_once (CallRead form line) (w ∷ ws) (codes "d" ∷ (decimal 0 ∷ [])) 1 some_call (wrong_word w ws refl never);
          }

-- a line at a stage behind the header
abbrev pub Reads : Stage → ℕ → Level → List (List ℕ) → Type 0
Reads stage line level ws = (p : Progress) × (read_line stage line level ws ≡ gives p)

then_refuses : (o : Outcome LineCall) (f : LineCall → Progress) (n : ℕ) (figures : List ℕ) → then_call o f ≡ refuses n figures → o ≡ refuses n figures
then_refuses (gives call) f n figures e = absurd (cc)
then_refuses (refuses m others) f n figures e = cc

pub call_line_misread : (line m : ℕ) (level : Level) (ws : List (List ℕ)) (n : ℕ) (figures : List ℕ) → read_line (at_calls (suc m)) line level ws ≡ refuses n figures → Misread (Reads (at_calls (suc m)) line level) line 1 ws n figures
call_line_misread line m level ws n figures e =
    let F : LineCall → Progress = λ call. progress (calls_left m) (level_with level level.walls (level.calls ++ (call ∷ []))) in
    let small = form_small level.kind in
    misread_same (CallRead (form_of level.kind) line) (Reads (at_calls (suc m)) line level)
    (λ x r. (F r.0, ap (λ o. then_call o F) r.1))
    (λ x r. let g = call_gives (read_call (form_of level.kind) line x) F r.0 r.1 in (g.0, g.1))
    line 1 ws n figures (call_misread (form_of level.kind) line small ws n figures (then_refuses (read_call (form_of level.kind) line ws) F n figures e))

-- line 1
abbrev pub HeaderLine : List (List ℕ) → Type 0
HeaderLine ws = (kind : Kind) × (rest : List (List ℕ)) × (ws ≡ kind_word kind ∷ rest) × Spelled setting_wants rest

-- line 1 has its form, with settings that are refused
pub record SettingsRead (line : ℕ) (ws : List (List ℕ)) (n : ℕ) (figures : List ℕ) : Type 0 where
  pub kind : Kind
  pub degree : ℕ
  pub bucket : ℕ
  pub k : ℕ
  pub small : (degree ≤ 1048576) × (bucket ≤ 1048576) × (k ≤ 1048576)
  pub words : ws ≡ kind_word kind ∷ (decimal degree ∷ (decimal bucket ∷ (decimal k ∷ [])))
  pub others : List ℕ
  pub refused : SettingsRefused degree bucket k n others
  pub told : figures ≡ line ∷ others

pub data HeaderMisread (line : ℕ) (ws : List (List ℕ)) (n : ℕ) (figures : List ℕ) : Type 0 where
  in_word : Misread HeaderLine line 1 ws n figures → HeaderMisread line ws n figures
  in_setting : SettingsRead line ws n figures → HeaderMisread line ws n figures

carried_refuses : {A : Type 0} (line : ℕ) (o : Outcome Unit) (x : A) (n : ℕ) (figures : List ℕ) → carried line o x ≡ refuses n figures → (others : List ℕ) × (o ≡ refuses n others) × (figures ≡ line ∷ others)
carried_refuses line (gives u) x n figures e = absurd (cc)
carried_refuses line (refuses m others) x n figures e = (others, cc, cc)

some_header : HeaderLine (codes "arm" ∷ (some_spelled setting_wants).0)
some_header = (arms, (some_spelled setting_wants).0, refl, (some_spelled setting_wants).1)

module _ (line : ℕ) where
  settings_misread : (kind : Kind) (ws : List (List ℕ)) (n : ℕ) (figures : List ℕ) → header_of line kind ws ≡ refuses n figures → HeaderMisread line (kind_word kind ∷ ws) n figures
  settings_misread kind ws n figures e = go (take_words setting_wants ws 2) refl e
    where
      three : (ns : List ℕ) → (ws ≡ spelled setting_wants ns) × Meets setting_wants ns → carried line (header_outcome (get_or ns 0 0) (get_or ns 1 0) (get_or ns 2 0)) (header_level kind ns) ≡ refuses n figures → HeaderMisread line (kind_word kind ∷ ws) n figures
      three [] t o = absurd t.1
      three (d ∷ []) t o = absurd t.1.1
      three (d ∷ (b ∷ [])) t o = absurd t.1.1.1
      three (d ∷ (b ∷ (k ∷ (m ∷ ns)))) t o = absurd t.1.1.1.1
      three (d ∷ (b ∷ (k ∷ []))) t o =
          let c = carried_refuses line (header_outcome d b k) (header_level kind (d ∷ (b ∷ (k ∷ [])))) n figures o in
          in_setting record { kind = kind; degree = d; bucket = b; k = k; small = (t.1.0, t.1.1.0, t.1.1.1.0); words = ap (λ x. kind_word kind ∷ x) t.0; others = c.0; refused = settings_refused d b k n c.0 c.1; told = c.2 }

      down : (more : List (List ℕ)) → HeaderLine (kind_word kind ∷ more) → Spelled setting_wants more
      down more x = let e = x.2 in let same : x.1 ≡ more = cc in subst (Spelled setting_wants) same x.3

      go : (t : Taken) → take_words setting_wants ws 2 ≡ t → formed line t (λ ns. carried line (header_outcome (get_or ns 0 0) (get_or ns 1 0) (get_or ns 2 0)) (header_level kind ns)) ≡ refuses n figures → HeaderMisread line (kind_word kind ∷ ws) n figures
      go (right ns) g o = three ns (taken_is setting_wants ws 2 ns (lit< tt, (lit< tt, (lit< tt, tt))) g) o
      go (wrong j) g o = in_word record {
        number = cc;
        place = j;
        told = cc;
        wrong = behind (Spelled setting_wants) HeaderLine (kind_word kind) (λ more x. (kind, more, refl, x)) down ws 1 j (take_wrong setting_wants ws 2 j (lit< tt, (lit< tt, (lit< tt, tt))) g);
      }

  pub header_misread : (ws : List (List ℕ)) (n : ℕ) (figures : List ℕ) → read_header line ws ≡ refuses n figures → HeaderMisread line ws n figures
  header_misread [] n figures e = in_word record {
    number = cc;
    place = 1;
    told = cc;
    wrong = at_once HeaderLine [] (codes "arm" ∷ (some_spelled setting_wants).0) 1 some_header (lacking refl (λ x. let y = x.2 in cc));
  }
  header_misread (w ∷ ws) n figures e = one (same_bytes w (codes "arm")) refl e
    where
      with_word : (v : List ℕ) → w ≡ v → HeaderMisread line (v ∷ ws) n figures → HeaderMisread line (w ∷ ws) n figures
      with_word v is x = (let P : List ℕ → Type 0 = λ u. HeaderMisread line (u ∷ ws) n figures in subst P (sym is) x)

      not_word : (v : List ℕ) → same_bytes w v ≡ false → w ≡ v → ⊥
      not_word v f e = (let P : List ℕ → Type 0 = λ u. same_bytes u v ≡ false in let g = subst P e f in let h = same_itself v in cc)

      never : same_bytes w (codes "arm") ≡ false → same_bytes w (codes "card") ≡ false → (more : List (List ℕ)) → HeaderLine (w ∷ more) → ⊥
      never f g more (arms, rest, e, s) = not_word (codes "arm") f (cc)
      never f g more (cards, rest, e, s) = not_word (codes "card") g (cc)

      two : same_bytes w (codes "arm") ≡ false → (b : Bool) → same_bytes w (codes "card") ≡ b → cond b (header_of line cards ws) (refuses 8 (line ∷ (1 ∷ []))) ≡ refuses n figures → HeaderMisread line (w ∷ ws) n figures
      two f true is o = with_word (codes "card") (same_is w (codes "card") is) (settings_misread cards ws n figures o)
      two f false is o = in_word record {
        number = cc;
        place = 1;
        told = cc;
        wrong = at_once HeaderLine (w ∷ ws) (codes "arm" ∷ (some_spelled setting_wants).0) 1 some_header (wrong_word w ws refl (never f is));
      }

      one : (b : Bool) → same_bytes w (codes "arm") ≡ b → cond b (header_of line arms ws) (cond (same_bytes w (codes "card")) (header_of line cards ws) (refuses 8 (line ∷ (1 ∷ [])))) ≡ refuses n figures → HeaderMisread line (w ∷ ws) n figures
      one true is o = with_word (codes "arm") (same_is w (codes "arm") is) (settings_misread arms ws n figures o)
      one false is o = two is (same_bytes w (codes "card")) refl o
