-- One line of a level: read at a stage exactly if it is written so there.
use Rattle.std.proofs.Common.{◌≡◌, ℕ, zero, suc, ◌^◌, ◌<◌, ◌≤◌, Bool, true, false, cond, List, [], ◌∷◌, ◌++◌, map, length, get_or, drop, Some, None, codes, decimal, Option, sym, refl, ap, ◌∙◌, subst, arith, lit<}
use Rattle.std.specs.List.{AllByRecursion}
use Rattle.index.specs.Outcomes.{Outcome, gives, refuses}
use Rattle.level_theory.specs.Words.{same_bytes, a_number, Taken, right, wrong, take_words}
use Rattle.level_theory.specs.Levels.{Kind, arms, cards, Form, form_of, LineCall, call_add, call_drop, call_near, call_within, call_island, call_route, Level, header_outcome, NumbersFit, WallFits, CallFits}
use Rattle.level_theory.specs.Texts.{kind_word, call_words, count_words}
use Rattle.level_theory.specs.Reading.{Stage, at_header, at_wall_count, at_walls, at_call_count, at_calls, at_end, walls_left, calls_left, number_wants, element_wants, setting_wants, count_wants, Letter, adds, drops, nears, withins, islands, routes, letter_of, call_wants, call_of, formed, carried, level_with, header_level, header_of, read_header, read_call_at, read_call, Progress, progress, then_level, then_call, read_line}
use Rattle.level_theory.proofs.Numbers.{number_right}
use Rattle.level_theory.proofs.Wanted.{spelled, Meets, Small, same_is, taken_right, taken_is}

-- a line at a stage, by its words, and where it leads
pub data Step : Stage → Level → List (List ℕ) → Progress → Type 0 where
  step_header : (level : Level) (kind : Kind) (degree bucket k : ℕ) → degree ≤ 1048576 → bucket ≤ 1048576 → k ≤ 1048576 → header_outcome degree bucket k ≡ gives tt → Step at_header level (kind_word kind ∷ (decimal degree ∷ (decimal bucket ∷ (decimal k ∷ [])))) (progress at_wall_count (header_level kind (degree ∷ (bucket ∷ (k ∷ [])))))
  step_wall_count : (level : Level) (n : ℕ) → n ≤ 64 → Step at_wall_count level (count_words (codes "walls") n) (progress (walls_left n) level)
  step_wall : (level : Level) (n : ℕ) (wall : List ℕ) → WallFits (form_of level.kind) wall → Step (at_walls (suc n)) level (map decimal wall) (progress (walls_left n) (level_with level (level.walls ++ (wall ∷ [])) level.calls))
  step_call_count : (level : Level) (n : ℕ) → n ≤ 512 → Step at_call_count level (count_words (codes "calls") n) (progress (calls_left n) level)
  step_call : (level : Level) (n : ℕ) (call : LineCall) → CallFits (form_of level.kind) call → Step (at_calls (suc n)) level (call_words call) (progress (calls_left n) (level_with level level.walls (level.calls ++ (call ∷ []))))

pub form_small : (kind : Kind) → (form_of kind).largest < 2 ^ 64
form_small arms = lit< tt
form_small cards = lit< tt

-- numbers of one limit
pub small_numbers : (n largest : ℕ) → largest < 2 ^ 64 → Small (number_wants n largest)
small_numbers zero largest h = tt
small_numbers (suc n) largest h = (h, small_numbers n largest h)

meets_numbers : (largest : ℕ) (ns : List ℕ) → AllByRecursion (λ n. n ≤ largest) ns → Meets (number_wants (length ns) largest) ns
meets_numbers largest [] h = tt
meets_numbers largest (n ∷ ns) h = (h.0, meets_numbers largest ns h.1)

numbers_met : (count largest : ℕ) (ns : List ℕ) → Meets (number_wants count largest) ns → NumbersFit count largest ns
numbers_met zero largest [] m = (refl, tt)
numbers_met zero largest (n ∷ ns) m = absurd m
numbers_met (suc count) largest [] m = absurd m
numbers_met (suc count) largest (n ∷ ns) m = let r = numbers_met count largest ns m.1 in (ap suc r.0, (m.0, r.1))

spelled_numbers : (count largest : ℕ) (ns : List ℕ) → length ns ≡ count → spelled (number_wants count largest) ns ≡ map decimal ns
spelled_numbers zero largest [] e = refl
spelled_numbers zero largest (n ∷ ns) e = absurd (omega arith)
spelled_numbers (suc count) largest [] e = absurd (omega arith)
spelled_numbers (suc count) largest (n ∷ ns) e = ap (λ ws. decimal n ∷ ws) (spelled_numbers count largest ns (omega arith))

taken_numbers : (count largest i : ℕ) (ns : List ℕ) → largest < 2 ^ 64 → NumbersFit count largest ns → take_words (number_wants count largest) (map decimal ns) i ≡ right ns
taken_numbers count largest i ns h f =
    let P : ℕ → Type 0 = λ n. Meets (number_wants n largest) ns in
    let Q : List (List ℕ) → Type 0 = λ ws. take_words (number_wants count largest) ws i ≡ right ns in
    subst Q (spelled_numbers count largest ns f.0) (taken_right (number_wants count largest) ns i (small_numbers count largest h) (subst P f.0 (meets_numbers largest ns f.1)))

numbers_taken : (count largest i : ℕ) (ws : List (List ℕ)) (ns : List ℕ) → largest < 2 ^ 64 → take_words (number_wants count largest) ws i ≡ right ns → (ws ≡ map decimal ns) × NumbersFit count largest ns
numbers_taken count largest i ws ns h e =
    let r = taken_is (number_wants count largest) ws i ns (small_numbers count largest h) e in
    let f = numbers_met count largest ns r.1 in
    (r.0 ∙ spelled_numbers count largest ns f.0, f)

-- a line that is written so is read so
module _ (line : ℕ) where
  header_right : (kind : Kind) (degree bucket k : ℕ) → degree ≤ 1048576 → bucket ≤ 1048576 → k ≤ 1048576 → header_outcome degree bucket k ≡ gives tt → read_header line (kind_word kind ∷ (decimal degree ∷ (decimal bucket ∷ (decimal k ∷ [])))) ≡ gives (header_level kind (degree ∷ (bucket ∷ (k ∷ []))))
  header_right kind degree bucket k d b l o =
      go kind
    where
      settings : take_words setting_wants (decimal degree ∷ (decimal bucket ∷ (decimal k ∷ []))) 2 ≡ right (degree ∷ (bucket ∷ (k ∷ [])))
      settings = taken_right setting_wants (degree ∷ (bucket ∷ (k ∷ []))) 2 (lit< tt, (lit< tt, (lit< tt, tt))) (d, (b, (l, tt)))

      go : (kind : Kind) → read_header line (kind_word kind ∷ (decimal degree ∷ (decimal bucket ∷ (decimal k ∷ [])))) ≡ gives (header_level kind (degree ∷ (bucket ∷ (k ∷ []))))
      go arms = rw (settings, o) refl
      go cards = rw (settings, o) refl

  pub call_right : (form : Form) (call : LineCall) → form.largest < 2 ^ 64 → CallFits form call → read_call form line (call_words call) ≡ gives call
  call_right form (call_add e) s f = rw (taken_numbers form.numbers form.largest 2 e s f) refl
  call_right form (call_drop n) s f = rw (taken_right (call_wants form drops) (n ∷ []) 2 (lit< tt, tt) (f, tt)) refl
  call_right form (call_near k e) s f = rw (number_right 1048576 k (lit< tt) f.0, taken_numbers form.numbers form.largest 3 e s f.1) refl
  call_right form (call_within r e) s f = rw (number_right 1048576 r (lit< tt) f.0, taken_numbers form.numbers form.largest 3 e s f.1) refl
  call_right form (call_island n) s f = rw (taken_right (call_wants form islands) (n ∷ []) 2 (lit< tt, tt) (f, tt)) refl
  call_right form (call_route a b) s f = rw (taken_right (call_wants form routes) (a ∷ (b ∷ [])) 2 (lit< tt, (lit< tt, tt)) (f.0, (f.1, tt))) refl

  pub read_right : (stage : Stage) (level : Level) (ws : List (List ℕ)) (p : Progress) → Step stage level ws p → read_line stage line level ws ≡ gives p
  read_right stage level ws p (step_header level' kind degree bucket k d b l o) = ap (λ x. then_level x (progress at_wall_count)) (header_right kind degree bucket k d b l o)
  read_right stage level ws p (step_wall_count level' n h) = rw (taken_right (count_wants (codes "walls") 64) (n ∷ []) 1 (lit< tt, tt) (h, tt)) refl
  read_right stage level ws p (step_wall level' n wall f) = rw (taken_numbers (form_of level.kind).wall_numbers (form_of level.kind).largest 1 wall (form_small level.kind) f) refl
  read_right stage level ws p (step_call_count level' n h) = rw (taken_right (count_wants (codes "calls") 512) (n ∷ []) 1 (lit< tt, tt) (h, tt)) refl
  read_right stage level ws p (step_call level' n call f) = ap (λ x. then_call x (λ c. progress (calls_left n) (level_with level level.walls (level.calls ++ (c ∷ []))))) (call_right (form_of level.kind) call (form_small level.kind) f)

-- what an outcome that gives says of its parts
pub formed_gives : {A : Type 0} (line : ℕ) (t : Taken) (f : List ℕ → Outcome A) (x : A) → formed line t f ≡ gives x → (ns : List ℕ) × (t ≡ right ns) × (f ns ≡ gives x)
formed_gives line (right ns) f x e = (ns, refl, e)
formed_gives line (wrong i) f x e = absurd (let z : ◌≡◌ {A = ℕ} 0 1 = cc in omega arith)

carried_gives : {A : Type 0} (line : ℕ) (o : Outcome Unit) (x y : A) → carried line o x ≡ gives y → (o ≡ gives tt) × (x ≡ y)
carried_gives line (gives u) x y e = (refl, cc)
carried_gives line (refuses n figures) x y e = absurd (let z : ◌≡◌ {A = ℕ} 0 1 = cc in omega arith)

level_gives : (o : Outcome Level) (f : Level → Progress) (p : Progress) → then_level o f ≡ gives p → (level : Level) × (o ≡ gives level) × (f level ≡ p)
level_gives (gives level) f p e = (level, refl, cc)
level_gives (refuses n figures) f p e = absurd (let z : ◌≡◌ {A = ℕ} 0 1 = cc in omega arith)

pub call_gives : (o : Outcome LineCall) (f : LineCall → Progress) (p : Progress) → then_call o f ≡ gives p → (call : LineCall) × (o ≡ gives call) × (f call ≡ p)
call_gives (gives call) f p e = (call, refl, cc)
call_gives (refuses n figures) f p e = absurd (let z : ◌≡◌ {A = ℕ} 0 1 = cc in omega arith)

given_same : {A : Type 0} (x y : A) → gives x ≡ gives y → x ≡ y
given_same x y e = cc

-- the word of a letter
abbrev Picked : List ℕ → Option Letter → Type 0
Picked w (Some adds) = w ≡ codes "a"
Picked w (Some drops) = w ≡ codes "d"
Picked w (Some nears) = w ≡ codes "n"
Picked w (Some withins) = w ≡ codes "w"
Picked w (Some islands) = w ≡ codes "i"
Picked w (Some routes) = w ≡ codes "r"
Picked w None = Unit {0}

pick : (w v : List ℕ) (l other : Option Letter) → (w ≡ v → Picked w l) → Picked w other → (b : Bool) → same_bytes w v ≡ b → Picked w (cond b l other)
pick w v l other is rest true e = is (same_is w v e)
pick w v l other is rest false e = rest

picked : (w : List ℕ) → Picked w (letter_of w)
picked w =
    pick w (codes "a") (Some adds) _ (λ e. e)
    (pick w (codes "d") (Some drops) _ (λ e. e)
    (pick w (codes "n") (Some nears) _ (λ e. e)
    (pick w (codes "w") (Some withins) _ (λ e. e)
    (pick w (codes "i") (Some islands) _ (λ e. e)
    (pick w (codes "r") (Some routes) None (λ e. e) tt _ refl) _ refl) _ refl) _ refl) _ refl) _ refl

-- a line that is read so is written so
abbrev CallIs : Form → List (List ℕ) → LineCall → Type 0
CallIs form ws call = (ws ≡ call_words call) × CallFits form call

module _ (line : ℕ) where
  one_number : (form : Form) (ws : List (List ℕ)) (ns : List ℕ) → take_words (a_number 65535 ∷ []) ws 2 ≡ right ns → (ws ≡ decimal (get_or ns 0 0) ∷ []) × (get_or ns 0 0 ≤ 65535)
  one_number form ws ns e = go ns (taken_is (a_number 65535 ∷ []) ws 2 ns (lit< tt, tt) e)
    where
      go : (ns : List ℕ) → (ws ≡ spelled (a_number 65535 ∷ []) ns) × Meets (a_number 65535 ∷ []) ns → (ws ≡ decimal (get_or ns 0 0) ∷ []) × (get_or ns 0 0 ≤ 65535)
      go [] r = absurd r.1
      go (n ∷ []) r = (r.0, r.1.0)
      go (n ∷ (m ∷ ns)) r = absurd r.1.1

  two_numbers : (ws : List (List ℕ)) (ns : List ℕ) → take_words (a_number 65535 ∷ (a_number 65535 ∷ [])) ws 2 ≡ right ns → (ws ≡ decimal (get_or ns 0 0) ∷ (decimal (get_or ns 1 0) ∷ [])) × ((get_or ns 0 0 ≤ 65535) × (get_or ns 1 0 ≤ 65535))
  two_numbers ws ns e = go ns (taken_is (a_number 65535 ∷ (a_number 65535 ∷ [])) ws 2 ns (lit< tt, (lit< tt, tt)) e)
    where
      go : (ns : List ℕ) → (ws ≡ spelled (a_number 65535 ∷ (a_number 65535 ∷ [])) ns) × Meets (a_number 65535 ∷ (a_number 65535 ∷ [])) ns → (ws ≡ decimal (get_or ns 0 0) ∷ (decimal (get_or ns 1 0) ∷ [])) × ((get_or ns 0 0 ≤ 65535) × (get_or ns 1 0 ≤ 65535))
      go [] r = absurd r.1
      go (n ∷ []) r = absurd r.1.1
      go (n ∷ (m ∷ [])) r = (r.0, (r.1.0, r.1.1.0))
      go (n ∷ (m ∷ (k ∷ ns))) r = absurd r.1.1.1

  number_and_element : (form : Form) (ws : List (List ℕ)) (ns : List ℕ) → form.largest < 2 ^ 64 → take_words (a_number 1048576 ∷ element_wants form) ws 2 ≡ right ns → (ws ≡ decimal (get_or ns 0 0) ∷ map decimal (drop 1 ns)) × ((get_or ns 0 0 ≤ 1048576) × NumbersFit form.numbers form.largest (drop 1 ns))
  number_and_element form ws ns s e = go ns (taken_is (a_number 1048576 ∷ element_wants form) ws 2 ns (lit< tt, small_numbers form.numbers form.largest s) e)
    where
      go : (ns : List ℕ) → (ws ≡ spelled (a_number 1048576 ∷ element_wants form) ns) × Meets (a_number 1048576 ∷ element_wants form) ns → (ws ≡ decimal (get_or ns 0 0) ∷ map decimal (drop 1 ns)) × ((get_or ns 0 0 ≤ 1048576) × NumbersFit form.numbers form.largest (drop 1 ns))
      go [] r = absurd r.1
      go (n ∷ ns) r = let f = numbers_met form.numbers form.largest ns r.1.1 in (r.0 ∙ ap (λ x. decimal n ∷ x) (spelled_numbers form.numbers form.largest ns f.0), (r.1.0, f))

  call_is_at : (form : Form) (w : List ℕ) (ws : List (List ℕ)) (call : LineCall) → form.largest < 2 ^ 64 → (l : Option Letter) → Picked w l → read_call_at form line l ws ≡ gives call → CallIs form (w ∷ ws) call
  call_is_at form w ws call s (Some adds) is e =
      let r = formed_gives line (take_words (call_wants form adds) ws 2) (λ ns. gives (call_of adds ns)) call e in
      let t = numbers_taken form.numbers form.largest 2 ws r.0 s r.1 in
      let P : LineCall → Type 0 = CallIs form (w ∷ ws) in
      let words = t.0 in
      subst P (given_same _ _ r.2) (cc, t.1)
  call_is_at form w ws call s (Some drops) is e =
      let r = formed_gives line (take_words (call_wants form drops) ws 2) (λ ns. gives (call_of drops ns)) call e in
      let t = one_number form ws r.0 r.1 in
      let P : LineCall → Type 0 = CallIs form (w ∷ ws) in
      let words = t.0 in
      subst P (given_same _ _ r.2) (cc, t.1)
  call_is_at form w ws call s (Some nears) is e =
      let r = formed_gives line (take_words (call_wants form nears) ws 2) (λ ns. gives (call_of nears ns)) call e in
      let t = number_and_element form ws r.0 s r.1 in
      let P : LineCall → Type 0 = CallIs form (w ∷ ws) in
      let words = t.0 in
      subst P (given_same _ _ r.2) (cc, t.1)
  call_is_at form w ws call s (Some withins) is e =
      let r = formed_gives line (take_words (call_wants form withins) ws 2) (λ ns. gives (call_of withins ns)) call e in
      let t = number_and_element form ws r.0 s r.1 in
      let P : LineCall → Type 0 = CallIs form (w ∷ ws) in
      let words = t.0 in
      subst P (given_same _ _ r.2) (cc, t.1)
  call_is_at form w ws call s (Some islands) is e =
      let r = formed_gives line (take_words (call_wants form islands) ws 2) (λ ns. gives (call_of islands ns)) call e in
      let t = one_number form ws r.0 r.1 in
      let P : LineCall → Type 0 = CallIs form (w ∷ ws) in
      let words = t.0 in
      subst P (given_same _ _ r.2) (cc, t.1)
  call_is_at form w ws call s (Some routes) is e =
      let r = formed_gives line (take_words (call_wants form routes) ws 2) (λ ns. gives (call_of routes ns)) call e in
      let t = two_numbers ws r.0 r.1 in
      let P : LineCall → Type 0 = CallIs form (w ∷ ws) in
      let words = t.0 in
      subst P (given_same _ _ r.2) (cc, t.1)
  call_is_at form w ws call s None is e = absurd (let z : ◌≡◌ {A = ℕ} 0 1 = cc in omega arith)

  call_is : (form : Form) (ws : List (List ℕ)) (call : LineCall) → form.largest < 2 ^ 64 → read_call form line ws ≡ gives call → CallIs form ws call
  call_is form [] call s e = absurd (let z : ◌≡◌ {A = ℕ} 0 1 = cc in omega arith)
  call_is form (w ∷ ws) call s e = call_is_at form w ws call s (letter_of w) (picked w) e

  -- line 1 of this kind
  header_step : (level : Level) (kind : Kind) (ws : List (List ℕ)) (given : Level) → header_of line kind ws ≡ gives given → Step at_header level (kind_word kind ∷ ws) (progress at_wall_count given)
  header_step level kind ws given e =
      let r = formed_gives line (take_words setting_wants ws 2) (λ ns. carried line (header_outcome (get_or ns 0 0) (get_or ns 1 0) (get_or ns 2 0)) (header_level kind ns)) given e in
      go r.0 (taken_is setting_wants ws 2 r.0 (lit< tt, (lit< tt, (lit< tt, tt))) r.1) r.2
    where
      go : (ns : List ℕ) → (ws ≡ spelled setting_wants ns) × Meets setting_wants ns → carried line (header_outcome (get_or ns 0 0) (get_or ns 1 0) (get_or ns 2 0)) (header_level kind ns) ≡ gives given → Step at_header level (kind_word kind ∷ ws) (progress at_wall_count given)
      go [] t o = absurd t.1
      go (d ∷ []) t o = absurd t.1.1
      go (d ∷ (b ∷ [])) t o = absurd t.1.1.1
      go (d ∷ (b ∷ (k ∷ (n ∷ ns)))) t o = absurd t.1.1.1.1
      go (d ∷ (b ∷ (k ∷ []))) t o =
          let c = carried_gives line (header_outcome d b k) (header_level kind (d ∷ (b ∷ (k ∷ [])))) given o in
          let P : List (List ℕ) → Type 0 = λ x. Step at_header level (kind_word kind ∷ x) (progress at_wall_count given) in
          let Q : Level → Type 0 = λ x. Step at_header level (kind_word kind ∷ spelled setting_wants (d ∷ (b ∷ (k ∷ [])))) (progress at_wall_count x) in
          subst P (sym t.0) (subst Q c.1 (step_header level kind d b k t.1.0 t.1.1.0 t.1.1.1.0 c.0))

  header_is : (level : Level) (ws : List (List ℕ)) (given : Level) → read_header line ws ≡ gives given → Step at_header level ws (progress at_wall_count given)
  header_is level [] given e = absurd (let z : ◌≡◌ {A = ℕ} 0 1 = cc in omega arith)
  header_is level (w ∷ ws) given e = one (same_bytes w (codes "arm")) refl e
    where
      with_word : (v : List ℕ) → w ≡ v → Step at_header level (v ∷ ws) (progress at_wall_count given) → Step at_header level (w ∷ ws) (progress at_wall_count given)
      with_word v is x = (let P : List ℕ → Type 0 = λ u. Step at_header level (u ∷ ws) (progress at_wall_count given) in subst P (sym is) x)

      two : (b : Bool) → same_bytes w (codes "card") ≡ b → cond b (header_of line cards ws) (refuses 8 (line ∷ (1 ∷ []))) ≡ gives given → Step at_header level (w ∷ ws) (progress at_wall_count given)
      two true is o = with_word (codes "card") (same_is w (codes "card") is) (header_step level cards ws given o)
      two false is o = absurd (let z : ◌≡◌ {A = ℕ} 0 1 = cc in omega arith)

      one : (b : Bool) → same_bytes w (codes "arm") ≡ b → cond b (header_of line arms ws) (cond (same_bytes w (codes "card")) (header_of line cards ws) (refuses 8 (line ∷ (1 ∷ [])))) ≡ gives given → Step at_header level (w ∷ ws) (progress at_wall_count given)
      one true is o = with_word (codes "arm") (same_is w (codes "arm") is) (header_step level arms ws given o)
      one false is o = two (same_bytes w (codes "card")) refl o

  -- a section's count
  count_is : (word : List ℕ) (most : ℕ) (ws : List (List ℕ)) (ns : List ℕ) → most < 2 ^ 64 → take_words (count_wants word most) ws 1 ≡ right ns → (ws ≡ count_words word (get_or ns 0 0)) × (get_or ns 0 0 ≤ most)
  count_is word most ws ns s e = go ns (taken_is (count_wants word most) ws 1 ns (s, tt) e)
    where
      go : (ns : List ℕ) → (ws ≡ spelled (count_wants word most) ns) × Meets (count_wants word most) ns → (ws ≡ count_words word (get_or ns 0 0)) × (get_or ns 0 0 ≤ most)
      go [] r = absurd r.1
      go (n ∷ []) r = (r.0, r.1.0)
      go (n ∷ (m ∷ ns)) r = absurd r.1.1

  pub read_is : (stage : Stage) (level : Level) (ws : List (List ℕ)) (p : Progress) → read_line stage line level ws ≡ gives p → Step stage level ws p
  read_is at_header level ws p e =
      let r = level_gives (read_header line ws) (progress at_wall_count) p e in
      let P : Progress → Type 0 = Step at_header level ws in
      subst P r.2 (header_is level ws r.0 r.1)
  read_is at_wall_count level ws p e =
      let r = formed_gives line (take_words (count_wants (codes "walls") 64) ws 1) (λ ns. gives (progress (walls_left (get_or ns 0 0)) level)) p e in
      let t = count_is (codes "walls") 64 ws r.0 (lit< tt) r.1 in
      let P : Progress → Type 0 = Step at_wall_count level ws in
      let Q : List (List ℕ) → Type 0 = λ x. Step at_wall_count level x (progress (walls_left (get_or r.0 0 0)) level) in
      subst P (given_same _ _ r.2) (subst Q (sym t.0) (step_wall_count level (get_or r.0 0 0) t.1))
  read_is (at_walls zero) level ws p e = absurd (let z : ◌≡◌ {A = ℕ} 0 1 = cc in omega arith)
  read_is (at_walls (suc n)) level ws p e =
      let form : Form = form_of level.kind in
      let f : List ℕ → Progress = λ ns. progress (walls_left n) (level_with level (level.walls ++ (ns ∷ [])) level.calls) in
      let r = formed_gives line (take_words (number_wants form.wall_numbers form.largest) ws 1) (λ ns. gives (f ns)) p e in
      let t = numbers_taken form.wall_numbers form.largest 1 ws r.0 (form_small level.kind) r.1 in
      let P : Progress → Type 0 = Step (at_walls (suc n)) level ws in
      let Q : List (List ℕ) → Type 0 = λ x. Step (at_walls (suc n)) level x (f r.0) in
      subst P (given_same _ _ r.2) (subst Q (sym t.0) (step_wall level n r.0 t.1))
  read_is at_call_count level ws p e =
      let r = formed_gives line (take_words (count_wants (codes "calls") 512) ws 1) (λ ns. gives (progress (calls_left (get_or ns 0 0)) level)) p e in
      let t = count_is (codes "calls") 512 ws r.0 (lit< tt) r.1 in
      let P : Progress → Type 0 = Step at_call_count level ws in
      let Q : List (List ℕ) → Type 0 = λ x. Step at_call_count level x (progress (calls_left (get_or r.0 0 0)) level) in
      subst P (given_same _ _ r.2) (subst Q (sym t.0) (step_call_count level (get_or r.0 0 0) t.1))
  read_is (at_calls zero) level ws p e = absurd (let z : ◌≡◌ {A = ℕ} 0 1 = cc in omega arith)
  read_is (at_calls (suc n)) level ws p e =
      let f : LineCall → Progress = λ call. progress (calls_left n) (level_with level level.walls (level.calls ++ (call ∷ []))) in
      let r = call_gives (read_call (form_of level.kind) line ws) f p e in
      let t = call_is (form_of level.kind) ws r.0 (form_small level.kind) r.1 in
      let P : Progress → Type 0 = Step (at_calls (suc n)) level ws in
      let Q : List (List ℕ) → Type 0 = λ x. Step (at_calls (suc n)) level x (f r.0) in
      subst P r.2 (subst Q (sym t.0) (step_call level n r.0 t.1))
  read_is at_end level ws p e = absurd (let z : ◌≡◌ {A = ℕ} 0 1 = cc in omega arith)
