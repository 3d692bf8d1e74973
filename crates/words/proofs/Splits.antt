-- Where a text is cut. Assumes nothing.
use Rattle.std.proofs.Common.{◌≡◌, ℕ, zero, suc, ◌+◌, ◌<◌, ◌≢◌, true, false, cond, eqb, List, [], ◌∷◌, length, get_or, take, drop, Some, None, Err, Option, sym, refl, ap, ◌∙◌, subst, add-one, arith, eq-eqb, ne_eqb}
use Rattle.std.specs.Option.{MatchOption}
use Rattle.std.specs.List.{AllWithin, HoldsAt}
use Rattle.level_theory.specs.Words.{onto, split}
use Rattle.words.specs.Cursors.{end_of}

split_same : (c b : ℕ) (bs : List ℕ) → b ≡ c → split c (b ∷ bs) ≡ [] ∷ split c bs
split_same c b bs e = ap (λ t. cond t ([] ∷ split c bs) (onto b (split c bs))) (eq-eqb b c e)

split_other : (c b : ℕ) (bs : List ℕ) → (b ≡ c → ⊥) → split c (b ∷ bs) ≡ onto b (split c bs)
split_other c b bs n = ap (λ t. cond t ([] ∷ split c bs) (onto b (split c bs))) (ne_eqb b c n)

pub split_suc : (c : ℕ) (text : List ℕ) (i : ℕ) → ((k : ℕ) → k < i → get_or text k 0 ≡ c → ⊥) → i < length text → get_or text i 0 ≡ c → split c text ≡ take i text ∷ split c (drop (suc i) text)
split_suc c [] i none h e = absurd (omega arith)
split_suc c (b ∷ bs) zero none h e = split_same c b bs e
split_suc c (b ∷ bs) (suc i) none h e =
    split_other c b bs (none 0 (omega arith))
    ∙ ap (onto b) (split_suc c bs i (λ k l. none (suc k) (omega arith)) (omega arith) e)

pub split_at : (c : ℕ) (text : List ℕ) (i : ℕ) → ((k : ℕ) → k < i → get_or text k 0 ≡ c → ⊥) → i < length text → get_or text i 0 ≡ c → split c text ≡ take i text ∷ split c (drop (i + 1) text)
split_at c text i none h e = split_suc c text i none h e ∙ ap (λ n. take i text ∷ split c (drop n text)) (sym (add-one i))

pub split_none : (c : ℕ) (text : List ℕ) → ((k : ℕ) → k < length text → get_or text k 0 ≡ c → ⊥) → split c text ≡ text ∷ []
split_none c [] none = refl
split_none c (b ∷ bs) none =
    split_other c b bs (none 0 (omega arith)) ∙ ap (onto b) (split_none c bs (λ k l. none (suc k) (omega arith)))

-- the pieces of a text that is cut at the first such byte
abbrev pub First : ℕ → List ℕ → Option ℕ → Type 0
First c text found = MatchOption found (AllWithin (λ b. b ≢ c) text 0 (length text)) (λ i. (i < length text) × HoldsAt (λ b. b ≡ c) text i × AllWithin (λ b. b ≢ c) text 0 i)

pub split_not_found : (c : ℕ) (text : List ℕ) (found : Option ℕ) → First c text found → found ≡ None → split c text ≡ text ∷ []
split_not_found c text None none e = split_none c text (λ k h. none k 0 (omega arith) h)
split_not_found c text (Some i) first e = cc

pub split_found : (c : ℕ) (text : List ℕ) (i : ℕ) (found : Option ℕ) → First c text found → found ≡ Some i → (i < length text) × (split c text ≡ take i text ∷ split c (drop (i + 1) text))
split_found c text i None none e = cc
split_found c text i (Some j) first e = let same : j ≡ i = cc in subst (λ k. (k < length text) × (split c text ≡ take k text ∷ split c (drop (k + 1) text))) same (first.0, split_at c text j (λ k h. first.2 k 0 (omega arith) h) first.0 (first.1 0))

-- a text has at least one piece
onto_end : (b : ℕ) (ws : List (List ℕ)) (i : ℕ) → Err (record { 0 = i }) ≡ end_of (onto b ws) i
onto_end b [] i = refl
onto_end b (w ∷ ws) i = refl

pub split_end : (c : ℕ) (text : List ℕ) (i : ℕ) → Err (record { 0 = i }) ≡ end_of (split c text) i
split_end c [] i = refl
split_end c (b ∷ bs) i = elim (eqb b c) as (λ t. Err (record { 0 = i }) ≡ end_of (cond t ([] ∷ split c bs) (onto b (split c bs))) i) [ true ↦ refl | false ↦ onto_end b (split c bs) i ]
