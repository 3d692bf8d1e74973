-- Cutting a text at a byte, and joining its pieces.
use Rattle.std.proofs.Common.{◌≡◌, ℕ, Bool, true, false, cond, eqb, List, [], ◌∷◌, ◌++◌, map, sym, refl, ap, ◌∙◌, append_assoc, eq-eqb, eqb-true}
use Rattle.std.specs.List.{AllByRecursion}
use Rattle.level_theory.specs.Words.{onto, split}
use Rattle.level_theory.specs.Texts.{joined, Without, SomePiece, spaced, lines_of}

onto_some : (b : ℕ) (ws : List (List ℕ)) → SomePiece (onto b ws)
onto_some b [] = tt
onto_some b (w ∷ ws) = tt

pub split_some : (c : ℕ) (bs : List ℕ) → SomePiece (split c bs)
split_some c [] = tt
split_some c (b ∷ bs) = go (eqb b c)
  where
    go : (t : Bool) → SomePiece (cond t ([] ∷ split c bs) (onto b (split c bs)))
    go true = tt
    go false = onto_some b (split c bs)

joined_onto : (c b : ℕ) (ws : List (List ℕ)) → SomePiece ws → joined c (onto b ws) ≡ b ∷ joined c ws
joined_onto c b [] s = absurd s
joined_onto c b (w ∷ []) s = refl
joined_onto c b (w ∷ (v ∷ ws)) s = refl

joined_empty : (c : ℕ) (ws : List (List ℕ)) → SomePiece ws → joined c ([] ∷ ws) ≡ c ∷ joined c ws
joined_empty c [] s = absurd s
joined_empty c (w ∷ ws) s = refl

-- the pieces give the text back
pub joined_split : (c : ℕ) (bs : List ℕ) → joined c (split c bs) ≡ bs
joined_split c [] = refl
joined_split c (b ∷ bs) = go (joined_split c bs) (eqb b c) refl
  where
    go : joined c (split c bs) ≡ bs → (t : Bool) → eqb b c ≡ t → joined c (cond t ([] ∷ split c bs) (onto b (split c bs))) ≡ b ∷ bs
    go e true f = joined_empty c (split c bs) (split_some c bs) ∙ (ap (λ x. c ∷ x) e ∙ ap (λ x. x ∷ bs) (sym (eqb-true b c f)))
    go e false f = joined_onto c b (split c bs) (split_some c bs) ∙ ap (λ x. b ∷ x) e

-- a piece that ends with the byte
pub split_append : (c : ℕ) (w rest : List ℕ) → Without c w → split c (w ++ (c ∷ rest)) ≡ w ∷ split c rest
split_append c [] rest h = rw (eq-eqb c c refl) refl
split_append c (b ∷ w) rest h = rw (h.0, split_append c w rest h.1) refl

pub split_last : (c : ℕ) (w : List ℕ) → Without c w → split c w ≡ w ∷ []
split_last c [] h = refl
split_last c (b ∷ w) h = rw (h.0, split_last c w h.1) refl

pub split_joined : (c : ℕ) (ws : List (List ℕ)) → SomePiece ws → AllByRecursion (Without c) ws → split c (joined c ws) ≡ ws
split_joined c [] s h = absurd s
split_joined c (w ∷ []) s h = split_last c w h.0
split_joined c (w ∷ (v ∷ ws)) s h = split_append c w (joined c (v ∷ ws)) h.0 ∙ ap (λ x. w ∷ x) (split_joined c (v ∷ ws) tt h.1)

-- lines and what follows the last
pub split_lines : (lss : List (List (List ℕ))) → AllByRecursion (λ ws. Without 10 (spaced ws)) lss → split 10 (lines_of lss) ≡ map spaced lss ++ ([] ∷ [])
split_lines [] h = refl
split_lines (ws ∷ rest) h =
    ap (split 10) (append_assoc (spaced ws) (10 ∷ []) (lines_of rest)) ∙ (split_append 10 (spaced ws) (lines_of rest) h.0 ∙ ap (λ x. spaced ws ∷ x) (split_lines rest h.1))

joined_more : (w : List ℕ) (ws : List (List ℕ)) → SomePiece ws → joined 10 (w ∷ ws) ≡ w ++ (10 ∷ joined 10 ws)
joined_more w [] s = absurd s
joined_more w (v ∷ ws) s = refl

ended_some : (xs : List (List ℕ)) → SomePiece (xs ++ ([] ∷ []))
ended_some [] = tt
ended_some (x ∷ xs) = tt

pub joined_lines : (lss : List (List (List ℕ))) → joined 10 (map spaced lss ++ ([] ∷ [])) ≡ lines_of lss
joined_lines [] = refl
joined_lines (ws ∷ rest) =
    joined_more (spaced ws) (map spaced rest ++ ([] ∷ [])) (ended_some (map spaced rest)) ∙ (ap (λ x. spaced ws ++ (10 ∷ x)) (joined_lines rest) ∙ sym (append_assoc (spaced ws) (10 ∷ []) (lines_of rest)))
