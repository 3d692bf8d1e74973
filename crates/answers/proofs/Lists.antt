-- Lists that grow at their end.
use Rattle.std.proofs.Common.{◌≡◌, ℕ, ◌+◌, ◌<◌, List, [], ◌∷◌, ◌++◌, length, get_or, take, refl, ap, ◌∙◌, append_assoc}
use Rattle.std.proofs.lemmas.List.{take_more}
use Rattle.hits.specs.declared.Hit.{Hit}
use Rattle.answers.specs.Listing.{hit_numbers}

pub hit_numbers_append : (hs gs : List Hit) → hit_numbers (hs ++ gs) ≡ hit_numbers hs ++ hit_numbers gs
hit_numbers_append [] gs = refl
hit_numbers_append (h ∷ hs) gs = ap (λ ns. h.number ∷ (h.distance ∷ ns)) (hit_numbers_append hs gs)

-- one more hit
pub more_hits : (front new : List ℕ) (hs : List Hit) (d : Hit) (i n : ℕ) → i < length hs → n ≡ (get_or hs i d).number → new ≡ front ++ hit_numbers (take i hs) → (new ++ (n ∷ [])) ++ ((get_or hs i d).distance ∷ []) ≡ front ++ hit_numbers (take (i + 1) hs)
more_hits front new hs d i n l e f =
    let h : Hit = get_or hs i d in
    rw (f, e, take_more hs i d l, hit_numbers_append (take i hs) (h ∷ []))
    (append_assoc (front ++ hit_numbers (take i hs)) (h.number ∷ []) (h.distance ∷ []) ∙ append_assoc front (hit_numbers (take i hs)) (h.number ∷ (h.distance ∷ [])))
