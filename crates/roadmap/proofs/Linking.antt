-- The record of a new sample, hit by hit. Assumes nothing.
use Rattle.std.proofs.Common.{◌≡◌, ℕ, ◌+◌, ◌<◌, ◌≤◌, Bool, true, false, cond, List, [], ◌∷◌, ◌++◌, length, get_or, take, set, replicate, Some, None, filter, Option, sym, refl, ap, ◌∙◌, subst, arith, length-set}
use Rattle.std.proofs.lemmas.List.{append-nil, take_all, take_more_set, length_push}
use Rattle.std.proofs.lemmas.List.Elements.{filter_more}
use Rattle.hits.specs.declared.Hit.{Hit}
use Rattle.index.specs.Meaning.{Meaning, element_at}
use Rattle.index.specs.Outcomes.{gives, refuses}
use Rattle.index.specs.Calls.{element_outcome, standing_outcome}
use Rattle.links.specs.declared.Links.{Links}
use Rattle.roadmap.specs.Calls.{passes_hit, LinkedTo}

-- what an answer to `element` says of the samples
pub element_none : {E : Type 0} (m : Meaning E) (n code : ℕ) (figures : List ℕ) → refuses code figures ≡ element_outcome m n → element_at n m.standing ≡ None
element_none {E} m n code figures e = go (element_at n m.standing) refl e
  where
    go : (o : Option E) → element_at n m.standing ≡ o → refuses code figures ≡ standing_outcome (λ x. x) n o → element_at n m.standing ≡ None
    go None p q = p
    go (Some f) p q = absurd (let z : ◌≡◌ {A = ℕ} 0 1 = cc in omega arith)

pub element_some : {E : Type 0} (m : Meaning E) (n : ℕ) (x : E) → gives x ≡ element_outcome m n → element_at n m.standing ≡ Some x
element_some {E} m n x e = go (element_at n m.standing) refl e
  where
    go : (o : Option E) → element_at n m.standing ≡ o → gives x ≡ standing_outcome (λ x. x) n o → element_at n m.standing ≡ Some x
    go None p q = absurd (let z : ◌≡◌ {A = ℕ} 0 1 = cc in omega arith)
    go (Some f) p q = let r : f ≡ x = cc in p ∙ ap Some r

-- the first `count` elders are those of the first i hits that pass
pub record SoFar {E : Type 0} (passes : E → E → Bool) (e : E) (m : Meaning E) (n : ℕ) (hits : List Hit) (i : ℕ) (own : Links) (count : ℕ) : Type 0 where
  pub number : own.number ≡ n
  pub places : length own.elders ≡ 8
  pub few : count ≤ i
  pub elder : take count own.elders ≡ filter (passes_hit passes e m) (take i hits)
  pub counted : count ≡ length (filter (passes_hit passes e m) (take i hits))

module _ {E : Type 0} (passes : E → E → Bool) (e : E) (m : Meaning E) (n : ℕ) (hits : List Hit) (i : ℕ) (own : Links) (count : ℕ) (s : SoFar passes e m n hits i own count) (l : i < length hits) (h : Hit) (is : h ≡ get_or hits i h) where
  next : (t : Bool) → passes_hit passes e m h ≡ t → filter (passes_hit passes e m) (take (i + 1) hits) ≡ filter (passes_hit passes e m) (take i hits) ++ cond t (h ∷ []) []
  next t q = filter_more (passes_hit passes e m) hits i h l ∙ ap (λ z. filter (passes_hit passes e m) (take i hits) ++ z) (ap (λ z. cond (passes_hit passes e m z) (z ∷ []) []) (sym is) ∙ ap (λ t. cond t (h ∷ []) []) q)

  -- not passed
  pub link_not : passes_hit passes e m h ≡ false → SoFar passes e m n hits (i + 1) own count
  link_not q =
      let same : filter (passes_hit passes e m) (take (i + 1) hits) ≡ filter (passes_hit passes e m) (take i hits) = next false q ∙ append-nil (filter (passes_hit passes e m) (take i hits)) in
      record { number = s.number; places = s.places; few = omega (arith, s.few); elder = s.elder ∙ sym same; counted = s.counted ∙ ap length (sym same) }

  -- passed
  pub link_more : count < 8 → passes_hit passes e m h ≡ true → SoFar passes e m n hits (i + 1) (record { number = own.number; count = own.count; elders = set own.elders count h }) (count + 1)
  link_more c q =
      let ks = filter (passes_hit passes e m) (take i hits) in
      let more : filter (passes_hit passes e m) (take (i + 1) hits) ≡ ks ++ (h ∷ []) = next true q in
      record {
        number = s.number;
        places = simp length-set s.places;
        few = omega (arith, s.few);
        elder = take_more_set own.elders count h (omega (arith, s.places)) ∙ (ap (λ z. z ++ (h ∷ [])) s.elder ∙ sym more);
        counted = omega (arith, s.counted, length_push ks h) ∙ ap length (sym more);
      }

pub so_far_as : {E : Type 0} (passes : E → E → Bool) (e : E) (m : Meaning E) (n : ℕ) (hits : List Hit) (i : ℕ) (own other : Links) (count more : ℕ) → own ≡ other → count ≡ more → SoFar passes e m n hits i other more → SoFar passes e m n hits i own count
so_far_as passes e m n hits i own other count more p q s =
    let P : Links → Type 0 = λ z. SoFar passes e m n hits i z count in
    let Q : ℕ → Type 0 = λ z. SoFar passes e m n hits i other z in
    subst P (sym p) (subst Q (sym q) s)

module _ {E : Type 0} (passes : E → E → Bool) (e : E) (m : Meaning E) (n : ℕ) (hits : List Hit) where
  pub link_starts : (own : Links) → own ≡ record { number = n; count = 0; elders = replicate 8 (record { number = 0; distance = 0 }) } → SoFar passes e m n hits 0 own 0
  link_starts own is = record { number = ap (λ z. z.number) is; places = ap (λ z. length z.elders) is; few = omega arith; elder = refl; counted = refl }

  pub link_ends : (i : ℕ) (own : Links) (count : ℕ) → length hits ≤ i → SoFar passes e m n hits i own count → LinkedTo passes e m n hits (record { number = own.number; count = count; elders = own.elders })
  link_ends i own count l s =
      let all = take_all i hits l in
      record { number = s.number; places = s.places; elder = s.elder ∙ ap (filter (passes_hit passes e m)) all; count = s.counted ∙ ap (λ z. length (filter (passes_hit passes e m) z)) all }
