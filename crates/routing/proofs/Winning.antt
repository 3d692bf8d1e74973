-- Matches of a knockout: who wins, what one entry changes, and that the one of least cost stands at 1. Assumes nothing.
use Rattle.std.proofs.Common.{◌≡◌, ℕ, zero, suc, ◌+◌, ◌*◌, ◌/◌, ◌<◌, ◌≤◌, ◌⊎◌, ◌≢◌, Bool, true, false, cond, ◌-◌, List, length, set, Some, None, Option, sym, refl, ap, ◌∙◌, subst, inl, inr, arith, length-set}
use Rattle.std.proofs.lemmas.List.{get_or-set_same, get_or-set_other}
use Rattle.std.proofs.lemmas.Bool.{cases_eq, cases_lt, both_ways}
use Rattle.std.proofs.lemmas.Bool.Decides.{nat_tests}
use Rattle.routing.specs.declared.cost.Cost.{Cost}
use Rattle.routing.specs.declared.knockout.Waiting.{Waiting}
use Rattle.routing.specs.Ranks.{cheaper}
use Rattle.routing.specs.Knockouts.{winner_of, wins_of, NoDearer, Below, Best, entry, places, waits, Decided, DecidedBut, IsKnockout, OnlyAt}

cheaper_not : (a : Cost) → cheaper a a ≡ false
unfolding cheaper
cheaper_not a = grind (arith, nat_tests)

cheaper_other : (a b : Cost) → cheaper a b ≡ true → cheaper b a ≡ false
unfolding cheaper
cheaper_other a b e = grind (arith, nat_tests)

not_cheaper_on : (a b c : Cost) → cheaper b a ≡ false → cheaper c b ≡ false → cheaper c a ≡ false
unfolding cheaper
not_cheaper_on a b c e f = grind (arith, nat_tests)

dearer_self : (x : Option Waiting) → NoDearer x x
dearer_self None = tt
dearer_self (Some a) = cheaper_not a.cost

dearer_on : (x y z : Option Waiting) → NoDearer x y → NoDearer y z → NoDearer x z
dearer_on x y None e f = tt
dearer_on x None (Some c) e f = absurd f
dearer_on None (Some b) (Some c) e f = absurd e
dearer_on (Some a) (Some b) (Some c) e f = not_cheaper_on a.cost b.cost c.cost e f

-- what costs less than x costs no more than what is no cheaper than x
below_on : (w : Waiting) (x y : Option Waiting) → Below w.cost x → NoDearer x y → NoDearer (Some w) y
below_on w x None e f = tt
below_on w None (Some b) e f = absurd f
below_on w (Some a) (Some b) e f = not_cheaper_on w.cost a.cost b.cost (cheaper_other w.cost a.cost e) f

winner_best : (a b : Option Waiting) → Best (winner_of a b) a b
winner_best None None = record { one = inl refl; first = tt; second = tt }
winner_best None (Some b) = record { one = inr refl; first = tt; second = cheaper_not b.cost }
winner_best (Some a) None = record { one = inl refl; first = cheaper_not a.cost; second = tt }
winner_best (Some a) (Some b) = go (cheaper b.cost a.cost) refl
  where
    go : (t : Bool) → cheaper b.cost a.cost ≡ t → Best (cond t (Some b) (Some a)) (Some a) (Some b)
    go true e = record { one = inr refl; first = cheaper_other b.cost a.cost e; second = cheaper_not b.cost }
    go false e = record { one = inl refl; first = cheaper_not a.cost; second = e }

pub wins_below : (c : Cost) (x : Option Waiting) → wins_of c x ≡ true → Below c x
wins_below c None e = tt
wins_below c (Some b) e = e

best_as : (x a b x' a' b' : Option Waiting) → x ≡ x' → a ≡ a' → b ≡ b' → Best x' a' b' → Best x a b
best_as x a b x' a' b' e f g t = subst (λ z. Best z a b) (sym e) (subst (λ z. Best x' z b) (sym f) (subst (λ z. Best x' a' z) (sym g) t))

best_swap : (x a b : Option Waiting) → Best x a b → Best x b a
best_swap x a b t = record { one = go t.one; first = t.second; second = t.first }
  where
    go : (x ≡ a) ⊎ (x ≡ b) → (x ≡ b) ⊎ (x ≡ a)
    go (inl e) = inr e
    go (inr e) = inl e

pub places_set : (m : List (Option Waiting)) (at : ℕ) (x : Option Waiting) → places (set m at x) ≡ places m
places_set m at x = ap (λ n. n / 2) (length-set m at x)

-- an entry that none of the three is
decided_same : (m : List (Option Waiting)) (at i : ℕ) (x : Option Waiting) → i ≢ at → (2 * i) ≢ at → (2 * i + 1) ≢ at → Decided m i → Decided (set m at x) i
decided_same m at i x e f g t = best_as _ _ _ _ _ _ (get_or-set_other m at i x None (λ z. omega (arith, e))) (get_or-set_other m at (2 * i) x None (λ z. omega (arith, f))) (get_or-set_other m at (2 * i + 1) x None (λ z. omega (arith, g))) t

-- a new entry leaves all decided but the match above it, if its own is
pub decided_above : (m : List (Option Waiting)) (at : ℕ) (x : Option Waiting) → 1 ≤ at → DecidedBut at m → (at < places m → Decided (set m at x) at) → DecidedBut (at / 2) (set m at x)
decided_above m at x l but own i a b n = go (cases_eq i at)
  where
    inside : i < places m
    inside = omega (arith, places_set m at x)

    go : (i ≡ at) ⊎ (i ≡ at → ⊥) → Decided (set m at x) i
    go (inl e) = subst (Decided (set m at x)) (sym e) (own (omega (arith, e, inside)))
    go (inr e) = decided_same m at i x (λ z. e z) (λ (z : 2 * i ≡ at). n (omega (arith, z))) (λ (z : 2 * i + 1 ≡ at). n (omega (arith, z))) (but i a inside (λ z. e z))

pub replay_step : (m : List (Option Waiting)) (at : ℕ) (x : Option Waiting) → length m ≡ 2 * places m → 0 < at → at < places m → DecidedBut at m → x ≡ winner_of (entry m (2 * at)) (entry m (2 * at + 1)) → DecidedBut (at / 2) (set m at x)
replay_step m at x even low l but is =
    decided_above m at x (omega arith) but (λ k. best_as _ _ _ _ _ _ (get_or-set_same m at x None (omega (arith, even)) ∙ is) (get_or-set_other m at (2 * at) x None (λ z. omega arith)) (get_or-set_other m at (2 * at + 1) x None (λ z. omega arith)) (winner_best (entry m (2 * at)) (entry m (2 * at + 1))))

-- the entries below a match, one of which has just changed to w, and the other one
pub record Open (w : Waiting) (at : ℕ) (m : List (Option Waiting)) : Type 0 where
  pub changed : ℕ
  pub other : ℕ
  pub sides : ((changed ≡ 2 * at) × (other ≡ 2 * at + 1)) ⊎ ((changed ≡ 2 * at + 1) × (other ≡ 2 * at))
  pub is : entry m changed ≡ Some w
  pub le : NoDearer (entry m at) (entry m other)
  pub which : (entry m at ≡ entry m other) ⊎ Below w.cost (entry m at)

-- the best of the two below, whichever has changed
open_best : (w : Waiting) (at : ℕ) (m : List (Option Waiting)) (o : Open w at m) (x : Option Waiting) → Best x (entry m o.changed) (entry m o.other) → Best x (entry m (2 * at)) (entry m (2 * at + 1))
open_best w at m o x t = go o.sides
  where
    go : ((o.changed ≡ 2 * at) × (o.other ≡ 2 * at + 1)) ⊎ ((o.changed ≡ 2 * at + 1) × (o.other ≡ 2 * at)) → Best x (entry m (2 * at)) (entry m (2 * at + 1))
    go (inl s) = best_as _ _ _ _ _ _ refl (sym (ap (entry m) s.0)) (sym (ap (entry m) s.1)) t
    go (inr s) = best_as _ _ _ _ _ _ refl (sym (ap (entry m) s.1)) (sym (ap (entry m) s.0)) (best_swap x (entry m o.changed) (entry m o.other) t)

-- where it does not win, all was decided
pub open_stops : (w : Waiting) (at : ℕ) (m : List (Option Waiting)) → Open w at m → wins_of w.cost (entry m at) ≡ false → Decided m at
open_stops w at m o e = open_best w at m o (entry m at) (record { one = inr (pick (entry m at) refl e o.which); first = subst (NoDearer (entry m at)) (sym o.is) (no_less (entry m at) e); second = o.le })
  where
    no_less : (x : Option Waiting) → wins_of w.cost x ≡ false → NoDearer x (Some w)
    no_less None f = absurd (both_ways true f refl)
    no_less (Some b) f = f

    pick : (x : Option Waiting) → entry m at ≡ x → wins_of w.cost x ≡ false → (entry m at ≡ entry m o.other) ⊎ Below w.cost (entry m at) → entry m at ≡ entry m o.other
    pick x s f (inl y) = y
    pick None s f (inr y) = absurd (both_ways true f refl)
    pick (Some b) s f (inr y) = absurd (both_ways (cheaper w.cost b.cost) f (subst (Below w.cost) s y))

-- where it wins, only the match above is open
pub open_wins : (w : Waiting) (at : ℕ) (m : List (Option Waiting)) → at < length m → Open w at m → 1 ≤ at → Below w.cost (entry m at) → Decided (set m at (Some w)) at
open_wins w at m l o p b =
    let t = open_best w at m o (Some w) (record { one = inl (sym o.is); first = subst (NoDearer (Some w)) (sym o.is) (cheaper_not w.cost); second = below_on w (entry m at) (entry m o.other) b o.le }) in
    best_as _ _ _ _ _ _ (get_or-set_same m at (Some w) None l) (get_or-set_other m at (2 * at) (Some w) None (λ z. omega arith)) (get_or-set_other m at (2 * at + 1) (Some w) None (λ z. omega arith)) t

pub open_above : (w : Waiting) (at : ℕ) (m : List (Option Waiting)) → at < length m → length m ≡ 2 * places m → 1 ≤ at / 2 → DecidedBut at m → Below w.cost (entry m at) → Open w (at / 2) (set m at (Some w))
open_above w at m l even p but b = go (cases_lt (2 * (at / 2)) at)
  where
    up : Decided m (at / 2)
    up = but (at / 2) p (omega (arith, even)) (λ z. omega arith)

    keep : (i : ℕ) → (i ≡ at → ⊥) → entry (set m at (Some w)) i ≡ entry m i
    keep i e = get_or-set_other m at i (Some w) None e

    here : entry (set m at (Some w)) at ≡ Some w
    here = get_or-set_same m at (Some w) None l

    -- s is the one beside at
    with_other : (s : ℕ) → (s ≡ at → ⊥) → ((at ≡ 2 * (at / 2)) × (s ≡ 2 * (at / 2) + 1)) ⊎ ((at ≡ 2 * (at / 2) + 1) × (s ≡ 2 * (at / 2))) → Best (entry m (at / 2)) (entry m at) (entry m s) → Open w (at / 2) (set m at (Some w))
    with_other s e sides t = record {
      changed = at;
      other = s;
      sides = sides;
      is = here;
      le = subst (λ z. NoDearer z (entry (set m at (Some w)) s)) (sym mid) (subst (NoDearer (entry m (at / 2))) (sym (keep s e)) t.second);
      which = pick t.one;
    }
      where
        mid : entry (set m at (Some w)) (at / 2) ≡ entry m (at / 2)
        mid = keep (at / 2) (λ z. omega arith)

        pick : (entry m (at / 2) ≡ entry m at) ⊎ (entry m (at / 2) ≡ entry m s) → (entry (set m at (Some w)) (at / 2) ≡ entry (set m at (Some w)) s) ⊎ Below w.cost (entry (set m at (Some w)) (at / 2))
        pick (inl y) = inr (subst (Below w.cost) (sym (mid ∙ y)) b)
        pick (inr y) = inl (mid ∙ (y ∙ sym (keep s e)))

    go : (2 * (at / 2) < at) ⊎ (at ≤ 2 * (at / 2)) → Open w (at / 2) (set m at (Some w))
    go (inl y) =
        let e : at ≡ 2 * (at / 2) + 1 = omega arith in
        with_other (2 * (at / 2)) (λ z. omega arith) (inr (e, refl)) (best_swap _ _ _ (subst (λ z. Best (entry m (at / 2)) (entry m (2 * (at / 2))) (entry m z)) (sym e) up))
    go (inr y) =
        let e : at ≡ 2 * (at / 2) = omega arith in
        with_other (2 * (at / 2) + 1) (λ z. omega arith) (inl (e, refl)) (subst (λ z. Best (entry m (at / 2)) (entry m z) (entry m (2 * (at / 2) + 1))) (sym e) up)

-- who stands at 1 costs no more than who stands anywhere
first_least : (m : List (Option Waiting)) → IsKnockout m → (fuel i : ℕ) → i ≤ fuel → 1 ≤ i → i < length m → NoDearer (entry m 1) (entry m i)
first_least m k zero i f l h = absurd (omega arith)
first_least m k (suc fuel) i f l h = go (cases_lt 1 i) (λ j a b c. first_least m k fuel j a b c)
  where
    go : (1 < i) ⊎ (i ≤ 1) → ((j : ℕ) → j ≤ fuel → 1 ≤ j → j < length m → NoDearer (entry m 1) (entry m j)) → NoDearer (entry m 1) (entry m i)
    go (inr y) ih = let e : 1 ≡ i = omega arith in subst (λ z. NoDearer (entry m 1) (entry m z)) e (dearer_self (entry m 1))
    go (inl y) ih = dearer_on (entry m 1) (entry m (i / 2)) (entry m i) (ih (i / 2) (omega arith) (omega arith) (omega arith)) (side (cases_lt (2 * (i / 2)) i))
      where
        d : Decided m (i / 2)
        d = k.decided (i / 2) (omega arith) (omega (arith, k.even)) (λ z. omega arith)

        side : (2 * (i / 2) < i) ⊎ (i ≤ 2 * (i / 2)) → NoDearer (entry m (i / 2)) (entry m i)
        side (inl z) = let e : 2 * (i / 2) + 1 ≡ i = omega arith in subst (λ x. NoDearer (entry m (i / 2)) (entry m x)) e d.second
        side (inr z) = let e : 2 * (i / 2) ≡ i = omega arith in subst (λ x. NoDearer (entry m (i / 2)) (entry m x)) e d.first

-- who stands anywhere waits at some place
place_below : (m : List (Option Waiting)) → IsKnockout m → (w : Waiting) (fuel i : ℕ) → length m ≤ i + fuel → 1 ≤ i → i < length m → entry m i ≡ Some w → (p : ℕ) × (p < places m) × (waits m p ≡ Some w)
place_below m k w zero i f l h e = absurd (omega arith)
place_below m k w (suc fuel) i f l h e = go (cases_lt i (places m)) (λ j a b c d. place_below m k w fuel j a b c d)
  where
    go : (i < places m) ⊎ (places m ≤ i) → ((j : ℕ) → length m ≤ j + fuel → 1 ≤ j → j < length m → entry m j ≡ Some w → (p : ℕ) × (p < places m) × (waits m p ≡ Some w)) → (p : ℕ) × (p < places m) × (waits m p ≡ Some w)
    go (inr y) ih = let s : i ≡ places m + (i - places m) = omega arith in (i - places m, omega (arith, k.even), subst (λ z. entry m z ≡ Some w) s e)
    go (inl y) ih = down (k.decided i l y (λ z. omega arith)).one
      where
        down : (entry m i ≡ entry m (2 * i)) ⊎ (entry m i ≡ entry m (2 * i + 1)) → (p : ℕ) × (p < places m) × (waits m p ≡ Some w)
        down (inl z) = ih (2 * i) (omega arith) (omega arith) (omega (arith, k.even)) (sym z ∙ e)
        down (inr z) = ih (2 * i + 1) (omega arith) (omega arith) (omega (arith, k.even)) (sym z ∙ e)

-- who stands at 1 waits at its place
pub first_waits : (m : List (Option Waiting)) → IsKnockout m → 0 < places m → (w : Waiting) → entry m 1 ≡ Some w → (w.place < places m) × (waits m w.place ≡ Some w)
first_waits m k l w e =
    let r = place_below m k w (length m) 1 (omega arith) (omega arith) (omega (arith, k.even)) e in
    let is = k.named r.0 w r.1 r.2 in
    (omega (arith, is, r.1), ap (waits m) is ∙ r.2)

pub all_dearer : (m : List (Option Waiting)) → IsKnockout m → (p : ℕ) → p < places m → NoDearer (entry m 1) (waits m p)
all_dearer m k p l = first_least m k (places m + p) (places m + p) (omega arith) (omega arith) (omega (arith, k.even))

pub nobody_waits : (m : List (Option Waiting)) → IsKnockout m → entry m 1 ≡ None → (p : ℕ) → p < places m → waits m p ≡ None
nobody_waits m k e p l = go (waits m p) refl (subst (λ z. NoDearer z (waits m p)) e (all_dearer m k p l))
  where
    go : (x : Option Waiting) → waits m p ≡ x → NoDearer None (waits m p) → waits m p ≡ None
    go None s d = s
    go (Some b) s d = absurd (subst (NoDearer None) s d)

-- p waits as x now, and all is decided again
module _ (m m' : List (Option Waiting)) (p : ℕ) (k : IsKnockout m) (l : p < places m) (long : length m' ≡ length m) (decided : DecidedBut 0 m') (x : Option Waiting)
    (here : entry m' (places m + p) ≡ x) (others : (i : ℕ) → places m ≤ i → i ≢ (places m + p) → entry m' i ≡ entry m i) (named : (w : Waiting) → x ≡ Some w → w.place ≡ p) where
  many : places m' ≡ places m
  many = ap (λ n. n / 2) long

  pub changed_here : waits m' p ≡ x
  changed_here = ap (λ n. entry m' (n + p)) many ∙ here

  pub changed_only : OnlyAt p m m'
  changed_only = record { long = long; others = λ q h n. ap (λ z. entry m' (z + q)) many ∙ others (places m + q) (omega arith) (λ (z : places m + q ≡ places m + p). n (omega (arith, z))) }

  pub changed_knockout : IsKnockout m'
  changed_knockout = record { even = omega (arith, long, k.even, many); decided = decided; named = λ q w h e. go q w h e (cases_eq q p) }
    where
      go : (q : ℕ) (w : Waiting) → q < places m' → waits m' q ≡ Some w → (q ≡ p) ⊎ (q ≡ p → ⊥) → w.place ≡ q
      go q w h e (inl y) = named w (sym changed_here ∙ (ap (waits m') (sym y) ∙ e)) ∙ sym y
      go q w h e (inr y) = k.named q w (omega (arith, h, many)) (sym (changed_only.others q (omega (arith, h, many)) (λ z. y z)) ∙ e)

pub all_but : (at : ℕ) (m : List (Option Waiting)) → DecidedBut at m → Decided m at → DecidedBut 0 m
all_but at m but d i a b n = go (cases_eq i at)
  where
    go : (i ≡ at) ⊎ (i ≡ at → ⊥) → Decided m i
    go (inl e) = subst (Decided m) (sym e) d
    go (inr e) = but i a b (λ z. e z)

-- the place of who stands, and p where nobody does
abbrev pub place_or : ℕ → Option Waiting → ℕ
place_or p None = p
place_or p (Some w) = w.place

abbrev pub cost_or : Cost → Option Waiting → Cost
cost_or c None = c
cost_or c (Some w) = w.cost
