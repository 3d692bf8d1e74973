-- The distance of two cards is lawful: each law holds slot by slot. Assumes nothing.
use Rattle.std.specs.Prelude.{◌≡◌, ℕ, ◌+◌, ◌≤◌, cond, ◌≢◌, refl}
use Rattle.std.proofs.Common.{ap, sym, ◌∙◌, arith, eq-eqb, ne_eqb, ⊎_elim}
use Rattle.std.proofs.lemmas.Bool.{cases_eq}
use Rattle.metric.specs.Laws.{MetricLaws}
use Rattle.card.specs.declared.Card.{Card}
use Rattle.card.specs.Cards.{slot_cost, change_at, card_distance}

same_cost : (c a b : ℕ) → a ≡ b → slot_cost c a b ≡ 0
unfolding slot_cost
same_cost c a b e = ap (λ t. cond t 0 c) (eq-eqb a b e)

other_cost : (c a b : ℕ) → (a ≢ b) → slot_cost c a b ≡ c
unfolding slot_cost
other_cost c a b n = ap (λ t. cond t 0 c) (ne_eqb a b n)

pub cost_bound : (c a b : ℕ) → slot_cost c a b ≤ c
cost_bound c a b = ⊎_elim (λ e. omega (arith, same_cost c a b e)) (λ n. omega (arith, other_cost c a b n)) (cases_eq a b)

cost_zero : (c a : ℕ) → slot_cost c a a ≡ 0
cost_zero c a = same_cost c a a refl

cost_symmetric : (c a b : ℕ) → slot_cost c a b ≡ slot_cost c b a
cost_symmetric c a b = ⊎_elim (λ e. same_cost c a b e ∙ sym (same_cost c b a (sym e))) (λ n. other_cost c a b n ∙ sym (other_cost c b a (λ e. n (sym e)))) (cases_eq a b)

cost_triangle : (c x y z : ℕ) → slot_cost c x z ≤ slot_cost c x y + slot_cost c y z
cost_triangle c x y z = ⊎_elim
    (λ e. omega (arith, ap (λ v. slot_cost c v z) e))
    (λ n. omega (arith, other_cost c x y n, cost_bound c x z))
    (cases_eq x y)

pub card_lawful : MetricLaws 152 card_distance
card_lawful = record {
  zero = λ e. omega (arith, cost_zero);
  symmetric = λ e f. omega (arith, turned e f 0 40, turned e f 1 40, turned e f 2 20, turned e f 3 20, turned e f 4 10, turned e f 5 10, turned e f 6 6, turned e f 7 6);
  triangle = λ e f g. omega (arith, over e f g 0 40, over e f g 1 40, over e f g 2 20, over e f g 3 20, over e f g 4 10, over e f g 5 10, over e f g 6 6, over e f g 7 6);
  bounded = λ e f. omega (arith, cost_bound);
  small = omega arith;
}
  where
    turned : (e f : Card) (i c : ℕ) → change_at i c e f ≡ change_at i c f e
    turned e f i c = cost_symmetric c _ _

    over : (e f g : Card) (i c : ℕ) → change_at i c e g ≤ change_at i c e f + change_at i c f g
    over e f g i c = cost_triangle c _ _ _
