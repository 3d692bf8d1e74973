-- A history goes on with one more call. Assumes nothing.
use Rattle.std.proofs.Common.{◌≡◌, ℕ, refl, arith}
use Rattle.metric.specs.Laws.{MetricLaws}
use Rattle.roadmap.specs.Roads.{Road}
use Rattle.history_theory.specs.History.{Asked, asks_add, asks_drop, asks_element, asks_tally, asks_near, asks_within, asks_island, asks_route, Reply, Lists, History, then_asks}
use Rattle.history_theory.specs.Tells.{Tells}
use Rattle.history_theory.proofs.Reaching.{Reached}
use Rattle.history_theory.proofs.Dropping.{not_brought, reached_quiet, reached_drop}
use Rattle.history_theory.proofs.Adding.{reached_add}

-- the checker of a call passes a pair exactly if it passes its reverse
abbrev pub Fair : {E : Type 0} → Asked E → Type 0
Fair (asks_add e p) = (x y : _) → p x y ≡ p y x
Fair (asks_drop n) = Unit {0}
Fair (asks_element n) = Unit {0}
Fair asks_tally = Unit {0}
Fair (asks_near q k l) = Unit {0}
Fair (asks_within q r l) = Unit {0}
Fair (asks_island n) = Unit {0}
Fair (asks_route a b l) = Unit {0}

-- what a call leaves is the roadmap that the history with this call has reached
module _ {E : Type 0} (dist : E → E → ℕ) (top : ℕ) (laws : MetricLaws top dist) where
  pub next : (h : History E) (road after : Road E) (q : Asked E) (a : Reply E) (l : Lists) → Fair q → Reached dist h road → Tells dist road q a l after → Reached dist (then_asks h q) after
  next h road after (asks_add e p) a l f r t = reached_add dist top laws h e p f road after t.2 r
  next h road after (asks_drop n) a l f r t = reached_drop dist h n r.even road after t.2 r
  next h road after (asks_element n) a l f r t = reached_quiet dist h (asks_element n) (not_brought h (asks_element n) (λ e p i. let z : ◌≡◌ {A = ℕ} 0 1 = cc in omega arith)) refl r.even road after t.2 r
  next h road after asks_tally a l f r t = reached_quiet dist h asks_tally (not_brought h asks_tally (λ e p i. let z : ◌≡◌ {A = ℕ} 0 1 = cc in omega arith)) refl r.even road after t.2 r
  next h road after (asks_near q k list) a l f r t = reached_quiet dist h (asks_near q k list) (not_brought h (asks_near q k list) (λ e p i. let z : ◌≡◌ {A = ℕ} 0 1 = cc in omega arith)) refl r.even road after t.2 r
  next h road after (asks_within q n list) a l f r t = reached_quiet dist h (asks_within q n list) (not_brought h (asks_within q n list) (λ e p i. let z : ◌≡◌ {A = ℕ} 0 1 = cc in omega arith)) refl r.even road after t.2 r
  next h road after (asks_island n) a l f r t = reached_quiet dist h (asks_island n) (not_brought h (asks_island n) (λ e p i. let z : ◌≡◌ {A = ℕ} 0 1 = cc in omega arith)) refl r.even road after t.2 r
  next h road after (asks_route x y list) a l f r t = reached_quiet dist h (asks_route x y list) (not_brought h (asks_route x y list) (λ e p i. let z : ◌≡◌ {A = ℕ} 0 1 = cc in omega arith)) refl r.even road after t.1 r
