-- Places that wait, as a knockout by cost.
use Rattle.std.specs.Prelude.{◌≡◌, ℕ, ◌+◌, ◌*◌, ◌/◌, ◌<◌, ◌≤◌, ◌⊎◌, ◌≢◌, Bool, true, false, cond, List, length, Some, None, Option, slice_index_or}
use Rattle.routing.specs.declared.cost.Cost.{Cost}
use Rattle.routing.specs.declared.knockout.Waiting.{Waiting}
use Rattle.routing.specs.Ranks.{cheaper}

-- the one of less cost, the first if equal
abbrev pub winner_of : Option Waiting → Option Waiting → Option Waiting
winner_of None other = other
winner_of (Some a) None = Some a
winner_of (Some a) (Some b) = cond (cheaper b.cost a.cost) (Some b) (Some a)

-- x costs no more than y: nobody is dearer than anybody
abbrev pub NoDearer : Option Waiting → Option Waiting → Type 0
NoDearer x None = Unit {0}
NoDearer None (Some b) = ⊥
NoDearer (Some a) (Some b) = cheaper b.cost a.cost ≡ false

-- a cost is less than that of y, if y is anybody
abbrev pub Below : Cost → Option Waiting → Type 0
Below c None = Unit {0}
Below c (Some b) = cheaper c b.cost ≡ true

-- x is one of the two, and neither costs less
pub record Best (x a b : Option Waiting) : Type 0 where
  pub one : (x ≡ a) ⊎ (x ≡ b)
  pub first : NoDearer x a
  pub second : NoDearer x b

abbrev pub entry : List (Option Waiting) → ℕ → Option Waiting
entry matches i = slice_index_or matches i None

-- how many places there are
abbrev pub places : List (Option Waiting) → ℕ
places matches = length matches / 2

-- the place p as it waits
abbrev pub waits : List (Option Waiting) → ℕ → Option Waiting
waits matches p = entry matches (places matches + p)

-- who won at i
abbrev pub Decided : List (Option Waiting) → ℕ → Type 0
Decided matches i = Best (entry matches i) (entry matches (2 * i)) (entry matches (2 * i + 1))

-- all matches but one are decided
abbrev pub DecidedBut : ℕ → List (Option Waiting) → Type 0
DecidedBut at matches = (i : ℕ) → 1 ≤ i → i < places matches → i ≢ at → Decided matches i

-- all matches are decided, and each place waits as itself
pub record IsKnockout (matches : List (Option Waiting)) : Type 0 where
  pub even : length matches ≡ 2 * places matches
  pub decided : DecidedBut 0 matches
  pub named : (p : ℕ) (w : Waiting) → p < places matches → waits matches p ≡ Some w → w.place ≡ p

-- the places wait as before, but for p
pub record OnlyAt (p : ℕ) (before after : List (Option Waiting)) : Type 0 where
  pub long : length after ≡ length before
  pub others : (q : ℕ) → q < places before → q ≢ p → waits after q ≡ waits before q

-- p waits with this cost from now on
pub record PutIn (p : ℕ) (c : Cost) (before after : List (Option Waiting)) : Type 0 where
  pub knockout : IsKnockout after
  pub only : OnlyAt p before after
  pub waits : waits after p ≡ Some (record { cost = c; place = p })

-- the place of least cost was taken out, if one waits
pub data Taken (before : List (Option Waiting)) : Option Waiting → List (Option Waiting) → Type 0 where
  nobody : ((p : ℕ) → p < places before → waits before p ≡ None) → Taken before None before
  least : (w : Waiting) (after : List (Option Waiting)) → w.place < places before → waits before w.place ≡ Some w
      → ((p : ℕ) → p < places before → NoDearer (Some w) (waits before p))
      → IsKnockout after → OnlyAt w.place before after → waits after w.place ≡ None → Taken before (Some w) after

-- whether a cost is less than that of one that stands in a match; where nobody stands, it is
abbrev pub wins_of : Cost → Option Waiting → Bool
wins_of c None = true
wins_of c (Some b) = cheaper c b.cost

-- all matches are decided, and the places wait as before
pub record Replayed (before after : List (Option Waiting)) : Type 0 where
  pub long : length after ≡ length before
  pub decided : DecidedBut 0 after
  pub same : (i : ℕ) → places before ≤ i → entry after i ≡ entry before i
