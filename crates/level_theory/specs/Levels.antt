-- What a level is: a kind of element, settings, walls and calls within their limits.
use Rattle.std.specs.Prelude.{◌≡◌, ℕ, ◌≤◌, cond, ◌&&◌, List, [], ◌∷◌, length, ◌==◌, nat_le}
use Rattle.std.specs.List.{AllByRecursion}
use Rattle.index.specs.Outcomes.{Outcome, gives, refuses}
use Rattle.gnat.specs.Chosen.{settings_outcome}

pub data Kind : Type 0 where
  arms : Kind
  cards : Kind

-- how many numbers an element of a kind has, how many a wall, and their largest
pub record Form : Type 0 where
  pub numbers : ℕ
  pub wall_numbers : ℕ
  pub largest : ℕ

abbrev pub form_of : Kind → Form
form_of arms = record { numbers = 6; wall_numbers = 12; largest = 4095 }
form_of cards = record { numbers = 8; wall_numbers = 8; largest = 255 }

-- one call of a level, an element by its numbers
pub data LineCall : Type 0 where
  call_add : List ℕ → LineCall
  call_drop : ℕ → LineCall
  call_near : ℕ → List ℕ → LineCall
  call_within : ℕ → List ℕ → LineCall
  call_island : ℕ → LineCall
  call_route : ℕ → ℕ → LineCall

-- the kind, degree, bucket and k of line 1, the walls by their numbers, and the calls
pub record Level : Type 0 where
  pub kind : Kind
  pub degree : ℕ
  pub bucket : ℕ
  pub k : ℕ
  pub walls : List (List ℕ)
  pub calls : List LineCall

-- k is 1 to 8
abbrev pub neighbours_outcome : ℕ → Outcome Unit
neighbours_outcome k = cond (nat_le 1 k && nat_le k 8) (gives tt) (refuses 1 (k ∷ []))

abbrev pub then_neighbours : {A : Type 0} → Outcome A → ℕ → Outcome Unit
then_neighbours (gives x) k = neighbours_outcome k
then_neighbours (refuses n figures) k = refuses n figures

-- degree 0 with bucket 0 means the scan; else degree and bucket are those of a tree; refused with the first bad value, k last
abbrev pub header_outcome : ℕ → ℕ → ℕ → Outcome Unit
header_outcome degree bucket k = cond (degree == 0 && bucket == 0) (neighbours_outcome k) (then_neighbours (settings_outcome degree bucket) k)

abbrev pub NumbersFit : ℕ → ℕ → List ℕ → Type 0
NumbersFit count largest ns = (length ns ≡ count) × AllByRecursion (λ n. n ≤ largest) ns

abbrev pub ElementFits : Form → List ℕ → Type 0
ElementFits form ns = NumbersFit form.numbers form.largest ns

abbrev pub WallFits : Form → List ℕ → Type 0
WallFits form ns = NumbersFit form.wall_numbers form.largest ns

-- hit counts and radii are at most 1,048,576, sample numbers 65,535
abbrev pub CallFits : Form → LineCall → Type 0
CallFits form (call_add e) = ElementFits form e
CallFits form (call_drop n) = n ≤ 65535
CallFits form (call_near k e) = (k ≤ 1048576) × ElementFits form e
CallFits form (call_within r e) = (r ≤ 1048576) × ElementFits form e
CallFits form (call_island n) = n ≤ 65535
CallFits form (call_route a b) = (a ≤ 65535) × (b ≤ 65535)

pub record Valid (level : Level) : Type 0 where
  pub settings : header_outcome level.degree level.bucket level.k ≡ gives tt
  pub few_walls : length level.walls ≤ 64
  pub walls : AllByRecursion (WallFits (form_of level.kind)) level.walls
  pub few_calls : length level.calls ≤ 512
  pub calls : AllByRecursion (CallFits (form_of level.kind)) level.calls
