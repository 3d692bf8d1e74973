-- What a scan means, and that this is lawful.
use Rattle.std.specs.Prelude.{◌≡◌, ℕ, ◌≤◌, min, length, take, Some, None, Option, Ok, Err, Result}
use Rattle.std.proofs.Common.{sym, ◌∙◌, subst, length-take}
use Rattle.std.proofs.Math.Nat.{min-le_left, min-le_right, le_trans}
use Rattle.std.proofs.lemmas.List.{length-map}
use Rattle.index.specs.declared.refusal.Refusal.{Refusal}
use Rattle.index.specs.declared.refusal.Refusal.TheVariants.{NotStanding}
use Rattle.index.specs.Meaning.{Meaning, Lawful}
use Rattle.scan.specs.declared.scan.Scan.{Scan}
use Rattle.scan.specs.Rows.{sample_of, samples, Found}

module _ {E : Type 0} where
  abbrev pub scan_meaning : Scan E → Meaning E
  scan_meaning s = record { capacity = min (length s.rows.now) 1024; last = s.last; standing = samples (take s.used s.rows.now) }

  -- where a sample is among the rows in use
  abbrev pub HoldsNumberAt : Scan E → ℕ → Option ℕ → Type 0
  HoldsNumberAt s n place = Found n (take s.used s.rows.now) place

  -- the same as a call tells it: nowhere is a refusal
  abbrev pub PlaceTold : Scan E → ℕ → Result ℕ Refusal → Type 0
  PlaceTold s n (Ok at) = HoldsNumberAt s n (Some at)
  PlaceTold s n (Err refusal) = (refusal ≡ NotStanding n) × HoldsNumberAt s n None

  pub scan_lawful : (s : Scan E) → Lawful (scan_meaning s)
  scan_lawful s =
      let rows = s.rows.now in
      let count = length-map (take s.used rows) sample_of ∙ length-take s.used rows in
      record {
        capacity_bound = min-le_right (length rows) 1024;
        last_bound = s.last_bound;
        rising = s.rising;
        room = subst (λ n. n ≤ min (length rows) 1024) (sym count) (le_trans (min-le_left s.used (length rows)) s.used_bound);
      }
