-- What choosing settings tells.
use Rattle.std.specs.Prelude.{ℕ, Bool, cond, ◌||◌, [], ◌∷◌, Ok, Err, Result, nat_lt}
use Rattle.index.specs.declared.refusal.Refusal.{Refusal}
use Rattle.index.specs.Outcomes.{Outcome, gives, refuses, number_of, figures_of}
use Rattle.gnat_filing.specs.declared.settings.Settings.{Settings}

-- outside the range from low to high
abbrev pub outside : ℕ → ℕ → ℕ → Bool
outside low high n = nat_lt n low || nat_lt high n

-- the degree and the bucket, or refusal 1 with the first bad value
abbrev pub settings_outcome : ℕ → ℕ → Outcome (ℕ × ℕ)
settings_outcome degree bucket = cond (outside 2 8 degree) (refuses 1 (degree ∷ [])) (cond (outside degree 32 bucket) (refuses 1 (bucket ∷ [])) (gives (degree, bucket)))

abbrev pub told_settings : Result Settings Refusal → Outcome (ℕ × ℕ)
told_settings (Ok s) = gives (s.degree, s.bucket)
told_settings (Err refusal) = refuses (number_of refusal) (figures_of refusal)
