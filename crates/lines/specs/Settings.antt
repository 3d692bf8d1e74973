-- What checking settings tells.
use Rattle.std.specs.Prelude.{ℕ, cond, ◌&&◌, List, [], ◌∷◌, Some, None, Ok, Err, Option, Result, ◌==◌}
use Rattle.index.specs.declared.refusal.Refusal.{Refusal}
use Rattle.index.specs.Outcomes.{Outcome, gives, refuses, number_of, figures_of}
use Rattle.gnat.specs.declared.settings.Settings.{Settings}
use Rattle.gnat.specs.Chosen.{settings_outcome}
use Rattle.lines.specs.declared.header.Header.{Header}

-- the degree and the bucket as a line writes them: 0 and 0 for the scan
abbrev pub tree_degree : Option Settings → ℕ
tree_degree None = 0
tree_degree (Some s) = s.degree

abbrev pub tree_bucket : Option Settings → ℕ
tree_bucket None = 0
tree_bucket (Some s) = s.bucket

abbrev pub header_numbers : Header → List ℕ
header_numbers h = tree_degree h.tree ∷ (tree_bucket h.tree ∷ (h.k ∷ []))

abbrev pub told_tree : Result (Option Settings) Refusal → Outcome (ℕ × ℕ)
told_tree (Ok tree) = gives (tree_degree tree, tree_bucket tree)
told_tree (Err refusal) = refuses (number_of refusal) (figures_of refusal)

abbrev pub tree_outcome : ℕ → ℕ → Outcome (ℕ × ℕ)
tree_outcome degree bucket = cond (degree == 0 && bucket == 0) (gives (0, 0)) (settings_outcome degree bucket)

-- the numbers of the header that is made, or the refusal
abbrev pub told_header : Result Header Refusal → Outcome (List ℕ)
told_header (Ok header) = gives (header_numbers header)
told_header (Err refusal) = refuses (number_of refusal) (figures_of refusal)

abbrev pub numbers_if : Outcome Unit → List ℕ → Outcome (List ℕ)
numbers_if (gives u) ns = gives ns
numbers_if (refuses n figures) ns = refuses n figures
