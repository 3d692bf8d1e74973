-- Bytes written one behind the other.
use Rattle.std.proofs.Common.{◌≡◌, ℕ, ◌+◌, ◌≤◌, List, ◌++◌, length, arith, rules}
use Rattle.std.proofs.lemmas.List.{same_lists, places}
use Rattle.printing.specs.Outputs.{written}

pub length_written : (out bytes : List ℕ) (at : ℕ) → at + length bytes ≤ length out → length (written out at bytes) ≡ length out
length_written out bytes at h = search (rules, places)

-- more bytes at the end
pub written_written : (out bytes more : List ℕ) (at : ℕ) → at + length bytes + length more ≤ length out → written (written out at bytes) (at + length bytes) more ≡ written out at (bytes ++ more)
written_written out bytes more at h = same_lists _ _ (search (rules, places)) (λ k d l. grind (arith, places))

pub more_written : (base now_out text more : List ℕ) (at len : ℕ) → at + length text + length more ≤ length base → len ≡ at + length text → now_out ≡ written base at text → written now_out len more ≡ written base at (text ++ more)
more_written base now_out text more at len h e f = rw (e, f) (written_written base text more at h)
