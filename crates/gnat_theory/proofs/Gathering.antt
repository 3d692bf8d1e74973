-- What the samples of a tree are. Assumes nothing.
use Rattle.std.proofs.Common.{Bool, true, false, cond, [], ◌∷◌, ◌++◌}
use Rattle.std.specs.List.{AllByRecursion}
use Rattle.std.proofs.ByRecursion.{All-append}
use Rattle.hits.specs.Samples.{Sample}
use Rattle.hits.proofs.Among.{all_left, all_right}
use Rattle.gnat_theory.specs.Tree.{Tree, Parts, Pivot, sample_of, gathered_parts, if_standing, always, standing, members}
use Rattle.gnat_theory.specs.Tree.Tree.{leaf, branch}
use Rattle.gnat_theory.specs.Tree.Parts.{none, part}

module _ {E : Type 0} (P : Sample E → Type 0) where
  pub all_if_standing : (p : Pivot E) → P (sample_of p) → AllByRecursion P (if_standing p)
  all_if_standing p h = go p.marked
    where
      go : (t : Bool) → AllByRecursion P (cond t [] (sample_of p ∷ []))
      go true = tt
      go false = (h, tt)

  -- what holds of all members holds of all that stand
  mutual
    pub all_standing : (t : Tree E) → AllByRecursion P (members t) → AllByRecursion P (standing t)
    all_standing (leaf xs) a = a
    all_standing (branch ps) a = all_standing_parts ps a

    all_standing_parts : (ps : Parts E) → AllByRecursion P (gathered_parts always ps) → AllByRecursion P (gathered_parts if_standing ps)
    all_standing_parts none a = tt
    all_standing_parts (part p column t rest) a =
        All-append P (if_standing p) (standing t ++ gathered_parts if_standing rest) (all_if_standing p a.0)
        (All-append P (standing t) (gathered_parts if_standing rest)
        (all_standing t (all_left P (members t) (gathered_parts always rest) a.1))
        (all_standing_parts rest (all_right P (members t) (gathered_parts always rest) a.1)))
