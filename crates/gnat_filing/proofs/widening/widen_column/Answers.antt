use Rattle.std.proofs.Common.{ℕ, ◌≡◌, ◌<◌, min, max, List, length, get_or, refl, ap, ◌∙◌, arith, rules}
use Rattle.gnat_rows.specs.Shows.{ranges, down}
use Rattle.gnat_filing.proofs.Loops.{wide_all}
use Rattle.gnat_rows.proofs.Columns.{length_down}
use Rattle.gnat_filing.proofs.widening.widen_column.Goals as goal

pub returns : goal.returns
returns c =
    let n = c.args.b.now.count in
    let ls = c.args.b.now.low in
    let hs = c.args.b.now.high in
    let j = c.args.j in
    let ds = c.args.ds.now in
    let ls' = c.join_column.new.table in
    let hs' = c.join_column-2.new.table in
    let L = c.join_column.ensures in
    let H = c.join_column-2.ensures in
    let a : length ls ≡ 8 = search rules in
    let b : length hs ≡ 8 = search rules in
    let lower : (k : ℕ) → k < n → get_or (down ls' j) k 0 ≡ min (get_or (down ls j) k 0) (get_or ds k 0) = λ k u. search (rules, L.each k (omega (arith, c.requires.2))) in
    let higher : (k : ℕ) → k < n → get_or (down hs' j) k 0 ≡ max (get_or (down hs j) k 0) (get_or ds k 0) = λ k u. search (rules, H.each k (omega (arith, c.requires.2))) in
    record {
      count = refl;
      pivots = refl;
      wide = wide_all n (down ls j) (down hs j) (down ls' j) (down hs' j) ds
          (omega (arith, length_down ls j, a, c.requires.0)) (omega (arith, length_down hs j, b, c.requires.0)) (omega (arith, length_down ls' j, L.eight, c.requires.0)) (omega (arith, length_down hs' j, H.eight, c.requires.0)) (omega (arith, c.requires.2)) lower higher;
      others = λ k ne. ap (λ (xs : List ℕ). ranges n xs (down hs' k)) (L.others k ne) ∙ ap (λ (xs : List ℕ). ranges n (down ls k) xs) (H.others k ne);
    }
