-- The steps of loops that take numbers, and that copy them. Assumes nothing.
use Rattle.std.proofs.Common.{◌≡◌, ℕ, zero, suc, ◌+◌, ◌-◌, ◌*◌, ◌<◌, ◌≤◌, add-one, List, [], ◌∷◌, ◌++◌, length, get_or, take, set, sym, refl, ap, ◌∙◌, append_assoc, arith}
use Rattle.std.proofs.lemmas.List.{take_more, take_more_set, take_all, flat_map_more}
use Rattle.std.specs.List.{flat_map}
use Rattle.walls.specs.declared.arc.Arc.{Arc}
use Rattle.written.specs.Arms.{arc_numbers}
use Rattle.level_theory.specs.Words.{a_number}
use Rattle.level_theory.specs.Reading.{number_wants}
use Rattle.words.specs.Cursors.{Part, got, lacks, part}
use Rattle.words.proofs.Parts.{in_front, then_part, part_append}

front_twice : (ms ns : List ℕ) (p : Part) → in_front ms (in_front ns p) ≡ in_front (ms ++ ns) p
front_twice ms ns (got ls ws i) = ap (λ xs. got xs ws i) (sym (append_assoc ms ns ls))
front_twice ms ns (lacks q ws i) = refl

pub front_none : (p : Part) → p ≡ in_front [] p
front_none (got ns ws i) = refl
front_none (lacks q ws i) = refl

fewer : (n i l : ℕ) (ws : List (List ℕ)) (p : ℕ) → i < n → part (number_wants (n - i) l) ws p ≡ then_part (part (a_number l ∷ []) ws p) (number_wants (n - (i + 1)) l)
fewer n i l ws p h =
    let e : n - i ≡ suc (n - (i + 1)) = omega arith in
    ap (λ k. part (number_wants k l) ws p) e ∙ part_append (a_number l ∷ []) (number_wants (n - (i + 1)) l) ws p

module _ (n i l : ℕ) (out : List ℕ) (ws : List (List ℕ)) (p : ℕ) (all : Part) (h : i < n) (inv : all ≡ in_front (take i out) (part (number_wants (n - i) l) ws p)) where
  pub takes : (x : ℕ) (vs : List (List ℕ)) (q : ℕ) → i < length out → got (x ∷ []) vs q ≡ part (a_number l ∷ []) ws p → all ≡ in_front (take (i + 1) (set out i x)) (part (number_wants (n - (i + 1)) l) vs q)
  takes x vs q room e =
      inv
      ∙ ap (in_front (take i out)) (fewer n i l ws p h ∙ ap (λ r. then_part r (number_wants (n - (i + 1)) l)) (sym e))
      ∙ front_twice (take i out) (x ∷ []) (part (number_wants (n - (i + 1)) l) vs q)
      ∙ ap (λ ns. in_front ns (part (number_wants (n - (i + 1)) l) vs q)) (sym (take_more_set out i x room))

  pub stops : (m : ℕ) (vs : List (List ℕ)) (q : ℕ) → lacks m vs q ≡ part (a_number l ∷ []) ws p → lacks m vs q ≡ all
  stops m vs q e = sym (inv ∙ ap (in_front (take i out)) (fewer n i l ws p h ∙ ap (λ r. then_part r (number_wants (n - (i + 1)) l)) (sym e)))

-- two more numbers
pub take_two : (ns : List ℕ) (i : ℕ) → 2 * i + 1 < length ns → take (2 * (i + 1)) ns ≡ take (2 * i) ns ++ (get_or ns (2 * i) 0 ∷ (get_or ns (2 * i + 1) 0 ∷ []))
take_two ns i h =
    let e : 2 * (i + 1) ≡ 2 * i + 1 + 1 = omega arith in
    ap (λ k. take k ns) e
    ∙ take_more ns (2 * i + 1) 0 h
    ∙ ap (λ front. front ++ (get_or ns (2 * i + 1) 0 ∷ [])) (take_more ns (2 * i) 0 (omega arith))
    ∙ append_assoc (take (2 * i) ns) (get_or ns (2 * i) 0 ∷ []) (get_or ns (2 * i + 1) 0 ∷ [])

-- arcs that are made of two numbers each
abbrev pub arc_at : List ℕ → ℕ → Arc
arc_at ns i = record { start = get_or ns (2 * i) 0; extent = get_or ns (2 * i + 1) 0 }

pub arcs_front : (arcs : List Arc) (ns : List ℕ) (n k : ℕ) → length arcs ≡ n → length ns ≡ 2 * n → ((i : ℕ) (e : Arc) → i < n → get_or arcs i e ≡ arc_at ns i) → k ≤ n → flat_map arc_numbers (take k arcs) ≡ take (2 * k) ns
arcs_front arcs ns n zero long all each h = refl
arcs_front arcs ns n (suc k) long all each h =
    ap (λ t. flat_map arc_numbers (take t arcs)) (sym (add-one k))
    ∙ ap (flat_map arc_numbers) (take_more arcs k (arc_at ns k) (omega arith))
    ∙ sym (flat_map_more arc_numbers [] (take k arcs) (get_or arcs k (arc_at ns k)))
    ∙ ap (λ a. flat_map arc_numbers (take k arcs) ++ arc_numbers a) (each k (arc_at ns k) (omega arith))
    ∙ ap (λ front. front ++ arc_numbers (arc_at ns k)) (arcs_front arcs ns n k long all each (omega arith))
    ∙ sym (take_two ns k (omega arith))
    ∙ ap (λ t. take (2 * t) ns) (add-one k)

pub arcs_all : (arcs : List Arc) (ns : List ℕ) (n : ℕ) → length arcs ≡ n → length ns ≡ 2 * n → ((i : ℕ) (e : Arc) → i < n → get_or arcs i e ≡ arc_at ns i) → flat_map arc_numbers arcs ≡ ns
arcs_all arcs ns n long all each =
    ap (flat_map arc_numbers) (sym (take_all n arcs (omega arith)))
    ∙ arcs_front arcs ns n n long all each (omega arith)
    ∙ take_all (2 * n) ns (omega arith)
