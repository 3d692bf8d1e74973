-- Turns of a run on a roadmap. Assumes nothing.
use Rattle.std.proofs.Common.{◌≡◌, ℕ, ◌+◌, ◌-◌, ◌<◌, ◌≤◌, min, Bool, ◌⊎◌, List, [], ◌∷◌, ◌++◌, length, get_or, take, drop, set, sym, refl, ap, ◌∙◌, subst, inl, inr, arith}
use borrow.Rule.Slice.PartMut.{put_mid}
use Rattle.std.proofs.lemmas.List.{take_all, drop_all, take_more, take_more_set}
use Rattle.std.proofs.lemmas.Bool.{cases_lt}
use Rattle.hits.specs.declared.Hit.{Hit}
use Rattle.index.specs.Outcomes.{Outcome}
use Rattle.index.specs.Calls.{near_outcome, near_list, within_count, within_list}
use Rattle.roadmap.specs.Roads.{Road}
use Rattle.roadmap.specs.Calls.{IslandTold, RouteTold}
use Rattle.history.specs.declared.Call.{Call}
use Rattle.history.specs.declared.Call.TheVariants as call
use Rattle.history_theory.specs.History.{nears, withins, names, leads, no_list, hit_list, number_list, reply_of}
use Rattle.history.specs.Turns.{Said, Lent, lent, reply, Does, Runs, final, Ran}

-- the first places of a list, as many as there are
module _ {X : Type 0} (places p : ℕ) (xs : List X) (is : p ≡ min places (length xs)) where
  pub part_taken : take (p - 0) (drop 0 xs) ≡ take places xs
  part_taken = go (cases_lt places (length xs))
    where
      go : (places < length xs) ⊎ (length xs ≤ places) → take (p - 0) xs ≡ take places xs
      go (inl l) = ap (λ k. take k xs) (omega arith)
      go (inr l) = take_all (p - 0) xs (omega arith) ∙ sym (take_all places xs l)

  part_left : drop (p - 0) (drop 0 xs) ≡ drop places xs
  part_left = go (cases_lt places (length xs))
    where
      go : (places < length xs) ⊎ (length xs ≤ places) → drop (p - 0) xs ≡ drop places xs
      go (inl l) = ap (λ k. drop k xs) (omega arith)
      go (inr l) = drop_all (p - 0) xs (omega arith) ∙ sym (drop_all places xs l)

  pub part_put : (new : List X) → put_mid 0 (p - 0) xs new ≡ new ++ drop places xs
  part_put new = ap (λ z. new ++ z) part_left

module _ {E C : Type 0} (dist : E → E → ℕ) (passes : C → E → E → Bool) (road : Road E) where
  pub does_as : (c d : Call E C) (l m : Lent) (a : Said E) (after : Road E) → c ≡ d → Does dist passes road d l a m after → Does dist passes road c l a m after
  does_as c d l m a after e x = (let P : Call E C → Type 0 = λ z. Does dist passes road z l a m after in subst P (sym e) x)

  pub near_does : (q : E) (k places p : ℕ) (hs new : List Hit) (ns : List ℕ) (a : Said E) → p ≡ min places (length hs) → reply a ≡ reply_of nears (near_outcome road.index k (take (p - 0) (drop 0 hs))) → new ≡ near_list dist road.index q k (take (p - 0) (drop 0 hs)) → Does dist passes road (call.Near q k places) (lent hs ns) a (lent (put_mid 0 (p - 0) hs new) ns) road
  near_does q k places p hs new ns a is e w =
      let t = part_taken places p hs is in
      record {
        lists = hit_list new;
        tells = (e ∙ ap (λ z. reply_of nears (near_outcome road.index k z)) t, ap hit_list (w ∙ ap (near_list dist road.index q k) t), refl);
        leaves = ap (λ z. lent z ns) (part_put places p hs is new);
      }

  pub within_does : (q : E) (r places p n : ℕ) (hs new : List Hit) (ns : List ℕ) (a : Said E) → p ≡ min places (length hs) → reply a ≡ withins n → n ≡ within_count dist road.index q r → new ≡ within_list dist road.index q r (take (p - 0) (drop 0 hs)) → Does dist passes road (call.Within q r places) (lent hs ns) a (lent (put_mid 0 (p - 0) hs new) ns) road
  within_does q r places p n hs new ns a is e c w =
      let t = part_taken places p hs is in
      record {
        lists = hit_list new;
        tells = (e ∙ ap withins c, ap hit_list (w ∙ ap (within_list dist road.index q r) t), refl);
        leaves = ap (λ z. lent z ns) (part_put places p hs is new);
      }

  pub island_does : (n : ℕ) (l : Lent) (o : Outcome ℕ) (a : Said E) → reply a ≡ reply_of names o → IslandTold road n o → Does dist passes road (call.Island n) l a l road
  island_does n l o a e t = record { lists = no_list; tells = ((o, e, t), refl, refl); leaves = refl }

  pub route_does : (x y places p : ℕ) (hs : List Hit) (ns new : List ℕ) (o : Outcome (ℕ × ℕ)) (a : Said E) → p ≡ min places (length ns) → reply a ≡ reply_of (λ z. leads z.0 z.1) o → RouteTold road x y (take (p - 0) (drop 0 ns)) o new → Does dist passes road (call.Route x y places) (lent hs ns) a (lent hs (put_mid 0 (p - 0) ns new)) road
  route_does x y places p hs ns new o a is e t =
      let P : List ℕ → Type 0 = λ z. RouteTold road x y z o new in
      record {
        lists = number_list new;
        tells = ((o, new, e, subst P (part_taken places p ns is) t, refl), refl);
        leaves = ap (λ z. lent hs z) (part_put places p ns is new);
      }

final_push : (l m : Lent) (ms : List Lent) → final l (ms ++ (m ∷ [])) ≡ m
final_push l m [] = refl
final_push l m (x ∷ ms) = final_push x m ms

module _ {E C : Type 0} (dist : E → E → ℕ) (passes : C → E → E → Bool) where
  runs_push : (road next after : Road E) (cs : List (Call E C)) (c : Call E C) (l m : Lent) (as' : List (Said E)) (a : Said E) (ms : List Lent) → Runs dist passes road cs l as' ms next → Does dist passes next c (final l ms) a m after → Runs dist passes road (cs ++ (c ∷ [])) l (as' ++ (a ∷ [])) (ms ++ (m ∷ [])) after
  runs_push road next after [] c l m [] a [] r d = (after, (let P : Road E → Type 0 = λ z. Does dist passes z c l a m after in subst P r d), refl)
  runs_push road next after [] c l m [] a (x ∷ ms) r d = absurd r
  runs_push road next after [] c l m (b ∷ as') a ms r d = absurd r
  runs_push road next after (x ∷ cs) c l m [] a ms r d = absurd r
  runs_push road next after (x ∷ cs) c l m (b ∷ as') a [] r d = absurd r
  runs_push road next after (x ∷ cs) c l m (b ∷ as') a (y ∷ ms) r d = (r.0, r.1, runs_push r.0 next after cs c y m as' a ms r.2 d)

  pub ran_none : (road : Road E) (l : Lent) → Ran dist passes road [] l [] l road
  ran_none road l = record { turns = []; runs = refl; ends = refl }

  pub ran_more : (road next after : Road E) (cs : List (Call E C)) (c : Call E C) (l m n : Lent) (answers : List (Said E)) (a : Said E) (i : ℕ) → i < length cs → i < length answers → c ≡ get_or cs i c → Ran dist passes road (take i cs) l (take i answers) m next → Does dist passes next c m a n after → Ran dist passes road (take (i + 1) cs) l (take (i + 1) (set answers i a)) n after
  ran_more road next after cs c l m n answers a i lc la is r d =
      let moreC : take (i + 1) cs ≡ take i cs ++ (c ∷ []) = take_more cs i c lc ∙ ap (λ z. take i cs ++ (z ∷ [])) (sym is) in
      let moreA : take (i + 1) (set answers i a) ≡ take i answers ++ (a ∷ []) = take_more_set answers i a la in
      let P : List (Call E C) → Type 0 = λ z. Runs dist passes road z l (take (i + 1) (set answers i a)) (r.turns ++ (n ∷ [])) after in
      let Q : List (Said E) → Type 0 = λ z. Runs dist passes road (take i cs ++ (c ∷ [])) l z (r.turns ++ (n ∷ [])) after in
      let R : Lent → Type 0 = λ z. Does dist passes next c z a n after in
      record {
        turns = r.turns ++ (n ∷ []);
        runs = subst P (sym moreC) (subst Q (sym moreA) (runs_push road next after (take i cs) c l n (take i answers) a r.turns r.runs (subst R (sym r.ends) d)));
        ends = final_push l n r.turns;
      }

  pub ran_all : (road after : Road E) (cs : List (Call E C)) (l m : Lent) (answers : List (Said E)) (i : ℕ) → length cs ≤ i → length answers ≤ i → Ran dist passes road (take i cs) l (take i answers) m after → Ran dist passes road cs l answers m after
  ran_all road after cs l m answers i a b r =
      let P : List (Call E C) → Type 0 = λ z. Ran dist passes road z l (take i answers) m after in
      let Q : List (Said E) → Type 0 = λ z. Ran dist passes road cs l z m after in
      subst Q (take_all i answers b) (subst P (take_all i cs a) r)
