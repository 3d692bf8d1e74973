-- Two runs that ask the same are the same. Assumes nothing.
use Rattle.std.proofs.Common.{◌≡◌, ℕ, Bool, List, [], ◌∷◌, ◌++◌, drop, sym, refl, ap, ◌∙◌, subst}
use mathlib.Core.Path.{fun_ext}
use Rattle.history.specs.declared.Call.{Call}
use Rattle.history_theory.specs.History.{Asked, asks_add, History, Lists, no_list, hit_list, number_list, then_asks, Gives}
use Rattle.history_theory.proofs.One.{gives_one}
use Rattle.history.specs.Fitting.{hit_places, number_places}
use Rattle.history.specs.Turns.{Said, Lent, lent, reply, asked, lists_after}
use Rattle.history.specs.Law.{Turn, Plays, Alike, adds, drops, elements, tallied, neared, ranged, islands, routes, AllAlike, replies}

module _ {E C D : Type 0} (dist : E → E → ℕ) (p : C → E → E → Bool) (q : D → E → E → Bool) where
  pub same_asked : (c : Call E C) (d : Call E D) (l : Lent) → Alike p q c d → asked p c l ≡ asked q d l
  same_asked c d l (adds e x y s) = ap (λ f. asks_add e f) (fun_ext (λ a. fun_ext (λ b. s a b)))
  same_asked c d l (drops n) = refl
  same_asked c d l (elements n) = refl
  same_asked c d l tallied = refl
  same_asked c d l (neared e k n) = refl
  same_asked c d l (ranged e r n) = refl
  same_asked c d l (islands n) = refl
  same_asked c d l (routes a b n) = refl

  same_places : (c : Call E C) (d : Call E D) → Alike p q c d → (hit_places c ≡ hit_places d) × (number_places c ≡ number_places d)
  same_places c d (adds e x y s) = (refl, refl)
  same_places c d (drops n) = (refl, refl)
  same_places c d (elements n) = (refl, refl)
  same_places c d tallied = (refl, refl)
  same_places c d (neared e k n) = (refl, refl)
  same_places c d (ranged e r n) = (refl, refl)
  same_places c d (islands n) = (refl, refl)
  same_places c d (routes a b n) = (refl, refl)

  same_lists : (c : Call E C) (d : Call E D) → Alike p q c d → (l : Lent) (x : Lists) → lists_after c l x ≡ lists_after d l x
  same_lists c d s l no_list = refl
  same_lists c d s l (hit_list x) = ap (λ n. lent (x ++ drop n l.hits) l.numbers) (same_places c d s).0
  same_lists c d s l (number_list x) = ap (λ n. lent l.hits (x ++ drop n l.numbers)) (same_places c d s).1

  pub same_turn : (h : History E) (c : Call E C) (d : Call E D) (l m n : Lent) (a b : Said E) → Alike p q c d → Turn dist p h c l a m → Turn dist q h d l b n → (reply a ≡ reply b) × (m ≡ n)
  same_turn h c d l m n a b s x y =
      let P : Asked E → Type 0 = λ z. Gives dist h z (reply a) x.lists in
      let r = gives_one dist h (asked q d l) (reply a) (reply b) x.lists y.lists (subst P (same_asked c d l s) x.gives) y.gives in
      (r.0, x.leaves ∙ (same_lists c d s l x.lists ∙ (ap (lists_after d l) r.1 ∙ sym y.leaves)))

  pub same_plays : (h : History E) (cs : List (Call E C)) (ds : List (Call E D)) (l : Lent) (as' bs : List (Said E)) (ms ns : List Lent) → AllAlike p q cs ds → Plays dist p h cs l as' ms → Plays dist q h ds l bs ns → (replies as' ≡ replies bs) × (ms ≡ ns)
  same_plays h [] [] l [] [] [] [] s u v = (refl, refl)
  same_plays h [] [] l [] [] [] (n ∷ ns) s u v = absurd v
  same_plays h [] [] l [] [] (m ∷ ms) ns s u v = absurd u
  same_plays h [] [] l [] (b ∷ bs) ms ns s u v = absurd v
  same_plays h [] [] l (a ∷ as') bs ms ns s u v = absurd u
  same_plays h [] (d ∷ ds) l as' bs ms ns s u v = absurd s
  same_plays h (c ∷ cs) [] l as' bs ms ns s u v = absurd s
  same_plays h (c ∷ cs) (d ∷ ds) l [] bs ms ns s u v = absurd u
  same_plays h (c ∷ cs) (d ∷ ds) l (a ∷ as') bs [] ns s u v = absurd u
  same_plays h (c ∷ cs) (d ∷ ds) l (a ∷ as') [] (m ∷ ms) ns s u v = absurd v
  same_plays h (c ∷ cs) (d ∷ ds) l (a ∷ as') (b ∷ bs) (m ∷ ms) [] s u v = absurd v
  same_plays h (c ∷ cs) (d ∷ ds) l (a ∷ as') (b ∷ bs) (m ∷ ms) (n ∷ ns) s u v =
      let one = same_turn h c d l m n a b s.0 u.0 v.0 in
      let g : History E = then_asks h (asked p c l) in
      let P : Asked E → Type 0 = λ k. Plays dist q (then_asks h k) ds n bs ns in
      let Q : Lent → Type 0 = λ k. Plays dist q g ds k bs ns in
      let w = subst Q (sym one.1) (subst P (sym (same_asked c d l s.0)) v.1) in
      let rest = same_plays g cs ds m as' bs ms ns s.1 u.1 w in
      ((λ i. one.0 i ∷ rest.0 i), (λ i. one.1 i ∷ rest.1 i))
