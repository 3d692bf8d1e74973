-- One more call on a roadmap that a history has reached.
use Rattle.std.proofs.Common.{◌≡◌, ℕ, Bool, codes, refl, ap}
use Rattle.history_theory.specs.History.{History, Reply, grew, shrank, shows, tallies, nears, withins, names, leads, refused}
use Rattle.printing.specs.Outputs.{word_line}
use Rattle.answers.specs.AnswerLines.{dropped_by, answer_line}
use Rattle.history.specs.declared.Call.{Call}
use Rattle.history.specs.declared.Call.TheVariants as call
use Rattle.history.specs.Turns.{Said, Lent, asked}
use Rattle.history.specs.Law.{Turn}
use Rattle.play_theory.specs.Answering.{itself, set_call}

module _ {E C : Type 0} (dist : E → E → ℕ) (passes : C → E → E → Bool) where
  pub asked_set : (c : Call E C) (l : Lent) → asked passes c l ≡ asked itself (set_call passes c) l
  asked_set (call.Add e c) l = refl
  asked_set (call.Drop n) l = refl
  asked_set (call.Element n) l = refl
  asked_set call.Tally l = refl
  asked_set (call.Near q k places) l = refl
  asked_set (call.Within q r places) l = refl
  asked_set (call.Island n) l = refl
  asked_set (call.Route a b places) l = refl

  pub turn_set : (h : History E) (c : Call E C) (l m : Lent) (a : Said E) → Turn dist passes h c l a m → Turn dist itself h (set_call passes c) l a m
  turn_set h (call.Add e c) l m a t = record { lists = t.lists; gives = t.gives; leaves = t.leaves; owed = t.owed }
  turn_set h (call.Drop n) l m a t = record { lists = t.lists; gives = t.gives; leaves = t.leaves; owed = t.owed }
  turn_set h (call.Element n) l m a t = record { lists = t.lists; gives = t.gives; leaves = t.leaves; owed = t.owed }
  turn_set h call.Tally l m a t = record { lists = t.lists; gives = t.gives; leaves = t.leaves; owed = t.owed }
  turn_set h (call.Near q k places) l m a t = record { lists = t.lists; gives = t.gives; leaves = t.leaves; owed = t.owed }
  turn_set h (call.Within q r places) l m a t = record { lists = t.lists; gives = t.gives; leaves = t.leaves; owed = t.owed }
  turn_set h (call.Island n) l m a t = record { lists = t.lists; gives = t.gives; leaves = t.leaves; owed = t.owed }
  turn_set h (call.Route x y places) l m a t = record { lists = t.lists; gives = t.gives; leaves = t.leaves; owed = t.owed }

  dropped_set : (c : Call E C) → dropped_by (set_call passes c) ≡ dropped_by c
  dropped_set (call.Add e c) = refl
  dropped_set (call.Drop n) = refl
  dropped_set (call.Element n) = refl
  dropped_set call.Tally = refl
  dropped_set (call.Near q k places) = refl
  dropped_set (call.Within q r places) = refl
  dropped_set (call.Island n) = refl
  dropped_set (call.Route a b places) = refl

  -- the line does not depend on how the checker is given
  pub line_set : (c : Call E C) (a : Reply E) (m : Lent) → answer_line (set_call passes c) a m ≡ answer_line c a m
  line_set c (grew n edges) m = refl
  line_set c shrank m = ap (word_line (codes "d")) (dropped_set c)
  line_set c (shows e) m = refl
  line_set c (tallies cap s last) m = refl
  line_set c (nears n) m = refl
  line_set c (withins n) m = refl
  line_set c (names n) m = refl
  line_set c (leads long n) m = refl
  line_set c (refused n figures) m = refl
