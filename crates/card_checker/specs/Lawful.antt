-- Mix passes a pair both ways round or not at all. Assumes nothing.
use Rattle.std.specs.Prelude.{◌≡◌, ℕ, not, ◌&&◌, List, ◌==◌, slice_index}
use Rattle.std.proofs.Common.{ap, sym, ◌∙◌}
use Rattle.std.proofs.Math.Bool.{and_assoc, and_comm}
use Rattle.std.specs.List.{range_with_len}
use Rattle.card.specs.declared.Card.{Card}
use Rattle.checker.proofs.Seen.{every_same, some_same}
use Rattle.card_checker.specs.declared.CardWall.{CardWall}
use Rattle.card_checker.specs.Passes.{free, free_at, clear, mix_passes}

free_back : (asked a b : ℕ) → free asked a b ≡ free asked b a
free_back asked a b =
    and_assoc (not (asked == 255)) (not (asked == a)) (not (asked == b))
    ∙ ap (λ t. not (asked == 255) && t) (and_comm (not (asked == a)) (not (asked == b)))
    ∙ sym (and_assoc (not (asked == 255)) (not (asked == b)) (not (asked == a)))

clear_back : (e f : Card) (w : CardWall) → clear w e f ≡ clear w f e
unfolding clear
clear_back e f w = some_same (free_at w e f) (free_at w f e) (λ i. free_back (slice_index w.slots i) (slice_index e.slots i) (slice_index f.slots i)) (range_with_len 0 8)

pub mix_symmetric : (walls : List CardWall) (e f : Card) → mix_passes walls e f ≡ mix_passes walls f e
unfolding mix_passes
mix_symmetric walls e f = every_same (λ w. clear w e f) (λ w. clear w f e) (clear_back e f) walls
