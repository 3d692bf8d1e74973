use Rattle.std.proofs.Common.{◌≡◌, ◌-◌, false, [], ◌∷◌, refl, ap, ◌∙◌, rules}
use Rattle.std.proofs.lemmas.Result.{err_from_is_err_and}
use Rattle.index.specs.Outcomes.{refuses}
use Rattle.words.specs.declared.token.Token.TheVariants.{Letters, Digits, Wrong}
use Rattle.words.specs.Tokens.{shown, place_of}
use Rattle.words.specs.Cursors.{words_left, first_word}
use Rattle.lines.specs.Calls.{call_shown}
use Rattle.lines.proofs.Firsts.{of_letters, place_first}
use Rattle.level.specs.Levels.{level_shown}
use Rattle.level.specs.Readers.{level_read}
use Rattle.level.specs.Stages.{stage_shown}
use Rattle.level.proofs.Rooms.{walls_shown, calls_shown, room_wall_count, room_call_count, room_wall, room_call, left_wall, left_call, shown_wall, shown_call, walls_put, calls_put, wall_put, call_put}
use Rattle.level.proofs.Steps.{of_digits, can_begin, cannot_begin, wall_count_gives, wall_count_lacks, call_count_gives, call_count_lacks, wall_gives, wall_lacks, call_gives, call_lacks}
use Rattle.level.proofs.reader.Reader.take_line.Goals as goal
use Rattle.level.proofs.reader.Reader.take_line.Goals.{in_default-via-in-WallCount+in-Digits-1, in_default-via-in-Walls+in-Letters-1, in_default-via-in-CallCount+in-Digits-1, in_default-via-in-Calls+in-Digits-1, in_default-via-in-End-1}

pub returns-in_err-count-in-WallCount-Letters-clause-told : goal.returns-in_err-count-in-WallCount-Letters-clause-told
returns-in_err-count-in-WallCount-Letters-clause-told g c =
    let p = err_from_is_err_and c.from_residual.result c.from_residual.ensures.1 in
    λ line. rw (p.1, p.2) (wall_count_lacks line (level_read c.args.self.now) (words_left c.args.words.now) c.args.words.now.place c.requires.place (stage_shown c.args.self.now.stage) (ap stage_shown c.in-WallCount-Letters.is-0) c.in_err-count-in-WallCount-Letters.field-0.0.0 c.in_err-count-in-WallCount-Letters.ensures.taken)

pub returns-in_err-wall-in-Walls-Digits-clause-told : goal.returns-in_err-wall-in-Walls-Digits-clause-told
returns-in_err-wall-in-Walls-Digits-clause-told g c =
    let p = err_from_is_err_and c.from_residual-in_err-wall-in-Walls-Digits.result c.from_residual-in_err-wall-in-Walls-Digits.ensures.1 in
    λ line. rw (p.1, p.2) (wall_lacks line (level_read c.args.self.now) (words_left c.args.words.now) c.args.words.now.place c.requires.place (stage_shown c.args.self.now.stage) c.in-Walls-Digits.left (left_wall c.args.self.now c.in-Walls-Digits.left c.in-Walls-Digits.is-0).0 (ap stage_shown c.in-Walls-Digits.is-0) c.in_err-wall-in-Walls-Digits.field-0.0.0 c.in_err-wall-in-Walls-Digits.ensures.taken)

pub returns-in_err-count-in-CallCount-Letters-clause-told : goal.returns-in_err-count-in-CallCount-Letters-clause-told
returns-in_err-count-in-CallCount-Letters-clause-told g c =
    let p = err_from_is_err_and c.from_residual-in_err-count-in-CallCount-Letters.result c.from_residual-in_err-count-in-CallCount-Letters.ensures.1 in
    λ line. rw (p.1, p.2) (call_count_lacks line (level_read c.args.self.now) (words_left c.args.words.now) c.args.words.now.place c.requires.place (stage_shown c.args.self.now.stage) (ap stage_shown c.in-CallCount-Letters.is-0) c.in_err-count-in-CallCount-Letters.field-0.0.0 c.in_err-count-in-CallCount-Letters.ensures.taken)

pub returns-in_err-call-in-Calls-Letters-clause-told : goal.returns-in_err-call-in-Calls-Letters-clause-told
returns-in_err-call-in-Calls-Letters-clause-told g c =
    let p = err_from_is_err_and c.from_residual-in_err-call-in-Calls-Letters.result c.from_residual-in_err-call-in-Calls-Letters.ensures.1 in
    λ line. rw (p.1, p.2) (call_lacks line (level_read c.args.self.now) (words_left c.args.words.now) c.args.words.now.place c.requires.place (stage_shown c.args.self.now.stage) c.in-Calls-Letters.left (left_call c.args.self.now c.in-Calls-Letters.left c.in-Calls-Letters.is-0).0 (ap stage_shown c.in-Calls-Letters.is-0) c.in_err-call-in-Calls-Letters.field-0.0.0 (c.in_err-call-in-Calls-Letters.ensures.told line))

pub push-requires : goal.push-requires
push-requires g c = let s = left_wall c.args.self.now c.in-Walls-Digits.left c.in-Walls-Digits.is-0 in search (rules, s.1)

pub push-requires-in-Calls-Letters : goal.push-requires-in-Calls-Letters
push-requires-in-Calls-Letters g c = let s = left_call c.args.self.now c.in-Calls-Letters.left c.in-Calls-Letters.is-0 in search (rules, s.1)

pub overflow_sub-left : goal.overflow_sub-left
overflow_sub-left g c = (left_wall c.args.self.now c.in-Walls-Digits.left c.in-Walls-Digits.is-0).0

pub overflow_sub-left-in-Calls-Letters : goal.overflow_sub-left-in-Calls-Letters
overflow_sub-left-in-Calls-Letters g c =
    (left_call c.args.self.now c.in-Calls-Letters.left c.in-Calls-Letters.is-0).0

-- the facts of the reader, where its stage is written
pub invariant_of-self : goal.invariant_of-self
invariant_of-self g c =
    room_wall_count c.args.self.now c.in_ok-count-in-WallCount-Letters.count c.walls_to_come-self.result c.in-WallCount-Letters.is-0 c.in_ok-count-in-WallCount-Letters.ensures.most c.walls_to_come-self.ensures

pub invariant_of-self-in-CallCount-Letters : goal.invariant_of-self-in-CallCount-Letters
invariant_of-self-in-CallCount-Letters g c =
    room_call_count c.args.self.now c.in_ok-count-in-CallCount-Letters.count c.calls_to_come-self.result c.in-CallCount-Letters.is-0 c.in_ok-count-in-CallCount-Letters.ensures.most c.calls_to_come-self.ensures

pub invariant_of-self-in-Walls-Digits : goal.invariant_of-self-in-Walls-Digits
invariant_of-self-in-Walls-Digits g c =
    room_wall c.args.self.now c.in-Walls-Digits.left _ c.push.new.self.items c.walls_to_come-self-in-Walls-Digits.result c.in-Walls-Digits.is-0 c.push.ensures.items c.walls_to_come-self-in-Walls-Digits.ensures

pub invariant_of-self-in-Calls-Letters : goal.invariant_of-self-in-Calls-Letters
invariant_of-self-in-Calls-Letters g c =
    room_call c.args.self.now c.in-Calls-Letters.left _ c.push-in-Calls-Letters.new.self.items c.calls_to_come-self-in-Calls-Letters.result c.in-Calls-Letters.is-0 c.push-in-Calls-Letters.ensures.items c.calls_to_come-self-in-Calls-Letters.ensures

pub returns-in_ok-count-in-WallCount-Letters-clause-told : goal.returns-in_ok-count-in-WallCount-Letters-clause-told
returns-in_ok-count-in-WallCount-Letters-clause-told g c =
    λ line. wall_count_gives line (level_read c.args.self.now) (words_left c.args.words.now) c.args.words.now.place c.requires.place (stage_shown c.args.self.now.stage) (ap stage_shown c.in-WallCount-Letters.is-0) c.in_ok-count-in-WallCount-Letters.count (stage_shown c.walls_to_come-self.result) c.in_ok-count-in-WallCount-Letters.ensures.taken (ap stage_shown c.walls_to_come-self.ensures ∙ walls_shown c.in_ok-count-in-WallCount-Letters.count)

pub returns-in_ok-count-in-CallCount-Letters-clause-told : goal.returns-in_ok-count-in-CallCount-Letters-clause-told
returns-in_ok-count-in-CallCount-Letters-clause-told g c =
    λ line. call_count_gives line (level_read c.args.self.now) (words_left c.args.words.now) c.args.words.now.place c.requires.place (stage_shown c.args.self.now.stage) (ap stage_shown c.in-CallCount-Letters.is-0) c.in_ok-count-in-CallCount-Letters.count (stage_shown c.calls_to_come-self.result) c.in_ok-count-in-CallCount-Letters.ensures.taken (ap stage_shown c.calls_to_come-self.ensures ∙ calls_shown c.in_ok-count-in-CallCount-Letters.count)

pub returns-in_ok-wall-in-Walls-Digits-clause-told : goal.returns-in_ok-wall-in-Walls-Digits-clause-told
returns-in_ok-wall-in-Walls-Digits-clause-told g c =
    let s = left_wall c.args.self.now c.in-Walls-Digits.left c.in-Walls-Digits.is-0 in
    λ line. wall_gives line (level_read c.args.self.now) (words_left c.args.words.now) c.args.words.now.place c.requires.place (stage_shown c.args.self.now.stage) c.in-Walls-Digits.left s.0 (ap stage_shown c.in-Walls-Digits.is-0) (g.K.Written.bounds c.in_ok-wall-in-Walls-Digits.wall) (stage_shown c.walls_to_come-self-in-Walls-Digits.result) (level_shown g.K.Written.kind g.K.Written.listed g.K.Written.bounds (walls_put c.args.self.now.level c.push.new.self)) c.in_ok-wall-in-Walls-Digits.ensures.taken
    (ap stage_shown c.walls_to_come-self-in-Walls-Digits.ensures ∙ walls_shown (c.in-Walls-Digits.left - 1))
    (ap (level_shown g.K.Written.kind g.K.Written.listed g.K.Written.bounds) (wall_put c.args.self.now.level c.in_ok-wall-in-Walls-Digits.wall c.push.new.self c.push.ensures.items) ∙ shown_wall g.K.Written.kind g.K.Written.listed g.K.Written.bounds c.args.self.now.level c.in_ok-wall-in-Walls-Digits.wall)

pub returns-in_ok-call-in-Calls-Letters-clause-told : goal.returns-in_ok-call-in-Calls-Letters-clause-told
returns-in_ok-call-in-Calls-Letters-clause-told g c =
    let s = left_call c.args.self.now c.in-Calls-Letters.left c.in-Calls-Letters.is-0 in
    λ line. call_gives line (level_read c.args.self.now) (words_left c.args.words.now) c.args.words.now.place c.requires.place (stage_shown c.args.self.now.stage) c.in-Calls-Letters.left s.0 (ap stage_shown c.in-Calls-Letters.is-0) (call_shown g.K.Written.listed c.in_ok-call-in-Calls-Letters.call) (stage_shown c.calls_to_come-self-in-Calls-Letters.result) (level_shown g.K.Written.kind g.K.Written.listed g.K.Written.bounds (calls_put c.args.self.now.level c.push-in-Calls-Letters.new.self)) (c.in_ok-call-in-Calls-Letters.ensures.told line)
    (ap stage_shown c.calls_to_come-self-in-Calls-Letters.ensures ∙ calls_shown (c.in-Calls-Letters.left - 1))
    (ap (level_shown g.K.Written.kind g.K.Written.listed g.K.Written.bounds) (call_put c.args.self.now.level c.in_ok-call-in-Calls-Letters.call c.push-in-Calls-Letters.new.self c.push-in-Calls-Letters.ensures.items) ∙ shown_call g.K.Written.kind g.K.Written.listed g.K.Written.bounds c.args.self.now.level c.in_ok-call-in-Calls-Letters.call)

pub returns-in_default-clause-told : goal.returns-in_default-clause-told
returns-in_default-clause-told g c =
    let first = c.peek.ensures ∙ ap (first_word (words_left c.args.words.now)) c.requires.place in
    let f : can_begin c.args.self.now.stage (shown c.peek.result) ≡ false = elim c.in_default-1.branch [
      | in_default-via-in-WallCount+in-Digits-1 w ↦ let n : of_letters (shown c.peek.result) ≡ false = (elim c.peek.result as (λ t. c.peek.result ≡ t → of_letters (shown t) ≡ false) [ Letters a b ↦ λ e. absurd (w.in-Digits-1.refused-1.1 (rw e refl)) | Digits a b ↦ λ e. refl | Wrong a ↦ λ e. refl ] refl) in search (rules, n)
      | in_default-via-in-Walls+in-Letters-1 w ↦ let n : of_digits (shown c.peek.result) ≡ false = (elim c.peek.result as (λ t. c.peek.result ≡ t → of_digits (shown t) ≡ false) [ Letters a b ↦ λ e. refl | Digits a b ↦ λ e. absurd (w.in-Letters-1.refused-1.1 (rw e refl)) | Wrong a ↦ λ e. refl ] refl) in search (rules, n)
      | in_default-via-in-CallCount+in-Digits-1 w ↦ let n : of_letters (shown c.peek.result) ≡ false = (elim c.peek.result as (λ t. c.peek.result ≡ t → of_letters (shown t) ≡ false) [ Letters a b ↦ λ e. absurd (w.in-Digits-1.refused-1.1 (rw e refl)) | Digits a b ↦ λ e. refl | Wrong a ↦ λ e. refl ] refl) in search (rules, n)
      | in_default-via-in-Calls+in-Digits-1 w ↦ let n : of_letters (shown c.peek.result) ≡ false = (elim c.peek.result as (λ t. c.peek.result ≡ t → of_letters (shown t) ≡ false) [ Letters a b ↦ λ e. absurd (w.in-Digits-1.refused-1.1 (rw e refl)) | Digits a b ↦ λ e. refl | Wrong a ↦ λ e. refl ] refl) in search (rules, n)
      | in_default-via-in-End-1 w ↦ search rules
    ] in
    λ line. ap (λ i. refuses 8 (line ∷ (i ∷ []))) (c.place.ensures ∙ ap place_of first ∙ place_first (words_left c.args.words.now) 1)
    ∙ cannot_begin line (level_read c.args.self.now) (words_left c.args.words.now) c.args.self.now.stage (shown c.peek.result) first c.args.self.now.some_left c.requires.more f
