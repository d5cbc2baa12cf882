-- The events of a run in order: when they are legal, which moves they make, and what they answer.
use Rattle.std.specs.Prelude.{◌≡◌, ℕ, ◌==◌, Bool, not, ◌&&◌, ◌||◌, List, [], ◌∷◌, map, filter_map, find, length, Option, Some, None, option_map, if◌then◌else◌}
use Rattle.std.specs.Option.{is_none, option_map_or, option_and_then}
use Rattle.std.specs.List.{range_with_len}
use Rattle.run_types.specs.declared.run.Event.{Event}
use Rattle.run_types.specs.declared.run.Event.TheVariants.{Move, CheckIn, Offer, Decide, Withdraw}
use Rattle.source_model.specs.Moves.{move}
use Rattle.source_model.specs.Runs.{SourceMove}
use Rattle.source_model.specs.Runs as source
use Rattle.source_model.specs.Answers.{Answer, Installed, NotOffered, Withdrawn}
use Rattle.source_model.specs.Guards.{Guard, Setup, Rules, Answered, first_guard, has_ended, bodies_of, seat_of, moved, checked_in, offer_at, can_open, is_open, decide, answered}

-- a guard where a test holds
abbrev pub guard_if : Bool → Guard → Option Guard
guard_if test g = if test then Some g else None

-- what an event makes; none where it can't happen
abbrev pub happens : Rules → Setup → Event → Guard → Option Guard
happens rules setup (Move t) g =
    if has_ended g || (seat_of g t).at_check_in then None else option_map (moved g t) (move g.world t)
happens rules setup (CheckIn t) g =
    guard_if (not (has_ended g) && (seat_of g t).at_check_in && is_none g.open_offer) (checked_in (bodies_of g) g t)
happens rules setup (Offer k) g =
    guard_if (not (has_ended g) && can_open setup g k) (record g { open_offer = Some k; greatest = k })
happens rules setup (Decide k) g =
    if not (has_ended g) && is_open g k then decide rules g k (offer_at setup k) else None
happens rules setup (Withdraw k) g = guard_if (not (has_ended g) && is_open g k) (answered k Withdrawn g)

-- events in order
abbrev pub play : Rules → Setup → List Event → Guard → Option Guard
play rules setup [] g = Some g
play rules setup (e ∷ es) g = option_and_then (play rules setup es) (happens rules setup e g)

-- the guard after a journal; none where an event can't happen when it comes
abbrev pub guard_after : Rules → Setup → List Event → Option Guard
guard_after rules setup events = play rules setup events (first_guard setup)

-- each event can happen when it comes
abbrev pub IsLegal : Rules → Setup → List Event → Type 0
IsLegal rules setup events = (g : Guard) × (guard_after rules setup events ≡ Some g)

-- the answer to offer k among some; an offer without a decision was never closed
abbrev pub answer_of : List Answered → ℕ → Answer
answer_of answers k = option_map_or (λ a. a.answer) (find (λ a. a.offer == k) answers) NotOffered

-- the answers of a run, by offer
abbrev pub answers : Setup → Guard → List Answer
answers setup g = map (answer_of g.answers) (range_with_len 1 (length setup.offers))

-- the source machine's move of an event: the move itself, and the install of an offer that was installed
abbrev pub install_of : ℕ → Answer → Option SourceMove
install_of k (Installed version) = Some (source.Install k)
install_of k _ = None

abbrev pub move_by : List Answered → Event → Option SourceMove
move_by given (Move t) = Some (source.Move t)
move_by given (Decide k) = install_of k (answer_of given k)
move_by given (CheckIn t) = None
move_by given (Offer k) = None
move_by given (Withdraw k) = None

-- the moves of a journal, by the answers given
abbrev pub moves : List Answered → List Event → List SourceMove
moves given events = filter_map (move_by given) events
