-- In which order a run makes its events: when an offer is due, and the solo schedule.
use Rattle.std.specs.Prelude.{◌≡◌, ◌⊎◌, ℕ, suc, ◌-◌, ◌==◌, Bool, true, false, not, ◌&&◌, List, [], ◌∷◌, ◌++◌, count_by, length, Option, Some, None, option_map, if◌then◌else◌}
use Rattle.std.specs.Option.{is_some, option_map_or, option_or}
use Rattle.std.specs.List.{range_with_len}
use Rattle.run_types.specs.declared.run.Event.{Event}
use Rattle.run_types.specs.declared.run.Event.TheVariants.{Move, CheckIn, Offer, Decide, Withdraw}
use Rattle.source_model.specs.Runs.{can_move}
use Rattle.source_model.specs.Guards.{Guard, Setup, Rules, first_guard, has_ended, seat_of, offer_at, is_reached}
use Rattle.source_model.specs.Journals.{happens}

-- the offer that is due: neither it nor a later one was offered yet, each earlier one is closed, and its lines were written
abbrev pub due_at : Setup → Guard → ℕ → Option ℕ
due_at setup g k = if g.closed == g.greatest && is_reached g (offer_at setup k) then Some k else None

abbrev pub due : Setup → Guard → Option ℕ
due setup g = due_at setup g (suc g.greatest)

-- whether an event is a move
abbrev pub makes_move : Event → Bool
makes_move (Move t) = true
makes_move (CheckIn t) = false
makes_move (Offer k) = false
makes_move (Decide k) = false
makes_move (Withdraw k) = false

-- how many moves there are among events
abbrev pub move_count : List Event → ℕ
move_count events = count_by makes_move events

-- no move is made while an offer is due
abbrev pub prompt_from : Rules → Setup → List Event → Guard → Bool
prompt_from rules setup [] g = true
prompt_from rules setup (e ∷ es) g =
    not (makes_move e && is_some (due setup g))
    && option_map_or (prompt_from rules setup es) (happens rules setup e g) true

abbrev pub is_prompt : Rules → Setup → List Event → Bool
is_prompt rules setup events = prompt_from rules setup events (first_guard setup)

-- the slot of an event's thread
abbrev pub acted_by : Event → Option ℕ
acted_by (Move t) = Some t
acted_by (CheckIn t) = Some t
acted_by (Offer k) = None
acted_by (Decide k) = None
acted_by (Withdraw k) = None

-- the slots in cyclic order after the one that acted last; slot 0 is the first at the start
abbrev pub slots_after : ℕ → Option ℕ → List ℕ
slots_after count None = range_with_len 0 count
slots_after count (Some t) = range_with_len (suc t) (count - suc t) ++ range_with_len 0 (suc t)

-- the event that the thread in slot t can do: a check-in where it is at one, else a move
abbrev pub act_of : Guard → ℕ → Option Event
act_of g t =
    if (seat_of g t).at_check_in then Some (CheckIn t) else (if can_move g.world t then Some (Move t) else None)

abbrev pub first_act : Guard → List ℕ → Option Event
first_act g [] = None
first_act g (t ∷ ts) = option_or (act_of g t) (first_act g ts)

-- the solo schedule's next event: an open offer is decided, else a due one is opened, else a thread acts
abbrev pub solo_next : Setup → Guard → Option ℕ → Option Event
solo_next setup g last =
    if has_ended g
    then None
    else option_or (option_map Decide g.open_offer) (option_or (option_map Offer (due setup g)) (first_act g (slots_after (length g.seats) last)))

-- what may be made where the solo schedule has an event next: that event; and instead of a decision the withdrawal of the
-- same offer
abbrev pub MayStand : Event → Event → Type 0
MayStand next made = (made ≡ next) ⊎ ((k : ℕ) × (next ≡ Decide k) × (made ≡ Withdraw k))

-- events, the newest first, each of which may be made for the one that the solo schedule has next; with the guard after
-- them, and the slot that acted last
abbrev pub Solo : Rules → Setup → List Event → Guard → Option ℕ → Type 0
Solo rules setup [] g last = (g ≡ first_guard setup) × (last ≡ None)
Solo rules setup (e ∷ es) g last =
    (before : Guard) × (before_last : Option ℕ) × (next : Event) × Solo rules setup es before before_last
    × (solo_next setup before before_last ≡ Some next) × MayStand next e × (happens rules setup e before ≡ Some g)
    × (last ≡ option_or (acted_by e) before_last)
