-- Small runs with their events, by the solo schedule and by hand.
use Rattle.std.proofs.Common.{◌≡◌, ℕ, zero, suc, ◌+◌, Bool, true, false, List, [], ◌∷◌, Option, Some, None, refl, pos}
use Rattle.std.specs.Prelude.{codes, option_map, map, filter_map, length, replicate, ◌++◌, ◌==◌, if◌then◌else◌}
use Rattle.std.specs.List.{range_with_len}
use Rattle.std.specs.Option.{option_and_then, option_or, is_some}
use Rattle.std.specs.Fmt.{digits}
use Rattle.run_types.specs.declared.run.Event.{Event}
use Rattle.run_types.specs.declared.run.Event.TheVariants.{Move, CheckIn, Offer, Decide, Withdraw}
use Rattle.run_types.specs.declared.run.Ending.{Ending}
use Rattle.run_types.specs.declared.run.Ending.TheVariants.{Finished, Deadlock, Cut}
use Rattle.c_ints.specs.declared.kind.Kind.TheVariants.{I32}
use Rattle.c_ints.specs.Number.{number}
use Rattle.c_tree.specs.BareDef.{BareDef, Mutex}
use Rattle.c_tree.specs.declared.expr.Expr.{roll-Expr}
use Rattle.c_tree.specs.declared.expr.ExprNode.TheVariants.{Number}
use Rattle.c_tree.specs.declared.def.DefKind.TheVariants.{TransformGlobal}
use Rattle.con_freeness.specs.declared.refusal.Effect.TheVariants as effect
use Rattle.con_freeness.specs.Verdicts.{Effect, Concrete, Both, Pinned}
use Rattle.con_freeness.specs.Rows.{Names, Row, empty_row}
use Rattle.source_model.specs.declared.answer.OfferAnswer.TheVariants as ids
use Rattle.source_model.specs.declared.patch.NotPatch.{NotPatch}
use Rattle.source_model.specs.declared.patch.NotPatch.TheVariants.{Versions, Names as NamesFull, Kind, Transform, StoreFull}
use Rattle.source_model.specs.Runs.{SourceMove, result}
use Rattle.source_model.specs.Runs as source
use Rattle.c_semantics.specs.SourceTexts.{Text}
use Rattle.c_semantics.specs.Store.{Mark, Start, CheckInOf, store}
use Rattle.source_model.specs.Answers.{Answer, Installed, RefusedFor, NoPatch, Withdrawn, NotOffered, answer_seen}
use Rattle.source_model.specs.Patches.{not_patch}
use Rattle.source_model.specs.Guards.{Guard, Seat, Setup, Rules, first_guard}
use Rattle.source_model.specs.Journals.{happens, guard_after, answers, moves}
use Rattle.source_model.specs.Schedules.{due, slots_after, solo_next, acted_by, is_prompt}
use Rattle.source_model.specs.Endings.{ending, run_ending, replay_ending}
use Rattle.source_model.proofs.Runs.{with_objects}
use Rattle.source_model.proofs.Texts.{text_with, counting, locking, calling, calling_2, other_kind_of}
use Rattle.source_model.proofs.CornerTexts.{joining_itself, nothing_else, stepping, stepping_2, leaving, calling_3}
use Rattle.source_model.proofs.ServerText.{serving, serving_2}

-- each mark has the same row
abbrev all_with : Row → Rules
all_with row = record { row = λ bodies mark. row }

-- each patch is admitted, and nothing is pinned
abbrev admitting : Rules
admitting = all_with empty_row

abbrev text : List BareDef → Text
text definitions = text_with definitions []

abbrev alone : List BareDef → Setup
alone definitions = record { first = text definitions; offers = []; limits = with_objects 4096 }

abbrev offered : List BareDef → List BareDef → ℕ → Setup
offered first second lines = record { first = text first; offers = record { text = text second; lines = lines } ∷ []; limits = with_objects 4096 }

-- the first n events of the solo schedule
abbrev go_on : (Guard → Option ℕ → List Event) → Event → Option ℕ → Option Guard → List Event
go_on go e last None = []
go_on go e last (Some g) = e ∷ go g (option_or (acted_by e) last)

abbrev event_of : Setup → (Guard → Option ℕ → List Event) → Guard → Option ℕ → Option Event → List Event
event_of setup go g last None = []
event_of setup go g last (Some e) = go_on go e last (happens admitting setup e g)

abbrev solo : Setup → ℕ → Guard → Option ℕ → List Event
solo setup zero g last = []
solo setup (suc n) g last = event_of setup (solo setup n) g last (solo_next setup g last)

abbrev solo_events : Setup → ℕ → List Event
solo_events setup n = solo setup n (first_guard setup) None

-- what a journal answers and how it ends
pub record Told : Type 0 where
  pub output : List ℕ
  pub answers : List Answer
  pub ending : Ending

abbrev told_of : Setup → Guard → Told
told_of setup g = record { output = g.world.output; answers = answers setup g; ending = ending g }

abbrev told_by : Rules → Setup → List Event → Option Told
told_by rules setup events = option_map (told_of setup) (guard_after rules setup events)

abbrev told : Setup → List Event → Option Told
told = told_by admitting

-- an endless loop: the check-in at the start of main, then moves
counts : solo_events (alone counting) 6 ≡ Move 0 ∷ CheckIn 0 ∷ Move 0 ∷ Move 0 ∷ Move 0 ∷ Move 0 ∷ []
counts = refl

counted : told (alone counting) (solo_events (alone counting) 6) ≡ Some (record { output = codes "0\n1\n"; answers = []; ending = Cut })
unfolding digits
counted = refl

-- two threads that take two mutexes in opposite orders
deadlock : told (alone locking) (Move 0 ∷ CheckIn 0 ∷ Move 0 ∷ Move 1 ∷ CheckIn 1 ∷ Move 0 ∷ Move 1 ∷ [])
    ≡ Some (record { output = []; answers = []; ending = Deadlock })
deadlock = refl

-- a move of a thread that is at a check-in can't happen
check_in_first : told (alone locking) (Move 0 ∷ Move 0 ∷ []) ≡ None
check_in_first = refl

-- the offer is due after the first line, and is opened and decided at once
offers_at_once : solo_events (offered calling calling_2 1) 7
    ≡ Move 0 ∷ CheckIn 0 ∷ Move 0 ∷ CheckIn 0 ∷ Move 0 ∷ Offer 1 ∷ Decide 1 ∷ []
offers_at_once = refl

-- the whole run, with g replaced after the first line
installs : told (offered calling calling_2 1) (solo_events (offered calling calling_2 1) 40)
    ≡ Some (record { output = codes "start\n2\n2\n"; answers = Installed 2 ∷ []; ending = Finished (pos 0) })
unfolding digits
installs = refl

-- its moves
abbrev installing : Option (List SourceMove)
installing = option_map (λ g. moves g.answers (solo_events (offered calling calling_2 1) 9)) (guard_after admitting (offered calling calling_2 1) (solo_events (offered calling calling_2 1) 9))

makes_moves : installing ≡ Some (source.Move 0 ∷ source.Move 0 ∷ source.Move 0 ∷ source.Install 1 ∷ source.Move 0 ∷ source.Move 0 ∷ [])
makes_moves = refl

-- a name that is a function in one text and a global in the other
no_patch : told (offered calling other_kind_of 0) (Offer 1 ∷ Decide 1 ∷ [])
    ≡ Some (record { output = []; answers = NoPatch (Kind (codes "g")) ∷ []; ending = Cut })
no_patch = refl

-- an offer that is withdrawn, and one that can't be opened before its lines
withdrawn : told (offered calling calling_2 0) (Offer 1 ∷ Withdraw 1 ∷ [])
    ≡ Some (record { output = []; answers = Withdrawn ∷ []; ending = Cut })
withdrawn = refl

too_early : told (offered calling calling_2 1) (Offer 1 ∷ []) ≡ None
too_early = refl

-- a move while an offer is due isn't prompt
late : is_prompt admitting (offered calling calling_2 0) (Move 0 ∷ []) ≡ false
late = refl

-- the mark of slot 0 after some events
abbrev first_mark : List Seat → Option Mark
first_mark [] = None
first_mark (seat ∷ seats) = seat.mark

abbrev mark : Setup → List Event → Option Mark
mark setup events = option_and_then (λ g. first_mark g.seats) (guard_after admitting setup events)

-- before main's entry its start; then the check-in after the begin, the second of the body of version 1
starts : mark (alone calling) [] ≡ Some (Start (codes "main"))
starts = refl

second_check_in : mark (alone calling) (Move 0 ∷ CheckIn 0 ∷ Move 0 ∷ CheckIn 0 ∷ []) ≡ Some (CheckInOf (codes "main") 1 1)
second_check_in = refl

-- after an install a call enters the new body, and main goes on in its old one
abbrev stepping_after : List Event → Option Mark
stepping_after events = mark (offered stepping stepping_2 0) (Move 0 ∷ CheckIn 0 ∷ Offer 1 ∷ Decide 1 ∷ Move 0 ∷ Move 0 ∷ CheckIn 0 ∷ events)

second_generation : stepping_after [] ≡ Some (CheckInOf (codes "g") 2 0)
second_generation = refl

old_frame : stepping_after (Move 0 ∷ CheckIn 0 ∷ []) ≡ Some (CheckInOf (codes "main") 1 1)
old_frame = refl

-- four threads serve sixteen requests, each thread in its turn
abbrev times : ℕ → List ℕ → List ℕ
times zero bytes = []
times (suc n) bytes = bytes ++ times n bytes

abbrev serving_with : List Answer → Told
serving_with given =
    record { output = times 16 (codes "served\n") ++ codes "total 136\n"; answers = given; ending = Finished (pos 0) }

served : told (alone serving) (solo_events (alone serving) 1000) ≡ Some (serving_with [])
unfolding digits
served = refl

-- and `cost` is replaced after the eighth
served_on : told (offered serving serving_2 8) (solo_events (offered serving serving_2 8) 1000) ≡ Some (serving_with (Installed 2 ∷ []))
unfolding digits
served_on = refl

in_time : is_prompt admitting (offered serving serving_2 8) (solo_events (offered serving serving_2 8) 1000) ≡ true
in_time = refl

-- a patch that isn't admitted: nothing is installed, and the run goes on
abbrev refusal : Effect → Answer
refusal why = RefusedFor (record { slot = 0; effect = why })

abbrev f_g_h : Names
f_g_h = codes "f" ∷ codes "g" ∷ codes "h" ∷ []

abbrev calls_replaced : Row → Option Told
calls_replaced row = told_by (all_with row) (offered calling calling_2 1) (solo_events (offered calling calling_2 1) 40)

refuses : calls_replaced (record { prior = f_g_h; future = codes "f" ∷ codes "g" ∷ []; concrete = [] })
    ≡ Some (record { output = codes "start\n1\n1\n"; answers = refusal (Both (codes "g") (codes "g")) ∷ []; ending = Finished (pos 0) })
unfolding digits
refuses = refl

-- the body of `g` changes and its interface doesn't: its use by active code is no obstacle
body_in_use : calls_replaced (record { prior = []; future = []; concrete = f_g_h })
    ≡ Some (record { output = codes "start\n2\n2\n"; answers = Installed 2 ∷ []; ending = Finished (pos 0) })
unfolding digits
body_in_use = refl

-- each definition of `calling` but that of main is gone: the same row refuses it
interface_in_use : told_by (all_with (record { prior = []; future = []; concrete = f_g_h })) (offered calling nothing_else 0)
    (Offer 1 ∷ Decide 1 ∷ [])
    ≡ Some (record { output = []; answers = refusal (Concrete (codes "f")) ∷ []; ending = Cut })
interface_in_use = refl

-- a slot without a thread has the empty row, whatever rows marks have
one_slot_refuses : option_map (λ g. g.answers) (guard_after (all_with (record { prior = []; future = []; concrete = f_g_h }))
    (offered calling nothing_else 0) (Offer 1 ∷ Decide 1 ∷ []))
    ≡ Some (record { offer = 1; answer = refusal (Concrete (codes "f")) } ∷ [])
one_slot_refuses = refl

-- answers with ids, where `g` is the first name and `h` the third
with_ids : map (answer_seen (codes "g" ∷ codes "f" ∷ codes "h" ∷ []))
    (ids.Installed 2 ∷ ids.Refused (record { slot = 0; effect = effect.Both 2 0 }) ∷ ids.NotPatch Versions ∷ ids.Withdrawn ∷ ids.NotOffered ∷ [])
    ≡ Installed 2 ∷ refusal (Both (codes "h") (codes "g")) ∷ NoPatch Versions ∷ Withdrawn ∷ NotOffered ∷ []
with_ids = refl

-- each row's prior set has `g`
abbrev pinning : Rules
pinning = all_with (record { prior = codes "g" ∷ []; future = []; concrete = [] })

abbrev pins_by : Rules → Setup → List Event → Option (List Bool)
pins_by rules setup events = option_map (λ g. map (λ s. s.pinned) g.seats) (guard_after rules setup events)

abbrev pins : Setup → List Event → Option (List Bool)
pins = pins_by pinning

-- an install pins the threads that are in a transaction, until their outermost one ends
pinned_inside : pins (offered calling calling_2 1) (solo_events (offered calling calling_2 1) 7) ≡ Some (true ∷ replicate 15 false)
pinned_inside = refl

pinned_no_more : pins (offered calling calling_2 1) (solo_events (offered calling calling_2 1) 40) ≡ Some (replicate 16 false)
unfolding digits
pinned_no_more = refl

-- two patches of `calling`, the second of which changes `h`
abbrev calling_twice : Setup
calling_twice = record {
  first = text calling;
  offers = record { text = text calling_2; lines = 0 } ∷ record { text = text calling_3; lines = 0 } ∷ [];
  limits = with_objects 4096;
}

-- the rows that pin are those over the bodies before the install: `calling` has four, and its second version brings one
abbrev pinning_over : ℕ → Rules
pinning_over n = record admitting {
  row = λ bodies mark. record { prior = if length bodies == n then codes "g" ∷ [] else []; future = []; concrete = [] };
}

pinned_before : pins_by (pinning_over 4) (offered calling calling_2 1) (solo_events (offered calling calling_2 1) 7) ≡ Some (true ∷ replicate 15 false)
pinned_before = refl

not_pinned_after : pins_by (pinning_over 5) (offered calling calling_2 1) (solo_events (offered calling calling_2 1) 7) ≡ Some (replicate 16 false)
not_pinned_after = refl

-- a pinned thread: a second patch of `g` meets what it may still use
pinned_refuses : told_by (all_with (record { prior = codes "g" ∷ []; future = codes "h" ∷ []; concrete = [] })) calling_twice
    (Move 0 ∷ CheckIn 0 ∷ Move 0 ∷ CheckIn 0 ∷ Offer 1 ∷ Decide 1 ∷ Offer 2 ∷ Decide 2 ∷ [])
    ≡ Some (record { output = []; answers = Installed 2 ∷ refusal (Pinned (codes "h")) ∷ []; ending = Cut })
pinned_refuses = refl

not_pinned_outside : pins (offered calling calling_2 0) (Move 0 ∷ Offer 1 ∷ Decide 1 ∷ []) ≡ Some (replicate 16 false)
not_pinned_outside = refl

-- while an offer is open no check-in can be passed, and moves go on
check_in_held : told (offered calling calling_2 0) (Move 0 ∷ Offer 1 ∷ CheckIn 0 ∷ []) ≡ None
check_in_held = refl

move_beside_it : told (offered calling calling_2 0) (Move 0 ∷ CheckIn 0 ∷ Offer 1 ∷ Move 0 ∷ [])
    ≡ Some (record { output = []; answers = NotOffered ∷ []; ending = Cut })
move_beside_it = refl

-- after the end nothing happens, and nothing closes the open offer
abbrev ended_with_an_offer : List Event
ended_with_an_offer = Move 0 ∷ CheckIn 0 ∷ Offer 1 ∷ Move 0 ∷ []

open_at_the_end : told (offered nothing_else calling 0) ended_with_an_offer
    ≡ Some (record { output = []; answers = NotOffered ∷ []; ending = Finished (pos 0) })
open_at_the_end = refl

nothing_after : map (λ e. is_some (guard_after admitting (offered nothing_else calling 0) (ended_with_an_offer ++ e ∷ [])))
    (Move 0 ∷ CheckIn 0 ∷ Offer 1 ∷ Decide 1 ∷ Withdraw 1 ∷ []) ≡ replicate 5 false
nothing_after = refl

-- main's return ends the other threads: their seats are empty, and their records stay open
abbrev kept_open : Setup → List Event → Option (List Mark × ℕ)
kept_open setup events =
    option_map (λ g. (filter_map (λ s. s.mark) g.seats, length (result g.world).open_records)) (guard_after admitting setup events)

abbrev leaving_events : List Event
leaving_events = Move 0 ∷ CheckIn 0 ∷ Move 0 ∷ Move 1 ∷ CheckIn 1 ∷ Move 1 ∷ CheckIn 1 ∷ []

before_the_return : kept_open (alone leaving) leaving_events
    ≡ Some (CheckInOf (codes "main") 1 0 ∷ CheckInOf (codes "f") 1 1 ∷ [], 1)
before_the_return = refl

after_the_return : kept_open (alone leaving) (leaving_events ++ Move 0 ∷ []) ≡ Some ([], 1)
after_the_return = refl

-- a thread waits for itself, and main, which would wait for it, is at a check-in: the run isn't at its end
abbrev to_the_check_in : List Event
to_the_check_in =
    Move 0 ∷ CheckIn 0 ∷ Move 0 ∷ Move 0 ∷ Move 0 ∷ Move 1 ∷ CheckIn 1 ∷ Move 1 ∷ []

stands_at_a_check_in : told (alone joining_itself) to_the_check_in ≡ Some (record { output = []; answers = []; ending = Cut })
stands_at_a_check_in = refl

stuck_after_it : told (alone joining_itself) (to_the_check_in ++ CheckIn 0 ∷ [])
    ≡ Some (record { output = []; answers = []; ending = Deadlock })
stuck_after_it = refl

-- when a run ends: stuck, where no offer is open or due; cut, where it has made its moves
abbrev ended : Setup → ℕ → List Event → Option Ending
ended setup n events = option_and_then (run_ending setup n events) (guard_after admitting setup events)

abbrev stuck_with : List BareDef → ℕ → Setup
stuck_with second lines = offered joining_itself second lines

abbrev to_the_end : List Event
to_the_end = to_the_check_in ++ CheckIn 0 ∷ []

ends_stuck : ended (alone joining_itself) 6 to_the_end ≡ Some Deadlock
ends_stuck = refl

not_before_it : ended (alone joining_itself) 7 to_the_check_in ≡ None
not_before_it = refl

cut_before_it : ended (alone joining_itself) 6 to_the_check_in ≡ Some Cut
cut_before_it = refl

not_while_one_is_due : ended (stuck_with nothing_else 0) 6 to_the_end ≡ None
not_while_one_is_due = refl

not_while_one_is_open : ended (stuck_with nothing_else 0) 6 (to_the_end ++ Offer 1 ∷ []) ≡ None
not_while_one_is_open = refl

once_it_is_closed : ended (stuck_with nothing_else 0) 6 (to_the_end ++ Offer 1 ∷ Withdraw 1 ∷ []) ≡ Some Deadlock
once_it_is_closed = refl

-- a replay ends where its events are used up, as it stands then
abbrev replayed : List Event → List Event → Option Ending
replayed left events = option_and_then (replay_ending left) (guard_after admitting (stuck_with nothing_else 0) events)

replay_stuck : replayed [] to_the_end ≡ Some Deadlock
replay_stuck = refl

replay_cut : replayed [] to_the_check_in ≡ Some Cut
replay_cut = refl

replay_goes_on : replayed (Offer 1 ∷ []) to_the_end ≡ None
replay_goes_on = refl

-- an offer is due once, and only where each earlier one was closed
abbrev two_offers : Setup
two_offers = record {
  first = text calling;
  offers = record { text = text calling_2; lines = 0 } ∷ record { text = text calling; lines = 0 } ∷ [];
  limits = with_objects 4096;
}

abbrev due_after : List Event → Option ℕ
due_after events = option_and_then (due two_offers) (guard_after admitting two_offers events)

first_due : due_after [] ≡ Some 1
first_due = refl

none_due_while_open : due_after (Offer 1 ∷ []) ≡ None
none_due_while_open = refl

second_due : due_after (Offer 1 ∷ Withdraw 1 ∷ []) ≡ Some 2
second_due = refl

none_due_after_a_gap : due_after (Offer 2 ∷ Decide 2 ∷ []) ≡ None
none_due_after_a_gap = refl

passed_over : told two_offers (Offer 2 ∷ Decide 2 ∷ [])
    ≡ Some (record { output = []; answers = NotOffered ∷ Installed 2 ∷ []; ending = Cut })
passed_over = refl

no_way_back : told two_offers (Offer 2 ∷ Decide 2 ∷ Offer 1 ∷ []) ≡ None
no_way_back = refl

-- the slots in their order after slot 13
in_turn : slots_after 16 (Some 13) ≡ 14 ∷ 15 ∷ 0 ∷ 1 ∷ 2 ∷ 3 ∷ 4 ∷ 5 ∷ 6 ∷ 7 ∷ 8 ∷ 9 ∷ 10 ∷ 11 ∷ 12 ∷ 13 ∷ []
in_turn = refl

-- a text with `dsu_transform g = 0;` at a place, where g is a function
abbrev transforming : Option ℕ → Text → Text
transforming None q = q
transforming (Some place) q =
    let zero = roll-Expr (record { place = place + 18; node = Number (number I32 (pos 0)) }) in
    let transformer = TransformGlobal (record { place = place + 14; text = codes "g" }) zero in
    record q { tree = record { definitions = record { place = place; kind = transformer } ∷ []; end = place + 20 } }

-- the causes for which a text isn't a patch: the earlier one is reported
abbrev no_patch_for : ℕ → Option ℕ → Text → Option NotPatch
no_patch_for versions place q =
    let texts = replicate versions (text calling) in not_patch (store texts) texts (transforming place q)

abbrev cause : ℕ → Option ℕ → List BareDef → ℕ → Option NotPatch
cause versions place second tokens =
    no_patch_for versions place
    (text_with second (record { function = codes "main"; count = tokens } ∷ record { function = codes "g"; count = tokens } ∷ []))

versions_first : cause 64 (Some 7) other_kind_of 131073 ≡ Some Versions
versions_first = refl

-- `calling` has four names
abbrev with_mutexes : ℕ → List BareDef
with_mutexes n = map (λ k. Mutex (1000 ∷ k ∷ [])) (range_with_len 0 n) ++ other_kind_of

then_the_names : no_patch_for 63 (Some 7) (text (with_mutexes 2045)) ≡ Some NamesFull
then_the_names = refl

then_the_kind : no_patch_for 63 (Some 7) (text (with_mutexes 2044)) ≡ Some (Kind (codes "g"))
then_the_kind = refl

the_kind_again : cause 63 (Some 7) other_kind_of 131073 ≡ Some (Kind (codes "g"))
the_kind_again = refl

then_transformers : cause 1 (Some 7) calling_2 131073 ≡ Some (Transform 7)
then_transformers = refl

then_the_store : cause 1 None calling_2 131073 ≡ Some StoreFull
then_the_store = refl

fits_just : cause 1 None calling_2 131072 ≡ None
fits_just = refl
