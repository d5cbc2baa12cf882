-- What is kept beside the source machine while its moves, check-ins and offers are made, and what each of these changes.
-- The row of a mark is a parameter here.
use Rattle.std.specs.Prelude.{ℕ, zero, suc, ◌-◌, ◌==◌, nat_lt, nat_le, Bool, true, false, ◌&&◌, ◌||◌, List, [], ◌∷◌, ◌++◌, map, length, replicate, count_by, slice_get, slice_index_or, slice_set, Option, Some, None, option_map, codes, if◌then◌else◌}
use Rattle.std.specs.Option.{is_some, is_none, option_map_or}
use Rattle.c_tree.specs.BareExpr.{Bytes}
use Rattle.c_tree.specs.BareDef.{BareDef}
use Rattle.c_semantics.specs.Changes.{changed, interface}
use Rattle.c_semantics.specs.Stops.{Stop, Return, Begin, End, Update}
use Rattle.c_semantics.specs.Pieces.{Halt, Stopped}
use Rattle.c_semantics.specs.Threads.{Frame, Enter, next_of}
use Rattle.c_semantics.specs.Standing.{stands_at}
use Rattle.con_freeness.specs.Verdicts.{Verdict, Admitted, Refused}
use Rattle.con_freeness.specs.Rows.{Names, Row, InForce, empty_row, meets, verdict}
use Rattle.source_model.specs.declared.patch.NotPatch.{NotPatch}
use Rattle.source_model.specs.Worlds.{World, Slot, Free, Live, Over, Limits, in_slot, alive_in, first_world}
use Rattle.source_model.specs.Runs.{install, is_live}
use Rattle.c_semantics.specs.SourceTexts.{Text}
use Rattle.c_semantics.specs.Store.{Body, Mark, Start, CheckInOf, store, generation_by, body_in, check_in_number}
use Rattle.source_model.specs.Answers.{Answer, Installed, RefusedFor, NoPatch}
use Rattle.source_model.specs.Patches.{last_definitions, not_patch}

-- what is kept of a slot: the mark of its row in force, if a thread lives there, whether its thread is at a check-in, and
-- whether it is pinned
pub record Seat : Type 0 where
  pub mark : Option Mark
  pub at_check_in : Bool
  pub pinned : Bool

-- the number of an offer, counted from 1, with its answer
pub record Answered : Type 0 where
  pub offer : ℕ
  pub answer : Answer

-- the world, a seat for each slot, the texts of the versions, the open offer, the greatest number that was offered,
-- how many offers were closed, and their answers
pub record Guard : Type 0 where
  pub world : World
  pub seats : List Seat
  pub versions : List Text
  pub open_offer : Option ℕ
  pub greatest : ℕ
  pub closed : ℕ
  pub answers : List Answered

-- an offer: its text, and how many lines the program must have written before
pub record Offer : Type 0 where
  pub text : Text
  pub lines : ℕ

-- what a run is given: the first text, the offers, and its limits
pub record Setup : Type 0 where
  pub first : Text
  pub offers : List Offer
  pub limits : Limits

-- what is given from elsewhere: the row of a mark over the bodies of the versions so far
pub record Rules : Type 0 where
  pub row : List Body → Mark → Row

-- a slot without a live thread
abbrev pub empty_seat : Seat
empty_seat = record { mark = None; at_check_in = false; pinned = false }

-- a thread that was started: the row of its function's start is in force
abbrev pub started_seat : Bytes → Seat
started_seat function = record { mark = Some (Start function); at_check_in = false; pinned = false }

-- the start of a run
abbrev pub first_guard : Setup → Guard
first_guard s = record {
  world = first_world s.first.definitions s.limits;
  seats = started_seat (codes "main") ∷ replicate (s.limits.slots - 1) empty_seat;
  versions = s.first ∷ [];
  open_offer = None;
  greatest = 0;
  closed = 0;
  answers = [];
}

-- the run has ended with the return of main or a trap
abbrev pub has_ended : Guard → Bool
has_ended g = is_some g.world.finish

-- the bodies of the versions so far
abbrev pub bodies_of : Guard → List Body
bodies_of g = store g.versions

-- the seat of a slot
abbrev pub seat_of : Guard → ℕ → Seat
seat_of g t = slice_index_or g.seats t empty_seat

-- a stop that leads to a check-in: a return to a caller, a begin, an end, an update point
abbrev pub leads : Stop → List Frame → Bool
leads Return [] = false
leads Return (f ∷ fs) = true
leads Begin below = true
leads End below = true
leads Update below = true
leads _ below = false

abbrev pub halt_leads : Halt → List Frame → Bool
halt_leads (Stopped s n rest values scopes) below = leads s below
halt_leads _ below = false

-- whether the next move of a thread leads to a check-in: an enter does
abbrev pub frames_lead : List Frame → Bool
frames_lead [] = false
frames_lead (f ∷ below) = halt_leads (next_of f) below

abbrev pub move_leads : Slot → Bool
move_leads (Live th) = is_some th.entering || frames_lead th.frames
move_leads Free = false
move_leads (Over serial result) = false

-- how many transactions the thread in a slot is in
abbrev pub depth_in : Slot → ℕ
depth_in (Live th) = th.depth
depth_in Free = 0
depth_in (Over serial result) = 0

-- whether the thread in a slot is in a transaction
abbrev pub in_transaction : Slot → Bool
in_transaction s = nat_lt 0 (depth_in s)

-- the function of the enter that is due, for a thread that was just started
abbrev pub entering_function : Option Enter → Bytes
entering_function None = []
entering_function (Some e) = e.function

-- the seat of a slot whose thread moved; the end of its outermost transaction unpins it
abbrev pub moved_seat : Bool → Slot → Seat → Seat
moved_seat leads_there after s = record s { at_check_in = leads_there; pinned = s.pinned && in_transaction after }

-- the seat of a slot after a move, by what was alive in it before and is after: empty without a live thread, that of a
-- start where a thread was started in it, changed where its thread moved
abbrev pub seat_after : Bool → Bool → Slot → Slot → Seat → Seat
seat_after moved leads_there before (Live th) s =
    if is_live before
    then (if moved then moved_seat leads_there (Live th) s else s)
    else started_seat (entering_function th.entering)
seat_after moved leads_there before after s = empty_seat

-- the seats after the move of slot t
abbrev pub seats_from : ℕ → ℕ → Bool → World → World → List Seat → List Seat
seats_from n t leads_there before after [] = []
seats_from n t leads_there before after (s ∷ ss) =
    seat_after (n == t) leads_there (alive_in before n) (alive_in after n) s ∷ seats_from (suc n) t leads_there before after ss

abbrev pub moved : Guard → ℕ → World → Guard
moved g t w = record g { world = w; seats = seats_from 0 t (move_leads (in_slot g.world t)) g.world w g.seats }

-- the mark of a frame's check-in; its body is the one in force in the frame's version
abbrev pub mark_in : List Body → Frame → Mark
mark_in bodies f =
    let generation = generation_by f.function f.version bodies in
    CheckInOf f.function generation
    (option_map_or (λ b. check_in_number b (stands_at b.skeleton None f)) (body_in bodies f.function generation) 0)

abbrev pub mark_of_frames : List Body → List Frame → Option Mark
mark_of_frames bodies [] = None
mark_of_frames bodies (f ∷ fs) = Some (mark_in bodies f)

abbrev pub mark_of : List Body → Slot → Option Mark
mark_of bodies (Live th) = mark_of_frames bodies th.frames
mark_of bodies Free = None
mark_of bodies (Over serial result) = None

-- a check-in passed, over the bodies so far
abbrev pub checked_in : List Body → Guard → ℕ → Guard
checked_in bodies g t =
    let s = record (seat_of g t) { mark = mark_of bodies (alive_in g.world t); at_check_in = false } in
    record g { seats = slice_set g.seats t s }

-- how many lines the program has written
abbrev pub lines_written : World → ℕ
lines_written w = count_by (λ c. c == 10) w.output

-- offer k; offers are counted from 1
abbrev pub offer_at : Setup → ℕ → Option Offer
offer_at setup zero = None
offer_at setup (suc k) = slice_get setup.offers k

-- whether offer k is there and the written lines have reached its number
abbrev pub is_reached : Guard → Option Offer → Bool
is_reached g None = false
is_reached g (Some o) = nat_le o.lines (lines_written g.world)

-- whether offer k can be opened: none is open, it is greater than each offered number, and its lines were written
abbrev pub can_open : Setup → Guard → ℕ → Bool
can_open setup g k = is_none g.open_offer && nat_lt g.greatest k && is_reached g (offer_at setup k)

-- the number is that of the open offer
abbrev pub is_open : Guard → ℕ → Bool
is_open g k = option_map_or (λ open_number. open_number == k) g.open_offer false

-- an offer closed with an answer
abbrev pub answered : ℕ → Answer → Guard → Guard
answered k a g =
    record g { open_offer = None; closed = suc g.closed; answers = g.answers ++ record { offer = k; answer = a } ∷ [] }

-- the row of a mark over the bodies so far; a slot without a live thread has the row of three empty sets
abbrev pub row_in_force : Rules → List Body → Option Mark → Row
row_in_force rules bodies mark = option_map_or (rules.row bodies) mark empty_row

-- a slot as the admission test sees it
abbrev pub in_force : Rules → List Body → Seat → InForce
in_force rules bodies s = record { row = row_in_force rules bodies s.mark; pinned = s.pinned }

-- the seats with the pins that an install sets, over the rows before it: a thread in a transaction whose row's prior set
-- meets the changed set is pinned
abbrev pub pinned_seat : Rules → List Body → Names → Slot → Seat → Seat
pinned_seat rules bodies changed s seat =
    record seat {
      pinned = seat.pinned || (in_transaction s && meets changed (row_in_force rules bodies seat.mark).prior);
    }

abbrev pub pinned_from : Rules → List Body → Names → World → ℕ → List Seat → List Seat
pinned_from rules bodies changed w n [] = []
pinned_from rules bodies changed w n (s ∷ ss) =
    pinned_seat rules bodies changed (alive_in w n) s ∷ pinned_from rules bodies changed w (suc n) ss

-- a patch that is admitted: it is installed, and the pins are set
abbrev pub installed_over : Rules → Guard → ℕ → Text → Names → World → Guard
installed_over rules g k q changed w =
    answered k (Installed (suc (length g.versions)))
    (record g {
      world = w;
      seats = pinned_from rules (bodies_of g) changed g.world 0 g.seats;
      versions = g.versions ++ q ∷ [];
    })

-- by the verdict; where a definition was misused nothing is installed, so there the decision on an admitted patch can't
-- happen
abbrev pub decided_by : Rules → Guard → ℕ → Text → Names → Verdict → Option Guard
decided_by rules g k q changed (Refused r) = Some (answered k (RefusedFor r) g)
decided_by rules g k q changed Admitted =
    option_map (installed_over rules g k q changed) (install g.world (Some q.definitions))

-- by whether the text is a patch for the text p that is in force
abbrev pub decided : Rules → Guard → ℕ → List BareDef → Text → Option NotPatch → Option Guard
decided rules g k p q (Some cause) = Some (answered k (NoPatch cause) g)
decided rules g k p q None =
    decided_by rules g k q (changed p q.definitions)
    (verdict (map (in_force rules (bodies_of g)) g.seats) (changed p q.definitions) (interface p q.definitions))

-- an offer decided
abbrev pub decide : Rules → Guard → ℕ → Option Offer → Option Guard
decide rules g k None = None
decide rules g k (Some o) =
    decided rules g k (last_definitions g.versions) o.text (not_patch (bodies_of g) g.versions o.text)
