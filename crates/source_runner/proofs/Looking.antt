-- What is seen of threads where nothing changes.
use Rattle.std.proofs.Common.{Some, None, ◌≡◌, ℕ, zero, suc, ◌+◌, ◌-◌, ◌<◌, ◌≤◌, Bool, true, false, ◌||◌, List, ◌∷◌, length, reverse, take, get_or, slice_get, Option, option_map, refl, sym, ap, ap₂, subst, ◌∙◌, arith}
use Rattle.std.specs.Option.{is_some}
use Rattle.std.specs.List.{list_any, range_with_len}
use Rattle.std.proofs.lemmas.List.{get_or-reverse, length-map, length-reverse, take_all}
use Rattle.std.proofs.lemmas.Option.{slice_get-get_or, slice_get-map, slice_get_past}
use Rattle.std.proofs.lemmas.List.FromFn.{get_or-range_with_len, length-range_with_len}
use Rattle.std.proofs.lemmas.List.Folds.{list_any_at, list_any_more}
use Rattle.c_tree.specs.BareExpr.{Bytes}
use Rattle.c_semantics.specs.Threads.{Frame as SeenFrame, Thread as SeenThread}
use Rattle.source_model.specs.Guards.{frames_lead, move_leads}
use Rattle.source_model.specs.Moves.{stop_made, thread_move}
use Rattle.source_model.specs.Worlds.{World, in_slot, is_over}
use Rattle.local_evaluation.specs.declared.piece.Stop.{Stop}
use Rattle.local_evaluation.specs.declared.work.Halt.{Halt as Halted}
use Rattle.local_evaluation.specs.declared.work.Halt.TheVariants.{At}
use Rattle.source_runner.specs.declared.thread.Frame.{Frame}
use Rattle.source_runner.specs.declared.thread.Next.{Next}
use Rattle.source_runner.specs.declared.thread.Next.TheVariants.{Halt}
use Rattle.source_runner.specs.declared.thread.Thread.{Thread}
use Rattle.source_runner.specs.declared.thread.Slot.TheVariants.{Live}
use Rattle.source_runner.specs.declared.machine.Machine.{Machine}
use Rattle.resolved_tree.specs.Nodes.{Table}
use Rattle.source_programs.specs.Programs.{table_of}
use Rattle.source_runner.specs.declared.queries.FrameAt.{FrameAt}
use Rattle.source_runner.specs.Frames.{frame_of, frames_of}
use Rattle.source_runner.specs.Queries.{Place, innermost, innermost_in, place_at, place_of, place_up, place_up_in}
use Rattle.source_runner.specs.Machines.{IsFrame, IsThread, Stands, frame_at, slot_at}
use Rattle.local_evaluation.specs.Pieces.{stop_of}
use Rattle.source_runner.proofs.Halted.{not_over}
use Rattle.source_runner.proofs.Stopping.{resumes_at, thread_at}
use Rattle.source_runner.proofs.Taking.{lives}

-- ---- a test of the numbers below n

within : (n i : ℕ) → i < n → i < length (range_with_len 0 n)
within n i below = subst (λ k. i < k) (sym (length-range_with_len 0 n)) below

in_place : (n i : ℕ) → i < n → get_or (range_with_len 0 n) i 0 ≡ i
in_place n i below =
    let same : 0 + i ≡ i = omega arith in get_or-range_with_len 0 n i 0 below ∙ same

-- none passes it so far
pub none_more : (p : ℕ → Bool) (n i : ℕ) → i < n → list_any p (take i (range_with_len 0 n)) ≡ false → p i ≡ false
    → list_any p (take (i + 1) (range_with_len 0 n)) ≡ false
none_more p n i below none e =
    list_any_more p (range_with_len 0 n) i 0 (within n i below) ∙ ap₂ (λ a b. a || b) none (ap p (in_place n i below) ∙ e)

pub none_at_all : (p : ℕ → Bool) (n i : ℕ) → n ≤ i → list_any p (take i (range_with_len 0 n)) ≡ false
    → false ≡ list_any p (range_with_len 0 n)
none_at_all p n i all none =
    sym (ap (list_any p) (sym (take_all i (range_with_len 0 n) (subst (λ k. k ≤ i) (sym (length-range_with_len 0 n)) all))) ∙ none)

-- one passes it
pub one_of_all : (p : ℕ → Bool) (n i : ℕ) → i < n → p i ≡ true → true ≡ list_any p (range_with_len 0 n)
one_of_all p n i below e =
    sym (list_any_at p (range_with_len 0 n) i 0 (within n i below) (ap p (in_place n i below) ∙ e))

-- ---- threads

-- the move of one at a stop
pub moves_at : (t : Table) (w : World) (slot : ℕ) (th : Thread) (f : Frame) (stop : Stop) (point : ℕ)
    (n : Next) (own : SeenThread)
    → n ≡ Halt f (At stop point) → IsThread t false th n own
    → thread_move w slot own own.entering
    ≡ stop_made (stop_of t stop) w slot own (frame_at t f point) (frames_of t th.below.items)
moves_at t w slot th f stop point n own e h =
    let next = (thread_at t false th n (Halt f (At stop point)) own e h).does refl in
    let frame = next.1 in
    ap (thread_move w slot own) next.0
    ∙ resumes_at t w slot own f stop point (frames_of t th.below.items) frame.0 frame.1 frame.2

-- the one in a slot leads to a check-in where what it does next does
pub thread_leads : (m : Machine) (w : World) (slot : ℕ) (th : Thread) (n : Next) (b : Bool)
    → Stands m w → is_over w ≡ false → slot_at m.slots.items slot ≡ Live th n
    → ((t : Table) (own : SeenThread) → IsThread t false th n own
    → b ≡ (is_some own.entering || frames_lead own.frames))
    → b ≡ move_leads (in_slot w slot)
thread_leads m w slot th n b h going e leads =
    let there = lives m w slot th n h e in
    leads _ there.0 (not_over _ _ _ _ _ going there.2) ∙ ap move_leads (sym there.1)

-- where a frame is, whose private work was done ahead
place_is : (t : Table) (f : Frame) (halt : Halted) (own : SeenFrame) → IsFrame t f halt own → place_of (frame_of t f) ≡ place_of own
place_is t f halt own is =
    let at : Bytes → ℕ → ℕ → Place = λ name version point. record { function = name; version = version; point = point } in
    ap (λ name. at name f.version f.standing) (sym is.function)
    ∙ ap (λ version. at own.function version f.standing) (sym is.version)
    ∙ ap (at own.function own.version) (sym is.standing)

-- the innermost frame of a thread that enters nothing
pub innermost_halts : (m : Machine) (w : World) (slot : ℕ) (th : Thread) (n : Next) (f : Frame) (halt : Halted) (at : FrameAt)
    → Stands m w → is_over w ≡ false → slot_at m.slots.items slot ≡ Live th n → n ≡ Halt f halt
    → place_at (table_of m.program) at ≡ place_of (frame_of (table_of m.program) f)
    → Some (place_at (table_of m.program) at) ≡ innermost_in (in_slot w slot)
innermost_halts m w slot th n f halt at h going e next is =
    let there = lives m w slot th (Halt f halt) h (e ∙ ap (Live th) next) in
    let does = (not_over _ _ _ _ _ going there.2).does refl in
    ap Some (is ∙ place_is (table_of m.program) f halt does.1.0 does.1.2)
    ∙ ap innermost (sym does.1.1)
    ∙ ap innermost_in (sym there.1)

-- ---- frames, counted from the innermost

-- one of those that wait
pub waits_up : (t : Table) (fs : List Frame) (up : ℕ) (f : Frame) (at : FrameAt) → up < length fs → f ≡ get_or fs (length fs - 1 - up) f
    → place_at t at ≡ place_of (frame_of t f) → Some (place_at t at) ≡ place_up (frames_of t fs) up
waits_up t fs up f at below is place =
    let within : up < length (reverse fs) = subst (λ n. up < n) (sym (length-reverse fs)) below in
    let there = slice_get-get_or (reverse fs) up f within ∙ ap Some (get_or-reverse fs up f below ∙ sym is) in
    let seen = slice_get-map (frame_of t) (reverse fs) up ∙ ap (option_map (frame_of t)) there in
    ap Some place ∙ sym (ap (option_map place_of) seen)

pub none_waits_up : (t : Table) (fs : List Frame) (up : ℕ) → length fs ≤ up → None ≡ place_up (frames_of t fs) up
none_waits_up t fs up past =
    let many = length-map (reverse fs) (frame_of t) ∙ length-reverse fs in
    sym (ap (option_map place_of) (slice_get_past (frames_of t fs) up (subst (λ n. n ≤ up) (sym many) past)))

-- frames whose innermost ones are at the same place
same_up : (f g : SeenFrame) (fs : List SeenFrame) (up : ℕ) → place_of f ≡ place_of g → place_up (f ∷ fs) up ≡ place_up (g ∷ fs) up
same_up f g fs zero e = ap Some e
same_up f g fs (suc up) e = refl

-- one of a thread that enters nothing
pub frame_halts : (m : Machine) (w : World) (slot : ℕ) (th : Thread) (n : Next) (f : Frame) (halt : Halted) (up : ℕ) (at : Option FrameAt)
    → Stands m w → is_over w ≡ false → slot_at m.slots.items slot ≡ Live th n → n ≡ Halt f halt
    → option_map (place_at (table_of m.program)) at
    ≡ place_up (frame_of (table_of m.program) f ∷ frames_of (table_of m.program) th.below.items) up
    → option_map (place_at (table_of m.program)) at ≡ place_up_in up (in_slot w slot)
frame_halts m w slot th n f halt up at h going e next is =
    let there = lives m w slot th (Halt f halt) h (e ∙ ap (Live th) next) in
    let does = (not_over _ _ _ _ _ going there.2).does refl in
    is
    ∙ same_up (frame_of (table_of m.program) f) does.1.0 (frames_of (table_of m.program) th.below.items) up
    (place_is (table_of m.program) f halt does.1.0 does.1.2)
    ∙ ap (λ fs. place_up fs up) (sym does.1.1)
    ∙ ap (place_up_in up) (sym there.1)
