-- What is asked of an engine at a guard.
use Rattle.std.proofs.Common.{◌≡◌, ℕ, zero, suc, ◌<◌, ◌≤◌, Bool, true, false, List, [], ◌∷◌, length, slice_get, slice_index_or, Option, Some, None, refl, sym, ◌∙◌, ap, arith}
use Rattle.std.specs.Prelude.{◌||◌, option_map, if◌then◌else◌}
use Rattle.std.specs.Option.{is_some}
use Rattle.std.proofs.lemmas.Option.{same_Some, slice_get-get_or}
use Rattle.run_types.specs.declared.run.Ending.{Ending}
use Rattle.c_tree.specs.BareDef.{BareDef}
use Rattle.source_model.specs.Worlds.{World, Finish, Limits, in_slot, is_over}
use Rattle.source_model.specs.Worlds as world
use Rattle.source_model.specs.Runs.{SourceMove, Result, result, is_live, lives, can_move, source_run}
use Rattle.source_model.specs.Waits.{waits_for}
use Rattle.source_model.specs.Guards.{Guard, Setup, empty_seat, has_ended, seat_of}
use Rattle.source_model.specs.Guards as guard
use Rattle.source_model.specs.JournalLaws.{texts_of}
use Rattle.source_runner.specs.SourceRuns.{world_after}
use Rattle.source_runner.specs.States.{ending_of}
use Rattle.run_machine.specs.Machines.{Shown}
use Rattle.dsu_runs.specs.Engines.{finish_of, standing_by, standing_of, waits_in}
use Rattle.dsu_runs.specs.declared.engine.Stands.TheVariants.{NoThread, AtCheckIn, Going}
use Rattle.plain_engine.specs.declared.seat.Seat.{Seat}
use Rattle.plain_engine.specs.Plain.{AreSeats, IsRunAt}
use Rattle.plain_engine.proofs.SlotsAfter.{alive_is}

-- the run over some moves gives x
abbrev pub Gives : {A : Type 0} → (Result → A) → Setup → List SourceMove → A → Type 0
Gives of setup ms x = option_map of (source_run (texts_of setup) setup.limits ms) ≡ Some x

-- what a run gives is what the world after its moves gives
pub of_run : {A : Type 0} (of : Result → A) (texts : List (List BareDef)) (limits : Limits) (ms : List SourceMove) (w : World) (x : A)
    → world_after texts limits ms ≡ Some w → option_map of (source_run texts limits ms) ≡ Some x → of (result w) ≡ x
of_run of texts limits ms w x reached e =
    same_Some (of (result w)) x (sym (ap (λ o. option_map of (option_map result o)) reached) ∙ e)

pub given_run : {A : Type 0} (of : Result → A) (texts : List (List BareDef)) (limits : Limits) (ms : List SourceMove) (w : World) (x : A)
    → world_after texts limits ms ≡ Some w → of (result w) ≡ x → option_map of (source_run texts limits ms) ≡ Some x
given_run of texts limits ms w x reached e = ap (λ o. option_map of (option_map result o)) reached ∙ ap Some e

pub gives : {A : Type 0} (of : Result → A) (setup : Setup) (ms : List SourceMove) (w : World) (x : A)
    → world_after (texts_of setup) setup.limits ms ≡ Some w → Gives of setup ms x → of (result w) ≡ x
gives of setup ms w x reached e = of_run of (texts_of setup) setup.limits ms w x reached e

module _ (setup : Setup) (g : Guard) (run : Shown) (at : IsRunAt setup g run) where
  -- what its run gives
  pub asked : {A : Type 0} (of : Result → A) (x : A) → Gives of setup at.moves x → of (result g.world) ≡ x
  asked of x e = gives of setup at.moves g.world x at.world e

  pub given : {A : Type 0} (of : Result → A) (x : A) → of (result g.world) ≡ x → Gives of setup at.moves x
  given of x e = ap (λ o. option_map of (option_map result o)) at.world ∙ ap Some e

  pub moves_there : (n : ℕ) (b : Bool) → Gives (λ x. can_move x.world n) setup at.moves b → b ≡ can_move g.world n
  moves_there n b e = sym (asked (λ x. can_move x.world n) b e)

  -- how the thread in a slot stands
  pub stands_at_none : (n : ℕ) (b : Bool) → has_ended g ≡ false → (seat_of g n).at_check_in ≡ false
      → Gives (λ x. is_live (in_slot x.world n)) setup at.moves b → (if b then Going else NoThread) ≡ standing_of g n
  stands_at_none n b going none lives_there =
      ap (λ x. if x then Going else NoThread)
      (sym (asked (λ x. is_live (in_slot x.world n)) b lives_there) ∙ ap is_live (sym (alive_is g.world n going)))
      ∙ sym (ap (λ x. standing_by x (lives g.world n)) none)

pub stands_at_check_in : (g : Guard) (n : ℕ) → (seat_of g n).at_check_in ≡ true → AtCheckIn ≡ standing_of g n
stands_at_check_in g n e = sym (ap (λ b. standing_by b (lives g.world n)) e)

-- ---- the seat of a slot

pub outside : (ss : List guard.Seat) (n : ℕ) → length ss ≤ n → slice_index_or ss n empty_seat ≡ empty_seat
outside [] n past = refl
outside (s ∷ ss) zero past = absurd (omega (arith, past))
outside (s ∷ ss) (suc n) past = outside ss n (omega (arith, past))

pub outside_is : (g : Guard) (run : Shown) (seats : List Seat) (n : ℕ) → AreSeats g run seats → 16 ≤ n
    → false ≡ (seat_of g n).at_check_in
outside_is g run seats n are past =
    sym (ap (λ (s : guard.Seat). s.at_check_in) (outside g.seats n (let long = are.many in omega (arith, long, past))))

pub seat_at : (g : Guard) (n : ℕ) → length g.seats ≡ 16 → n < 16 → slice_get g.seats n ≡ Some (seat_of g n)
seat_at g n many below = slice_get-get_or g.seats n empty_seat (omega (arith, many, below))

pub inside_is : (g : Guard) (run : Shown) (seats : List Seat) (n : ℕ) (kept : Seat) → AreSeats g run seats → has_ended g ≡ false
    → n < 16 → slice_get seats n ≡ Some kept → kept.at_check_in ≡ (seat_of g n).at_check_in
inside_is g run seats n kept are going below at =
    sym (are.each going n kept (seat_of g n) at (seat_at g n are.many below)).at_check_in

-- ---- how a run has ended

same_end : (f : Option Finish) → ending_of f ≡ finish_of f
same_end None = refl
same_end (Some (world.Finished r)) = refl
same_end (Some (world.Trapped kind slot)) = refl

pub ended_so : (setup : Setup) (g : Guard) (run : Shown) (o : Option Ending)
    → (at : IsRunAt setup g run) → Gives (λ x. ending_of x.world.finish) setup at.moves o → o ≡ finish_of g.world.finish
ended_so setup g run o at e = sym (asked setup g run at (λ x. ending_of x.world.finish) o e) ∙ same_end g.world.finish

ended_is : (g : Guard) (o : Option Ending) → o ≡ finish_of g.world.finish → is_some o ≡ has_ended g
ended_is g o is = ap is_some is ∙ by g.world.finish
  where
    by : (f : Option Finish) → is_some (finish_of f) ≡ is_some f
    by None = refl
    by (Some (world.Finished r)) = refl
    by (Some (world.Trapped kind slot)) = refl

pub has_ended_so : (setup : Setup) (g : Guard) (run : Shown) (o : Option Ending)
    → (at : IsRunAt setup g run) → Gives (λ x. ending_of x.world.finish) setup at.moves o → is_some o ≡ has_ended g
has_ended_so setup g run o at e = ended_is g o (ended_so setup g run o at e)

-- whether a run is over
pub misused_is : (setup : Setup) (g : Guard) (run : Shown) (b : Bool) → (at : IsRunAt setup g run)
    → Gives (λ x. x.misused) setup at.moves b → b ≡ g.world.misused
misused_is setup g run b at e = sym (asked setup g run at (λ x. x.misused) b e)

pub over_by_misuse : (g : Guard) (b : Bool) → b ≡ g.world.misused → b ≡ true → true ≡ is_over g.world
over_by_misuse g b e is = ap (λ x. x || is_some g.world.finish) (sym is ∙ e)

pub over_by_end : (g : Guard) (b ended : Bool) → b ≡ g.world.misused → b ≡ false → ended ≡ has_ended g → ended ≡ is_over g.world
over_by_end g b ended e is end = end ∙ ap (λ x. x || is_some g.world.finish) (sym is ∙ e)

-- what is waited for, by whether the run is over
pub none_waits : (w : World) (slot : ℕ) → is_over w ≡ true → None ≡ waits_in w slot
none_waits w slot e = ap (λ b. if b then None else waits_for w slot) (sym e)

pub waits_then : (w : World) (slot : ℕ) → is_over w ≡ false → waits_for w slot ≡ waits_in w slot
waits_then w slot e = ap (λ b. if b then None else waits_for w slot) (sym e)
