-- What holds at the start and after each event holds of each guard that a journal comes to. Each event with what is known
-- when it happens.
use Rattle.std.proofs.Common.{◌≡◌, ℕ, Bool, true, false, ◌&&◌, ◌||◌, not, List, [], ◌∷◌, map, option_map, option_and_then, Option, Some, None, refl, if◌then◌else◌}
use Rattle.std.specs.Prelude.{is_none}
use Rattle.std.proofs.lemmas.Bool.{or_parts, and_parts, not-true}
use Rattle.run_types.specs.declared.run.Event.{Event}
use Rattle.run_types.specs.declared.run.Event.TheVariants.{Move, CheckIn, Offer, Decide, Withdraw}
use Rattle.con_freeness.specs.Verdicts.{Verdict, Admitted, Refused}
use Rattle.con_freeness.specs.Rows.{verdict}
use Rattle.c_semantics.specs.Changes.{changed, interface}
use Rattle.source_model.specs.declared.patch.NotPatch.{NotPatch}
use Rattle.source_model.specs.Worlds.{World, is_over}
use Rattle.source_model.specs.Moves.{move}
use Rattle.source_model.specs.Installs.{installed}
use Rattle.source_model.specs.Answers.{Answer, RefusedFor, NoPatch, Withdrawn}
use Rattle.source_model.specs.Patches.{last_definitions}
use Rattle.source_model.specs.Guards.{Guard, Setup, Rules, first_guard, has_ended, bodies_of, seat_of, moved, checked_in, offer_at, can_open, is_open, decide, decided, decided_by, answered, installed_over, in_force}
use Rattle.source_model.specs.Guards as guard
use Rattle.source_model.specs.Journals.{happens, play, guard_after, guard_if}
use Rattle.source_model.proofs.Events.{AllOf, of_outcome}

-- a patch that the rows in force admit
pub record IsAdmitted (rules : Rules) (setup : Setup) (g : Guard) (o : guard.Offer) : Type 0 where
  pub number : ℕ
  pub offered : offer_at setup number ≡ Some o
  pub goes_on : is_over g.world ≡ false
  pub admitted :
      verdict (map (in_force rules (bodies_of g)) g.seats) (changed (last_definitions g.versions) o.text.definitions)
      (interface (last_definitions g.versions) o.text.definitions)
      ≡ Admitted

-- P holds after an event, whichever it is
pub record Keeps (rules : Rules) (setup : Setup) (g : Guard) (P : Guard → Type 0) : Type 0 where
  pub moves : (t : ℕ) (w : World) → (seat_of g t).at_check_in ≡ false → move g.world t ≡ Some w → P (moved g t w)
  pub checks : (t : ℕ) → has_ended g ≡ false → (seat_of g t).at_check_in ≡ true → P (checked_in (bodies_of g) g t)
  pub opens : (k : ℕ) → P (record g { open_offer = Some k; greatest = k })
  pub ends : (k : ℕ) (a : Answer) → P (answered k a g)
  pub installs : (k : ℕ) (o : guard.Offer) → IsAdmitted rules setup g o
      → P (installed_over rules g k o.text (changed (last_definitions g.versions) o.text.definitions) (installed o.text.definitions g.world))

where_test : (P : Guard → Type 0) (after : Guard) (b : Bool) → (b ≡ true → P after) → AllOf P (guard_if b after)
where_test P after true does = does refl
where_test P after false does = tt

where_open : (P : Guard → Type 0) (b : Bool) (o : Option Guard) → AllOf P o → AllOf P (if b then o else None)
where_open P true o does = does
where_open P false o does = tt

unless : (P : Guard → Type 0) (b : Bool) (o : Option Guard) → (b ≡ false → AllOf P o) → AllOf P (if b then None else o)
unless P true o does = tt
unless P false o does = does refl

by_move : (P : Guard → Type 0) (g : Guard) (t : ℕ) (o : Option World) → move g.world t ≡ o
    → ((w : World) → move g.world t ≡ Some w → P (moved g t w)) → AllOf P (option_map (moved g t) o)
by_move P g t None e does = tt
by_move P g t (Some w) e does = does w e

by_install : (P : Guard → Type 0) (f : World → Guard) (b : Bool) (w : World) → (b ≡ false → P (f w))
    → AllOf P (option_map f (if b then None else Some w))
by_install P f true w does = tt
by_install P f false w does = does refl

by_verdict : (rules : Rules) (setup : Setup) (g : Guard) (P : Guard → Type 0) → Keeps rules setup g P → (k : ℕ) (o : guard.Offer)
    → offer_at setup k ≡ Some o → (v : Verdict)
    → verdict (map (in_force rules (bodies_of g)) g.seats) (changed (last_definitions g.versions) o.text.definitions)
    (interface (last_definitions g.versions) o.text.definitions)
    ≡ v
    → AllOf P (decided_by rules g k o.text (changed (last_definitions g.versions) o.text.definitions) v)
by_verdict rules setup g P h k o at Admitted e =
    by_install P (installed_over rules g k o.text (changed (last_definitions g.versions) o.text.definitions)) (is_over g.world)
    (installed o.text.definitions g.world)
    (λ over. h.installs k o (record { number = k; offered = at; goes_on = over; admitted = e }))
by_verdict rules setup g P h k o at (Refused r) e = h.ends k (RefusedFor r)

by_patch : (rules : Rules) (setup : Setup) (g : Guard) (P : Guard → Type 0) → Keeps rules setup g P → (k : ℕ) (o : guard.Offer)
    → offer_at setup k ≡ Some o → (cause : Option NotPatch) → AllOf P (decided rules g k (last_definitions g.versions) o.text cause)
by_patch rules setup g P h k o at (Some cause) = h.ends k (NoPatch cause)
by_patch rules setup g P h k o at None = by_verdict rules setup g P h k o at _ refl

by_offer : (rules : Rules) (setup : Setup) (g : Guard) (P : Guard → Type 0) → Keeps rules setup g P → (k : ℕ) (o : Option guard.Offer)
    → offer_at setup k ≡ o → AllOf P (decide rules g k o)
by_offer rules setup g P h k None at = tt
by_offer rules setup g P h k (Some o) at = by_patch rules setup g P h k o at _

pub each_event : (rules : Rules) (setup : Setup) (e : Event) (g : Guard) (P : Guard → Type 0) → Keeps rules setup g P
    → AllOf P (happens rules setup e g)
each_event rules setup (Move t) g P h =
    unless P (has_ended g || (seat_of g t).at_check_in) (option_map (moved g t) (move g.world t))
    (λ test. by_move P g t (move g.world t) refl (λ w. h.moves t w (or_parts _ _ test).1))
each_event rules setup (CheckIn t) g P h =
    where_test P (checked_in (bodies_of g) g t) (not (has_ended g) && (seat_of g t).at_check_in && is_none g.open_offer)
    (λ test.
    let both = (and_parts _ _ (and_parts _ _ test).0) in h.checks t (not-true _ both.0) both.1)
each_event rules setup (Offer k) g P h =
    where_test P (record g { open_offer = Some k; greatest = k }) (not (has_ended g) && can_open setup g k) (λ test. h.opens k)
each_event rules setup (Decide k) g P h =
    where_open P (not (has_ended g) && is_open g k) (decide rules g k (offer_at setup k))
    (by_offer rules setup g P h k (offer_at setup k) refl)
each_event rules setup (Withdraw k) g P h =
    where_test P (answered k Withdrawn g) (not (has_ended g) && is_open g k) (λ test. h.ends k Withdrawn)

and_then : (P : Guard → Type 0) (o : Option Guard) (f : Guard → Option Guard) → AllOf P o → ((mid : Guard) → P mid → AllOf P (f mid))
    → AllOf P (option_and_then f o)
and_then P None f h rest = tt
and_then P (Some mid) f h rest = rest mid h

along : (rules : Rules) (setup : Setup) (P : Guard → Type 0) (step : (g : Guard) → P g → Keeps rules setup g P)
    (events : List Event) (g : Guard) → P g → AllOf P (play rules setup events g)
along rules setup P step [] g h = h
along rules setup P step (e ∷ es) g h =
    and_then P (happens rules setup e g) (play rules setup es) (each_event rules setup e g P (step g h))
    (λ mid mid_holds. along rules setup P step es mid mid_holds)

pub in_each_guard : (rules : Rules) (setup : Setup) (P : Guard → Type 0) → P (first_guard setup)
    → ((g : Guard) → P g → Keeps rules setup g P) → (events : List Event) (g : Guard) → guard_after rules setup events ≡ Some g → P g
in_each_guard rules setup P first step events g legal =
    of_outcome P (guard_after rules setup events) g legal (along rules setup P step events (first_guard setup) first)
