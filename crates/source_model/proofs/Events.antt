-- What can be told of each event by what it does.
use Rattle.std.proofs.Common.{◌≡◌, ℕ, ◌<◌, Bool, true, false, List, [], ◌∷◌, Option, Some, None, refl, ap, subst, arith}
use Rattle.std.specs.Prelude.{◌==◌, ◌&&◌, ◌||◌, not, nat_lt, option_map, if◌then◌else◌}
use Rattle.std.specs.Option.{option_and_then, option_map_or, is_none}
use Rattle.std.proofs.lemmas.Bool.Decides.{nat_tests}
use Rattle.run_types.specs.declared.run.Event.{Event}
use Rattle.run_types.specs.declared.run.Event.TheVariants.{Move, CheckIn, Offer, Decide, Withdraw}
use Rattle.con_freeness.specs.Verdicts.{Verdict, Admitted, Refused}
use Rattle.con_freeness.specs.Rows.{Names}
use Rattle.c_tree.specs.BareDef.{BareDef}
use Rattle.c_semantics.specs.Changes.{changed}
use Rattle.source_model.specs.declared.patch.NotPatch.{NotPatch}
use Rattle.source_model.specs.Worlds.{World, is_over}
use Rattle.source_model.specs.Moves.{move}
use Rattle.source_model.specs.Installs.{installed}
use Rattle.source_model.specs.Answers.{Answer, RefusedFor, NoPatch, Withdrawn}
use Rattle.source_model.specs.Patches.{last_definitions}
use Rattle.source_model.specs.Guards.{Guard, Setup, Rules, first_guard, has_ended, bodies_of, seat_of, moved, checked_in, offer_at, can_open, is_open, is_reached, decide, decided, decided_by, answered, installed_over}
use Rattle.source_model.specs.Guards as guard
use Rattle.source_model.specs.Journals.{happens, play, guard_after, guard_if}
use Rattle.source_model.specs.JournalLaws.{closes}

-- a guard that is there satisfies P
abbrev pub AllOf : (Guard → Type 0) → Option Guard → Type 0
AllOf P None = Unit {0}
AllOf P (Some g) = P g

pub of_outcome : (P : Guard → Type 0) (o : Option Guard) (g : Guard) → o ≡ Some g → AllOf P o → P g
of_outcome P o g e p = subst (AllOf P) e p

-- an event closes no offer, or offer k
abbrev pub ClosesNone : Event → Type 0
ClosesNone e = (n : ℕ) → closes n e ≡ false

abbrev pub Closes : ℕ → Event → Type 0
Closes k e = (n : ℕ) → closes n e ≡ (k == n)

-- P holds after an event, whichever it is
pub record Handles (rules : Rules) (setup : Setup) (e : Event) (g : Guard) (P : Guard → Type 0) : Type 0 where
  pub moves : ClosesNone e → (t : ℕ) (w : World) → move g.world t ≡ Some w → P (moved g t w)
  pub checks : ClosesNone e → (t : ℕ) → (seat_of g t).at_check_in ≡ true → P (checked_in (bodies_of g) g t)
  pub opens : ClosesNone e → (k : ℕ) → g.greatest < k → is_reached g (offer_at setup k) ≡ true
      → P (record g { open_offer = Some k; greatest = k })
  pub ends : (k : ℕ) → Closes k e → (a : Answer) → g.open_offer ≡ Some k → P (answered k a g)
  pub installs : (k : ℕ) → Closes k e → (o : guard.Offer) (names : Names) → g.open_offer ≡ Some k → offer_at setup k ≡ Some o
      → P (installed_over rules g k o.text names (installed o.text.definitions g.world))

-- what a test that holds says
pub left_of : (a b : Bool) → (a && b) ≡ true → a ≡ true
left_of true b h = refl
left_of false b h = h

pub right_of : (a b : Bool) → (a && b) ≡ true → b ≡ true
right_of true b h = h
right_of false b h = absurd (no h)
  where
    no : false ≡ true → ⊥
    no e = cc

equal_numbers : (n k : ℕ) → (n == k) ≡ true → n ≡ k
equal_numbers n k h = grind (arith, nat_tests, h)

less : (a b : ℕ) → nat_lt a b ≡ true → a < b
less a b h = grind (arith, nat_tests, h)

pub opened_by : (k : ℕ) (o : Option ℕ) → option_map_or (λ n. n == k) o false ≡ true → o ≡ Some k
opened_by k None h = absurd (no h)
  where
    no : false ≡ true → ⊥
    no e = cc
opened_by k (Some n) h = ap Some (equal_numbers n k h)

where_test : (P : Guard → Type 0) (after : Guard) (b : Bool) → (b ≡ true → P after) → AllOf P (guard_if b after)
where_test P after true does = does refl
where_test P after false does = tt

where_open : (P : Guard → Type 0) (b : Bool) (o : Option Guard) → (b ≡ true → AllOf P o) → AllOf P (if b then o else None)
where_open P true o does = does refl
where_open P false o does = tt

unless : (P : Guard → Type 0) (b : Bool) (o : Option Guard) → AllOf P o → AllOf P (if b then None else o)
unless P true o does = tt
unless P false o does = does

by_move : (P : Guard → Type 0) (g : Guard) (t : ℕ) (o : Option World) → move g.world t ≡ o
    → ((w : World) → move g.world t ≡ Some w → P (moved g t w)) → AllOf P (option_map (moved g t) o)
by_move P g t None e does = tt
by_move P g t (Some w) e does = does w e

by_install : (P : Guard → Type 0) (f : World → Guard) (b : Bool) (w : World) → P (f w)
    → AllOf P (option_map f (if b then None else Some w))
by_install P f true w does = tt
by_install P f false w does = does

by_verdict : (rules : Rules) (setup : Setup) (e : Event) (g : Guard) (P : Guard → Type 0) → Handles rules setup e g P
    → (k : ℕ) → Closes k e → (o : guard.Offer) (names : Names) → g.open_offer ≡ Some k → offer_at setup k ≡ Some o
    → (v : Verdict) → AllOf P (decided_by rules g k o.text names v)
by_verdict rules setup e g P h k c o names is at Admitted =
    by_install P (installed_over rules g k o.text names) (is_over g.world) (installed o.text.definitions g.world)
    (h.installs k c o names is at)
by_verdict rules setup e g P h k c o names is at (Refused r) = h.ends k c (RefusedFor r) is

by_patch : (rules : Rules) (setup : Setup) (e : Event) (g : Guard) (P : Guard → Type 0) → Handles rules setup e g P
    → (k : ℕ) → Closes k e → (o : guard.Offer) (p : List BareDef) → g.open_offer ≡ Some k → offer_at setup k ≡ Some o
    → (cause : Option NotPatch) → AllOf P (decided rules g k p o.text cause)
by_patch rules setup e g P h k c o p is at (Some cause) = h.ends k c (NoPatch cause) is
by_patch rules setup e g P h k c o p is at None = by_verdict rules setup e g P h k c o (changed p o.text.definitions) is at _

by_offer : (rules : Rules) (setup : Setup) (e : Event) (g : Guard) (P : Guard → Type 0) → Handles rules setup e g P
    → (k : ℕ) → Closes k e → (o : Option guard.Offer) → g.open_offer ≡ Some k → offer_at setup k ≡ o
    → AllOf P (decide rules g k o)
by_offer rules setup e g P h k c None is at = tt
by_offer rules setup e g P h k c (Some o) is at = by_patch rules setup e g P h k c o (last_definitions g.versions) is at _

pub each_event : (rules : Rules) (setup : Setup) (e : Event) (g : Guard) (P : Guard → Type 0) → Handles rules setup e g P
    → AllOf P (happens rules setup e g)
each_event rules setup (Move t) g P h =
    unless P (has_ended g || (seat_of g t).at_check_in) (option_map (moved g t) (move g.world t))
    (by_move P g t (move g.world t) refl (h.moves (λ n. refl) t))
each_event rules setup (CheckIn t) g P h =
    where_test P (checked_in (bodies_of g) g t) (not (has_ended g) && (seat_of g t).at_check_in && is_none g.open_offer)
    (λ test. h.checks (λ n. refl) t (right_of _ _ (left_of _ _ test)))
each_event rules setup (Offer k) g P h =
    where_test P (record g { open_offer = Some k; greatest = k }) (not (has_ended g) && can_open setup g k)
    (λ test.
    h.opens (λ n. refl) k (less g.greatest k (right_of _ _ (left_of _ _ (right_of _ _ test)))) (right_of _ _ (right_of _ _ test)))
each_event rules setup (Decide k) g P h =
    where_open P (not (has_ended g) && is_open g k) (decide rules g k (offer_at setup k))
    (λ test. by_offer rules setup (Decide k) g P h k (λ n. refl) (offer_at setup k) (opened_by k g.open_offer (right_of _ _ test)) refl)
each_event rules setup (Withdraw k) g P h =
    where_test P (answered k Withdrawn g) (not (has_ended g) && is_open g k)
    (λ test. h.ends k (λ n. refl) Withdrawn (opened_by k g.open_offer (right_of _ _ test)))

-- what holds at the start and after each event holds of each guard that a journal comes to
and_then : (rules : Rules) (setup : Setup) (P : Guard → Type 0) (o : Option Guard) (f : Guard → Option Guard) → AllOf P o
    → ((mid : Guard) → P mid → AllOf P (f mid)) → AllOf P (option_and_then f o)
and_then rules setup P None f h rest = tt
and_then rules setup P (Some mid) f h rest = rest mid h

along : (rules : Rules) (setup : Setup) (P : Guard → Type 0) (step : (e : Event) (g : Guard) → P g → Handles rules setup e g P)
    (events : List Event) (g : Guard) → P g → AllOf P (play rules setup events g)
along rules setup P step [] g h = h
along rules setup P step (e ∷ es) g h =
    and_then rules setup P (happens rules setup e g) (play rules setup es) (each_event rules setup e g P (step e g h))
    (λ mid mid_holds. along rules setup P step es mid mid_holds)

pub in_each_guard : (rules : Rules) (setup : Setup) (P : Guard → Type 0) → P (first_guard setup)
    → ((e : Event) (g : Guard) → P g → Handles rules setup e g P)
    → (events : List Event) (g : Guard) → guard_after rules setup events ≡ Some g → P g
in_each_guard rules setup P first step events g legal =
    of_outcome P (guard_after rules setup events) g legal (along rules setup P step events (first_guard setup) first)
