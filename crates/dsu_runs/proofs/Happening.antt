-- When events can happen, and what they leave.
use Rattle.std.proofs.Common.{◌≡◌, ℕ, Bool, true, false, Option, Some, None, refl, sym, ◌∙◌, ap, arith}
use Rattle.std.specs.Prelude.{◌&&◌, ◌||◌, ◌==◌, not, option_map, if◌then◌else◌}
use Rattle.std.specs.Option.{is_none, is_some, option_map_or}
use Rattle.std.proofs.lemmas.Bool.{true≢false, false≢true}
use Rattle.std.proofs.lemmas.Bool.Decides.{nat_tests}
use Rattle.std.proofs.lemmas.Option.{none-some, same_Some}
use Rattle.run_types.specs.declared.run.Event.TheVariants.{Move, CheckIn, Offer, Withdraw}
use Rattle.effects.proofs.RowsExist.{each_has_a_row}
use Rattle.source_model.specs.Worlds.{World}
use Rattle.source_model.specs.Moves.{move}
use Rattle.source_model.specs.Runs.{can_move}
use Rattle.source_model.specs.Answers.{Withdrawn}
use Rattle.source_model.specs.Guards.{Guard, Rules, Setup, answered, bodies_of, checked_in, has_ended, is_open, moved, seat_of}
use Rattle.source_model.specs.Journals.{guard_if, happens}
use Rattle.source_model.specs.JournalLaws.{CanHappen}
use Rattle.source_model.specs.Schedules.{due}
use Rattle.source_model.proofs.Soloing.{due_happens, due_is}
use Rattle.effects.specs.Rows.{AreRows}

-- some rules by the definitions of effects
pub any_rules : Rules
any_rules = record { row = λ bodies mark. (each_has_a_row bodies mark).0 }

pub any_are_rows : AreRows any_rules.row
unfolding any_rules
any_are_rows bodies mark = (each_has_a_row bodies mark).1

pub none_of : {A : Type 0} (a : A) → None ≡ Some a → ⊥
none_of a e = none-some a e

-- a move that was made
pub record MoveMade (g after : Guard) (t : ℕ) : Type 0 where
  pub world : World
  pub going : has_ended g ≡ false
  pub at_none : (seat_of g t).at_check_in ≡ false
  pub to : move g.world t ≡ Some world
  pub is : moved g t world ≡ after

pub move_made : (rules : Rules) (setup : Setup) (t : ℕ) (g after : Guard) → happens rules setup (Move t) g ≡ Some after → MoveMade g after t
move_made rules setup t g after made = by (has_ended g) (seat_of g t).at_check_in (move g.world t) refl refl refl made
  where
    by : (a b : Bool) (o : Option World) → has_ended g ≡ a → (seat_of g t).at_check_in ≡ b → move g.world t ≡ o
        → (if a || b then None else option_map (moved g t) o) ≡ Some after → MoveMade g after t
    by true b o e f h is = absurd (none_of after is)
    by false true o e f h is = absurd (none_of after is)
    by false false None e f h is = absurd (none_of after is)
    by false false (Some w) e f h is = record { world = w; going = e; at_none = f; to = h; is = same_Some (moved g t w) after is }

-- a move that can't be made, by a thread that is at no check-in in a run that goes on
pub no_move : (rules : Rules) (setup : Setup) (t : ℕ) (g : Guard) → happens rules setup (Move t) g ≡ None → has_ended g ≡ false
    → (seat_of g t).at_check_in ≡ false → can_move g.world t ≡ false
no_move rules setup t g never going none = by (has_ended g) (seat_of g t).at_check_in (move g.world t) going none never
  where
    by : (a b : Bool) (o : Option World) → a ≡ false → b ≡ false → (if a || b then None else option_map (moved g t) o) ≡ None
        → is_some o ≡ false
    by a b None e f is = refl
    by false false (Some w) e f is = absurd (none_of (moved g t w) (sym is))
    by true b (Some w) e f is = absurd (true≢false e)
    by false true (Some w) e f is = absurd (true≢false f)

-- what passes a test
pub passed : (b : Bool) (g after : Guard) → guard_if b g ≡ Some after → (b ≡ true) × (g ≡ after)
passed true g after is = (refl, same_Some g after is)
passed false g after is = absurd (none_of after is)

both : (a b c : Bool) → (not a && b && c) ≡ true → (a ≡ false) × (b ≡ true) × (c ≡ true)
both false true true e = (refl, refl, refl)
both false true false e = absurd (false≢true e)
both false false c e = absurd (false≢true e)
both true b c e = absurd (false≢true e)

pub check_in_made : (rules : Rules) (setup : Setup) (t : ℕ) (g after : Guard) → happens rules setup (CheckIn t) g ≡ Some after
    → ((seat_of g t).at_check_in ≡ true) × (checked_in (bodies_of g) g t ≡ after)
check_in_made rules setup t g after made =
    let tests = passed (not (has_ended g) && (seat_of g t).at_check_in && is_none g.open_offer) (checked_in (bodies_of g) g t) after made in
    ((both (has_ended g) (seat_of g t).at_check_in (is_none g.open_offer) tests.0).1, tests.1)

-- a check-in is passed where the thread is at one and no offer is open
pub passes : (rules : Rules) (setup : Setup) (t : ℕ) (g : Guard) → has_ended g ≡ false → (seat_of g t).at_check_in ≡ true
    → g.open_offer ≡ None → happens rules setup (CheckIn t) g ≡ Some (checked_in (bodies_of g) g t)
passes rules setup t g going at none =
    by (has_ended g) (seat_of g t).at_check_in (is_none g.open_offer) (checked_in (bodies_of g) g t) going at (ap is_none none)
  where
    by : (a b c : Bool) (after : Guard) → a ≡ false → b ≡ true → c ≡ true → guard_if (not a && b && c) after ≡ Some after
    by a b c after e f h =
        ap (λ x. guard_if (not x && b && c) after) e ∙ ap (λ x. guard_if (x && c) after) f ∙ ap (λ x. guard_if x after) h

pub refused : (rules : Rules) (setup : Setup) (t : ℕ) (g : Guard) → has_ended g ≡ false → (seat_of g t).at_check_in ≡ true
    → g.open_offer ≡ None → happens rules setup (CheckIn t) g ≡ None → ⊥
refused rules setup t g going at none never =
    none_of (checked_in (bodies_of g) g t) (sym never ∙ passes rules setup t g going at none)

-- a due offer can be opened
pub opens : (rules : Rules) (setup : Setup) (g : Guard) (k : ℕ) → has_ended g ≡ false → g.open_offer ≡ None → due setup g ≡ Some k
    → CanHappen rules setup (Offer k) g
opens rules setup g k going none is = let next = due_is setup g k is in due_happens rules setup g k going none next.0 next.1

-- the open offer can be withdrawn
pub withdraws : (rules : Rules) (setup : Setup) (g : Guard) (k : ℕ) → has_ended g ≡ false → g.open_offer ≡ Some k
    → CanHappen rules setup (Withdraw k) g
withdraws rules setup g k going is =
    (answered k Withdrawn g, by (has_ended g) (is_open g k) (answered k Withdrawn g) going (open_is g.open_offer is))
  where
    same : (n : ℕ) → (n == n) ≡ true
    same n = grind (arith, nat_tests)

    open_is : (o : Option ℕ) → o ≡ Some k → option_map_or (λ n. n == k) o false ≡ true
    open_is o e = ap (λ p. option_map_or (λ n. n == k) p false) e ∙ same k

    by : (a b : Bool) (after : Guard) → a ≡ false → b ≡ true → guard_if (not a && b) after ≡ Some after
    by true b after e f = absurd (true≢false e)
    by false true after e f = refl
    by false false after e f = absurd (false≢true f)
