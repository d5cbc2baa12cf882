-- A move after a legal journal makes a longer one, so it misuses nothing.
use Rattle.std.proofs.Common.{◌≡◌, ℕ, ◌||◌, Bool, true, false, List, [], ◌∷◌, ◌++◌, Option, Some, None, option_map, is_some, refl, ap, ◌∙◌, if◌then◌else◌}
use Rattle.std.specs.Option.{option_and_then}
use Rattle.std.proofs.lemmas.Option.{none-some, same_Some}
use Rattle.run_types.specs.declared.run.Event.{Event}
use Rattle.run_types.specs.declared.run.Event.TheVariants.{Move}
use Rattle.source_model.specs.Guards.{Guard, Rules, Setup, first_guard, moved, seat_of}
use Rattle.source_model.specs.Journals.{happens, play}
use Rattle.source_model.specs.Moves.{move, move_of}
use Rattle.source_model.specs.Waits.{must_wait}
use Rattle.source_model.specs.Worlds.{World, in_slot}
use Rattle.accepted_runs.specs.AcceptedRuns.{NoRunMisuses}
use Rattle.code_install_laws.specs.UsedNames.{JournalsUseWell}

-- ---- one event more

module _ (rules : Rules) (setup : Setup) where
  then_none : (o : Option Guard) → option_and_then (play rules setup []) o ≡ o
  then_none None = refl
  then_none (Some g) = refl

  played_more : (es : List Event) (e : Event) (g mid : Guard) → play rules setup es g ≡ Some mid
      → play rules setup (es ++ e ∷ []) g ≡ happens rules setup e mid
  played_more [] e g mid is = then_none (happens rules setup e g) ∙ ap (happens rules setup e) (same_Some g mid is)
  played_more (x ∷ es) e g mid is = by (λ next i. played_more es e next mid i) (happens rules setup x g) is
    where
      by : ((next : Guard) → play rules setup es next ≡ Some mid → play rules setup (es ++ e ∷ []) next ≡ happens rules setup e mid)
          → (o : Option Guard) → option_and_then (play rules setup es) o ≡ Some mid
          → option_and_then (play rules setup (es ++ e ∷ [])) o ≡ happens rules setup e mid
      by rest None i = absurd (none-some mid i)
      by rest (Some next) i = rest next i

-- ---- a move

-- no move is made once the run has ended
not_ended : (w : World) (t : ℕ) (after : World) → move w t ≡ Some after → is_some w.finish ≡ false
not_ended w t after e = by w.misused (is_some w.finish) (must_wait w t) e
  where
    by : (m f b : Bool) → (if (m || f) || b then None else move_of w t (in_slot w t)) ≡ Some after → f ≡ false
    by m false b e = refl
    by true true b e = absurd (none-some after e)
    by false true b e = absurd (none-some after e)

move_happens : (rules : Rules) (setup : Setup) (g : Guard) (t : ℕ) (after : World) → (seat_of g t).at_check_in ≡ false
    → move g.world t ≡ Some after → happens rules setup (Move t) g ≡ Some (moved g t after)
move_happens rules setup g t after free moves =
    ap (λ b. if b || (seat_of g t).at_check_in then None else option_map (moved g t) (move g.world t)) (not_ended g.world t after moves)
    ∙ ap (λ b. if b then None else option_map (moved g t) (move g.world t)) free
    ∙ ap (option_map (moved g t)) moves

pub journals_use_well : NoRunMisuses → JournalsUseWell
journals_use_well law rules setup events g t rows accepted legal free after moves =
    law rules setup (events ++ Move t ∷ []) (moved g t after) rows accepted
    (played_more rules setup events (Move t) (first_guard setup) g legal ∙ move_happens rules setup g t after free moves)
