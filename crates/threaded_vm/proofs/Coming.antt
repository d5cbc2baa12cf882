-- One event more of a run.
use Rattle.std.proofs.Common.{◌≡◌, ℕ, Bool, true, false, List, [], ◌∷◌, ◌++◌, Option, Some, None, refl, sym, ◌∙◌, ap, subst}
use Rattle.std.specs.Prelude.{◌&&◌, not, IsTrue}
use Rattle.std.specs.Option.{is_some, option_and_then, option_map_or}
use Rattle.std.proofs.lemmas.Option.{none-some, same_Some}
use Rattle.run_types.specs.declared.run.Event.{Event}
use Rattle.effects.specs.Rows.{AreRows}
use Rattle.source_model.specs.Guards.{Guard, Rules, Setup, first_guard}
use Rattle.source_model.specs.Journals.{happens, play}
use Rattle.source_model.specs.Schedules.{due, makes_move, prompt_from}
use Rattle.dsu_runs.proofs.Coming.{legal_more}
use Rattle.dsu_runs.proofs.Happening.{any_are_rows, any_rules}
use Rattle.threaded_vm.specs.Opened.{Comes}

prompt_parts : (rules : Rules) (setup : Setup) (es fs : List Event) (g mid : Guard) → play rules setup es g ≡ Some mid
    → IsTrue (prompt_from rules setup es g) → IsTrue (prompt_from rules setup fs mid) → IsTrue (prompt_from rules setup (es ++ fs) g)
prompt_parts rules setup [] fs g mid played first second = subst (λ m. IsTrue (prompt_from rules setup fs m)) (sym (same_Some g mid played)) second
prompt_parts rules setup (e ∷ es) fs g mid played first second =
    by (not (makes_move e && is_some (due setup g))) (happens rules setup e g)
    (λ next is h. prompt_parts rules setup es fs next mid is h second) played first
  where
    by : (b : Bool) (o : Option Guard)
        → ((next : Guard) → play rules setup es next ≡ Some mid → IsTrue (prompt_from rules setup es next)
        → IsTrue (prompt_from rules setup (es ++ fs) next))
        → option_and_then (play rules setup es) o ≡ Some mid
        → (b && option_map_or (prompt_from rules setup es) o true) ≡ true
        → (b && option_map_or (prompt_from rules setup (es ++ fs)) o true) ≡ true
    by false o rest is h = h
    by true None rest is h = absurd (none-some mid is)
    by true (Some next) rest is h = rest next is h

one_prompt : (rules : Rules) (setup : Setup) (e : Event) (g : Guard) → (makes_move e && is_some (due setup g)) ≡ false
    → IsTrue (prompt_from rules setup (e ∷ []) g)
one_prompt rules setup e g h = ap (λ b. not b && option_map_or (λ after. true) (happens rules setup e g) true) h ∙ always (happens rules setup e g)
  where
    always : (o : Option Guard) → option_map_or (λ after. true) o true ≡ true
    always None = refl
    always (Some after) = refl

-- an event that is no move, or is made where no offer is due
pub not_late : (b : Bool) (o : Option ℕ) → (b ≡ true → o ≡ None) → (b && is_some o) ≡ false
not_late false o h = refl
not_late true o h = ap is_some (h refl)

pub comes_more : (setup : Setup) (history : List Event) (e : Event) (g after : Guard) → Comes setup history g
    → ((rules : Rules) → AreRows rules.row → happens rules setup e g ≡ Some after) → (makes_move e ≡ true → due setup g ≡ None)
    → Comes setup (history ++ e ∷ []) after
comes_more setup history e g after comes made prompt = record {
  legal = λ rules rows. legal_more rules setup history e g after (comes.legal rules rows) (made rules rows);
  prompt = λ rules rows.
      prompt_parts rules setup history (e ∷ []) (first_guard setup) g (comes.legal rules rows) (comes.prompt rules rows)
      (one_prompt rules setup e g (not_late (makes_move e) (due setup g) prompt));
}

-- some events come to one guard only
pub comes_once : (setup : Setup) (history : List Event) (g h : Guard) → Comes setup history g → Comes setup history h → g ≡ h
comes_once setup history g h a b = same_Some g h (sym (a.legal any_rules any_are_rows) ∙ b.legal any_rules any_are_rows)
