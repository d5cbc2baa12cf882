-- What the solo schedule makes of a run from its start.
use Rattle.std.proofs.Common.{◌≡◌, ℕ, ◌+◌, ◌<◌, ◌≤◌, true, List, [], ◌∷◌, ◌++◌, take, Option, Some, None, refl, sym, ◌∙◌, ap, subst, arith}
use Rattle.std.specs.Prelude.{length, reverse}
use Rattle.std.specs.Option.{option_or}
use Rattle.std.specs.Io.KnownBytes.{Appends}
use Rattle.std.proofs.lemmas.List.{append-nil}
use Rattle.run_types.specs.declared.run.Event.{Event}
use Rattle.run_types.specs.declared.run.Ending.{Ending}
use Rattle.source_model.specs.Guards.{Guard, Rules, Setup, first_guard}
use Rattle.source_model.specs.Journals.{guard_after}
use Rattle.source_model.specs.Schedules.{Solo, move_count}
use Rattle.source_model.specs.Endings.{ending as ending_of, run_ending}
use Rattle.effects.specs.Rows.{AreRows}
use Rattle.dsu_runs.specs.declared.live.Live.{Live}
use Rattle.dsu_runs.specs.declared.ran.Ran.{Ran}
use Rattle.dsu_runs.specs.declared.ran.StopCause.{StopCause}
use Rattle.dsu_runs.specs.declared.ran.StopCause.TheVariants.{Ended, SinkFailed, CannotHappen, Memory, Misused, UndefinedName}
use Rattle.dsu_runs.specs.Engines.{Grew}
use Rattle.dsu_runs.specs.Ran.{FailedAt}
use Rattle.dsu_runs.specs.Solo.{EndedSolo, RanSolo, StoppedSolo}
use Rattle.dsu_runs.specs.Finishes.{FailedFrom, Finishes, IsLive, SoloFrom, StoppedLive, moves_of}
use Rattle.dsu_runs.proofs.Coming.{printed_by}

-- events of the solo schedule from the start are such of the whole run
solo_whole : (rules : Rules) (setup : Setup) (es : List Event) (g : Guard) (last : Option ℕ)
    → SoloFrom rules setup (first_guard setup) None es g last → Solo rules setup es g last
solo_whole rules setup [] g last is = is
solo_whole rules setup (e ∷ es) g last (before, before_last, next, rest, is, stands, made, acted) =
    (before, before_last, next, solo_whole rules setup es before before_last rest, is, stands, made, acted)

nothing_before : (told : Option (List ℕ)) (bytes : List ℕ) → told ≡ Some bytes → told ≡ Some (bytes ++ [])
nothing_before told bytes is = is ∙ ap Some (sym (append-nil bytes))

failed_whole : (setup : Setup) (history : List Event) (g : Guard) (told now : Option (List ℕ)) (counted count : ℕ)
    → FailedFrom setup (first_guard setup) history g told now counted count → FailedAt setup history g told now counted count
failed_whole setup history g None now counted count f = record {
  earlier = f.earlier;
  event = f.event;
  before = f.before;
  split = f.split;
  moves = f.moves;
  legal = f.legal;
  grew = f.grew;
  written = length f.before.world.output;
  least = same (length f.before.world.output);
  most = f.grew;
  printed = tt;
  rose = f.rose;
}
  where
    same : (n : ℕ) → n ≤ n
    same n = omega arith
failed_whole setup history g (Some bytes) now counted count f =
    let part = f.written bytes (nothing_before (Some bytes) bytes refl) in
    record {
      earlier = f.earlier;
      event = f.event;
      before = f.before;
      split = f.split;
      moves = f.moves;
      legal = f.legal;
      grew = f.grew;
      written = part.0;
      least = part.1;
      most = part.2;
      printed = subst (λ o. Appends (Some bytes) o (take part.0 g.world.output)) (sym part.3) refl;
      rose = f.rose;
    }

module _ {E : Type 0} (setup : Setup) (is_at : Guard → E → Type 0) (told : E → Option (List ℕ)) (faults : E → ℕ) (live : Live E)
    (ran : Ran E) where
  all_moves : live.history.items ≡ [] → moves_of live ≡ live.left
  all_moves none = let count = ap move_count none in omega (arith, count)

  stopped_whole : (g : Guard) (cause : StopCause) → live.history.items ≡ []
      → StoppedLive setup is_at told faults (first_guard setup) live ran g cause
      → StoppedSolo setup is_at told faults live.engine live.left ran g cause
  stopped_whole g (Ended e) none s = record {
    ends = subst (λ n. run_ending setup n ran.history.items g ≡ Some (ending_of g)) (all_moves none) s.ends;
    ending = s.ending;
    there = s.there;
    printed = printed_by (told live.engine) (told ran.engine) setup g s.printed;
  }
  stopped_whole g SinkFailed none s =
      failed_whole setup ran.history.items g (told live.engine) (told ran.engine) (faults live.engine) (faults ran.engine) s
  stopped_whole g (CannotHappen line) none s = s
  stopped_whole g Memory none s = printed_by (told live.engine) (told ran.engine) setup g s
  stopped_whole g (Misused line) none s = s
  stopped_whole g (UndefinedName line) none s = s

  -- where no event was made before, it is a run by the solo schedule
  pub whole : live.history.items ≡ [] → live.last ≡ None → Finishes setup is_at told faults (first_guard setup) live ran
      → RanSolo setup is_at told faults live.engine live.left ran
  whole none first f =
      let all = f.grown ∙ ap (λ es. es ++ f.more) none in
      record {
        guard = f.guard;
        last = f.last;
        legal = f.legal;
        solo = λ rules rows.
            solo_whole rules setup (reverse ran.history.items) f.guard f.last
            (subst (λ es. SoloFrom rules setup (first_guard setup) None (reverse es) f.guard f.last) (sym all)
            (subst (λ l. SoloFrom rules setup (first_guard setup) l (reverse f.more) f.guard f.last) first (f.solo rules rows)));
        most = let count = ap move_count all in omega (arith, count, f.most);
        begun = λ rules events later e before rows split legal.
            subst (λ n. run_ending setup n events before ≡ None) (all_moves none)
            (subst (λ es. run_ending setup (moves_of live) (es ++ events) before ≡ None) none
            (f.begun rules events later e before rows (sym all ∙ split)
            (ap (λ es. guard_after rules setup (es ++ events)) none ∙ legal)));
        later = f.later;
        stopped = stopped_whole f.guard ran.cause none f.stopped;
      }

-- at the start nothing was made, and the engine is at the first guard
pub live_first : {E : Type 0} (setup : Setup) (is_at : Guard → E → Type 0) (live : Live E) → live.history.items ≡ []
    → is_at (first_guard setup) live.engine → IsLive setup is_at (first_guard setup) live
live_first setup is_at live none at = record {
  there = at;
  legal = λ rules rows. ap (guard_after rules setup) none;
}
