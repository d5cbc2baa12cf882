-- A replay from event to event.
use Rattle.std.proofs.Common.{◌≡◌, ℕ, zero, suc, ◌+◌, ◌<◌, ◌≤◌, List, [], ◌∷◌, ◌++◌, take, Option, Some, refl, sym, ◌∙◌, ap, subst, arith, length-append}
use Rattle.std.specs.Prelude.{length, slice_get, slice_index_or}
use Rattle.std.proofs.lemmas.Option.{none-some, same_Some}
use Rattle.std.proofs.lemmas.List.{length-map, length-take-le, take_all}
use Rattle.run_types.specs.declared.run.Event.{Event}
use Rattle.run_types.specs.declared.run.Event.TheVariants.{Move}
use Rattle.run_types.specs.declared.run.Ending.{Ending}
use Rattle.source_model.specs.Guards.{Guard, Setup, first_guard}
use Rattle.source_model.specs.Journals.{guard_after}
use Rattle.source_model.specs.Endings.{ending, int_ending}
use Rattle.dsu_runs.specs.declared.running.Running.{Running}
use Rattle.dsu_runs.specs.declared.running.Step.{Step}
use Rattle.dsu_runs.specs.declared.running.Step.TheVariants as steps
use Rattle.dsu_runs.specs.declared.ran.StopCause.TheVariants.{Ended, SinkFailed, CannotHappen, Memory, Misused, UndefinedName}
use Rattle.dsu_runs.specs.Turns.{Steps, history_after, ran_of}
use Rattle.dsu_runs.specs.Replays.{Replayed, events_of}
use Rattle.dsu_runs.proofs.Acting.{rose_since}
use Rattle.dsu_runs.proofs.Coming.{Came, Tries, came_first, came_more, failed_at, failed_legal, printed, printed_still}

-- one line more
take_more : (lines : List (ℕ × Event)) (n : ℕ) (line : ℕ × Event) → slice_get lines n ≡ Some line
    → take (suc n) (events_of lines) ≡ take n (events_of lines) ++ line.1 ∷ []
take_more [] n line there = absurd (none-some line there)
take_more (l ∷ lines) zero line there = ap (λ (x : ℕ × Event). x.1 ∷ []) (same_Some l line there)
take_more (l ∷ lines) (suc n) line there = ap (λ es. l.1 ∷ es) (take_more lines n line there)

some_there : (lines : List (ℕ × Event)) (n : ℕ) (line : ℕ × Event) → slice_get lines n ≡ Some line → n < length lines
some_there [] n line there = absurd (none-some line there)
some_there (l ∷ lines) zero line there = omega arith
some_there (l ∷ lines) (suc n) line there = let rest = some_there lines n line there in omega (arith, rest)

trans_le : (x y z : ℕ) → x ≤ y → y ≤ z → x ≤ z
trans_le x y z p q = omega (arith, p, q)

module _ {E : Type 0} (setup : Setup) (is_at : Guard → E → Type 0) (told : E → Option (List ℕ)) (faults : E → ℕ)
    (engine : E) (lines : List (ℕ × Event)) where
  -- so many events of the journal were made
  pub record Made (n : ℕ) (now : Running E) : Type 0 where
    pub guard : Guard
    pub came : Came setup (first_guard setup) (told engine) now.history.items guard (told now.engine)
    pub there : is_at guard now.engine
    pub later : faults engine ≤ faults now.engine
    pub made : now.history.items ≡ take n (events_of lines)
    pub within : n ≤ length lines

  pub count : (n : ℕ) (now : Running E) → Made n now → length now.history.items ≡ n
  count n now at =
      ap length at.made ∙ length-take-le n (events_of lines) (omega (arith, at.within, length-map lines (λ line. line.1)))

  -- what was made is a prefix of the journal
  prefix : (n : ℕ) (now : Running E) → Made n now → now.history.items ≡ take (length now.history.items) (events_of lines)
  prefix n now at = at.made ∙ ap (λ k. take k (events_of lines)) (sym (count n now at))

  pub starts : (now : Running E) → now.engine ≡ engine → now.history.items ≡ [] → is_at (first_guard setup) engine → Made 0 now
  starts now same none at = record {
    guard = first_guard setup;
    came =
        subst (λ es. Came setup (first_guard setup) (told engine) es (first_guard setup) (told now.engine)) (sym none)
        (subst (λ x. Came setup (first_guard setup) (told engine) [] (first_guard setup) (told x)) (sym same)
        (came_first setup (told engine)));
    there = subst (λ x. is_at (first_guard setup) x) (sym same) at;
    later = let eq = ap faults same in omega (arith, eq);
    made = none;
    within = omega arith;
  }

  -- a run for whose events there is no room
  pub no_room : (now : Running E) → now.engine ≡ engine → now.history.items ≡ []
      → Replayed setup is_at told faults engine lines (ran_of now Memory)
  no_room now same none = record {
    guard = first_guard setup;
    legal = λ rules rows. ap (guard_after rules setup) none;
    made = none ∙ sym (ap (λ (es : List Event). take (length es) (events_of lines)) none);
    later = let eq = ap faults same in omega (arith, eq);
    stopped = printed_still setup (told engine) (told engine) (told now.engine) [] (first_guard setup) (ap told same)
        (came_first setup (told engine));
  }

  module _ (n : ℕ) (now next : Running E) (line : ℕ × Event) (step : Step) (at : Made n now)
      (there : slice_get lines n ≡ Some line) (tries : Tries setup is_at told faults now next line.1 step) where
    made_is : (s : Step) → step ≡ s
        → Steps (λ x. is_at x next.engine) setup line.1 at.guard (told now.engine) (told next.engine) s
    made_is s is =
        subst (λ x. Steps (λ y. is_at y next.engine) setup line.1 at.guard (told now.engine) (told next.engine) x) is
        (tries.made at.guard at.there)

    history_is : (s : Step) → step ≡ s → next.history.items ≡ history_after line.1 now.history.items s
    history_is s is = tries.history ∙ ap (history_after line.1 now.history.items) is

    -- one event more was made
    more : now.history.items ++ line.1 ∷ [] ≡ take (suc n) (events_of lines)
    more = ap (λ es. es ++ line.1 ∷ []) at.made ∙ sym (take_more lines n line there)

    later : faults engine ≤ faults next.engine
    later = trans_le (faults engine) (faults now.engine) (faults next.engine) at.later tries.later

    pub one_more : step ≡ steps.Done → Made (n + 1) next
    one_more is =
        let m = made_is steps.Done is in
        let history = history_is steps.Done is in
        record {
          guard = m.after;
          came =
              subst (λ es. Came setup (first_guard setup) (told engine) es m.after (told next.engine)) (sym history)
              (came_more (λ x. is_at x next.engine) setup (first_guard setup) (told engine) (told now.engine) (told next.engine) now.history.items
              at.guard line.1 at.came m);
          there = m.there;
          later = later;
          made = history ∙ more ∙ ap (λ k. take k (events_of lines)) one;
          within = let below = some_there lines n line there in omega (arith, below);
        }
      where
        one : suc n ≡ n + 1
        one = omega arith

    -- the history is a prefix of the journal where none was made
    still : next.history.items ≡ now.history.items → next.history.items ≡ take (length next.history.items) (events_of lines)
    still history = history ∙ prefix n now at ∙ ap (λ (es : List Event). take (length es) (events_of lines)) (sym history)

    pub refused : step ≡ steps.CannotHappen → Replayed setup is_at told faults engine lines (ran_of next (CannotHappen line.0))
    refused is =
        let r = made_is steps.CannotHappen is in
        let history = history_is steps.CannotHappen is in
        record {
          guard = at.guard;
          legal = λ rules rows. ap (guard_after rules setup) history ∙ at.came.legal rules rows;
          made = still history;
          later = later;
          stopped = record {
            event = line.1;
            next = ap (λ (es : List Event). slice_get lines (length es)) history ∙ ap (slice_get lines) (count n now at) ∙ there;
            never = r.never;
            there = r.stays;
            printed =
                printed_still setup (told engine) (told now.engine) (told next.engine) now.history.items at.guard r.silent at.came;
          };
        }

    pub failed : step ≡ steps.SinkFailed → Replayed setup is_at told faults engine lines (ran_of next SinkFailed)
    failed is =
        let f = made_is steps.SinkFailed is in
        let history = history_is steps.SinkFailed is in
        record {
          guard = f.after;
          legal =
              failed_legal setup (first_guard setup) (told engine) (told now.engine) (told next.engine) now.history.items next.history.items at.guard
              line.1 at.came f history;
          made = history ∙ more ∙ ap (λ k. take k (events_of lines)) (sym (long history));
          later = later;
          stopped =
              failed_at setup (told engine) (told now.engine) (told next.engine) now.history.items next.history.items at.guard
              line.1 (faults engine) (faults next.engine) at.came f (tries.moves is)
              (rose_since (faults engine) (faults now.engine) (faults next.engine) at.later (tries.cause is)) history;
        }
      where
        long : next.history.items ≡ now.history.items ++ line.1 ∷ [] → length next.history.items ≡ suc n
        long history =
            ap length history ∙ length-append now.history.items (line.1 ∷ []) ∙ ap (λ k. k + 1) (count n now at) ∙ one
          where
            one : n + 1 ≡ suc n
            one = omega arith

    pub lacks : step ≡ steps.Memory → Replayed setup is_at told faults engine lines (ran_of next Memory)
    lacks is =
        let history = history_is steps.Memory is in
        record {
          guard = at.guard;
          legal = λ rules rows. ap (guard_after rules setup) history ∙ at.came.legal rules rows;
          made = still history;
          later = later;
          stopped =
              printed_still setup (told engine) (told now.engine) (told next.engine) now.history.items at.guard
              (made_is steps.Memory is) at.came;
        }

    pub misused : step ≡ steps.Misused → Replayed setup is_at told faults engine lines (ran_of next (Misused line.0))
    misused is =
        let m = made_is steps.Misused is in
        let history = history_is steps.Misused is in
        record {
          guard = at.guard;
          legal = λ rules rows. ap (guard_after rules setup) history ∙ at.came.legal rules rows;
          made = still history;
          later = later;
          stopped = record {
            offer = m.offer;
            next =
                ap (λ (es : List Event). slice_get lines (length es)) history ∙ ap (slice_get lines) (count n now at) ∙ there
                ∙ ap (λ e. Some (line.0, e)) m.decides;
            misused = m.because;
            there = m.stays;
            printed =
                printed_still setup (told engine) (told now.engine) (told next.engine) now.history.items at.guard m.silent at.came;
          };
        }

    pub undefined : step ≡ steps.UndefinedName → Replayed setup is_at told faults engine lines (ran_of next (UndefinedName line.0))
    undefined is =
        let m = made_is steps.UndefinedName is in
        let history = history_is steps.UndefinedName is in
        record {
          guard = at.guard;
          legal = λ rules rows. ap (guard_after rules setup) history ∙ at.came.legal rules rows;
          made = still history;
          later = later;
          stopped = record {
            offer = m.offer;
            next =
                ap (λ (es : List Event). slice_get lines (length es)) history ∙ ap (slice_get lines) (count n now at) ∙ there
                ∙ ap (λ e. Some (line.0, e)) m.decides;
            undefined = m.because;
            there = m.stays;
            printed =
                printed_still setup (told engine) (told now.engine) (told next.engine) now.history.items at.guard m.silent at.came;
          };
        }

  -- all events were made
  pub finished : (n : ℕ) (now : Running E) (end : Ending) → (at : Made n now) → length lines ≤ n → end ≡ int_ending (ending at.guard)
      → Replayed setup is_at told faults engine lines (ran_of now (Ended end))
  finished n now end at past is = record {
    guard = at.guard;
    legal = at.came.legal;
    made = prefix n now at;
    later = at.later;
    stopped = record {
      all = at.made ∙ take_all n (events_of lines) (omega (arith, past, length-map lines (λ line. line.1)));
      ending = is;
      there = at.there;
      printed = printed setup (told engine) (told now.engine) now.history.items at.guard at.came;
    };
  }

-- the line with a number is there
pub line_there : (lines : List (ℕ × Event)) (n : ℕ) → n < length lines → slice_get lines n ≡ Some (slice_index_or lines n (0, Move 0))
line_there [] n below = absurd (none n below)
  where
    none : (i : ℕ) → i < 0 → ⊥
    none i h = omega (arith, h)
line_there (l ∷ lines) zero below = refl
line_there (l ∷ lines) (suc n) below = line_there lines n (omega (arith, below))
