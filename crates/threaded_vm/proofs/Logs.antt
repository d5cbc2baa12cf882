-- How the history under the lock grows.
use Rattle.std.proofs.Common.{◌≡◌, ℕ, List, [], ◌∷◌, ◌++◌, map, inr, refl, sym, ◌∙◌, ap, subst, arith}
use Rattle.std.proofs.lemmas.List.{append-nil}
use mathlib.Core.List.{map-append}
use Rattle.run_types.specs.declared.run.Event.{Event}
use Rattle.dsu_runs.specs.declared.ran.StopCause.{StopCause}
use Rattle.pass_lock.specs.declared.notes.Entry.{Entry}
use Rattle.pass_lock.specs.Histories.{Adds, entry}
use Rattle.threaded_vm.specs.declared.notes.Note.{Note}
use Rattle.threaded_vm.specs.declared.notes.Note.TheVariants as note
use Rattle.threaded_vm.specs.declared.notes.Noted.{Noted}
use Rattle.threaded_vm.specs.declared.notes.Course.{Course}
use Rattle.threaded_vm.specs.declared.notes.Course.TheVariants.{Going, Failing, Over}
use Rattle.threaded_vm.specs.Locked.{Locked, events, events_in, log_by, log_of, noted_entry}
use Rattle.threaded_vm.specs.Turns.{Enters, IsOver}
use Rattle.threaded_vm.specs.declared.notes.Look.TheVariants.{Ended}

-- nothing was added
pub none_added : (pass : ℕ) (log : List (Entry Note)) → Adds pass log [] log
none_added pass log = (sym (append-nil log), omega arith)

pub none_added_by : (pass : ℕ) (noted all : List Noted) (course now : Course) → all ≡ noted → now ≡ course
    → Adds pass (log_by noted course) [] (log_by all now)
none_added_by pass noted all course now same still =
    subst (λ l. Adds pass (log_by noted course) [] l) (sym (λ i. log_by (same i) (still i))) (none_added pass (log_by noted course))

-- an event was added
one_more : (pass : ℕ) (e : Event) (noted : List Noted)
    → map noted_entry (noted ++ record { pass = pass; event = e } ∷ []) ≡ map noted_entry noted ++ map (entry pass) (note.Made e ∷ [])
one_more pass e noted = map-append noted_entry noted (record { pass = pass; event = e } ∷ [])

abbrev pub IsOn : Course → Type 0
IsOn Going = Unit {0}
IsOn Failing = Unit {0}
IsOn (Over pass cause) = ⊥

log_on : (noted : List Noted) (course : Course) → IsOn course → log_by noted course ≡ map noted_entry noted
log_on noted Going on = refl
log_on noted Failing on = refl
log_on noted (Over pass cause) on = absurd on

pub is_on : (course : Course) → course ≡ Going → IsOn course
is_on course is = subst IsOn (sym is) tt

module _ {E : Type 0} where
  pub event_own : (v : Locked E) (all : List Noted) (now : Course) (pass : ℕ) (e : Event) → IsOn v.course → IsOn now
      → all ≡ v.noted ++ record { pass = pass; event = e } ∷ [] → Adds pass (log_of v) (note.Made e ∷ []) (log_by all now)
  event_own v all now pass e on on_now is = (
    log_on all now on_now ∙ ap (map noted_entry) is ∙ one_more pass e v.noted
        ∙ ap (λ l. l ++ map (entry pass) (note.Made e ∷ [])) (sym (log_on v.noted v.course on)),
    omega arith,
  )

  -- the end was added
  pub end_own : (v : Locked E) (noted : List Noted) (pass : ℕ) (cause : StopCause) → IsOn v.course → noted ≡ v.noted
      → Adds pass (log_of v) (note.Over cause ∷ []) (log_by noted (Over pass cause))
  end_own v noted pass cause on is = (
    ap (λ l. map noted_entry l ++ entry pass (note.Over cause) ∷ []) is
        ∙ ap (λ l. l ++ entry pass (note.Over cause) ∷ []) (sym (log_on v.noted v.course on)),
    omega arith,
  )

  pub end_after : (v m w : Locked E) (pass : ℕ) (cause : StopCause) → IsOn v.course → m.noted ≡ v.noted
      → w ≡ record m { course = Over pass cause } → Adds pass (log_of v) (note.Over cause ∷ []) (log_of w)
  end_after v m w pass cause on same is =
      subst (λ z. Adds pass (log_of v) (note.Over cause ∷ []) (log_of z)) (sym is) (end_own v m.noted pass cause on same)

  pub over_after : (m w : Locked E) (pass : ℕ) (cause : StopCause) → w ≡ record m { course = Over pass cause } → IsOver (log_of w)
  over_after m w pass cause is = subst (λ z. IsOver (log_of z)) (sym is) (map noted_entry m.noted, pass, cause, refl)

  -- the turn's answer with the end
  pub ends_turn : (v m w : Locked E) (slot : ℕ) (cause : StopCause) → IsOn v.course → m.noted ≡ v.noted
      → w ≡ record m { course = Over slot cause } → Enters slot Ended (log_of v) (log_of w)
  ends_turn v m w slot cause on same is = (note.Over cause ∷ [], end_after v m w slot cause on same is, inr (cause, refl))

  pub same_log : (v m : Locked E) → v.course ≡ Going → m.course ≡ Going → m.noted ≡ v.noted → log_of m ≡ log_of v
  same_log v m going still same = λ i. log_by (same i) ((still ∙ sym going) i)

pub over_there : (noted : List Noted) (course : Course) (pass : ℕ) (cause : StopCause) → course ≡ Over pass cause → IsOver (log_by noted course)
over_there noted course pass cause over = (map noted_entry noted, pass, cause, ap (log_by noted) over)

-- the events of the history are those that were noted
events_noted : (noted : List Noted) → events_in (map noted_entry noted) ≡ events noted
events_noted [] = refl
events_noted (n ∷ ns) = ap (λ l. n.event ∷ l) (events_noted ns)

events_before : (noted : List Noted) (last : Entry Note) → events_in (last ∷ []) ≡ [] → events_in (map noted_entry noted ++ last ∷ []) ≡ events noted
events_before [] last none = none
events_before (n ∷ ns) last none = ap (λ l. n.event ∷ l) (events_before ns last none)

pub events_of_log : (noted : List Noted) (course : Course) → events_in (log_by noted course) ≡ events noted
events_of_log noted Going = events_noted noted
events_of_log noted Failing = events_noted noted
events_of_log noted (Over pass cause) = events_before noted (entry pass (note.Over cause)) refl
