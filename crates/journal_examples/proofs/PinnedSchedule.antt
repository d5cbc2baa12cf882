-- The events of the run are those of the solo schedule with these offers.
use Rattle.std.proofs.Common.{◌≡◌, ℕ, zero, suc, List, [], ◌∷◌, Option, Some, None, refl}
use Rattle.std.specs.Option.{option_or}
use Rattle.std.specs.Fmt.{digits}
use Rattle.run_types.specs.declared.run.Event.{Event}
use Rattle.source_model.specs.Guards.{Guard, first_guard}
use Rattle.source_model.specs.Journals.{happens}
use Rattle.source_model.specs.Schedules.{acted_by, solo_next}
use Rattle.journal_examples.specs.PinnedRun.{setup, to_the_end}
use Rattle.journal_examples.proofs.PinnedPlay.{plain}

-- the first n events of the schedule
abbrev go_on : (Guard → Option ℕ → List Event) → Event → Option ℕ → Option Guard → List Event
go_on go e last None = []
go_on go e last (Some g) = e ∷ go g (option_or (acted_by e) last)

abbrev event_of : (Guard → Option ℕ → List Event) → Guard → Option ℕ → Option Event → List Event
event_of go g last None = []
event_of go g last (Some e) = go_on go e last (happens plain setup e g)

abbrev solo : ℕ → Guard → Option ℕ → List Event
solo zero g last = []
solo (suc n) g last = event_of (solo n) g last (solo_next setup g last)

-- there is no event after them
scheduled : solo 100 (first_guard setup) None ≡ to_the_end
unfolding digits
scheduled = refl
