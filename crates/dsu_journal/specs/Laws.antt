-- Laws of journals: what is printed is read, and nothing else is an event.
use Rattle.std.specs.Prelude.{◌≡◌, ℕ, ◌↔◌, IsTrue, List, Some, Ok}
use Rattle.std.specs.List.{All, enumerate_from}
use Rattle.run_types.specs.declared.run.Event.{Event}
use Rattle.dsu_journal.specs.Journals.{event_line, event_of, journal_in, journal_text, may_be_in_journal}

-- a line is an event exactly if it is the event's line and the event may be in a journal
abbrev pub EventLinesAreExact : Type 0
EventLinesAreExact =
    (line : List ℕ) (e : Event) → event_of line ≡ Some e ↔ (line ≡ event_line e) × IsTrue (may_be_in_journal e)

-- events that may be in a journal are read as they were printed, the first of them in line 2
abbrev pub PrintedIsRead : Type 0
PrintedIsRead =
    (events : List Event) → All (λ e. IsTrue (may_be_in_journal e)) events
    → journal_in (journal_text events) ≡ Ok (enumerate_from 2 events)
