-- The run of a text without definitions: the move that should enter main misuses it, the thread passes the check-in to
-- which the move led, and then it is stuck.
use Rattle.std.specs.Prelude.{[]}
use Rattle.source_model.specs.Uses.{marked}
use Rattle.source_model.specs.Guards.{Guard, Setup, bodies_of, checked_in, first_guard, moved}
use Rattle.run_tests.specs.declared.tiny.Stage.{Stage}
use Rattle.run_tests.specs.declared.tiny.Stage.TheVariants.{Start, Moved, Passed}

abbrev pub tiny : Setup
tiny = record {
  first = record { definitions = []; tokens = []; tree = record { definitions = []; end = 0 } };
  offers = [];
  limits = record { objects = 0; slots = 1 };
}

abbrev pub moved_guard : Guard
moved_guard = moved (first_guard tiny) 0 (marked (first_guard tiny).world)

abbrev pub guard_at : Stage → Guard
guard_at Start = first_guard tiny
guard_at Moved = moved_guard
guard_at Passed = checked_in (bodies_of moved_guard) moved_guard 0
