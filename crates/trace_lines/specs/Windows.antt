-- Which events of a journal a trace shows, and the lines that it has of them.
use Rattle.std.specs.Prelude.{◌≡◌, ℕ, ◌==◌, ◌&&◌, nat_le, Bool, true, false, List, [], ◌∷◌, ◌++◌, Option, Some, None}
use Rattle.run_types.specs.declared.run.Event.{Event}
use Rattle.run_types.specs.declared.run.Event.TheVariants.{Move, CheckIn, Offer, Decide, Withdraw}
use Rattle.trace_lines.specs.declared.facts.Facts.{Facts}
use Rattle.trace_lines.specs.declared.window.Window.{Window}
use Rattle.trace_lines.specs.Lines.{line_text}

-- the event is one of a thread, or of an offer; without a thread, any event is
abbrev pub is_of_thread : Option ℕ → Event → Bool
is_of_thread None e = true
is_of_thread (Some thread) (Move slot) = slot == thread
is_of_thread (Some thread) (CheckIn slot) = slot == thread
is_of_thread (Some thread) (Offer offer) = true
is_of_thread (Some thread) (Decide offer) = true
is_of_thread (Some thread) (Withdraw offer) = true

-- the event of a line is shown
abbrev pub shows : Window → ℕ → Event → Bool
shows w line e = nat_le w.from line && (nat_le line w.to && is_of_thread w.thread e)

-- what a trace has of the event of a line, by whether it is shown: its line, by some facts, or nothing
abbrev pub HasLine : Bool → ℕ × Event → List ℕ → Type 0
HasLine true line own = (facts : Facts) × (own ≡ line_text line.0 line.1 facts)
HasLine false line own = own ≡ []

abbrev pub Shows : Window → ℕ × Event → List ℕ → Type 0
Shows w line own = HasLine (shows w line.0 line.1) line own

-- what it has of events, each with its line
abbrev pub IsTrace : Window → List (ℕ × Event) → List ℕ → Type 0
IsTrace w [] text = text ≡ []
IsTrace w (line ∷ lines) text =
    (own : List ℕ) × (rest : List ℕ) × (text ≡ own ++ rest) × Shows w line own × IsTrace w lines rest
