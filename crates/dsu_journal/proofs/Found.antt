-- Events that were found, before what is read after them.
use Rattle.std.proofs.Common.{◌≡◌, ℕ, List, [], ◌∷◌, ◌++◌, Some, None, Result, Ok, Err, refl, ap, sym, append_assoc, append-nil, true, false}
use Rattle.run_types.specs.declared.run.Event.{Event}
use Rattle.dsu_journal.specs.Journals.{event_of, event_then, events_from, is_comment, line_then, lines}

-- what was found so far, before what is read after it
abbrev pub found : List (ℕ × Event) → Result (List (ℕ × Event)) ℕ → Result (List (ℕ × Event)) ℕ
found events (Ok more) = Ok (events ++ more)
found events (Err n) = Err n

pub found_none : (rest : Result (List (ℕ × Event)) ℕ) → rest ≡ found [] rest
found_none (Ok events) = refl
found_none (Err n) = refl

pub found_all : (events : List (ℕ × Event)) (n : ℕ) → found events (events_from n (lines [])) ≡ Ok events
found_all events n = ap Ok (append-nil events)

-- a comment adds nothing
pub past_comment : (events : List (ℕ × Event)) (n : ℕ) (line : List ℕ) (rest : Result (List (ℕ × Event)) ℕ)
    → is_comment line ≡ true → found events (line_then n line rest) ≡ found events rest
past_comment events n line rest comment = rw comment

found_more : (events : List (ℕ × Event)) (n : ℕ) (e : Event) (rest : Result (List (ℕ × Event)) ℕ)
    → found events (event_then n (Some e) rest) ≡ found (events ++ ((n, e) ∷ [])) rest
found_more events n e (Ok more) = ap Ok (sym (append_assoc events ((n, e) ∷ []) more))
found_more events n e (Err bad) = refl

-- an event is one more
pub past_event : (events : List (ℕ × Event)) (n : ℕ) (line : List ℕ) (e : Event) (rest : Result (List (ℕ × Event)) ℕ)
    → is_comment line ≡ false → event_of line ≡ Some e → found events (line_then n line rest) ≡ found (events ++ ((n, e) ∷ [])) rest
past_event events n line e rest plain is = rw (plain, is) (found_more events n e rest)

-- another line is the fault
pub at_fault : (events : List (ℕ × Event)) (n : ℕ) (line : List ℕ) (rest : Result (List (ℕ × Event)) ℕ)
    → is_comment line ≡ false → event_of line ≡ None → found events (line_then n line rest) ≡ Err n
at_fault events n line rest plain is = rw (plain, is)
