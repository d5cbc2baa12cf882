-- The text of a journal: how events are printed, and how a text is read.
use Rattle.std.specs.Prelude.{ℕ, ◌+◌, ◌*◌, ◌-◌, Bool, false, ◌&&◌, ◌==◌, nat_lt, nat_le, if◌then◌else◌, List, [], ◌∷◌, ◌++◌, codes, Option, Some, None, option_and_then, Result, Ok, Err}
use Rattle.std.specs.Fmt.{decimal}
use Rattle.std.specs.List.{flat_map}
use Rattle.std.specs.Str.{bytes_eq}
use Rattle.run_types.specs.declared.run.Event.{Event}
use Rattle.run_types.specs.declared.run.Event.TheVariants.{Move, CheckIn, Offer, Decide, Withdraw}
use Rattle.dsu_journal.specs.declared.fault.JournalFault.{JournalFault}
use Rattle.dsu_journal.specs.declared.fault.JournalFault.TheVariants.{Header, NoEvent}

-- the line that begins a journal
abbrev pub first_line : List ℕ
first_line = codes "ginseng-journal 1"

-- the line of an event
abbrev pub event_line : Event → List ℕ
event_line (Move slot) = codes "s " ++ decimal slot
event_line (CheckIn slot) = codes "c " ++ decimal slot
event_line (Offer offer) = codes "o " ++ decimal offer
event_line (Decide offer) = codes "d " ++ decimal offer
event_line (Withdraw offer) = codes "w " ++ decimal offer

-- the lines of events, each with its newline
abbrev pub event_lines : List Event → List ℕ
event_lines events = flat_map (λ e. event_line e ++ codes "\n") events

-- the journal of a run with these events
abbrev pub journal_text : List Event → List ℕ
journal_text events = first_line ++ codes "\n" ++ event_lines events

-- a slot is from 0 to 15
abbrev pub is_slot : ℕ → Bool
is_slot n = nat_lt n 16

-- an offer is from 1 to 63
abbrev pub is_offer : ℕ → Bool
is_offer n = nat_lt 0 n && nat_lt n 64

-- the event can be one of a journal
abbrev pub may_be_in_journal : Event → Bool
may_be_in_journal (Move slot) = is_slot slot
may_be_in_journal (CheckIn slot) = is_slot slot
may_be_in_journal (Offer offer) = is_offer offer
may_be_in_journal (Decide offer) = is_offer offer
may_be_in_journal (Withdraw offer) = is_offer offer

-- the lines that a byte and the text after it have, where that byte is no newline
abbrev pub with_first : ℕ → List (List ℕ) → List (List ℕ)
with_first c [] = (c ∷ []) ∷ []
with_first c (line ∷ rest) = (c ∷ line) ∷ rest

-- the lines of a text; each ends with a newline, which the last one may lack
abbrev pub lines : List ℕ → List (List ℕ)
lines [] = []
lines (c ∷ cs) = if c == 10 then [] ∷ lines cs else with_first c (lines cs)

-- the byte is a digit from `0` to `9`
abbrev pub is_digit : ℕ → Bool
is_digit c = nat_le 48 c && nat_le c 57

-- the number that one or two digits without a leading zero write
abbrev pub number : List ℕ → Option ℕ
number (ones ∷ []) = if is_digit ones then Some (ones - 48) else None
number (tens ∷ ones ∷ []) =
    if nat_lt 48 tens && is_digit tens && is_digit ones then Some (10 * (tens - 48) + (ones - 48)) else None
number _ = None

-- the event of a letter, one of `s`, `c`, `o`, `d` and `w`, and a number
abbrev pub event_with : ℕ → ℕ → Option Event
event_with letter n =
    if letter == 115 then Some (Move n) else if letter == 99 then Some (CheckIn n) else if letter == 111 then Some (Offer n)
    else if letter == 100 then Some (Decide n) else if letter == 119 then Some (Withdraw n) else None

-- the event, where it can be one of a journal
abbrev pub in_range : Event → Option Event
in_range e = if may_be_in_journal e then Some e else None

-- the event that a line is: a letter, one space and a number in its range
abbrev pub event_of : List ℕ → Option Event
event_of (letter ∷ space ∷ digits) =
    if space == 32 then option_and_then in_range (option_and_then (event_with letter) (number digits)) else None
event_of _ = None

-- a comment begins with `#`
abbrev pub is_comment : List ℕ → Bool
is_comment [] = false
is_comment (c ∷ cs) = c == 35

-- the event of line n, if it is one, before what is read after it
abbrev pub event_then : ℕ → Option Event → Result (List (ℕ × Event)) ℕ → Result (List (ℕ × Event)) ℕ
event_then n None rest = Err n
event_then n (Some e) (Ok events) = Ok ((n, e) ∷ events)
event_then n (Some e) (Err bad) = Err bad

-- line n before what is read after it
abbrev pub line_then : ℕ → List ℕ → Result (List (ℕ × Event)) ℕ → Result (List (ℕ × Event)) ℕ
line_then n line rest = if is_comment line then rest else event_then n (event_of line) rest

-- the events of lines, the first of which has number n, each with its line's number; or the number of the first line that
-- is neither an event nor a comment
abbrev pub events_from : ℕ → List (List ℕ) → Result (List (ℕ × Event)) ℕ
events_from n [] = Ok []
events_from n (line ∷ rest) = line_then n line (events_from (n + 1) rest)

-- the same, with the line's number as a fault of a journal
abbrev pub as_journal : Result (List (ℕ × Event)) ℕ → Result (List (ℕ × Event)) JournalFault
as_journal (Ok events) = Ok events
as_journal (Err n) = Err (NoEvent n)

-- the events of a text that has these lines, or its fault
abbrev pub journal_of : List (List ℕ) → Result (List (ℕ × Event)) JournalFault
journal_of [] = Err Header
journal_of (line ∷ rest) = if bytes_eq line first_line then as_journal (events_from 2 rest) else Err Header

-- the events of a text, each with its line's number, or the text's fault
abbrev pub journal_in : List ℕ → Result (List (ℕ × Event)) JournalFault
journal_in text = journal_of (lines text)
