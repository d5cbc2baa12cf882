-- The text of a journal: how events are printed, and how a text is read.
use Rattle.std.specs.Prelude.{ℕ, ◌+◌, ◌*◌, ◌-◌, Bool, false, true, not, ◌&&◌, ◌==◌, nat_lt, nat_le, if◌then◌else◌, List, [], ◌∷◌, ◌++◌, replicate, codes, Option, Some, None, option_and_then, Result, Ok, Err}
use Rattle.std.specs.Fmt.{decimal}
use Rattle.std.specs.List.{flat_map}
use Rattle.std.specs.Option.{option_map}
use Rattle.std.specs.Str.{all_ascii_digits, bytes_eq}
use Rattle.run_types.specs.declared.run.Event.{Event}
use Rattle.run_types.specs.declared.run.Event.TheVariants.{Move, CheckIn, Offer, Decide, Withdraw}
use Rattle.journal_versions.specs.declared.fault.JournalFault.{JournalFault}
use Rattle.journal_versions.specs.declared.fault.JournalFault.TheVariants.{Header, NoEvent}
use Rattle.journal_versions.specs.declared.form.Form.{Form}
use Rattle.journal_versions.specs.declared.form.Form.TheVariants.{One, Two16, Two32}

-- ---- what is printed

-- the line of an event
abbrev pub event_line : Event → List ℕ
event_line (Move slot) = codes "s " ++ decimal slot
event_line (CheckIn slot) = codes "c " ++ decimal slot
event_line (Offer offer) = codes "o " ++ decimal offer
event_line (Decide offer) = codes "d " ++ decimal offer
event_line (Withdraw offer) = codes "w " ++ decimal offer

-- both events are moves, of one thread
abbrev pub is_same_move : Event → Event → Bool
is_same_move (Move slot) (Move next) = slot == next
is_same_move _ _ = false

-- an event before the groups of those after it
abbrev pub before_groups : Event → List (Event × ℕ) → List (Event × ℕ)
before_groups e [] = (e, 1) ∷ []
before_groups e ((d, times) ∷ rest) = if is_same_move e d then (d, times + 1) ∷ rest else (e, 1) ∷ (d, times) ∷ rest

-- events in groups: all moves of one thread in a row, or one other event
abbrev pub groups : List Event → List (Event × ℕ)
groups [] = []
groups (e ∷ es) = before_groups e (groups es)

-- the line of a group: its event's, and how many times it comes if that is more than once
abbrev pub group_line : Event → ℕ → List ℕ
group_line e times = if times == 1 then event_line e else event_line e ++ (codes " " ++ decimal times)

-- the lines of events, each with its newline
abbrev pub event_lines : List Event → List ℕ
event_lines events = flat_map (λ g. group_line g.0 g.1 ++ codes "\n") (groups events)

-- the journal of a run with so many slots and these events
abbrev pub journal_text : ℕ → List Event → List ℕ
journal_text slots events = codes "ginseng-journal 2 " ++ decimal slots ++ codes "\n" ++ event_lines events

-- ---- the first line

-- the line that begins a journal of each form
abbrev pub first_line : Form → List ℕ
first_line One = codes "ginseng-journal 1"
first_line Two16 = codes "ginseng-journal 2 16"
first_line Two32 = codes "ginseng-journal 2 32"

-- the form that a first line says
abbrev pub form_of : List ℕ → Option Form
form_of line =
    if bytes_eq line (first_line One) then Some One else if bytes_eq line (first_line Two16) then Some Two16
    else if bytes_eq line (first_line Two32) then Some Two32 else None

-- how many slots the run has
abbrev pub slots_of : Form → ℕ
slots_of One = 16
slots_of Two16 = 16
slots_of Two32 = 32

-- a line may be several moves
abbrev pub has_counts : Form → Bool
has_counts One = false
has_counts Two16 = true
has_counts Two32 = true

-- ---- numbers

-- a number doesn't begin with `0`, unless that is all of it
abbrev pub leads : List ℕ → Bool
leads [] = false
leads (c ∷ []) = true
leads (c ∷ d ∷ cs) = not (c == 48)

-- what digits write after those of the number n
abbrev pub value_after : ℕ → List ℕ → ℕ
value_after n [] = n
value_after n (c ∷ cs) = value_after (n * 10 + (c - 48)) cs

-- the number that digits write
abbrev pub value : List ℕ → ℕ
value digits = value_after 0 digits

-- the number that a text writes in decimal without a leading zero, if it is at least `low` and below `end`
abbrev pub number : ℕ → ℕ → List ℕ → Option ℕ
number low end text =
    if leads text && all_ascii_digits text && nat_le low (value text) && nat_lt (value text) end then Some (value text) else None

-- ---- what a line says

-- a journal has at most so many events
abbrev pub most_events : ℕ
most_events = 4194304

-- the event of a letter, one of `s`, `c`, `o`, `d` and `w`, and the number after it: a slot, or an offer from 1 to 63
abbrev pub event_with : ℕ → ℕ → List ℕ → Option Event
event_with slots letter text =
    if letter == 115 then option_map Move (number 0 slots text)
    else if letter == 99 then option_map CheckIn (number 0 slots text)
    else if letter == 111 then option_map Offer (number 1 64 text)
    else if letter == 100 then option_map Decide (number 1 64 text)
    else if letter == 119 then option_map Withdraw (number 1 64 text) else None

-- the bytes before the first space
abbrev pub first_word : List ℕ → List ℕ
first_word [] = []
first_word (c ∷ cs) = if c == 32 then [] else c ∷ first_word cs

-- the bytes after the first space, if there is one
abbrev pub after_word : List ℕ → Option (List ℕ)
after_word [] = None
after_word (c ∷ cs) = if c == 32 then Some cs else after_word cs

abbrev pub once : Option Event → Option (Event × ℕ)
once event = option_map (λ e. (e, 1)) event

-- so many moves of the thread in a slot
abbrev pub moves_with : Option ℕ → Option ℕ → Option (Event × ℕ)
moves_with slot times = option_and_then (λ t. option_map (λ n. (Move t, n)) times) slot

-- the moves of a slot's number, and after a space their own: from 2 up to the most events. Without one it is one move
abbrev pub moves_of : ℕ → List ℕ → Option (List ℕ) → Option (Event × ℕ)
moves_of slots text None = once (event_with slots 115 text)
moves_of slots text (Some times) = moves_with (number 0 slots (first_word text)) (number 2 (most_events + 1) times)

-- the event, and how many times, of a letter and what comes after it and a space
abbrev pub group_with : Form → ℕ → List ℕ → Option (Event × ℕ)
group_with form letter text =
    if letter == 115 && has_counts form then moves_of (slots_of form) text (after_word text)
    else once (event_with (slots_of form) letter text)

-- the event that a line is, and how many times
abbrev pub group_of : Form → List ℕ → Option (Event × ℕ)
group_of form (letter ∷ space ∷ text) = if space == 32 then group_with form letter text else None
group_of form _ = None

-- a comment begins with `#`
abbrev pub is_comment : List ℕ → Bool
is_comment [] = false
is_comment (c ∷ cs) = c == 35

-- ---- a text

-- the lines that a byte and the text after it have, where that byte is no newline
abbrev pub with_first : ℕ → List (List ℕ) → List (List ℕ)
with_first c [] = (c ∷ []) ∷ []
with_first c (line ∷ rest) = (c ∷ line) ∷ rest

-- the lines of a text; each ends with a newline, which the last one may lack
abbrev pub lines : List ℕ → List (List ℕ)
lines [] = []
lines (c ∷ cs) = if c == 10 then [] ∷ lines cs else with_first c (lines cs)

-- events before what is read after them
abbrev pub events_then : List (ℕ × Event) → Result (List (ℕ × Event)) ℕ → Result (List (ℕ × Event)) ℕ
events_then events (Ok rest) = Ok (events ++ rest)
events_then events (Err bad) = Err bad

-- the events of line n, if it has any that fit after those before it, and then what is read after it
abbrev pub group_then : ℕ → ℕ → Option (Event × ℕ) → (ℕ → Result (List (ℕ × Event)) ℕ) → Result (List (ℕ × Event)) ℕ
group_then n before None rest = Err n
group_then n before (Some (e, times)) rest =
    if nat_le (before + times) most_events then events_then (replicate times (n, e)) (rest (before + times)) else Err n

-- the events of lines, the first of which has number n and comes after so many events, each event with its line's number; or
-- the number of the first line that is neither an event nor a comment, or has one event too many
abbrev pub events_from : Form → ℕ → ℕ → List (List ℕ) → Result (List (ℕ × Event)) ℕ
events_from form n before [] = Ok []
events_from form n before (line ∷ rest) =
    if is_comment line then events_from form (n + 1) before rest
    else group_then n before (group_of form line) (λ all. events_from form (n + 1) all rest)

-- the number of slots and these events, or the line's number as a fault of a journal
abbrev pub as_journal : ℕ → Result (List (ℕ × Event)) ℕ → Result (ℕ × List (ℕ × Event)) JournalFault
as_journal slots (Ok events) = Ok (slots, events)
as_journal slots (Err n) = Err (NoEvent n)

-- the slots and events of a journal of a form, if it has one, with these lines after the first
abbrev pub in_form : Option Form → List (List ℕ) → Result (ℕ × List (ℕ × Event)) JournalFault
in_form None rest = Err Header
in_form (Some form) rest = as_journal (slots_of form) (events_from form 2 0 rest)

-- the form of a text that has these lines
abbrev pub form_in : List (List ℕ) → Option Form
form_in [] = None
form_in (line ∷ rest) = form_of line

-- the slots and events of a text that has these lines, or its fault
abbrev pub journal_of : List (List ℕ) → Result (ℕ × List (ℕ × Event)) JournalFault
journal_of [] = Err Header
journal_of (line ∷ rest) = in_form (form_of line) rest

-- the slots and events of a text, each event with its line's number, or the text's fault
abbrev pub journal_in : List ℕ → Result (ℕ × List (ℕ × Event)) JournalFault
journal_in text = journal_of (lines text)

-- the number of slots that the first line of a text says
abbrev pub slots_in : List ℕ → Option ℕ
slots_in text = option_map slots_of (form_in (lines text))
