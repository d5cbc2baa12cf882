-- Laws of journals: what is printed is read, and nothing else is an event.
use Rattle.std.specs.Prelude.{◌≡◌, ◌⊎◌, ◌≤◌, ◌↔◌, ℕ, Bool, ◌&&◌, nat_lt, IsTrue, IsFalse, List, ◌∷◌, ◌++◌, length, map, replicate, Some, Ok}
use Rattle.std.specs.List.{All, flat_map}
use Rattle.run_types.specs.declared.run.Event.{Event}
use Rattle.run_types.specs.declared.run.Event.TheVariants.{Move, CheckIn, Offer, Decide, Withdraw}
use Rattle.journal_versions.specs.declared.form.Form.{Form}
use Rattle.journal_versions.specs.Journals.{group_line, group_of, groups, has_counts, is_same_move, journal_in, journal_text, most_events, slots_of}

-- an offer is from 1 to 63
abbrev pub is_offer : ℕ → Bool
is_offer n = nat_lt 0 n && nat_lt n 64

-- the event can be one of a journal with so many slots
abbrev pub may_be_in_journal : ℕ → Event → Bool
may_be_in_journal slots (Move slot) = nat_lt slot slots
may_be_in_journal slots (CheckIn slot) = nat_lt slot slots
may_be_in_journal slots (Offer offer) = is_offer offer
may_be_in_journal slots (Decide offer) = is_offer offer
may_be_in_journal slots (Withdraw offer) = is_offer offer

-- so many moves of one thread can be one line
pub record AreMoves (form : Form) (e : Event) (times : ℕ) : Type 0 where
  pub counts : IsTrue (has_counts form)
  pub slot : ℕ
  pub is : e ≡ Move slot
  pub several : 2 ≤ times
  pub fit : times ≤ most_events

-- a line can be the event so many times
abbrev pub MayBeLine : Form → Event → ℕ → Type 0
MayBeLine form e times = IsTrue (may_be_in_journal (slots_of form) e) × ((times ≡ 1) ⊎ AreMoves form e times)

-- a line is read as an event so many times exactly if it is the line with which that is printed, and it may be in a journal
abbrev pub EventLinesAreExact : Type 0
EventLinesAreExact =
    (form : Form) (line : List ℕ) (e : Event) (times : ℕ)
    → group_of form line ≡ Some (e, times) ↔ (line ≡ group_line e times) × MayBeLine form e times

-- the events without the numbers of their lines
abbrev pub events_of : List (ℕ × Event) → List Event
events_of numbered = map (λ l. l.1) numbered

-- a text is read as the journal of a run with so many slots and these events
pub record IsReadAs (text : List ℕ) (slots : ℕ) (events : List Event) : Type 0 where
  pub numbered : List (ℕ × Event)
  pub read : journal_in text ≡ Ok (slots, numbered)
  pub same : events_of numbered ≡ events

-- events that may be in a journal are read as they were printed
abbrev pub PrintedIsRead : Type 0
PrintedIsRead =
    (slots : ℕ) (events : List Event) → (slots ≡ 16) ⊎ (slots ≡ 32) → All (λ e. IsTrue (may_be_in_journal slots e)) events
    → length events ≤ most_events → IsReadAs (journal_text slots events) slots events

-- the slots and events of any journal are read again from the text with which they are printed
abbrev pub ReadIsReadAgain : Type 0
ReadIsReadAgain =
    (text : List ℕ) (slots : ℕ) (numbered : List (ℕ × Event)) → journal_in text ≡ Ok (slots, numbered)
    → IsReadAs (journal_text slots (events_of numbered)) slots (events_of numbered)

-- a group is one event, or several moves
abbrev pub IsGroup : Event × ℕ → Type 0
IsGroup g = (g.1 ≡ 1) ⊎ ((2 ≤ g.1) × IsTrue (is_same_move g.0 g.0))

-- groups are the events in order, and no two neighbours are moves of one thread
pub record AreWholeGroups (events : List Event) : Type 0 where
  pub in_order : flat_map (λ g. replicate g.1 g.0) (groups events) ≡ events
  pub each : All IsGroup (groups events)
  pub apart : (above below : List (Event × ℕ)) (e d : Event) (times more : ℕ)
      → groups events ≡ above ++ ((e, times) ∷ (d, more) ∷ below) → IsFalse (is_same_move e d)

-- all moves of one thread in a row are one group, and so one line
abbrev pub MovesInARowAreOneLine : Type 0
MovesInARowAreOneLine = (events : List Event) → AreWholeGroups events
