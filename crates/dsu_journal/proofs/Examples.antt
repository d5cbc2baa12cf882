-- The definitions on examples, by computing.
use Rattle.std.proofs.Common.{◌≡◌, refl, ◌++◌, ◌∷◌, [], List, ℕ, Ok, Err}
use Rattle.std.specs.Prelude.{codes}
use Rattle.std.specs.Fmt.{digits}
use Rattle.run_types.specs.declared.run.Event.TheVariants.{Move, CheckIn, Offer, Decide, Withdraw}
use Rattle.dsu_journal.specs.declared.fault.JournalFault.TheVariants.{Header, NoEvent}
use Rattle.dsu_journal.specs.Journals.{journal_in, journal_text}

-- a journal with a second line
abbrev second : List ℕ → List ℕ
second line = codes "ginseng-journal 1\n" ++ line

printed : journal_text (Move 15 ∷ CheckIn 0 ∷ Offer 1 ∷ Decide 63 ∷ Withdraw 10 ∷ []) ≡ codes "ginseng-journal 1\ns 15\nc 0\no 1\nd 63\nw 10\n"
unfolding digits
printed = refl

-- a comment has a line's number, and the last line needs no newline
read : journal_in (codes "ginseng-journal 1\n# a run\ns 15\nc 0\no 1\n#\nd 63\nw 10")
    ≡ Ok ((3, Move 15) ∷ (4, CheckIn 0) ∷ (5, Offer 1) ∷ (7, Decide 63) ∷ (8, Withdraw 10) ∷ [])
read = refl

no_event : journal_in (codes "ginseng-journal 1") ≡ Ok []
no_event = refl

no_byte : journal_in [] ≡ Err Header
no_byte = refl

other_header : journal_in (codes "ginseng-journal 2\ns 1\n") ≡ Err Header
other_header = refl

blank_after_header : journal_in (codes "ginseng-journal 1 \ns 1\n") ≡ Err Header
blank_after_header = refl

comment_before_header : journal_in (codes "# a run\nginseng-journal 1\n") ≡ Err Header
comment_before_header = refl

slot_16 : journal_in (second (codes "s 16\n")) ≡ Err (NoEvent 2)
slot_16 = refl

leading_zero : journal_in (second (codes "s 01\n")) ≡ Err (NoEvent 2)
leading_zero = refl

offer_0 : journal_in (second (codes "o 0\n")) ≡ Err (NoEvent 2)
offer_0 = refl

offer_64 : journal_in (second (codes "o 64\n")) ≡ Err (NoEvent 2)
offer_64 = refl

two_spaces : journal_in (second (codes "s  1\n")) ≡ Err (NoEvent 2)
two_spaces = refl

blank_at_the_end : journal_in (second (codes "s 1 \n")) ≡ Err (NoEvent 2)
blank_at_the_end = refl

other_letter : journal_in (second (codes "x 1\n")) ≡ Err (NoEvent 2)
other_letter = refl

no_number : journal_in (second (codes "s \n")) ≡ Err (NoEvent 2)
no_number = refl

empty_line : journal_in (second (codes "s 1\n\ns 2\n")) ≡ Err (NoEvent 3)
empty_line = refl

after_a_good_one : journal_in (second (codes "s 1\n# two\nx 1\n")) ≡ Err (NoEvent 4)
after_a_good_one = refl

-- the first of two bad lines
first_bad : journal_in (second (codes "s 1\nc 16\nw 0\n")) ≡ Err (NoEvent 3)
first_bad = refl
