-- The definitions on examples, by computing.
use Rattle.std.proofs.Common.{◌≡◌, refl, ◌++◌, ◌∷◌, [], List, ℕ, Ok, Err, Some, None}
use Rattle.std.specs.Prelude.{codes}
use Rattle.std.specs.Fmt.{digits}
use Rattle.run_types.specs.declared.run.Event.TheVariants.{Move, CheckIn, Offer, Decide, Withdraw}
use Rattle.journal_versions.specs.declared.fault.JournalFault.TheVariants.{Header, NoEvent}
use Rattle.journal_versions.specs.declared.form.Form.TheVariants.{Two16, Two32}
use Rattle.journal_versions.specs.Journals.{group_of, journal_in, journal_text, slots_in}

-- a journal of version 1 with a second line, and those of version 2
abbrev second : List ℕ → List ℕ
second line = codes "ginseng-journal 1\n" ++ line

abbrev second16 : List ℕ → List ℕ
second16 line = codes "ginseng-journal 2 16\n" ++ line

abbrev second32 : List ℕ → List ℕ
second32 line = codes "ginseng-journal 2 32\n" ++ line

printed : journal_text 16 (Move 15 ∷ CheckIn 0 ∷ Offer 1 ∷ Decide 63 ∷ Withdraw 10 ∷ []) ≡ codes "ginseng-journal 2 16\ns 15\nc 0\no 1\nd 63\nw 10\n"
unfolding digits
printed = refl

-- moves of one thread in a row are one line, and other events aren't
grouped : journal_text 32 (Move 31 ∷ Move 31 ∷ Move 31 ∷ Move 1 ∷ Move 31 ∷ CheckIn 2 ∷ CheckIn 2 ∷ Move 2 ∷ Move 2 ∷ [])
    ≡ codes "ginseng-journal 2 32\ns 31 3\ns 1\ns 31\nc 2\nc 2\ns 2 2\n"
unfolding digits
grouped = refl

-- a comment has a line's number, and the last line needs no newline
read : journal_in (codes "ginseng-journal 1\n# a run\ns 15\nc 0\no 1\n#\nd 63\nw 10")
    ≡ Ok (16, (3, Move 15) ∷ (4, CheckIn 0) ∷ (5, Offer 1) ∷ (7, Decide 63) ∷ (8, Withdraw 10) ∷ [])
read = refl

-- the moves of one line have its number
read_2 : journal_in (codes "ginseng-journal 2 32\ns 31 3\n# two\nc 31\ns 0 2")
    ≡ Ok (32, (2, Move 31) ∷ (2, Move 31) ∷ (2, Move 31) ∷ (4, CheckIn 31) ∷ (5, Move 0) ∷ (5, Move 0) ∷ [])
read_2 = refl

no_event : journal_in (codes "ginseng-journal 1") ≡ Ok (16, [])
no_event = refl

no_byte : journal_in [] ≡ Err Header
no_byte = refl

other_slots : journal_in (codes "ginseng-journal 2 17\ns 1\n") ≡ Err Header
other_slots = refl

no_slots : journal_in (codes "ginseng-journal 2\ns 1\n") ≡ Err Header
no_slots = refl

version_1_with_slots : journal_in (codes "ginseng-journal 1 16\ns 1\n") ≡ Err Header
version_1_with_slots = refl

blank_after_header : journal_in (codes "ginseng-journal 1 \ns 1\n") ≡ Err Header
blank_after_header = refl

comment_before_header : journal_in (codes "# a run\nginseng-journal 1\n") ≡ Err Header
comment_before_header = refl

slots_of_a_bad_text : slots_in (second32 (codes "x")) ≡ Some 32
slots_of_a_bad_text = refl

slots_of_no_journal : slots_in (codes "ginseng-journal 3") ≡ None
slots_of_no_journal = refl

slot_16 : journal_in (second (codes "s 16\n")) ≡ Err (NoEvent 2)
slot_16 = refl

slot_16_of_16 : journal_in (second16 (codes "s 16\n")) ≡ Err (NoEvent 2)
slot_16_of_16 = refl

slot_16_of_32 : journal_in (second32 (codes "s 16\n")) ≡ Ok (32, (2, Move 16) ∷ [])
slot_16_of_32 = refl

slot_32_of_32 : journal_in (second32 (codes "c 32\n")) ≡ Err (NoEvent 2)
slot_32_of_32 = refl

leading_zero : journal_in (second (codes "s 01\n")) ≡ Err (NoEvent 2)
leading_zero = refl

offer_0 : journal_in (second (codes "o 0\n")) ≡ Err (NoEvent 2)
offer_0 = refl

offer_64 : journal_in (second (codes "o 64\n")) ≡ Err (NoEvent 2)
offer_64 = refl

two_spaces : journal_in (second (codes "s  1\n")) ≡ Err (NoEvent 2)
two_spaces = refl

blank_at_the_end : journal_in (second (codes "s 1 \n")) ≡ Err (NoEvent 2)
blank_at_the_end = refl

other_letter : journal_in (second (codes "x 1\n")) ≡ Err (NoEvent 2)
other_letter = refl

no_number : journal_in (second (codes "s \n")) ≡ Err (NoEvent 2)
no_number = refl

empty_line : journal_in (second (codes "s 1\n\ns 2\n")) ≡ Err (NoEvent 3)
empty_line = refl

after_a_good_one : journal_in (second (codes "s 1\n# two\nx 1\n")) ≡ Err (NoEvent 4)
after_a_good_one = refl

-- the first of two bad lines
first_bad : journal_in (second (codes "s 1\nc 16\nw 0\n")) ≡ Err (NoEvent 3)
first_bad = refl

-- version 1 has no counts
count_in_version_1 : journal_in (second (codes "s 1 2\n")) ≡ Err (NoEvent 2)
count_in_version_1 = refl

count_of_a_check_in : journal_in (second16 (codes "c 1 2\n")) ≡ Err (NoEvent 2)
count_of_a_check_in = refl

count_1 : journal_in (second16 (codes "s 1 1\n")) ≡ Err (NoEvent 2)
count_1 = refl

count_0 : journal_in (second16 (codes "s 1 0\n")) ≡ Err (NoEvent 2)
count_0 = refl

count_02 : journal_in (second16 (codes "s 1 02\n")) ≡ Err (NoEvent 2)
count_02 = refl

no_count : journal_in (second16 (codes "s 1 \n")) ≡ Err (NoEvent 2)
no_count = refl

two_spaces_before_a_count : journal_in (second16 (codes "s 1  2\n")) ≡ Err (NoEvent 2)
two_spaces_before_a_count = refl

blank_after_a_count : journal_in (second16 (codes "s 1 2 \n")) ≡ Err (NoEvent 2)
blank_after_a_count = refl

three_numbers : journal_in (second16 (codes "s 1 2 3\n")) ≡ Err (NoEvent 2)
three_numbers = refl

signed_count : journal_in (second16 (codes "s 1 +2\n")) ≡ Err (NoEvent 2)
signed_count = refl

most : group_of Two16 (codes "s 0 4194304") ≡ Some (Move 0, 4194304)
most = refl

one_more : group_of Two16 (codes "s 0 4194305") ≡ None
one_more = refl

past_64_bits : group_of Two32 (codes "s 0 18446744073709551618") ≡ None
past_64_bits = refl

-- the line that takes the events past the most
full : journal_in (second16 (codes "c 0\ns 0 4194304\n")) ≡ Err (NoEvent 3)
full = refl

full_by_one : journal_in (second16 (codes "s 0 4194304\n# full\no 1\n")) ≡ Err (NoEvent 4)
full_by_one = refl

-- the first bad line is another than the one that has too many
bad_before_full : journal_in (second16 (codes "s 0 4194304\nx\no 1\n")) ≡ Err (NoEvent 3)
bad_before_full = refl
