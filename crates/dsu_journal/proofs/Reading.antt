-- A printed journal is read.
use Rattle.std.proofs.Common.{◌≡◌, ℕ, suc, ◌+◌, List, [], ◌∷◌, map, codes, Ok, refl, ap, ◌∙◌, arith, append_assoc}
use Rattle.std.specs.Prelude.{IsTrue}
use Rattle.std.specs.List.{All, enumerate_from}
use Rattle.run_types.specs.declared.run.Event.{Event}
use Rattle.dsu_journal.specs.Journals.{as_journal, event_line, event_lines, events_from, journal_in, journal_text, line_then, lines, may_be_in_journal}
use Rattle.dsu_journal.proofs.EventLines.{event_reads, in_one_line, not_comment}
use Rattle.dsu_journal.proofs.Newlines.{line_ends}

-- each may be in a journal
abbrev AllMay : List Event → Type 0
AllMay events = All (λ e. IsTrue (may_be_in_journal e)) events

first_may : (e : Event) (es : List Event) → AllMay (e ∷ es) → IsTrue (may_be_in_journal e)
first_may e es all = all 0 e (omega arith)

others_may : (e : Event) (es : List Event) → AllMay (e ∷ es) → AllMay es
others_may e es all = λ k d within. all (suc k) d (omega arith)

-- printed lines are the lines
printed_lines : (events : List Event) → AllMay events → lines (event_lines events) ≡ map event_line events
printed_lines [] all = refl
printed_lines (e ∷ es) all =
    ap lines (append_assoc (event_line e) (codes "\n") (event_lines es))
    ∙ line_ends (event_line e) (event_lines es) (in_one_line e (first_may e es all))
    ∙ ap (λ rest. event_line e ∷ rest) (printed_lines es (others_may e es all))

-- the events of printed lines
lines_read : (events : List Event) (n : ℕ) → AllMay events → events_from n (map event_line events) ≡ Ok (enumerate_from n events)
lines_read [] n all = refl
lines_read (e ∷ es) n all =
    ap (λ rest. line_then n (event_line e) rest) (lines_read es (n + 1) (others_may e es all))
    ∙ rw (not_comment e, event_reads e (first_may e es all))

pub printed_is_read : (events : List Event) → AllMay events → journal_in (journal_text events) ≡ Ok (enumerate_from 2 events)
printed_is_read events all =
    ap (λ ls. as_journal (events_from 2 ls)) (printed_lines events all) ∙ ap as_journal (lines_read events 2 all)
