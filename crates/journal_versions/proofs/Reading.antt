-- A printed journal is read.
use Rattle.std.proofs.Common.{◌≡◌, ◌⊎◌, inl, inr, ℕ, zero, suc, ◌+◌, ◌≤◌, List, [], ◌∷◌, ◌++◌, length, map, codes, replicate, Bool, true, false, cond, leb, Option, Some, None, Result, Ok, Err, refl, sym, ap, subst, ◌∙◌, arith, append_assoc, length-append}
use Rattle.std.specs.Prelude.{IsTrue}
use Rattle.std.specs.Fmt.{digits}
use Rattle.std.specs.List.{All, flat_map}
use Rattle.std.proofs.lemmas.Bool.{le-leb, leb-true}
use Rattle.std.proofs.lemmas.List.{length-replicate, length-map, map-append}
use Rattle.std.proofs.lemmas.List.Elements.{All-append, All-replicate}
use Rattle.run_types.specs.declared.run.Event.{Event}
use Rattle.journal_versions.specs.declared.fault.JournalFault.TheVariants.{Header, NoEvent}
use Rattle.journal_versions.specs.declared.form.Form.{Form}
use Rattle.journal_versions.specs.declared.form.Form.TheVariants.{One, Two16, Two32}
use Rattle.journal_versions.specs.Journals.{as_journal, event_lines, events_from, events_then, form_of, group_line, group_of, group_then, groups, has_counts, in_form, is_comment, journal_in, journal_of, journal_text, lines, most_events, slots_of}
use Rattle.journal_versions.specs.Laws.{IsReadAs, PrintedIsRead, ReadIsReadAgain, events_of, may_be_in_journal}
use Rattle.journal_versions.proofs.EventLines.{group_reads, in_one_line, line_is, not_comment}
use Rattle.journal_versions.proofs.Groups.{AllLines, groups_are_lines, total, total_groups, ungrouped, ungrouped_groups}
use Rattle.journal_versions.proofs.Splits.{line_ends}

-- each may be in a journal
abbrev AllMay : ℕ → List Event → Type 0
AllMay slots events = All (λ e. IsTrue (may_be_in_journal slots e)) events

-- ---- from events to their text

abbrev group_lines : List (Event × ℕ) → List (List ℕ)
group_lines gs = map (λ g. group_line g.0 g.1) gs

-- printed lines are the lines
printed_lines : (form : Form) (gs : List (Event × ℕ)) → AllLines form gs
    → lines (flat_map (λ g. group_line g.0 g.1 ++ codes "\n") gs) ≡ group_lines gs
printed_lines form [] all = refl
printed_lines form ((e, n) ∷ gs) all =
    ap lines (append_assoc (group_line e n) (codes "\n") (flat_map (λ g. group_line g.0 g.1 ++ codes "\n") gs))
    ∙ line_ends (group_line e n) (flat_map (λ g. group_line g.0 g.1 ++ codes "\n") gs) (in_one_line form e n all.0)
    ∙ ap (λ rest. group_line e n ∷ rest) (printed_lines form gs all.1)

-- the events of groups, each group with the number of its line
abbrev numbered_from : ℕ → List (Event × ℕ) → List (ℕ × Event)
numbered_from n [] = []
numbered_from n ((e, times) ∷ gs) = replicate times (n, e) ++ numbered_from (n + 1) gs

-- the events of printed lines
lines_read : (form : Form) (n before : ℕ) (gs : List (Event × ℕ)) → AllLines form gs → before + total gs ≤ most_events
    → events_from form n before (group_lines gs) ≡ Ok (numbered_from n gs)
lines_read form n before [] all fit = refl
lines_read form n before ((e, times) ∷ gs) all fit =
    let others : before + times + total gs ≤ most_events = omega (arith, fit) in
    let fits : before + times ≤ most_events = omega (arith, fit) in
    let later = lines_read form (n + 1) (before + times) gs all.1 others in
    ap (λ b. cond b (events_from form (n + 1) before (group_lines gs))
    (group_then n before (group_of form (group_line e times)) (λ k. events_from form (n + 1) k (group_lines gs)))) (not_comment e times)
    ∙ ap (λ g. group_then n before g (λ k. events_from form (n + 1) k (group_lines gs))) (group_reads form e times all.0)
    ∙ ap (λ b. cond b (events_then (replicate times (n, e)) (events_from form (n + 1) (before + times) (group_lines gs))) (Err n))
    (le-leb (before + times) most_events fits)
    ∙ ap (λ r. events_then (replicate times (n, e)) r) later

events_repeat : (n times : ℕ) (e : Event) → events_of (replicate times (n, e)) ≡ replicate times e
events_repeat n zero e = refl
events_repeat n (suc times) e = ap (λ rest. e ∷ rest) (events_repeat n times e)

events_are : (n : ℕ) (gs : List (Event × ℕ)) → events_of (numbered_from n gs) ≡ ungrouped gs
events_are n [] = refl
events_are n ((e, times) ∷ gs) =
    map-append (λ l. l.1) (replicate times (n, e)) (numbered_from (n + 1) gs)
    ∙ ap (λ front. front ++ events_of (numbered_from (n + 1) gs)) (events_repeat n times e)
    ∙ ap (λ rest. replicate times e ++ rest) (events_are (n + 1) gs)

-- a text that begins with the first line of a form
read_as : (form : Form) (text : List ℕ) (events : List Event) → IsTrue (has_counts form)
    → journal_in text ≡ in_form (Some form) (lines (event_lines events)) → AllMay (slots_of form) events → length events ≤ most_events
    → IsReadAs text (slots_of form) events
read_as form text events counts first all few =
    let may = groups_are_lines form events counts all few in
    let sum = total_groups events in
    let fit : 0 + total (groups events) ≤ most_events = omega (arith, sum, few) in
    record {
      numbered = numbered_from 2 (groups events);
      read =
          first ∙ ap (λ ls. as_journal (slots_of form) (events_from form 2 0 ls)) (printed_lines form (groups events) may)
          ∙ ap (λ r. as_journal (slots_of form) r) (lines_read form 2 0 (groups events) may fit);
      same = events_are 2 (groups events) ∙ ungrouped_groups events;
    }

first_16 : (events : List Event) → journal_in (journal_text 16 events) ≡ in_form (Some Two16) (lines (event_lines events))
unfolding digits
first_16 events = refl

first_32 : (events : List Event) → journal_in (journal_text 32 events) ≡ in_form (Some Two32) (lines (event_lines events))
unfolding digits
first_32 events = refl

pub printed_is_read : PrintedIsRead
printed_is_read slots events (inl is) all few =
    let all_16 : AllMay 16 events = subst {A = ℕ} (λ s. AllMay s events) is all in
    subst {A = ℕ} (λ s. IsReadAs (journal_text s events) s events) (sym is)
    (read_as Two16 (journal_text 16 events) events refl (first_16 events) all_16 few)
printed_is_read slots events (inr is) all few =
    let all_32 : AllMay 32 events = subst {A = ℕ} (λ s. AllMay s events) is all in
    subst {A = ℕ} (λ s. IsReadAs (journal_text s events) s events) (sym is)
    (read_as Two32 (journal_text 32 events) events refl (first_32 events) all_32 few)

-- ---- from a text to its events

-- events that are read: each may be in a journal, and there are not too many
pub record Read (slots before : ℕ) (numbered : List (ℕ × Event)) : Type 0 where
  pub may : AllMay slots (events_of numbered)
  pub few : before + length numbered ≤ most_events

same_ok : {T E : Type 0} (x y : T) → ◌≡◌ {A = Result T E} (Ok x) (Ok y) → x ≡ y
same_ok x y is = cc

err_isnt : {T E : Type 0} (n : E) (y : T) → ◌≡◌ {A = Result T E} (Err n) (Ok y) → ⊥
err_isnt n y is = cc

-- events and those read after them
read_more : (slots before n times : ℕ) (e : Event) (rest : List (ℕ × Event)) → IsTrue (may_be_in_journal slots e)
    → Read slots (before + times) rest → Read slots before (replicate times (n, e) ++ rest)
read_more slots before n times e rest may read = record {
  may =
      subst {A = List Event} (λ es. AllMay slots es)
      (sym (map-append (λ l. l.1) (replicate times (n, e)) rest ∙ ap (λ front. front ++ events_of rest) (events_repeat n times e)))
      (All-append (λ e. IsTrue (may_be_in_journal slots e)) (replicate times e) (events_of rest)
      (All-replicate (λ e. IsTrue (may_be_in_journal slots e)) times e may) read.may);
  few = omega (arith, read.few, length-append (replicate times (n, e)) rest, length-replicate {A = ℕ × Event} times (n, e));
}

then_read : (slots before n times : ℕ) (e : Event) (rest : Result (List (ℕ × Event)) ℕ) (numbered : List (ℕ × Event))
    → IsTrue (may_be_in_journal slots e) → ((more : List (ℕ × Event)) → rest ≡ Ok more → Read slots (before + times) more)
    → events_then (replicate times (n, e)) rest ≡ Ok numbered → Read slots before numbered
then_read slots before n times e (Ok more) numbered may later is =
    subst {A = List (ℕ × Event)} (λ l. Read slots before l) (same_ok (replicate times (n, e) ++ more) numbered is)
    (read_more slots before n times e more may (later more refl))
then_read slots before n times e (Err bad) numbered may later is = absurd (err_isnt bad numbered is)

fits_read : (slots before n times : ℕ) (e : Event) (b : Bool) (rest : Result (List (ℕ × Event)) ℕ) (numbered : List (ℕ × Event))
    → leb (before + times) most_events ≡ b → IsTrue (may_be_in_journal slots e)
    → (before + times ≤ most_events → (more : List (ℕ × Event)) → rest ≡ Ok more → Read slots (before + times) more)
    → cond b (events_then (replicate times (n, e)) rest) (Err n) ≡ Ok numbered → Read slots before numbered
fits_read slots before n times e true rest numbered fits may later is =
    then_read slots before n times e rest numbered may (later (leb-true (before + times) most_events fits)) is
fits_read slots before n times e false rest numbered fits may later is = absurd (err_isnt n numbered is)

group_read : (slots before n : ℕ) (g : Option (Event × ℕ)) (rest : ℕ → Result (List (ℕ × Event)) ℕ) (numbered : List (ℕ × Event))
    → ((e : Event) (times : ℕ) → g ≡ Some (e, times) → IsTrue (may_be_in_journal slots e))
    → ((k : ℕ) → k ≤ most_events → (more : List (ℕ × Event)) → rest k ≡ Ok more → Read slots k more)
    → group_then n before g rest ≡ Ok numbered → Read slots before numbered
group_read slots before n None rest numbered may later is = absurd (err_isnt n numbered is)
group_read slots before n (Some (e, times)) rest numbered may later is =
    fits_read slots before n times e (leb (before + times) most_events) (rest (before + times)) numbered refl (may e times refl)
    (later (before + times)) is

pub events_read : (form : Form) (ls : List (List ℕ)) (n before : ℕ) (numbered : List (ℕ × Event)) → before ≤ most_events
    → events_from form n before ls ≡ Ok numbered → Read (slots_of form) before numbered
events_read form [] n before numbered fit is =
    subst {A = List (ℕ × Event)} (λ l. Read (slots_of form) before l) (same_ok [] numbered is)
    (record { may = λ k d within. absurd (omega (arith, within)); few = omega (arith, fit) })
events_read form (line ∷ ls) n before numbered fit is =
    by (λ k few more found. events_read form ls (n + 1) k more few found) (is_comment line) is
  where
    by : ((k : ℕ) → k ≤ most_events → (more : List (ℕ × Event)) → events_from form (n + 1) k ls ≡ Ok more → Read (slots_of form) k more)
        → (b : Bool)
        → cond b (events_from form (n + 1) before ls) (group_then n before (group_of form line) (λ k. events_from form (n + 1) k ls)) ≡ Ok numbered
        → Read (slots_of form) before numbered
    by later true same = later before fit numbered same
    by later false same =
        group_read (slots_of form) before n (group_of form line) (λ k. events_from form (n + 1) k ls) numbered
        (λ e times found. (line_is form line e times found).1.0) later same

two_forms : (form : Form) → (slots_of form ≡ 16) ⊎ (slots_of form ≡ 32)
two_forms One = inl refl
two_forms Two16 = inl refl
two_forms Two32 = inr refl

again : (form : Form) (slots : ℕ) (numbered : List (ℕ × Event)) (r : Result (List (ℕ × Event)) ℕ)
    → ((more : List (ℕ × Event)) → r ≡ Ok more → Read (slots_of form) 0 more) → as_journal (slots_of form) r ≡ Ok (slots, numbered)
    → IsReadAs (journal_text slots (events_of numbered)) slots (events_of numbered)
again form slots numbered (Ok more) read is =
    let same = same_ok (slots_of form, more) (slots, numbered) is in
    let of : slots_of form ≡ slots = ap (λ p. p.0) same in
    let are : more ≡ numbered = ap (λ p. p.1) same in
    let r : Read slots 0 numbered =
    subst {A = ℕ} (λ s. Read s 0 numbered) of (subst {A = List (ℕ × Event)} (λ l. Read (slots_of form) 0 l) are (read more refl)) in
    let two : (slots ≡ 16) ⊎ (slots ≡ 32) = subst {A = ℕ} (λ s. (s ≡ 16) ⊎ (s ≡ 32)) of (two_forms form) in
    printed_is_read slots (events_of numbered) two r.may (omega (arith, r.few, length-map numbered (λ l. l.1)))
again form slots numbered (Err n) read is = absurd (err_isnt (NoEvent n) (slots, numbered) is)

with_form : (f : Option Form) (rest : List (List ℕ)) (slots : ℕ) (numbered : List (ℕ × Event)) → in_form f rest ≡ Ok (slots, numbered)
    → IsReadAs (journal_text slots (events_of numbered)) slots (events_of numbered)
with_form None rest slots numbered is = absurd (err_isnt Header (slots, numbered) is)
with_form (Some form) rest slots numbered is =
    again form slots numbered (events_from form 2 0 rest) (λ more found. events_read form rest 2 0 more (omega arith) found) is

with_lines : (ls : List (List ℕ)) (slots : ℕ) (numbered : List (ℕ × Event)) → journal_of ls ≡ Ok (slots, numbered)
    → IsReadAs (journal_text slots (events_of numbered)) slots (events_of numbered)
with_lines [] slots numbered is = absurd (err_isnt Header (slots, numbered) is)
with_lines (line ∷ rest) slots numbered is = with_form (form_of line) rest slots numbered is

pub read_is_read_again : ReadIsReadAgain
read_is_read_again text slots numbered is = with_lines (lines text) slots numbered is
