-- The lines of events that are put a page at a time.
use Rattle.std.proofs.Common.{◌≡◌, ℕ, List, [], ◌++◌, take, drop, Option, refl, ap, ap₂, sym, subst, ◌∙◌, append_assoc, append-nil}
use Rattle.std.proofs.lemmas.List.Concat.{flat_map-append}
use Rattle.std.proofs.lemmas.List.{take-append-drop}
use Rattle.std.specs.Io.KnownBytes.{Appends}
use Rattle.run_types.specs.declared.run.Event.{Event}
use Rattle.dsu_io.specs.Sinks.{AppendsFront}
use Rattle.dsu_io.proofs.Written.{Appends-then, AppendsFront-then}
use Rattle.dsu_journal.specs.Journals.{event_lines}
use Rattle.dsu_journal.proofs.Pieces.{Appends-nothing}

pub lines-append : (xs ys : List Event) → event_lines (xs ++ ys) ≡ event_lines xs ++ event_lines ys
lines-append xs ys = flat_map-append _ xs ys

split : (rest some others : List Event) (n : ℕ) → some ≡ take n rest → others ≡ drop n rest → rest ≡ some ++ others
split rest some others n front back = sym (take-append-drop n rest) ∙ ap₂ (λ xs ys. xs ++ ys) (sym front) (sym back)

-- the lines of the events before the rest were appended
pub record Printed (old now : Option (List ℕ)) (events rest : List Event) : Type 0 where
  pub done : List Event
  pub all : events ≡ done ++ rest
  pub appended : Appends old now (event_lines done)

-- no page yet
pub none_printed : (old : Option (List ℕ)) (events : List Event) → Printed old old events events
none_printed old events = record { done = []; all = refl; appended = Appends-nothing old }

-- one more page, with the lines of some of the events
pub page_printed : (old mid new : Option (List ℕ)) (events rest some others : List Event) (page : List ℕ) (n : ℕ) → Printed old mid events rest
    → some ≡ take n rest → others ≡ drop n rest → page ≡ event_lines some → Appends mid new page → Printed old new events others
page_printed old mid new events rest some others page n before front back lines put = record {
  done = before.done ++ some;
  all = before.all ∙ ap (λ r. before.done ++ r) (split rest some others n front back) ∙ sym (append_assoc before.done some others);
  appended = subst {A = List ℕ} (λ bytes. Appends old new bytes) (ap (λ bytes. event_lines before.done ++ bytes) lines ∙ sym (lines-append before.done some))
      (Appends-then old mid new (event_lines before.done) page before.appended put);
}

-- a shorter prefix of one more page
pub page_front : (old mid new : Option (List ℕ)) (events rest some others : List Event) (page : List ℕ) (n : ℕ) → Printed old mid events rest
    → some ≡ take n rest → others ≡ drop n rest → page ≡ event_lines some → AppendsFront mid new page → AppendsFront old new (event_lines events)
page_front old mid new events rest some others page n before front back lines put =
    let all : event_lines events ≡ event_lines before.done ++ (page ++ event_lines others) =
    ap event_lines (before.all ∙ ap (λ r. before.done ++ r) (split rest some others n front back)) ∙ lines-append before.done (some ++ others)
    ∙ ap (λ r. event_lines before.done ++ r) (lines-append some others ∙ ap (λ r. r ++ event_lines others) (sym lines)) in
    subst {A = List ℕ} (λ bytes. AppendsFront old new bytes) (sym all)
    (AppendsFront-then old mid new (event_lines before.done) page (event_lines others) before.appended put)

-- all pages
pub all_printed : (old new : Option (List ℕ)) (events : List Event) → Printed old new events [] → Appends old new (event_lines events)
all_printed old new events before =
    subst {A = List Event} (λ es. Appends old new (event_lines es)) (sym (before.all ∙ append-nil before.done)) before.appended
