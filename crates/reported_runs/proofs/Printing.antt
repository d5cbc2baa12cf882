-- The report of a run, in its parts.
use Rattle.std.proofs.Common.{◌≡◌, Bool, true, false, ℕ, List, Option, ◌++◌, ◌∙◌, ap, subst}
use Rattle.std.specs.Io.KnownBytes.{Appends}
use Rattle.dsu_io.specs.Sinks.{AppendsFront}
use Rattle.std.specs.Prelude.{map}
use Rattle.run_types.specs.declared.run.Event.{Event}
use Rattle.run_types.specs.declared.run.Ending.{Ending}
use Rattle.source_model.specs.Answers.{Answer, answer_seen}
use Rattle.source_model.specs.declared.answer.OfferAnswer.{OfferAnswer}
use Rattle.source_model.specs.Worlds.{World}
use Rattle.dsu_journal.specs.Journals.{journal_text}
use Rattle.dsu_report.specs.Answers.{answers_text}
use Rattle.job_answers.specs.Reports.{ending_text, run_text}

-- the report without the journal
abbrev pub result_text : List Answer → List (List ℕ) → Ending → World → List ℕ
result_text answers texts end w = answers_text answers texts ++ ending_text end w

pub with_journal : (journal : Bool) (history : List Event) (answers : List Answer) (texts : List (List ℕ)) (end : Ending) (w : World)
    → journal ≡ true → run_text journal history answers texts end w ≡ journal_text history ++ result_text answers texts end w
with_journal journal history answers texts end w is = ap (λ b. run_text b history answers texts end w) is

pub without_journal : (journal : Bool) (history : List Event) (answers : List Answer) (texts : List (List ℕ)) (end : Ending) (w : World)
    → journal ≡ false → run_text journal history answers texts end w ≡ result_text answers texts end w
without_journal journal history answers texts end w is = ap (λ b. run_text b history answers texts end w) is

-- the answers with the texts of a table, where an engine shows the answers by that table
module _ (old new : Option (List ℕ)) (names table : List (List ℕ)) (given : List OfferAnswer) (all : List Answer) (texts : List (List ℕ))
    (same : names ≡ table) (are : map (answer_seen table) given ≡ all) where
  shown : map (answer_seen names) given ≡ all
  shown = ap (λ n. map (answer_seen n) given) same ∙ are

  pub answers_front : AppendsFront old new (answers_text (map (answer_seen names) given) texts) → AppendsFront old new (answers_text all texts)
  answers_front front = subst {A = List Answer} (λ a. AppendsFront old new (answers_text a texts)) shown front

  pub answers_whole : Appends old new (answers_text (map (answer_seen names) given) texts) → Appends old new (answers_text all texts)
  answers_whole whole = subst {A = List Answer} (λ a. Appends old new (answers_text a texts)) shown whole
