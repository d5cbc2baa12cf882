-- One more line of a report, and notes after it.
use Rattle.std.proofs.Common.{◌≡◌, ◌∙◌, ℕ, suc, List, ◌∷◌, ◌++◌, sym, ap, subst, arith, append_assoc}
use Rattle.std.specs.Prelude.{All}
use Rattle.fault_notes.specs.Notes.{AreNotes}
use Rattle.noted_reports.specs.NotedReports.{AddsLine, IsLine, WithNotes, rest, line}

module _ {X : Type 0} (P : X → Type 0) (x : X) (xs all : List X) (is : all ≡ x ∷ xs) (each : All P all) where
  pub first_of_all : P x
  first_of_all = (subst {A = List X} (λ ys. All P ys) is each) 0 x (omega arith)

  pub others_of_all : All P xs
  others_of_all = λ k d within. (subst {A = List X} (λ ys. All P ys) is each) (suc k) d (omega (arith, within))

pub line_and_notes : (mark l notes given before between after : List ℕ) → AreNotes mark notes → between ≡ before ++ l → given ≡ notes
    → after ≡ between ++ given → AddsLine mark l before after
line_and_notes mark l notes given before between after are first same second = record {
  notes = notes;
  are = are;
  text_is = second ∙ ap (λ n. between ++ n) same ∙ ap (λ b. b ++ notes) first ∙ append_assoc before l notes;
}

-- what holds of the text so far, where a line and notes are added
pub noted_more : (mark report before l after text grown : List ℕ)
    → ((more : List ℕ) → WithNotes mark before more → WithNotes mark report (text ++ more))
    → IsLine l → before ≡ l ++ after → AddsLine mark l text grown
    → (more : List ℕ) → WithNotes mark after more → WithNotes mark report (grown ++ more)
noted_more mark report before l after text grown so_far ends is adds more noted =
    let notes = adds.notes in
    let longer : WithNotes mark before (l ++ (notes ++ more)) =
    subst {A = List ℕ} (λ r. WithNotes mark r (l ++ (notes ++ more))) (sym is) (line l notes after more ends adds.are noted) in
    subst {A = List ℕ} (WithNotes mark report)
    (sym (ap (λ g. g ++ more) adds.text_is ∙ append_assoc text (l ++ notes) more ∙ ap (λ m. text ++ m) (append_assoc l notes more)))
    (so_far (l ++ (notes ++ more)) longer)
