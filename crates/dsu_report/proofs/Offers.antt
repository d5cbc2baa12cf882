-- The lines of offers by their places.
use Rattle.std.proofs.Common.{◌≡◌, ℕ, suc, ◌+◌, ◌<◌, List, [], Option, length, ap, sym, subst, ◌∙◌, arith}
use Rattle.std.specs.Prelude.{map, get_or}
use Rattle.std.specs.Io.KnownBytes.{Appends}
use Rattle.std.proofs.lemmas.List.{get_or-map, length-map}
use Rattle.dsu_io.specs.Sinks.{AppendsFront}
use Rattle.source_model.specs.declared.answer.OfferAnswer.{OfferAnswer}
use Rattle.source_model.specs.Answers.{answer_seen, NotOffered}
use Rattle.dsu_report.specs.Answers.{answer_line, answers_text, line_of_offer}
use Rattle.dsu_report.proofs.Lines.{line_front, line_more, lines_before}

-- the lines of the offers before one
abbrev pub before_offer : List (List ℕ) → List OfferAnswer → List (List ℕ) → ℕ → List ℕ
before_offer names given texts = lines_before (line_of_offer (map (answer_seen names) given) texts)

module _ (names : List (List ℕ)) (given : List OfferAnswer) (texts : List (List ℕ)) (at : ℕ) (answer : OfferAnswer) (text : List ℕ)
    (below : at < length given) (is : answer ≡ get_or given at answer) (text_is : text ≡ get_or texts at []) where
  line_is : answer_line (at + 1) (answer_seen names answer) text ≡ line_of_offer (map (answer_seen names) given) texts at
  line_is =
      let next : at + 1 ≡ suc at = omega arith in
      ap (λ n. answer_line n (answer_seen names answer) text) next
      ∙ ap (λ a. answer_line (suc at) a text)
      (ap (answer_seen names) is ∙ sym (get_or-map (answer_seen names) given at answer NotOffered below))
      ∙ ap (answer_line (suc at) (get_or (map (answer_seen names) given) at NotOffered)) text_is

  -- one line more
  pub offer_more : (old mid new : Option (List ℕ)) → Appends old mid (before_offer names given texts at)
      → Appends mid new (answer_line (at + 1) (answer_seen names answer) text) → Appends old new (before_offer names given texts (at + 1))
  offer_more old mid new before line =
      line_more old mid new (line_of_offer (map (answer_seen names) given) texts) at before
      (subst {A = List ℕ} (λ bytes. Appends mid new bytes) line_is line)

  -- a shorter prefix of it
  pub offer_front : (old mid new : Option (List ℕ)) → Appends old mid (before_offer names given texts at)
      → AppendsFront mid new (answer_line (at + 1) (answer_seen names answer) text)
      → AppendsFront old new (answers_text (map (answer_seen names) given) texts)
  offer_front old mid new before line =
      line_front old mid new (line_of_offer (map (answer_seen names) given) texts) at (length (map (answer_seen names) given))
      (subst {A = ℕ} (λ n. at < n) (sym (length-map given (answer_seen names))) below) before
      (subst {A = List ℕ} (λ bytes. AppendsFront mid new bytes) line_is line)

-- all lines
pub all_offers : (names : List (List ℕ)) (given : List OfferAnswer) (texts : List (List ℕ)) (at : ℕ) → at ≡ length given
    → (old new : Option (List ℕ)) → Appends old new (before_offer names given texts at)
    → Appends old new (answers_text (map (answer_seen names) given) texts)
all_offers names given texts at is old new before =
    subst {A = ℕ} (λ n. Appends old new (before_offer names given texts n)) (is ∙ sym (length-map given (answer_seen names))) before
