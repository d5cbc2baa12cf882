-- When a book of offers agrees with a guard.
use Rattle.std.specs.Prelude.{◌≡◌, ◌≤◌, ◌<◌, ℕ, Bool, false, List, ◌++◌, ◌==◌, length, map, Option, Some}
use Rattle.std.specs.List.{list_any}
use Rattle.c_tree.specs.BareExpr.{Bytes}
use Rattle.source_model.specs.Answers.{Answer, answer_seen}
use Rattle.source_model.specs.declared.answer.OfferAnswer.{OfferAnswer}
use Rattle.source_model.specs.Guards.{Answered, Guard, Setup}
use Rattle.source_model.specs.Journals.{answers}

-- what a book has: the lines of each offer, the open offer, the greatest number that was offered, how many offers were
-- closed, and the answer to each
pub record Entries : Type 0 where
  pub lines : List ℕ
  pub open_offer : Option ℕ
  pub greatest : ℕ
  pub closed : ℕ
  pub answers : List OfferAnswer

-- there are at most 63 offers; each has an answer; one that is open was offered, and isn't among those that were closed
pub record AreEntries (entries : Entries) : Type 0 where
  pub few : length entries.lines ≤ 63
  pub each : length entries.answers ≡ length entries.lines
  pub among : entries.greatest ≤ length entries.lines
  pub closed : entries.closed ≤ entries.greatest
  pub offered : (k : ℕ) → entries.open_offer ≡ Some k → (k ≡ entries.greatest) × (entries.closed < entries.greatest)

-- an answer has this meaning in a table of names, and in each that has more names
abbrev pub Says : List Bytes → OfferAnswer → Answer → Type 0
Says names answer meaning = (more : List Bytes) → answer_seen (names ++ more) answer ≡ meaning

-- whether offer k was closed
abbrev pub is_answered : List Answered → ℕ → Bool
is_answered given k = list_any (λ a. a.offer == k) given

-- a book has the offers of a setup, and what a guard says of them; its answers have their meaning in a table of names, and
-- in each that has more names
pub record IsBook (setup : Setup) (g : Guard) (names : List Bytes) (book : Entries) : Type 0 where
  pub lines : book.lines ≡ map (λ o. o.lines) setup.offers
  pub open_offer : book.open_offer ≡ g.open_offer
  pub greatest : book.greatest ≡ g.greatest
  pub closed : book.closed ≡ g.closed
  pub answers : (more : List Bytes) → map (answer_seen (names ++ more)) book.answers ≡ answers setup g
  -- neither the open offer nor a later one was closed
  pub open_unanswered : (k : ℕ) → g.open_offer ≡ Some k → is_answered g.answers k ≡ false
  pub later_unanswered : (k : ℕ) → g.greatest < k → is_answered g.answers k ≡ false
