-- What is answered to an offer stays its answer.
use Rattle.std.proofs.Common.{◌≡◌, ℕ, ◌<◌, ◌≤◌, Bool, true, false, List, [], ◌∷◌, ◌++◌, Option, Some, None, refl, sym, ◌∙◌, ap, subst, arith}
use Rattle.std.specs.Prelude.{◌==◌, cond, find}
use Rattle.std.specs.Option.{option_map_or, option_or}
use Rattle.std.proofs.lemmas.Bool.Decides.{nat_tests}
use Rattle.std.proofs.lemmas.List.{append_assoc}
use Rattle.std.proofs.lemmas.List.Folds.{find-append}
use Rattle.std.proofs.lemmas.Option.{none-some, same_Some}
use Rattle.run_types.specs.declared.run.Event.{Event}
use Rattle.source_model.specs.Answers.{Answer, NotOffered}
use Rattle.source_model.specs.Guards.{Answered, Guard, Rules, Setup, answered, first_guard}
use Rattle.source_model.specs.Journals.{answer_of}
use Rattle.source_model.proofs.Events.{Handles}

-- no answer to offer k is among some
abbrev pub Fresh : ℕ → List Answered → Type 0
Fresh k given = find (λ a. a.offer == k) given ≡ None

-- neither the open offer nor one that is greater than all that were offered was answered
pub record Orderly (g : Guard) : Type 0 where
  pub above : (k : ℕ) → g.greatest < k → Fresh k g.answers
  pub at_open : (k : ℕ) → g.open_offer ≡ Some k → Fresh k g.answers
  pub within : (k : ℕ) → g.open_offer ≡ Some k → k ≤ g.greatest

same_number : (k : ℕ) → (k == k) ≡ true
same_number k = grind (arith, nat_tests)

other_number : (k n : ℕ) → k ≤ n → (m : ℕ) → n < m → (k == m) ≡ false
other_number k n le m lt = grind (arith, nat_tests, le, lt)

-- a search goes on after what it doesn't find
find_after : (k : ℕ) (given more : List Answered) → Fresh k given → find (λ a. a.offer == k) (given ++ more) ≡ find (λ a. a.offer == k) more
find_after k given more fresh =
    find-append (λ a. a.offer == k) given more ∙ ap (λ o. option_or o (find (λ a. a.offer == k) more)) fresh

-- an answer that is added is the one that is found, whatever is added after it
pub found : (k : ℕ) (a : Answer) (given more : List Answered) → Fresh k given
    → answer_of ((given ++ record { offer = k; answer = a } ∷ []) ++ more) k ≡ a
found k a given more fresh =
    ap (λ l. answer_of l k) (append_assoc given (record { offer = k; answer = a } ∷ []) more)
    ∙ ap (λ o. option_map_or (λ x. x.answer) o NotOffered) (find_after k given (record { offer = k; answer = a } ∷ more) fresh)
    ∙ ap (λ b. option_map_or (λ x. x.answer) (cond b (Some (record { offer = k; answer = a })) (find (λ x. x.offer == k) more)) NotOffered)
    (same_number k)

nothing_open : (k : ℕ) → None ≡ Some k → ⊥
nothing_open k h = none-some k h

closes : (g : Guard) (k : ℕ) (a : Answer) → Orderly g → g.open_offer ≡ Some k → Orderly (answered k a g)
closes g k a o is = record {
  above = λ m lt.
      find_after m g.answers (record { offer = k; answer = a } ∷ []) (o.above m lt)
      ∙ ap (λ b. cond b (Some (record { offer = k; answer = a })) None) (other_number k g.greatest (o.within k is) m lt);
  at_open = λ m none. absurd (nothing_open m none);
  within = λ m none. absurd (nothing_open m none);
}

-- each event keeps the order
pub stays_orderly : (rules : Rules) (setup : Setup) (e : Event) (g : Guard) → Orderly g → Handles rules setup e g Orderly
stays_orderly rules setup e g o = record {
  moves = λ none t w made. record { above = o.above; at_open = o.at_open; within = o.within };
  checks = λ none t test. record { above = o.above; at_open = o.at_open; within = o.within };
  opens = λ none k more reached. record {
    above = λ m lt. o.above m (omega (arith, lt, more));
    at_open = λ m is. subst (λ n. Fresh n g.answers) (same_Some k m is) (o.above k more);
    within = λ m is. subst (λ n. n ≤ k) (same_Some k m is) (at_most_itself k);
  };
  ends = λ k closing a is. closes g k a o is;
  installs = λ k closing x names is at.
      let closed = closes g k _ o is in record { above = closed.above; at_open = closed.at_open; within = closed.within };
}
  where
    at_most_itself : (n : ℕ) → n ≤ n
    at_most_itself n = omega arith

pub first_orderly : (setup : Setup) → Orderly (first_guard setup)
first_orderly setup = record {
  above = λ k lt. refl;
  at_open = λ k h. refl;
  within = λ k h. absurd (nothing_open k h);
}
