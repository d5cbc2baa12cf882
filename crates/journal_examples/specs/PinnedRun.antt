-- A run of these texts with three offers: what it prints and answers, for all rules whose rows are those of the effects.
use Rattle.std.specs.Prelude.{◌≡◌, ℕ, Bool, true, false, List, [], ◌∷◌, ◌++◌, map, Option, Some, None, option_map, pos, codes}
use Rattle.run_types.specs.declared.run.Event.{Event}
use Rattle.run_types.specs.declared.run.Event.TheVariants.{Move, CheckIn, Offer, Decide}
use Rattle.con_freeness.specs.Verdicts.{Pinned}
use Rattle.con_freeness.specs.Rows.{Row, InForce}
use Rattle.effects.specs.Rows.{AreRows}
use Rattle.source_model.specs.Worlds.{Finish, Finished}
use Rattle.source_model.specs.Answers.{Answer, Installed, RefusedFor, NotOffered}
use Rattle.source_model.specs.Guards.{Guard, Setup, Rules, bodies_of, in_force}
use Rattle.source_model.specs.Journals.{guard_after, answers}
use Rattle.journal_examples.specs.PinnedTexts.{first, second, third}

-- the second text is offered once a line is printed, then the third; the third once more after three lines
abbrev pub setup : Setup
setup = record {
  first = first;
  offers = record { text = second; lines = 1 } ∷ record { text = third; lines = 1 } ∷ record { text = third; lines = 3 } ∷ [];
  limits = record { objects = 1; slots = 1 };
}

-- ---- the events, each part with what was before

-- a move that leads to a check-in, which is then passed
abbrev pub passing : List Event
passing = Move 0 ∷ CheckIn 0 ∷ []

-- a call, the enter and the return
abbrev pub calling : List Event
calling = Move 0 ∷ passing ++ passing

abbrev pub offering : ℕ → List Event
offering k = Offer k ∷ Decide k ∷ []

-- main is entered, the transaction begins, f is called, and its result is printed
abbrev pub to_the_first_line : List Event
to_the_first_line = passing ++ passing ++ calling ++ Move 0 ∷ []

abbrev pub to_the_first_answer : List Event
to_the_first_answer = to_the_first_line ++ offering 1

abbrev pub to_the_second_answer : List Event
to_the_second_answer = to_the_first_answer ++ offering 2

-- after the update point g is called, and its result is printed; the transaction ends, and a line is printed
abbrev pub to_the_third_line : List Event
to_the_third_line = to_the_second_answer ++ passing ++ calling ++ Move 0 ∷ passing ++ Move 0 ∷ []

abbrev pub to_the_third_answer : List Event
to_the_third_answer = to_the_third_line ++ offering 3

-- f and g are called, their results are printed, and main returns
abbrev pub to_the_end : List Event
to_the_end = to_the_third_answer ++ calling ++ calling ++ Move 0 ∷ Move 0 ∷ []

-- ---- what is seen after some events

-- what was printed, the answer to each offer, whether the thread in each slot is pinned, and how the run has ended, if it has
pub record Seen : Type 0 where
  pub output : List ℕ
  pub answers : List Answer
  pub pinned : List Bool
  pub finish : Option Finish

abbrev pub seen_of : Guard → Seen
seen_of g = record {
  output = g.world.output;
  answers = answers setup g;
  pinned = map (λ s. s.pinned) g.seats;
  finish = g.world.finish;
}

abbrev pub seen : Rules → List Event → Option Seen
seen rules events = option_map seen_of (guard_after rules setup events)

-- the slots as the admission test sees them
abbrev pub slots_seen : Rules → List Event → Option (List InForce)
slots_seen rules events = option_map (λ g. map (in_force rules (bodies_of g)) g.seats) (guard_after rules setup events)

abbrev pub the_slot : Row → Bool → Option (List InForce)
the_slot row pinned = Some (record { row = row; pinned = pinned } ∷ [])

-- the row of the check-in after the first call of f: the transaction has used f and will use g; main calls both yet
abbrev pub row_inside : Row
row_inside = record { prior = codes "f" ∷ []; future = codes "g" ∷ []; concrete = codes "f" ∷ codes "g" ∷ [] }

-- the row of the check-in after the transaction: main will use both, and enters f at the next check-in
abbrev pub row_outside : Row
row_outside = record { prior = codes "f" ∷ []; future = codes "f" ∷ codes "g" ∷ []; concrete = codes "f" ∷ codes "g" ∷ [] }

-- the refusal of a pinned thread
abbrev pub refusal : Answer
refusal = RefusedFor (record { slot = 0; effect = Pinned (codes "g") })

pub record KeepsItsVersion (rules : Rules) : Type 0 where
  -- the transaction won't use f again, so the new f is installed; the transaction has used the old one, so the thread is pinned
  pub first_slot : slots_seen rules to_the_first_line ≡ the_slot row_inside false
  pub first_answer :
      seen rules to_the_first_answer
      ≡ Some (record { output = codes "1\n"; answers = Installed 2 ∷ NotOffered ∷ NotOffered ∷ []; pinned = true ∷ []; finish = None })
  -- the transaction hasn't used g, but the new g isn't of the version of the f that it has used: it is refused
  pub second_slot : slots_seen rules to_the_first_answer ≡ the_slot row_inside true
  pub second_answer :
      seen rules to_the_second_answer
      ≡ Some (record { output = codes "1\n"; answers = Installed 2 ∷ refusal ∷ NotOffered ∷ []; pinned = true ∷ []; finish = None })
  -- so the transaction uses the old g. Its end unpins the thread, and then the new g is installed
  pub third_slot : slots_seen rules to_the_third_line ≡ the_slot row_outside false
  pub third_answer :
      seen rules to_the_third_answer
      ≡ Some (record { output = codes "1\n2\ndone\n"; answers = Installed 2 ∷ refusal ∷ Installed 3 ∷ []; pinned = false ∷ []; finish = None })
  -- main goes on in its old body, and calls both new functions
  pub end :
      seen rules to_the_end
      ≡ Some (record {
        output = codes "1\n2\ndone\n10 20\n";
        answers = Installed 2 ∷ refusal ∷ Installed 3 ∷ [];
        pinned = false ∷ [];
        finish = Some (Finished (pos 0));
      })

abbrev pub TransactionKeepsItsVersion : Type 0
TransactionKeepsItsVersion = (rules : Rules) → AreRows rules.row → KeepsItsVersion rules
