-- The run of these texts is that over rules with two plain rows, since the rows in force at its decisions are these.
use Rattle.std.proofs.Common.{◌≡◌, ◌==◌, true, false, List, [], ◌∷◌, ◌++◌, map, Option, Some, None, refl, sym, ap, subst, ◌∙◌, if◌then◌else◌, option_map}
use Rattle.std.specs.Prelude.{pos, codes}
use Rattle.std.specs.Fmt.{digits}
use Rattle.run_types.specs.declared.run.Event.{Event}
use Rattle.run_types.specs.declared.run.Event.TheVariants.{Move}
use Rattle.c_semantics.specs.Store.{Body, Mark, Start, CheckInOf}
use Rattle.con_freeness.specs.Rows.{Row, empty_row}
use Rattle.effects.specs.GrowthLaws.{RowsGrow}
use Rattle.effects.specs.LeastLaws.{EachHasARow, OneRow}
use Rattle.source_model.specs.Worlds.{Finished}
use Rattle.source_model.specs.Answers.{Installed, NotOffered}
use Rattle.source_model.specs.Guards.{Guard, Seat, Rules, bodies_of, in_force, row_in_force}
use Rattle.source_model.specs.Journals.{guard_after}
use Rattle.journal_examples.specs.PinnedRun.{setup, passing, calling, to_the_first_line, to_the_first_answer, to_the_second_answer, to_the_third_line, to_the_third_answer, to_the_end, row_inside, row_outside, the_slot, refusal, seen, seen_of, slots_seen, KeepsItsVersion, TransactionKeepsItsVersion}
use Rattle.journal_examples.proofs.PinnedRows.{first_bodies, second_bodies, after_f, after_end, first_inside, second_inside, second_outside}
use Rattle.journal_examples.proofs.RowsInForce.{Agree, Same, moved_on, decided_on}

-- a row for each check-in by its number alone
abbrev pub plain_row : Mark → Row
plain_row (Start f) = empty_row
plain_row (CheckInOf f generation number) = if number == 2 then row_inside else row_outside

abbrev pub plain : Rules
plain = record { row = λ bodies mark. plain_row mark }

-- the bodies that are stored, and the marks of the seats
abbrev Kept : Type 0
Kept = List Body × List (Option Mark)

abbrev kept : Guard → Kept
kept g = (bodies_of g, map (λ s. s.mark) g.seats)

abbrev kept_after : List Event → Option Kept
kept_after events = option_map kept (guard_after plain setup events)

at_first_line : kept_after to_the_first_line ≡ Some (first_bodies, Some after_f ∷ [])
unfolding digits
at_first_line = refl

at_first_answer : kept_after to_the_first_answer ≡ Some (second_bodies, Some after_f ∷ [])
unfolding digits
at_first_answer = refl

at_third_line : kept_after to_the_third_line ≡ Some (second_bodies, Some after_end ∷ [])
unfolding digits
at_third_line = refl

-- a guard that is reached, with the one mark of its seats
record Reached (events : List Event) (bodies : List Body) (mark : Mark) : Type 0 where
  guard : Guard
  reached : guard_after plain setup events ≡ Some guard
  stored : bodies_of guard ≡ bodies
  marked : map (λ s. s.mark) guard.seats ≡ Some mark ∷ []

reached_by : (events : List Event) (bodies : List Body) (mark : Mark) → kept_after events ≡ Some (bodies, Some mark ∷ []) → Reached events bodies mark
reached_by events bodies mark e = by (guard_after plain setup events) refl e
  where
    same : (x y : Kept) → Some x ≡ Some y → x ≡ y
    same x y e = cc

    by : (o : Option Guard) → guard_after plain setup events ≡ o → option_map kept o ≡ Some (bodies, Some mark ∷ []) → Reached events bodies mark
    by None is e = cc
    by (Some g) is e =
        let k = same (kept g) (bodies, Some mark ∷ []) e in
        record { guard = g; reached = is; stored = ap (λ x. x.0) k; marked = ap (λ x. x.1) k }

-- there the rows agree where those of the mark do
agree_by : (a b : Rules) (bodies : List Body) (mark : Mark) → a.row bodies mark ≡ b.row bodies mark → (seats : List Seat)
    → map (λ s. s.mark) seats ≡ Some mark ∷ [] → map (in_force a bodies) seats ≡ map (in_force b bodies) seats
agree_by a b bodies mark e [] is = cc
agree_by a b bodies mark e (s ∷ []) is =
    ap (λ m. record { row = row_in_force a bodies m; pinned = s.pinned } ∷ []) (first s.mark (Some mark) is)
    ∙ ap (λ row. record { row = row; pinned = s.pinned } ∷ []) e
    ∙ ap (λ m. record { row = row_in_force b bodies m; pinned = s.pinned } ∷ []) (sym (first s.mark (Some mark) is))
  where
    first : (x y : Option Mark) → x ∷ [] ≡ y ∷ [] → x ≡ y
    first x y e = cc
agree_by a b bodies mark e (s ∷ t ∷ seats) is = cc

agree_at : (rules : Rules) (events : List Event) (bodies : List Body) (mark : Mark) (x : Reached events bodies mark)
    → rules.row bodies mark ≡ plain_row mark → Agree rules plain x.guard
agree_at rules events bodies mark x e =
    subst (λ bodies. map (in_force rules bodies) x.guard.seats ≡ map (in_force plain bodies) x.guard.seats) (sym x.stored)
    (agree_by rules plain bodies mark e x.guard.seats x.marked)

slots_same : (rules : Rules) (events : List Event) (g : Guard) → Same rules plain setup events → guard_after plain setup events ≡ Some g
    → Agree rules plain g → slots_seen rules events ≡ slots_seen plain events
slots_same rules events g same reached agree =
    ap (option_map (λ g. map (in_force rules (bodies_of g)) g.seats)) (same ∙ reached)
    ∙ ap Some agree
    ∙ ap (option_map (λ g. map (in_force plain (bodies_of g)) g.seats)) (sym reached)

-- ---- the run over the plain rows
plain_first_slot : slots_seen plain to_the_first_line ≡ the_slot row_inside false
unfolding digits
plain_first_slot = refl

plain_first_answer :
    seen plain to_the_first_answer
    ≡ Some (record { output = codes "1\n"; answers = Installed 2 ∷ NotOffered ∷ NotOffered ∷ []; pinned = true ∷ []; finish = None })
unfolding digits
plain_first_answer = refl

plain_second_slot : slots_seen plain to_the_first_answer ≡ the_slot row_inside true
unfolding digits
plain_second_slot = refl

plain_second_answer :
    seen plain to_the_second_answer
    ≡ Some (record { output = codes "1\n"; answers = Installed 2 ∷ refusal ∷ NotOffered ∷ []; pinned = true ∷ []; finish = None })
unfolding digits
plain_second_answer = refl

plain_third_slot : slots_seen plain to_the_third_line ≡ the_slot row_outside false
unfolding digits
plain_third_slot = refl

plain_third_answer :
    seen plain to_the_third_answer
    ≡ Some (record { output = codes "1\n2\ndone\n"; answers = Installed 2 ∷ refusal ∷ Installed 3 ∷ []; pinned = false ∷ []; finish = None })
unfolding digits
plain_third_answer = refl

plain_end :
    seen plain to_the_end
    ≡ Some (record {
      output = codes "1\n2\ndone\n10 20\n";
      answers = Installed 2 ∷ refusal ∷ Installed 3 ∷ [];
      pinned = false ∷ [];
      finish = Some (Finished (pos 0));
    })
unfolding digits
plain_end = refl

-- ---- the run over the rows of the effects
module _ (rules : Rules) (first : rules.row first_bodies after_f ≡ row_inside) (second : rules.row second_bodies after_f ≡ row_inside)
    (third : rules.row second_bodies after_end ≡ row_outside) where
  first_kept : Reached to_the_first_line first_bodies after_f
  first_kept = reached_by to_the_first_line first_bodies after_f at_first_line

  second_kept : Reached to_the_first_answer second_bodies after_f
  second_kept = reached_by to_the_first_answer second_bodies after_f at_first_answer

  third_kept : Reached to_the_third_line second_bodies after_end
  third_kept = reached_by to_the_third_line second_bodies after_end at_third_line

  first_agree : Agree rules plain first_kept.guard
  first_agree = agree_at rules to_the_first_line first_bodies after_f first_kept first

  second_agree : Agree rules plain second_kept.guard
  second_agree = agree_at rules to_the_first_answer second_bodies after_f second_kept second

  third_agree : Agree rules plain third_kept.guard
  third_agree = agree_at rules to_the_third_line second_bodies after_end third_kept third

  first_same : Same rules plain setup to_the_first_line
  first_same = moved_on rules plain setup [] to_the_first_line refl refl

  first_answered : Same rules plain setup to_the_first_answer
  first_answered = decided_on rules plain setup to_the_first_line 1 first_kept.guard first_same first_kept.reached first_agree

  second_answered : Same rules plain setup to_the_second_answer
  second_answered = decided_on rules plain setup to_the_first_answer 2 second_kept.guard first_answered second_kept.reached second_agree

  third_same : Same rules plain setup to_the_third_line
  third_same = moved_on rules plain setup to_the_second_answer (passing ++ calling ++ Move 0 ∷ passing ++ Move 0 ∷ []) refl second_answered

  third_answered : Same rules plain setup to_the_third_answer
  third_answered = decided_on rules plain setup to_the_third_line 3 third_kept.guard third_same third_kept.reached third_agree

  end_same : Same rules plain setup to_the_end
  end_same = moved_on rules plain setup to_the_third_answer (calling ++ calling ++ Move 0 ∷ Move 0 ∷ []) refl third_answered

  seen_same : (events : List Event) → Same rules plain setup events → seen rules events ≡ seen plain events
  seen_same events same = ap (option_map seen_of) same

  stays : KeepsItsVersion rules
  stays = record {
    first_slot = slots_same rules to_the_first_line first_kept.guard first_same first_kept.reached first_agree ∙ plain_first_slot;
    first_answer = seen_same to_the_first_answer first_answered ∙ plain_first_answer;
    second_slot = slots_same rules to_the_first_answer second_kept.guard first_answered second_kept.reached second_agree ∙ plain_second_slot;
    second_answer = seen_same to_the_second_answer second_answered ∙ plain_second_answer;
    third_slot = slots_same rules to_the_third_line third_kept.guard third_same third_kept.reached third_agree ∙ plain_third_slot;
    third_answer = seen_same to_the_third_answer third_answered ∙ plain_third_answer;
    end = seen_same to_the_end end_same ∙ plain_end;
  }

pub transaction_keeps_its_version : EachHasARow → OneRow → RowsGrow → TransactionKeepsItsVersion
transaction_keeps_its_version exists one grow rules rows =
    stays rules (one first_bodies after_f (rules.row first_bodies after_f) row_inside (rows first_bodies after_f) first_inside)
    (one second_bodies after_f (rules.row second_bodies after_f) row_inside (rows second_bodies after_f) (second_inside exists grow))
    (one second_bodies after_end (rules.row second_bodies after_end) row_outside (rows second_bodies after_end) (second_outside exists grow))
