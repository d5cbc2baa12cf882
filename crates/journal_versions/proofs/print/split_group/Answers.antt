use Rattle.std.proofs.Common.{◌≡◌, ◌<◌, ℕ, List, ◌∷◌, get_or, true, false, sym, ap, ◌∙◌, arith, length}
use Rattle.run_types.specs.declared.run.Event.{Event}
use Rattle.run_types.specs.declared.run.Event.TheVariants.{Move}
use Rattle.journal_versions.specs.Journals.{groups, is_same_move}
use Rattle.journal_versions.proofs.Groups.{all_counted, counted_more, moves_itself, rest_of}
use Rattle.journal_versions.proofs.print.split_group.Goals as goal
use Rattle.journal_versions.proofs.print.split_group.Goals.{then-loop-times-test+else-is_same_move, else-loop-times-test}

pub loop-times-preserved : goal.loop-times-preserved
loop-times-preserved c =
    let first : Event = get_or c.args.events.now 0 (Move 0) in
    let next : Event = get_or c.args.events.now c.loop-times.times (Move 0) in
    let same : is_same_move first next ≡ true = sym c.is_same_move.ensures ∙ c.if-is_same_move.true in
    record {
      some = omega arith;
      within = omega arith;
      so_far = counted_more c.loop-times.times first c.args.events.now (Move 0) (omega arith) same c.loop-times.invariant.so_far;
      move = λ more. moves_itself first next same;
    }

pub returns-clause-groups : goal.returns-clause-groups
returns-clause-groups c =
    let events : List Event = c.args.events.now in
    let first : Event = get_or events 0 (Move 0) in
    let times : ℕ = c.loop-times.times in
    let inv = c.loop-times.invariant in
    let other : times < length events → is_same_move first (get_or events times (Move 0)) ≡ false =
    elim c.loop-times-test.branch [
      | then-loop-times-test+else-is_same_move w ↦ λ within. sym w.is_same_move.ensures ∙ w.if-is_same_move.false
      | else-loop-times-test w ↦ λ within. absurd (omega (arith, within))
    ] in
    all_counted times first events (Move 0) inv.some inv.move other inv.so_far
    ∙ ap (λ es. (first, times) ∷ groups es) (sym (rest_of events times))
