use Rattle.std.proofs.Common.{rules, ◌≡◌, ◌≤◌, ◌+◌, ◌++◌, ℕ, List, length, length-append, replicate, refl, sym, ap, ◌∙◌, arith, true, false}
use Rattle.std.proofs.lemmas.List.{length-replicate}
use Rattle.run_types.specs.declared.run.Event.{Event}
use Rattle.journal_versions.specs.Journals.{events_from, is_comment, lines, most_events}
use Rattle.journal_versions.proofs.Found.{next_comment, next_group, resized}
use Rattle.journal_versions.proofs.read.read_lines.Goals as goal
use Rattle.journal_versions.proofs.read.read_lines.Goals.{then-not-is_comment+in-Some+else-all+else-is_err, else-not-is_comment}

pub loop-rest-preserved : goal.loop-rest-preserved
loop-rest-preserved c =
    elim c.if-not-is_comment.branch [
      | then-not-is_comment+in-Some+else-all+else-is_err w ↦
          let items : List (ℕ × Event) = c.loop-rest.events.items in
          let n : ℕ = c.loop-rest.number in
          let plain : is_comment c.split_line.result.0.now ≡ false = search rules in
          let new : c.if-not-is_comment.events.items ≡ items ++ replicate w.in-Some.times (n, w.in-Some.event) =
          rw w.events-is (resized w.resize.result items w.resize.new.self.items w.len.result c.loop-rest.events.len w.in-Some.times
          (n, w.in-Some.event) (search rules) (search rules) (search rules) w.resize.ensures.items) in
          let fits : length items + w.in-Some.times ≤ most_events = omega arith in
          let count : length c.if-not-is_comment.events.items ≡ length items + w.in-Some.times =
          ap length new ∙ omega (
            arith,
            length-append items (replicate w.in-Some.times (n, w.in-Some.event)),
            length-replicate {A = ℕ × Event} w.in-Some.times (n, w.in-Some.event),
          ) in
          record {
            counted = omega arith;
            few = omega (arith, count, fits);
            so_far = next_group c.args.form items c.if-not-is_comment.events.items n c.split_line.result.0.now (lines c.loop-rest.rest.now)
                (lines c.split_line.result.1.now) w.in-Some.event w.in-Some.times (events_from c.args.form 2 0 (lines c.args.text.now))
                c.loop-rest.invariant.so_far c.split_line.ensures.lines plain (sym w.group_of.ensures ∙ w.in-Some.is) fits new;
          }
      | else-not-is_comment w ↦
          let items : List (ℕ × Event) = c.loop-rest.events.items in
          let comment : is_comment c.split_line.result.0.now ≡ true = search rules in
          let same : c.if-not-is_comment.events.items ≡ items = rw w.events-is refl in
          record {
            counted = omega arith;
            few = omega (arith, ap length same);
            so_far = next_comment c.args.form items c.if-not-is_comment.events.items c.loop-rest.number c.split_line.result.0.now
                (lines c.loop-rest.rest.now) (lines c.split_line.result.1.now) (events_from c.args.form 2 0 (lines c.args.text.now))
                c.loop-rest.invariant.so_far c.split_line.ensures.lines comment same;
          }
    ]
