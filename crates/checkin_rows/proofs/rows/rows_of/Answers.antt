use Rattle.std.proofs.Common.{◌≡◌, [], map, length, ap, subst, ◌∙◌, arith}
use Rattle.checkin_rows.specs.Marks.{entries_of, with_marks}
use Rattle.checkin_rows.specs.Steps.{AreRowsOfMarks, AreKept}
use Rattle.checkin_rows.proofs.MarkCounts.{few_keys}
use Rattle.checkin_rows.proofs.MarkLemmas.{marks_of_entries}
use Rattle.checkin_rows.proofs.RowTheorem.{rows_of_store}
use Rattle.checkin_rows.proofs.rows.rows_of.Goals as goal

pub returns-clause-rows : goal.returns-clause-rows
returns-clause-rows c =
    let entries : c.in_ok-entries.entries.items ≡ entries_of c.of-nodes.result.points c.of-nodes.result.names c.args.flow.now.points c.args.flow.now.points =
    c.in_ok-entries.ensures ∙ ap (λ xs. entries_of c.of-nodes.result.points c.of-nodes.result.names xs xs) c.points.ensures in
    λ names bodies is_flow are_effects.
    rows_of_store c.in_ok-sets.sets c.in_ok-rows.rows.items _ (record { is_flow = is_flow; numbers = c.of-nodes.ensures }) are_effects
    c.in_ok-sets.ensures.prior c.in_ok-sets.ensures.future c.in_ok-sets.ensures.concrete
    (c.in_ok-marks.ensures.marks ∙ ap (λ es. with_marks [] (map (λ e. e.mark) es)) (c.deref.ensures.value ∙ entries))
    (subst (λ es. AreRowsOfMarks es c.in_ok-sets.sets c.in_ok-marks.marks.keys c.in_ok-rows.rows.items) (c.deref-2.ensures.value ∙ entries) c.in_ok-rows.ensures)
    (subst (λ rows. AreKept rows c.in_ok-index.index.items c.in_ok-index.kept.keys) c.deref-3.ensures.value c.in_ok-index.ensures.kept)
    c.empty_row.ensures

pub returns-clause-numbers : goal.returns-clause-numbers
returns-clause-numbers c =
    c.in_ok-marks.ensures.marks
    ∙ ap (λ es. with_marks [] (map (λ e. e.mark) es))
    (c.deref.ensures.value ∙ c.in_ok-entries.ensures ∙ ap (λ xs. entries_of c.of-nodes.result.points c.of-nodes.result.names xs xs) c.points.ensures)
    ∙ marks_of_entries c.of-nodes.result.points c.of-nodes.result.names c.args.flow.now.points

pub keep-requires : goal.keep-requires
keep-requires c =
    let points = c.of-nodes.result.points in
    let ids = c.of-nodes.result.names in
    let xs = c.args.flow.now.points in
    let entries : c.deref.result.now ≡ entries_of points ids xs xs =
    c.deref.ensures.value ∙ c.in_ok-entries.ensures ∙ ap (λ xs. entries_of points ids xs xs) c.points.ensures in
    let few = few_keys points ids xs _ _ c.in_ok-marks.ensures.marks entries c.of-nodes.ensures.known c.of-nodes.result.few c.requires in
    let many = c.in_ok-rows.ensures.many in
    let same = ap length c.deref-3.ensures.value in
    omega (arith, few, many, same)

pub invariant_of-result : goal.invariant_of-result
invariant_of-result c =
    let points = c.of-nodes.result.points in
    let ids = c.of-nodes.result.names in
    let xs = c.args.flow.now.points in
    let entries : c.deref.result.now ≡ entries_of points ids xs xs =
    c.deref.ensures.value ∙ c.in_ok-entries.ensures ∙ ap (λ xs. entries_of points ids xs xs) c.points.ensures in
    few_keys points ids xs _ _ c.in_ok-marks.ensures.marks entries c.of-nodes.ensures.known c.of-nodes.result.few c.requires
