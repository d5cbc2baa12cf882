use Rattle.std.proofs.Common.{◌≡◌, inl, inr, Some, refl, sym, ap, ◌∙◌, arith}
use Rattle.std.specs.Prelude.{slice_get}
use Rattle.std.proofs.lemmas.Bool.{true≢false, cases_eq}
use Rattle.std.proofs.lemmas.Option.{same_Some, slice_get-get_or}
use Rattle.rows_in_force.proofs.Entries.{entry_by_id, id_by_entry, without_entry, seen_some, seen_none}
use Rattle.rows_in_force.proofs.bodies.has_entry.Goals as goal
use Rattle.rows_in_force.proofs.bodies.has_entry.Goals.{else-index-via-then-index+else-is_some, else-index-via-else-index}

pub returns-then-is_some : goal.returns-then-is_some
returns-then-is_some c = λ names all store known.
    let bodies = c.args.bodies.now in
    let body = c.body-item.result in
    let first = seen_some c.first.result (sym c.is_some.ensures ∙ c.if-is_some.true) in (
      λ yes. entry_by_id names all bodies c.args.function store
          (record {
            place = c.loop-body.body-index;
            body = body;
            point = first.0;
            stored_at = slice_get-get_or bodies c.loop-body.body-index body c.loop-body-test.true ∙ ap Some (sym c.body-item.is);
            of_function = sym c.index.ensures.value ∙ c.if-index.true ∙ c.index-in-loop-body.ensures.value;
            first =
                ap (λ points. slice_get points 0) (sym c.deref.ensures.value) ∙ sym c.first.ensures.value ∙ first.1;
          }),
      λ e. refl,
    )

pub loop-body-preserved : goal.loop-body-preserved
loop-body-preserved c = λ i b before at of_function.
    let bodies = c.args.bodies.now in
    let body = c.body-item.result in
    let it : slice_get bodies c.loop-body.body-index ≡ Some body =
    slice_get-get_or bodies c.loop-body.body-index body c.loop-body-test.true ∙ ap Some (sym c.body-item.is) in
    elim (cases_eq i c.loop-body.body-index) [
      | inl same ↦
          let b_is : b ≡ body = same_Some b body (sym at ∙ ap (slice_get bodies) same ∙ it) in
          elim c.else-index.branch [
            | else-index-via-then-index+else-is_some w ↦
                ap (λ b. slice_get b.skeleton.points.items 0) b_is
                ∙ ap (λ points. slice_get points 0) (sym w.deref.ensures.value)
                ∙ sym w.first.ensures.value
                ∙ seen_none w.first.result (sym w.is_some.ensures ∙ w.if-is_some.false)
            | else-index-via-else-index w ↦
                absurd
                (w.if-index.false
                (c.index.ensures.value ∙ ap (λ b. b.function) (sym b_is) ∙ of_function ∙ sym c.index-in-loop-body.ensures.value))
          ]
      | inr other ↦ c.loop-body.invariant i b (omega (arith, before, other)) at of_function
    ]

pub returns : goal.returns
returns c = λ names all store known.
    let stored = c.args.bodies.now in
    let id = c.args.function in (
      λ yes. absurd (true≢false (sym yes)),
      λ e. absurd
          (without_entry stored id
          (λ i b within at of_function. c.loop-body.invariant i b (omega (arith, within, c.loop-body-test.false)) at of_function)
          (id_by_entry names all stored id store known e.0 e.1)),
    )
