use Rattle.std.proofs.Common.{◌≡◌, ◌&&◌, map, sym, ap, ◌∙◌}
use Rattle.std.specs.Prelude.{◌==◌, max, nat_le, if◌then◌else◌}
use Rattle.std.proofs.lemmas.List.{take_all}
use Rattle.name_sets.specs.Texts.{text_of}
use Rattle.code_store.specs.Stored.{meant_body}
use Rattle.c_semantics.specs.Store as meant
use Rattle.rows_in_force.proofs.BodiesByIds.{generation_more, generation_in, generation_of_another, generation_too_late, with_nothing}
use Rattle.rows_in_force.proofs.bodies.generation_by.Goals as goal
use Rattle.rows_in_force.proofs.bodies.generation_by.Goals.{then-index+then-body-version, else-index, else-index-via-then-index+else-body-version, else-index-via-else-index}

pub loop-body-preserved : goal.loop-body-preserved
loop-body-preserved c = λ names table all known.
    let body = c.body-item.result in
    let id = c.args.function in
    let version = c.args.version in
    let old = c.loop-body.generation in
    let new = c.if-index.generation in
    let own = if body.function == id && nat_le body.generation version then body.generation else 0 in
    let is_new : new ≡ max old own =
    elim c.if-index.branch [
      | then-index+then-body-version w ↦
          let same : body.function ≡ id = sym c.index.ensures.value ∙ w.if-index.true ∙ c.index-in-loop-body.ensures.value in
          w.generation-is ∙ w.max-generation.ensures
          ∙ ap (max old) (sym (generation_in body.function id body.generation version same w.if-body-version.true))
      | else-index w ↦
          w.generation-is
          ∙ with_nothing old own
          (elim w.else-index.branch [
            | else-index-via-then-index+else-body-version v ↦ generation_too_late body.function id body.generation version v.if-body-version.false
            | else-index-via-else-index v ↦
                generation_of_another body.function id body.generation version
                (λ same. v.if-index.false (c.index.ensures.value ∙ same ∙ sym c.index-in-loop-body.ensures.value))
          ])
    ] in
    generation_more names c.args.bodies.now c.loop-body.body-index body id version old new table all known c.loop-body-test.true
    c.body-item.is (c.loop-body.invariant names table all known) is_new

pub returns : goal.returns
returns c = λ names all store known.
    c.loop-body.invariant names store.table store.named known
    ∙ ap (λ bs. meant.generation_by (text_of names c.args.function) c.args.version (map (meant_body names) bs))
    (take_all c.loop-body.body-index c.args.bodies.now c.loop-body-test.false)
    ∙ ap (meant.generation_by (text_of names c.args.function) c.args.version) store.meaning
