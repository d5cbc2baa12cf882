use Rattle.std.proofs.Common.{◌≡◌, ◌+◌, Some, map, drop, sym, ap, ◌∙◌}
use Rattle.std.specs.Prelude.{if◌then◌else◌}
use Rattle.std.proofs.Math.ListN.{drop_of_length-le}
use Rattle.name_sets.specs.Texts.{text_of}
use Rattle.c_semantics.specs.Store.{Body}
use Rattle.c_semantics.specs.Store as meant
use Rattle.code_store.specs.Stored.{meant_body}
use Rattle.rows_in_force.proofs.BodiesByIds.{body_from, is_body, is_of_another, is_of_another_version}
use Rattle.rows_in_force.proofs.bodies.body_in.Goals as goal
use Rattle.rows_in_force.proofs.bodies.body_in.Goals.{else-index-via-then-index+else-body-generation, else-index-via-else-index}

pub returns-then-body-generation : goal.returns-then-body-generation
returns-then-body-generation c = λ names all store known.
    let body = c.body-item.result in
    let id = c.args.function in
    let generation = c.args.generation in
    let rest = meant.body_in (map (meant_body names) (drop (c.loop-body.body-index + 1) c.args.bodies.now)) (text_of names id) generation in
    let same : body.function ≡ id = sym c.index.ensures.value ∙ c.if-index.true ∙ c.index-in-loop-body.ensures.value in
    sym
    (ap (λ bs. meant.body_in bs (text_of names id) generation) (sym store.meaning)
    ∙ c.loop-body.invariant names store.table store.named known
    ∙ body_from names c.args.bodies.now c.loop-body.body-index body id generation store.table store.named known
    c.loop-body-test.true c.body-item.is
    ∙ ap (λ t. if t then Some (meant_body names body) else rest)
    (is_body body.function id body.generation generation same c.if-body-generation.true))

pub loop-body-preserved : goal.loop-body-preserved
loop-body-preserved c = λ names table all known.
    let body = c.body-item.result in
    let id = c.args.function in
    let generation = c.args.generation in
    let rest = meant.body_in (map (meant_body names) (drop (c.loop-body.body-index + 1) c.args.bodies.now)) (text_of names id) generation in
    c.loop-body.invariant names table all known
    ∙ body_from names c.args.bodies.now c.loop-body.body-index body id generation table all known c.loop-body-test.true
    c.body-item.is
    ∙ ap (λ t. if t then Some (meant_body names body) else rest)
    (elim c.else-index.branch [
      | else-index-via-then-index+else-body-generation w ↦
          is_of_another_version body.function id body.generation generation w.if-body-generation.false
      | else-index-via-else-index w ↦
          is_of_another body.function id body.generation generation
          (λ same. w.if-index.false (c.index.ensures.value ∙ same ∙ sym c.index-in-loop-body.ensures.value))
    ])

pub returns : goal.returns
returns c = λ names all store known.
    sym
    (ap (λ bs. meant.body_in bs (text_of names c.args.function) c.args.generation) (sym store.meaning)
    ∙ c.loop-body.invariant names store.table store.named known
    ∙ ap (λ bs. meant.body_in (map (meant_body names) bs) (text_of names c.args.function) c.args.generation)
    (drop_of_length-le c.args.bodies.now c.loop-body-test.false))
