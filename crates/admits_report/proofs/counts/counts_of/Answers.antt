use Rattle.std.proofs.Common.{length, ap, ◌∙◌, arith}
use Rattle.std.specs.Prelude.{count_by}
use Rattle.std.specs.List.{flat_map}
use Rattle.std.specs.Option.{is_none}
use Rattle.std.proofs.lemmas.List.{take_all}
use Rattle.admits_report.specs.Shown.{ids_of}
use Rattle.admits_report.proofs.Counted.{parts_more, lengths_more}
use Rattle.admits_report.proofs.counts.counts_of.Goals as goal

pub loop-function-preserved : goal.loop-function-preserved
loop-function-preserved c = (
  parts_more is_none ids_of c.args.functions.now c.loop-function.function-index c.function-item.result _ _ c.loop-function-test.true
      c.function-item.is c.loop-function.invariant.0 c.add_function.ensures.admitted,
  lengths_more ids_of c.args.functions.now c.loop-function.function-index c.function-item.result _ _ c.loop-function-test.true
      c.function-item.is c.loop-function.invariant.1 c.add_function.ensures.all,
  grind (arith, c.add_function.ensures.fewer, c.loop-function.invariant.2),
  grind (arith, c.add_function.ensures.few, c.loop-function.invariant.3),
)

pub returns-clause-admitted : goal.returns-clause-admitted
returns-clause-admitted c =
    c.loop-function.invariant.0
    ∙ ap (λ fs. count_by is_none (flat_map ids_of fs)) (take_all c.loop-function.function-index c.args.functions.now c.loop-function-test.false)

pub returns-clause-all : goal.returns-clause-all
returns-clause-all c =
    c.loop-function.invariant.1
    ∙ ap (λ fs. length (flat_map ids_of fs)) (take_all c.loop-function.function-index c.args.functions.now c.loop-function-test.false)
