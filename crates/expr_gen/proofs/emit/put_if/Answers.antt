use Rattle.std.proofs.Common.{ap, sym}
use Rattle.std.proofs.lemmas.Result.{on_ok_weaker}
use Rattle.expr_gen.specs.Scope.{code_if}
use Rattle.expr_gen.proofs.Adding.{adds_as, adds_nothing}
use Rattle.expr_gen.proofs.emit.put_if.Goals as goal

pub returns-in-Some : goal.returns-in-Some
returns-in-Some c = on_ok_weaker c.put.result (λ h t. adds_as (ap (code_if t) (sym c.in-Some.is)) (h t)) c.put.ensures

pub returns-in-None : goal.returns-in-None
returns-in-None c = λ t. adds_as (ap (code_if t) (sym c.in-None.is)) (adds_nothing t c.args.code.now.items)
