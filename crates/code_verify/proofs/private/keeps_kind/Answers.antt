use Rattle.std.proofs.Common.{◌∙◌}
use Rattle.code_verify.proofs.Below.{keeps_some, keeps_none}
use Rattle.code_verify.proofs.private.keeps_kind.Goals as goal

pub returns-in-Some : goal.returns-in-Some
returns-in-Some c = c.same_kind.ensures ∙ keeps_some c.args.number c.args.kind c.in-Some.found c.args.variables.now c.in-Some.ensures

pub returns-in-None : goal.returns-in-None
returns-in-None c = keeps_none c.args.number c.args.kind c.args.variables.now c.in-None.ensures
