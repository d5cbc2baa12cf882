use Rattle.std.proofs.Common.{Option, None, Some}
use Rattle.std.specs.Prelude.{IfNone}
use Rattle.plain_engine.proofs.engine.PlainEngine.offered.Goals as goal

pub returns-clause-offered : goal.returns-clause-offered
returns-clause-offered g c = λ setup x at. c.offered.ensures.offered setup x at.state

if_none_weaker : {A P Q : Type 0} (o : Option A) → (P → Q) → IfNone o P → IfNone o Q
if_none_weaker None f h = f h
if_none_weaker (Some x) f h = h

pub returns-clause-none : goal.returns-clause-none
returns-clause-none g c = if_none_weaker c.offered.result (λ none setup x at. none setup x at.state) c.offered.ensures.none
