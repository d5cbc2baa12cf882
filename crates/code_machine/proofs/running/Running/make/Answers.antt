use Rattle.std.proofs.Common.{Result, Ok, Err}
use Rattle.std.specs.Prelude.{IfOk}
use Rattle.std.specs.declared.alloc.AllocError.{AllocError}
use Rattle.code_machine.specs.declared.stops.Outcome.{Outcome}
use Rattle.code_machine.proofs.running.Running.make.Goals as goal

on_ok : {P Q : Outcome → Type 0} (r : Result Outcome AllocError) → ((o : Outcome) → P o → Q o) → IfOk r P → IfOk r Q
on_ok (Ok o) f h = f o h
on_ok (Err e) f h = tt

pub returns-in-Begin-clause-made : goal.returns-in-Begin-clause-made
returns-in-Begin-clause-made c = λ all versions code well.
    on_ok c.begin.result (λ o h. h c.args.slot c.args.shared.now c.args.output.now.items) (c.begin.ensures.made all versions code)
