use Rattle.std.proofs.Common.{sym, ap, ◌∙◌}
use Rattle.std.specs.Prelude.{is_ok}
use Rattle.std.proofs.lemmas.Bool.{true≢false}
use Rattle.compiled_run.proofs.machine.CompiledRunMachine.step.Goals as goal

pub returns-in-Err-clause-lasts : goal.returns-in-Err-clause-lasts
returns-in-Err-clause-lasts c = λ n l. absurd (true≢false (sym (c.make_move.ensures.lasts n l).0 ∙ ap is_ok c.in-Err.is))
