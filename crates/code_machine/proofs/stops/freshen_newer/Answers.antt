use Rattle.std.proofs.Common.{◌≡◌, length, arith}
use Rattle.code_runs.specs.Layouts.{one_text}
use Rattle.code_machine.proofs.stops.freshen_newer.Goals as goal

pub returns-else-version-gt0-clause-freshens : goal.returns-else-version-gt0-clause-freshens
returns-else-version-gt0-clause-freshens c = λ t names texts text seen resolves stand last known numbers.
    let first : length texts ≡ 1 = omega (arith, last, c.version.ensures, c.if-version-gt0.false) in one_text first
