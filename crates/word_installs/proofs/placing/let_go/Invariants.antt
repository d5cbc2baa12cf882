use Rattle.std.proofs.Common.{◌≡◌, drop}
use Rattle.word_installs.specs.Prepared.{without_holders}
use Rattle.word_installs.proofs.placing.let_go.Given as goal

abbrev pub invariant-loop-n : goal.invariant-loop-n
invariant-loop-n l = without_holders (drop l.n-index l.gone) l.shared ≡ without_holders l.gone l.fn.shared
