use Rattle.std.proofs.Common.{◌≡◌, ◌∙◌, Bool, true, false, ap, refl, sym}
use Rattle.std.specs.Prelude.{not}
use Rattle.dsu_runs.proofs.Standing.{stuck_in_turn}
use Rattle.dsu_runs.proofs.ending.is_stuck.Goals as goal

twice : (b : Bool) → b ≡ not (not b)
twice true = refl
twice false = refl

pub returns : goal.returns
returns g c = λ asks setup x at going same.
    twice c.is_none.result
    ∙ ap not (sym c.is_none.ensures)
    ∙ stuck_in_turn x c.next_act.result same (c.next_act.ensures asks setup x at going same)
