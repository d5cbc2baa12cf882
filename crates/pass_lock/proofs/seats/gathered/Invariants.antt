use Rattle.std.proofs.Common.{◌≡◌, List, [], ◌++◌, map, All}
use Rattle.pass_lock.specs.declared.view.Stage.TheVariants.{Idle}
use Rattle.pass_lock.specs.Passes.{Known, IsFreeAt}
use Rattle.pass_lock.specs.Steps.{seated, claim_of}
use Rattle.pass_lock.proofs.seats.gathered.Given as goal

abbrev pub invariant-loop-pass : goal.invariant-loop-pass
invariant-loop-pass g l =
    (done : List (Known g.row.W-What.Denot)) × (l.fn.passes.items ≡ l.passes.items ++ done) × (l.all.table_id ≡ l.board.table_id)
    × (l.all.me ≡ (seated Idle (map claim_of done) l.all.me.0.makes, [])) × All (IsFreeAt l.board.table_id) l.passes.items

abbrev pub decreases-loop-pass : goal.decreases-loop-pass
decreases-loop-pass g l = goal.left-loop-pass g l
