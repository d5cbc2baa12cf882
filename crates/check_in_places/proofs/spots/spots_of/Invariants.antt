use Rattle.std.proofs.Common.{◌≡◌, ◌≤◌, ℕ, List, length, map}
use Rattle.std.specs.Prelude.{All}
use Rattle.skeletons.specs.Meaning.{meant}
use Rattle.check_in_places.specs.CheckIns.{check_ins_below}
use Rattle.check_in_places.specs.Bodies.{shown, IsCounted, IsSpotOf}
use Rattle.check_in_places.proofs.spots.spots_of.Given as goal

-- the check-ins among the points so far, each of which knows how many come before it
abbrev pub invariant-loop-number : goal.invariant-loop-number
invariant-loop-number l =
    ((names : List (List ℕ)) → map shown l.spots.items ≡ check_ins_below (meant names l.skeleton) l.places l.number)
    × All (IsSpotOf l.first) l.spots.items
    × ((names : List (List ℕ)) → All (IsCounted (meant names l.skeleton)) l.spots.items)
    × (length l.spots.items ≤ l.number)
