-- Each mark has a row.
use Rattle.std.proofs.Common.{ℕ, List, ◌∷◌, inl, inr, refl}
use Rattle.c_tree.specs.BareExpr.{Bytes}
use Rattle.c_semantics.specs.Store.{Body, Mark, Start, CheckInOf}
use Rattle.effects.specs.Sites.{Site}
use Rattle.effects.specs.Contextual.{Prior, Future}
use Rattle.effects.specs.Concrete.{Concrete}
use Rattle.effects.specs.Rows.{IsCheckIn, InPrior, InFuture, InConcrete, IsSet, IsRowOf}
use Rattle.effects.specs.Rows as rows
use Rattle.effects.specs.LeastLaws.{EachHasARow}
use Rattle.effects.proofs.Reachable.{Among}
use Rattle.effects.proofs.Decisions.{Decision, same_as, both, either, some_or_not, same_bytes}
use Rattle.effects.proofs.Points.{passes_is_point}
use Rattle.effects.proofs.StoreSites.{sites, point_is_among, occurring}
use Rattle.effects.proofs.PointDecisions.{check_in_or_not}
use Rattle.effects.proofs.PriorDecisions.{prior_or_not}
use Rattle.effects.proofs.FutureDecisions.{future_or_not}
use Rattle.effects.proofs.ConcreteDecisions.{concrete_or_not}
use Rattle.effects.proofs.CoverDecisions.{row_flows_or_not}
use Rattle.effects.proofs.EffectNames.{prior_occurs, future_occurs, concrete_occurs}
use Rattle.effects.proofs.SetsOfNames.{set_of}
use Rattle.effects.proofs.RowEquations.{From, Starts, RowFlows}
use Rattle.effects.proofs.MarkEquations.{OfCheckIn, prior_of_check_in, prior_of_start, future_of_check_in, future_of_start, concrete_of_check_in, concrete_of_start}

-- whether a name comes to the check-in of a mark
of_check_in_or_not : (bodies : List Body) (Own : Site → Bytes → Type 0) → ((p : Site) (z : Bytes) → Decision (Own p z))
    → (f : Bytes) (generation number : ℕ) (z : Bytes) → Decision (OfCheckIn bodies Own f generation number z)
of_check_in_or_not bodies Own decide f generation number z =
    same_as (λ s. record { site = s.0; is_check_in = s.1.0; comes = s.1.1 }) (λ x. (x.site, (x.is_check_in, x.comes)))
    (some_or_not (λ c. IsCheckIn bodies c f generation number × RowFlows bodies Own (From c) z) (sites bodies)
    (λ c. both (check_in_or_not bodies c f generation number) (row_flows_or_not bodies Own decide (From c) z))
    (λ c x. point_is_among bodies c (passes_is_point bodies c _ x.0.is_check_in)))

-- whether a name is in a set of the row of a mark
in_prior_or_not : (bodies : List Body) (mark : Mark) (z : Bytes) → Decision (InPrior bodies mark z)
in_prior_or_not bodies (Start f) z =
    let x = prior_of_start bodies f z in
    same_as x.1 x.0 (row_flows_or_not bodies (Prior bodies) (prior_or_not bodies) (Starts f) z)
in_prior_or_not bodies (CheckInOf f generation number) z =
    let x = prior_of_check_in bodies f generation number z in
    same_as x.1 x.0 (of_check_in_or_not bodies (Prior bodies) (prior_or_not bodies) f generation number z)

in_future_or_not : (bodies : List Body) (mark : Mark) (z : Bytes) → Decision (InFuture bodies mark z)
in_future_or_not bodies (Start f) z =
    let x = future_of_start bodies f z in
    same_as x.1 x.0 (row_flows_or_not bodies (Future bodies) (future_or_not bodies) (Starts f) z)
in_future_or_not bodies (CheckInOf f generation number) z =
    let x = future_of_check_in bodies f generation number z in
    same_as x.1 x.0 (of_check_in_or_not bodies (Future bodies) (future_or_not bodies) f generation number z)

in_concrete_or_not : (bodies : List Body) (mark : Mark) (z : Bytes) → Decision (InConcrete bodies mark z)
in_concrete_or_not bodies (Start f) z =
    let x = concrete_of_start bodies f z in
    same_as x.1 x.0
    (either (same_bytes f z) (row_flows_or_not bodies (Concrete bodies) (concrete_or_not bodies) (Starts f) z))
in_concrete_or_not bodies (CheckInOf f generation number) z =
    let x = concrete_of_check_in bodies f generation number z in
    same_as x.1 x.0 (of_check_in_or_not bodies (Concrete bodies) (concrete_or_not bodies) f generation number z)

-- the names that may be in a row: those that occur, and the function of a start
abbrev candidates : List Body → Mark → List Bytes
candidates bodies (Start f) = f ∷ occurring bodies
candidates bodies (CheckInOf f generation number) = occurring bodies

occurring_is_candidate : (bodies : List Body) (mark : Mark) (z : Bytes)
    → Among (occurring bodies) z → Among (candidates bodies mark) z
occurring_is_candidate bodies (Start f) z x = inr x
occurring_is_candidate bodies (CheckInOf f generation number) z x = x

concrete_is_candidate : (bodies : List Body) (mark : Mark) (z : Bytes)
    → InConcrete bodies mark z → Among (candidates bodies mark) z
concrete_is_candidate bodies _ _ (rows.entering f) = inl refl
concrete_is_candidate bodies _ _ (rows.InConcrete.covered mark p z k x) =
    occurring_is_candidate bodies mark z (concrete_occurs bodies p z x)

pub each_has_a_row : EachHasARow
each_has_a_row bodies mark =
    let a = set_of (InPrior bodies mark) (in_prior_or_not bodies mark) (candidates bodies mark)
    (λ z x. occurring_is_candidate bodies mark z (prior_occurs bodies x.site z x.prior)) in
    let b = set_of (InFuture bodies mark) (in_future_or_not bodies mark) (candidates bodies mark)
    (λ z x. occurring_is_candidate bodies mark z (future_occurs bodies x.site z x.future)) in
    let c = set_of (InConcrete bodies mark) (in_concrete_or_not bodies mark) (candidates bodies mark)
    (concrete_is_candidate bodies mark) in
    (record { prior = a.0; future = b.0; concrete = c.0 }, record { prior = a.1; future = b.1; concrete = c.1 })
