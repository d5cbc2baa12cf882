use Rattle.std.proofs.Common.{drop}
use Rattle.reported_runs.proofs.Offered.{IsReading}
use Rattle.reported_runs.proofs.offers.offers_in.Given as goal

-- the offers so far were read, and the others are left
abbrev pub invariant-loop-offer : goal.invariant-loop-offer
invariant-loop-offer g l =
    IsReading (g.F.Files.content l.initial.files) (g.F.Files.faults l.initial.files) l.offers (drop l.offer-index l.offers)
    (g.F.Files.content l.files) (g.F.Files.faults l.files) l.read
