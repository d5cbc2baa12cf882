use Rattle.std.proofs.Common.{◌∙◌, ap}
use Rattle.threaded_vm.proofs.Keeping.{stands}
use Rattle.threaded_vm.proofs.shared.Shared.preparing.Goals as goal

pub new-requires : goal.new-requires
new-requires g c = (
  c.type_bounds.send-E-Work,
  (
    c.type_bounds.send-E-Preparation,
    λ setup first at.
        let e = g.E.Engine in
        let going = ap (λ x. x.course) c.self.view_is ∙ c.requires.going in
        let now = stands e.is_at e.told e.faults g.O.Opening.opened _ c.self.invariant.0 going setup first at in
        c.in_ok-preparation.ensures.prepares setup now.after now.goes.there,
  ),
)
