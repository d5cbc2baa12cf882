use Rattle.std.proofs.Common.{sym, ap, ◌∙◌}
use Rattle.pass_lock.proofs.Making.{has_value, value_keeps}
use Rattle.pass_lock.proofs.lock.PassLock.close.Goals as goal

pub value_of-requires : goal.value_of-requires
value_of-requires g c = let v = c.close_with.ensures.values in (
  c.close_with.ensures.counts.1 ∙ c.self.invariant.1,
  v.1,
  has_value g.W.Told.history c.self.inside.table.shared.key c.gathered-seat.result.id c.gathered-seat.result.me.0 c.args.passes.items _ _ (ap (λ m. m.0) c.gathered-seat.ensures.1)
      (c.requires.all ∙ (sym (ap (λ l. l.passes) c.self.view_is) ∙ sym c.self.invariant.2)) v.2,
)

pub returns : goal.returns
returns g c = let v = c.close_with.ensures.values in
    value_keeps g.W.Told.history c.self.inside.table.shared.key c.gathered-seat.result.id c.gathered-seat.result.me.0 c.args.passes.items _ _ (ap (λ m. m.0) c.gathered-seat.ensures.1)
    (c.requires.all ∙ (sym (ap (λ l. l.passes) c.self.view_is) ∙ sym c.self.invariant.2)) v.2 c.value_of.result c.value_of.ensures
