use Rattle.std.proofs.Common.{◌≡◌, length, map, sym, ap, subst, ◌∙◌}
use Rattle.con_freeness.specs.Decisions.{HasKnownIds}
use Rattle.con_freeness.specs.Verdicts.{verdict_seen}
use Rattle.source_model.specs.Guards.{in_force}
use Rattle.offer_decision.proofs.NamesOfIds.{list_within}
use Rattle.offer_decision.proofs.Slots.{slots_are}
use Rattle.offer_decision.proofs.PinsSet.{pins_are}
use Rattle.offer_decision.proofs.verdict.tested.Goals as goal

pub returns-in-Admitted : goal.returns-in-Admitted
returns-in-Admitted c = λ rules bodies slots list other are table have own in_c in_i.
    let names = c.args.names.now in
    let seats = c.args.seats.now in
    let rows = c.args.in_force.now in
    let many : length seats ≡ 16 = c.type_inv.seats in
    let as_many : length rows ≡ 16 = c.type_inv.in_force in
    let set_is = list_within names c.args.changed.now c.within-changed.result list c.within-changed.ensures in_c in
    let other_is = list_within names c.args.interface.now c.within-interface.result other c.within-interface.ensures in_i in
    record {
      verdict_is =
          sym (ap (verdict_seen names) (sym c.in-Admitted.is)
          ∙ c.decide.ensures.verdict (map (in_force rules bodies) slots) list other table
          (slots_are rules names bodies seats slots rows c.pins.result are many as_many own have c.pins.ensures) set_is other_is);
      pins_are = λ w within.
          pins_are rules names bodies seats slots rows c.within-changed.result list c.pins_after.result w are table many as_many
          c.pins_after.type_inv.1.0.1 own have set_is (λ row id both. ((c.within-changed.ensures id).0 both.0).1) c.pins_after.ensures within;
    }

pub returns-in-Refused : goal.returns-in-Refused
returns-in-Refused c = λ rules bodies slots list other are table have own in_c in_i.
    let names = c.args.names.now in
    let seats = c.args.seats.now in
    let rows = c.args.in_force.now in
    let many : length seats ≡ 16 = c.type_inv.seats in
    let as_many : length rows ≡ 16 = c.type_inv.in_force in
    let set_is = list_within names c.args.changed.now c.within-changed.result list c.within-changed.ensures in_c in
    let other_is = list_within names c.args.interface.now c.within-interface.result other c.within-interface.ensures in_i in
    record {
      verdict_is =
          sym (ap (verdict_seen names) (sym c.in-Refused.is)
          ∙ c.decide.ensures.verdict (map (in_force rules bodies) slots) list other table
          (slots_are rules names bodies seats slots rows c.pins.result are many as_many own have c.pins.ensures) set_is other_is);
      known = subst (HasKnownIds names) c.in-Refused.is c.decide.ensures.known;
    }
