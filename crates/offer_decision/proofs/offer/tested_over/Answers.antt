use Rattle.std.proofs.Common.{List, sym, subst}
use Rattle.code_store.specs.declared.body.StoredBody.{StoredBody}
use Rattle.code_store.specs.Stored.{IsStoreOf}
use Rattle.offer_decision.proofs.offer.tested_over.Goals as goal

pub returns : goal.returns
returns c = λ over rules bodies slots list other are store own in_c in_i.
    let names = c.args.names.now in
    c.tested.ensures rules bodies slots list other are store.table
    (c.rows_of_seats-in_force.ensures names bodies
    (subst {A = List StoredBody} (IsStoreOf names bodies) (sym c.bodies.ensures.bodies) store) (over names bodies store))
    own in_c in_i
