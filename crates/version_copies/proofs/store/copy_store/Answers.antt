use Rattle.std.proofs.Common.{subst}
use Rattle.version_copies.specs.SameBodies.{HaveSameBodies}
use Rattle.version_copies.proofs.SameContents.{copies_fit}
use Rattle.version_copies.proofs.store.copy_store.Goals as goal

pub add_all-requires : goal.add_all-requires
add_all-requires c =
    let copies = c.in_ok-copies.copies.items in
    copies_fit c.args.store.now copies c.new-copy.result
    (subst (λ bodies. HaveSameBodies bodies copies) c.bodies.ensures.bodies c.in_ok-copies.ensures)
    c.new-copy.ensures.none c.bodies.ensures.check_ins c.bodies.ensures.tokens
