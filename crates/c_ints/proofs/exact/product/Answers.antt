-- but for the widest unsigned kind the product is exact
use Rattle.std.proofs.Common.{◌*ℤ◌, refl}
use mir.Syntax.{w128}
use Rattle.std.proofs.lemmas.Int.{to_z-of_z}
use Rattle.c_ints.proofs.Ranges.{product_fits}
use Rattle.c_ints.proofs.exact.product.Goals as goal

pub returns-in_default : goal.returns-in_default
returns-in_default c =
    let whole = product_fits c.args.kind c.args.x c.args.y c.in_default.not-U64 c.requires.left c.requires.right in
    rw (to_z-of_z w128 c.args.x c.ranges.x, to_z-of_z w128 c.args.y c.ranges.y, to_z-of_z w128 (c.args.x *ℤ c.args.y) whole)
    (record { settles = refl; wraps = refl })
