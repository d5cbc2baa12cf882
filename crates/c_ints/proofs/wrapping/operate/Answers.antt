-- sums and differences of values of a kind are exact in 128 bits
use Rattle.std.proofs.Common.{◌∙◌, ap}
use Rattle.c_ints.specs.Number.{number, reduced}
use Rattle.c_ints.proofs.Ranges.{exact_sum, exact_difference, within}
use Rattle.c_ints.proofs.wrapping.operate.Goals as goal

pub returns-in-Add : goal.returns-in-Add
returns-in-Add c =
    rw c.in-Add.is (c.wrapped.ensures ∙ ap (λ z. number c.args.kind (reduced c.args.kind z))
    (exact_sum c.args.x c.args.y (within c.args.kind c.args.x c.requires.left) (within c.args.kind c.args.y c.requires.right)))

pub returns-in-Sub : goal.returns-in-Sub
returns-in-Sub c =
    rw c.in-Sub.is (c.wrapped-in-Sub.ensures ∙ ap (λ z. number c.args.kind (reduced c.args.kind z))
    (exact_difference c.args.x c.args.y (within c.args.kind c.args.x c.requires.left) (within c.args.kind c.args.y c.requires.right)))
