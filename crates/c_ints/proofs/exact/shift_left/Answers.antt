-- what is shifted isn't negative, and the exact product fits 128 bits
use Rattle.std.proofs.Common.{◌≡◌, ◌*ℤ◌, int_lt, pos, rules, ap, sym, ◌∙◌, true, false}
use mir.Syntax.{w128}
use mir.Val.{SFits}
use Rattle.std.specs.Int.{is_negative}
use Rattle.std.proofs.lemmas.Int.{to_z-of_z}
use Rattle.c_ints.specs.Arithmetic.{is_count, power, settled}
use Rattle.c_ints.proofs.Ranges.{abs_between, shifted_fits}
use Rattle.c_ints.proofs.exact.shift_left.Goals as goal
use Rattle.c_ints.proofs.exact.shift_left.Goals.{After-power_of_two}

fit : (c : After-power_of_two) → SFits w128 (c.args.x *ℤ c.power_of_two.result)
fit c =
    shifted_fits c.args.kind c.args.x c.power_of_two.result c.requires
    (abs_between c.power_of_two.result _ c.power_of_two.ensures.positive c.power_of_two.ensures.bound)

pub overflow_mul-x : goal.overflow_mul-x
overflow_mul-x c =
    let factor : SFits w128 c.power_of_two.result = search rules in
    rw (to_z-of_z w128 c.args.x c.ranges.x, to_z-of_z w128 c.power_of_two.result factor) (fit c)

pub returns : goal.returns
returns c =
    let factor : SFits w128 c.power_of_two.result = search rules in
    let count = to_z-of_z w128 c.args.count c.ranges.count in
    let counts : is_count c.args.kind c.args.count ≡ true =
    ap (is_count c.args.kind) (sym count) ∙ sym c.is_count.ensures ∙ c.if-not-is_count.false in
    let natural : is_negative c.args.x ≡ false =
    ap (λ z. int_lt z (pos 0)) (sym (to_z-of_z w128 c.args.x c.ranges.x)) ∙ c.if-x-lt0.false in
    let times : c.args.x *ℤ c.power_of_two.result ≡ c.args.x *ℤ power c.args.count =
    ap (λ z. c.args.x *ℤ z) (c.power_of_two.ensures.value ∙ ap power count) in
    rw (counts, natural)
    (c.settle.ensures
    ∙ rw (to_z-of_z w128 c.args.x c.ranges.x, to_z-of_z w128 c.power_of_two.result factor, to_z-of_z w128 (c.args.x *ℤ c.power_of_two.result) (fit (goal.at.returns c).After-power_of_two))
    (ap (settled c.args.kind) times))
