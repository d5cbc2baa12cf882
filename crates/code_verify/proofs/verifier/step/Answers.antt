use Rattle.std.proofs.Common.{◌≡◌, ◌≤◌, ◌<◌, Some, None, length, vec_len, slice_get, option_map, ap, sym, ◌∙◌, arith}
use Rattle.std.proofs.lemmas.List.{length-map, length-reverse}
use Rattle.std.proofs.lemmas.Result.{IfOk-weaker}
use Rattle.bytecode.specs.Seen.{instruction_of, code_of}
use Rattle.code_kinds.specs.WellFormed.{deepest}
use Rattle.code_verify.specs.Seen.{stack_of, shape_of, shapes_of, keeps_of, trees_of, function_code}
use Rattle.code_verify.specs.Ways.{ways_of}
use Rattle.code_verify.proofs.Following.{none_left, step_on, step_lacks, step_deep}
use Rattle.code_verify.proofs.verifier.step.Goals as goal

pub returns-in_default-2-clause-follows : goal.returns-in_default-2-clause-follows
returns-in_default-2-clause-follows c =
    let t = trees_of c.args.source.now in
    let place = c.args.place in
    step_lacks (function_code c.args.source.now c.args.body.now) (keeps_of c.args.keeps.now) place (instruction_of t c.instruction_at-instr.result)
    (shape_of c.in-Some.shape.now) (shape_of c.in_ok-copy.copy) (shapes_of c.args.known.now.items)
    (ap (λ x. slice_get (code_of t x) place) (sym c.as_slice-2.ensures.value) ∙ c.instruction_at-instr.ensures t)
    (sym (c.in-Some.ensures ∙ ap (λ x. shapes_of x place) c.as_slice.ensures.value))
    c.in_ok-copy.ensures
    (sym (ap (option_map shape_of) (none_left c.in_ok-left.field-0 c.in_default-2.not-Some)) ∙ c.in_ok-left.ensures)

pub returns-then-len-gt-DEEPEST-clause-follows : goal.returns-then-len-gt-DEEPEST-clause-follows
returns-then-len-gt-DEEPEST-clause-follows c =
    let t = trees_of c.args.source.now in
    let place = c.args.place in
    let left = c.in-Some-2.left in
    let deep : deepest < length (stack_of left.stack.items) =
    omega (arith, length-reverse left.stack.items, left.stack.ok.0, c.len.ensures, c.if-len-gt-DEEPEST.true) in
    step_deep (function_code c.args.source.now c.args.body.now) (keeps_of c.args.keeps.now) place (instruction_of t c.instruction_at-instr.result)
    (shape_of c.in-Some.shape.now) (shape_of c.in_ok-copy.copy) (shape_of left) (shapes_of c.args.known.now.items)
    (ap (λ x. slice_get (code_of t x) place) (sym c.as_slice-2.ensures.value) ∙ c.instruction_at-instr.ensures t)
    (sym (c.in-Some.ensures ∙ ap (λ x. shapes_of x place) c.as_slice.ensures.value))
    c.in_ok-copy.ensures
    (sym (ap (option_map shape_of) c.in-Some-2.is) ∙ c.in_ok-left.ensures)
    deep

pub returns-clause-follows : goal.returns-clause-follows
returns-clause-follows c =
    let t = trees_of c.args.source.now in
    let place = c.args.place in
    let left = c.in-Some-2.left in
    let shallow : length (stack_of left.stack.items) ≤ deepest =
    omega (arith, length-reverse left.stack.items, left.stack.ok.0, c.len.ensures, c.if-len-gt-DEEPEST.false) in
    IfOk-weaker c.carry_all.result _ _
    (λ fine h.
    step_on (function_code c.args.source.now c.args.body.now) (keeps_of c.args.keeps.now) place (vec_len c.args.known.now)
    (instruction_of t c.instruction_at-instr.result) (shape_of c.in-Some.shape.now) (shape_of c.in_ok-copy.copy) (shape_of left)
    (ways_of place c.ways_from.result) (shapes_of c.args.known.now.items) _ fine
    (ap (λ x. slice_get (code_of t x) place) (sym c.as_slice-2.ensures.value) ∙ c.instruction_at-instr.ensures t)
    (sym (c.in-Some.ensures ∙ ap (λ x. shapes_of x place) c.as_slice.ensures.value))
    c.in_ok-copy.ensures
    (sym (ap (option_map shape_of) c.in-Some-2.is) ∙ c.in_ok-left.ensures)
    shallow (c.ways_from.ensures t place)
    (c.requires.places ∙ c.args.body.now.code.ok.0 ∙ sym (length-map c.args.body.now.code.items (instruction_of t))) h)
    c.carry_all.ensures.carries
