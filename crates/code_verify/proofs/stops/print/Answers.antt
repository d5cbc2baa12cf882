use Rattle.std.proofs.Common.{◌≡◌, [], ◌∷◌, Option, Some, length, option_map, ap, sym, ◌∙◌, arith}
use Rattle.c_format.specs.declared.reading.Reading.TheVariants.{Text}
use Rattle.c_format.specs.Formats.{kinds}
use Rattle.code_kinds.specs.declared.kind.WordKind.TheVariants.{Integer}
use Rattle.code_kinds.specs.StopKinds.{Words}
use Rattle.code_verify.specs.Seen.{stack_of}
use Rattle.code_verify.proofs.Taking.{printed}
use Rattle.code_verify.proofs.stops.print.Goals as goal

pub returns-in-None : goal.returns-in-None
returns-in-None c =
    let o = kinds Text c.args.format.now in
    let go : Words → Option Words = λ under. Some (Integer ∷ under) in
    let same : c.in-Some.taken ≡ c.args.many = omega arith in
    sym (c.in-None.ensures go)
    ∙ printed o c.args.many (stack_of c.args.stack.items) go
    (ap Some (sym same) ∙ c.in-Some.ensures ∙ ap (λ b. option_map length (kinds Text b)) c.as_bytes.ensures.value)

pub returns-in_ok-push-in-Some-take_integers : goal.returns-in_ok-push-in-Some-take_integers
returns-in_ok-push-in-Some-take_integers c =
    let o = kinds Text c.args.format.now in
    let go : Words → Option Words = λ under. Some (Integer ∷ under) in
    let same : c.in-Some.taken ≡ c.args.many = omega arith in
    ap Some c.in_ok-push-in-Some-take_integers.ensures
    ∙ sym (c.in-Some-take_integers.ensures go)
    ∙ printed o c.args.many (stack_of c.args.stack.items) go
    (ap Some (sym same) ∙ c.in-Some.ensures ∙ ap (λ b. option_map length (kinds Text b)) c.as_bytes.ensures.value)
