use Rattle.std.proofs.Common.{◌≡◌, ℕ, suc, ◌+◌, ◌<◌, true, false, None, length, vec_len, ap, sym, subst, ◌∙◌, arith, add-one, rules}
use Rattle.std.proofs.lemmas.List.{length-map}
use Rattle.bytecode.specs.Seen.{instruction_of, code_of}
use Rattle.code_kinds.specs.WellFormed.{entry, kept}
use Rattle.code_verify.specs.Meeting.{met}
use Rattle.code_verify.specs.Seen.{shapes_of, keeps_of, trees_of, look_of, function_code}
use Rattle.code_verify.proofs.Passes.{Known, followed, broken}
use Rattle.code_verify.proofs.Following.{none_left, keep_from, known_begun, not_entered, are_shapes}
use Rattle.code_verify.proofs.verifier.shapes.Goals as goal

pub returns-in_default-clause-fault : goal.returns-in_default-clause-fault
returns-in_default-clause-fault c =
    let t = trees_of c.args.source.now in
    let body = c.args.body.now in
    let keep = keep_from t body.code.items c.as_slice.result.now c.in_ok-keeps.keeps.items c.as_slice.ensures.value c.in_ok-keeps.ensures.keeps in
    let none : c.in_ok-known.field-0 ≡ None = none_left c.in_ok-known.field-0 c.in_default.not-Some in
    let h = rw none at c.in_ok-known.ensures in
    not_entered (function_code c.args.source.now body) (keeps_of c.in_ok-keeps.keeps.items) (vec_len body.code)
    (body.code.ok.0 ∙ sym (length-map body.code.items (instruction_of t))) keep
    (λ few small some. ap (λ x. met (keeps_of x 0) None (entry body.parameters.items)) (sym c.as_slice-2.ensures.value) ∙ h few small some)

pub loop-place-init : goal.loop-place-init
loop-place-init c =
    let t = trees_of c.args.source.now in
    let body = c.args.body.now in
    let keep = keep_from t body.code.items c.as_slice.result.now c.in_ok-keeps.keeps.items c.as_slice.ensures.value c.in_ok-keeps.ensures.keeps in
    let b = rw c.in-Some.is at c.in_ok-known.ensures in
    let k = known_begun t (look_of c.args.source.now) (keeps_of c.as_slice-2.result.now) body c.in-Some.known.items
    (λ q h. ap (λ x. keeps_of x q) c.as_slice-2.ensures.value ∙ keep q h) b in
    (c.in-Some.known.ok.0 ∙ b.places ∙ sym body.code.ok.0, k)

pub returns-then-not-fine-clause-fault : goal.returns-then-not-fine-clause-fault
returns-then-not-fine-clause-fault c =
    let t = trees_of c.args.source.now in
    let body = c.args.body.now in
    let keep = keep_from t body.code.items c.as_slice.result.now c.in_ok-keeps.keeps.items c.as_slice.ensures.value c.in_ok-keeps.ensures.keeps in
    let bad : c.in_ok-fine.fine ≡ false = first_of (cc, search rules) in
    let h = rw bad at c.in_ok-fine.ensures.follows in
    broken (function_code c.args.source.now body) (keeps_of c.as_slice-in-loop-place.result.now) c.loop-place.place (shapes_of c.loop-place.known.items)
    (λ q l. ap (λ x. keeps_of x q) c.as_slice-in-loop-place.ensures.value ∙ keep q l) c.loop-place.invariant.1 h

pub loop-place-preserved : goal.loop-place-preserved
loop-place-preserved c =
    let t = trees_of c.args.source.now in
    let body = c.args.body.now in
    let u = function_code c.args.source.now body in
    let place = c.loop-place.place in
    let new = c.step.new.known in
    let keep = keep_from t body.code.items c.as_slice.result.now c.in_ok-keeps.keeps.items c.as_slice.ensures.value c.in_ok-keeps.ensures.keeps in
    let good : c.in_ok-fine.fine ≡ true = first_of (cc, search rules) in
    let h = rw good at c.in_ok-fine.ensures.follows in
    let k = followed u (keeps_of c.as_slice-in-loop-place.result.now) place (shapes_of c.loop-place.known.items) (shapes_of new.items)
    (λ q l. ap (λ x. keeps_of x q) c.as_slice-in-loop-place.ensures.value ∙ keep q l) c.loop-place.invariant.1 h in
    (c.in_ok-fine.ensures.length ∙ c.loop-place.invariant.0, subst (λ n. Known u (shapes_of new.items) n n) (sym (add-one place)) k)

pub returns-clause-shapes : goal.returns-clause-shapes
returns-clause-shapes c =
    let t = trees_of c.args.source.now in
    let body = c.args.body.now in
    let u = function_code c.args.source.now body in
    let all : c.loop-place.place ≡ length (code_of t body.code.items) =
    omega (arith, length-map body.code.items (instruction_of t), body.code.ok.0, c.len-place-end.ensures, c.loop-place-test.false) in
    are_shapes u (shapes_of c.loop-place.known.items) c.loop-place.place all c.loop-place.invariant.1
