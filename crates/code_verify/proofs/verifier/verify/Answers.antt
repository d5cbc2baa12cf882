use Rattle.std.proofs.Common.{◌≡◌, length, map, option_map, ap, sym, ◌∙◌}
use Rattle.std.proofs.lemmas.List.{length-map}
use Rattle.bytecode.specs.Seen.{instruction_of}
use Rattle.code_verify.specs.declared.shape.Shape.{Shape as ShapeNode}
use Rattle.code_verify.specs.Seen.{trees_of, function_code}
use Rattle.code_verify.proofs.Following.{verified_from}
use Rattle.code_verify.proofs.verifier.verify.Goals as goal

pub returns-clause-well_formed : goal.returns-clause-well_formed
returns-clause-well_formed c =
    let known = c.in_ok-known.known in
    let body = c.args.body in
    verified_from (function_code c.args.source.now body) known.items c.in_ok-heights.heights.items c.in_ok-known.ensures.shapes
    (c.in_ok-heights.ensures ∙ ap (map (λ o. option_map (λ (s : ShapeNode). length s.stack.items) o)) c.as_slice.ensures.value)
    (sym known.ok.0 ∙ c.in_ok-known.ensures.length ∙ body.code.ok.0 ∙ sym (length-map body.code.items (instruction_of (trees_of c.args.source.now))))
