use Rattle.std.proofs.Common.{◌≡◌, ◌∙◌, flat_map, ap, subst, sym}
use Rattle.c_types.specs.Definitions.{Types}
use Rattle.patch_faults.specs.TransformFaults.{first}
use Rattle.transformer_types.specs.Alone.{faults_at_alone}
use Rattle.transformer_types.proofs.TextsAlone.{text_alone}
use Rattle.transformer_types.proofs.text.first_fault.Goals as goal

pub returns : goal.returns
returns c =
    let p = c.args.old.now.definitions in
    let program = c.args.new.now in
    let text = c.as_slice-definitions.result.now in
    let same : text ≡ program.definitions = c.as_slice-definitions.ensures ∙ ap (λ t. t.definitions) c.program-2.ensures.tree in
    let types : Types program = subst Types c.program-2.ensures.tree c.program-2.ensures.typed in
    c.definitions_fault.ensures
    ∙ ap (λ ds. first (flat_map (λ d. faults_at_alone ds c.in_ok-after.after d.place d.kind) text))
    (c.in_ok-before.ensures ∙ c.as_slice.ensures ∙ ap (λ t. t.definitions) c.program.ensures.tree)
    ∙ ap (λ ds. first (flat_map (λ d. faults_at_alone p ds d.place d.kind) text)) (c.in_ok-after.ensures ∙ same)
    ∙ ap (λ ds. first (flat_map (λ d. faults_at_alone p program.definitions d.place d.kind) ds)) same
    ∙ ap first (sym (text_alone p program types))
