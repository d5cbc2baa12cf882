use Rattle.std.proofs.Common.{◌≡◌, ◌&&◌, Bool, true, false, not, None, IfOk, Result, is_some, map, refl, sym, ap, ◌∙◌}
use Rattle.std.proofs.lemmas.Result.{IfOk-weaker}
use Rattle.c_semantics.specs.Changes.{agree, same_interface}
use Rattle.c_semantics.specs.Names.{struct_name}
use Rattle.c_semantics.specs.Texts.{definition}
use Rattle.c_semantics.specs.Transformers.{transformed, zero_fields}
use Rattle.source_model.specs.Installs.{brought}
use Rattle.resolved_tree.specs.Nodes.{word}
use Rattle.source_programs.specs.Definitions.{bindings_of}
use Rattle.source_programs.specs.Programs.{table_of, text_at}
use Rattle.source_install.specs.declared.changes.Data.TheVariants.{Struct}
use Rattle.source_install.specs.FoundChanges.{found, transform_in}
use Rattle.source_data.specs.Stores.{fields_of, object_of}
use Rattle.source_install.specs.NewData.{fields_or}
use Rattle.source_install.proofs.BroughtObjects.{brought_new, brought_same, brought_transformed, names_of_layout, transforms}
use Rattle.source_install.proofs.InstallSteps.{with_fields_of}
use Rattle.source_install.proofs.install.new_fields.Goals as goal

-- the answer is that of one of two cases
new_or_same : {X E : Type 0} {P Q : X → Type 0} (b : Bool) (r : Result X E) (R : X → Type 0)
    → (b ≡ true → (x : X) → P x → R x) → (b ≡ false → (x : X) → Q x → R x)
    → (b ≡ true → IfOk r P) → (b ≡ false → IfOk r Q) → IfOk r R
new_or_same {X} {E} {P} {Q} true r R first second one other = IfOk-weaker r P R (first refl) (one refl)
new_or_same {X} {E} {P} {Q} false r R first second one other = IfOk-weaker r Q R (second refl) (other refl)

pub returns-in_ok-new-in-Some : goal.returns-in_ok-new-in-Some
returns-in_ok-new-in-Some c = λ w follows fits.
    let p = w.text in
    let q = text_at c.args.program.now c.args.number in
    let t = table_of c.args.program.now in
    let o = c.args.object.now in
    let tag = word t o.tag in
    let changes = c.args.changes.now in
    let x = c.in-Some.transform.now in
    let tag_is : c.text-tag.result.now ≡ tag = c.text-tag.ensures ∙ ap (λ t. word t o.tag) c.trees.ensures in
    let does = transforms p q changes follows.named follows.are tag x
    (ap (λ n. transform_in (found Struct changes n)) (sym tag_is) ∙ sym c.in-Some.ensures)
    in
    let fields : fields_of t c.as_slice.result.now ≡ fields_of t o.fields.items = ap (fields_of t) c.as_slice.ensures.value in
    ap (λ fs. record (object_of t o) { fields = fs })
    (c.in_ok-new-in-Some.ensures t p q tag does.does (c.members_in-members.ensures follows.programs)
    (ap (map (λ f. f.name)) fields ∙ names_of_layout p (object_of t o) fits does.other.before does.other.was)
    ∙ ap (transformed p q tag) fields)
    ∙ sym (brought_transformed p q changes follows.named follows.are tag x does (object_of t o) refl)

pub returns-in-None : goal.returns-in-None
returns-in-None c = λ w follows fits.
    let p = w.text in
    let q = text_at c.args.program.now c.args.number in
    let t = table_of c.args.program.now in
    let o = c.args.object.now in
    let tag = word t o.tag in
    let name = struct_name tag in
    let changes = c.args.changes.now in
    let tag_is : c.text-tag.result.now ≡ tag = c.text-tag.ensures ∙ ap (λ t. word t o.tag) c.trees.ensures in
    let none : transform_in (found Struct changes tag) ≡ None =
    ap (λ n. transform_in (found Struct changes n)) (sym tag_is) ∙ sym c.in-None.ensures
    in
    let new : c.is_new.result ≡ (is_some (definition q name) && not (agree same_interface (definition p name) (definition q name))) =
    c.is_new.ensures follows.programs
    ∙ ap (λ text. is_some (definition q name) && not (agree same_interface (definition text name) (definition q name))) (sym follows.text)
    in
    new_or_same c.is_new.result c.zero_fields_if.result
    (λ fields. object_of t (fields_or o fields) ≡ brought p q (object_of t o))
    (λ is fields h.
    with_fields_of t o fields (zero_fields (bindings_of t c.members_in-members.result.now)) (h t)
    ∙ ap (λ bs. record (object_of t o) { fields = zero_fields bs }) (c.members_in-members.ensures follows.programs)
    ∙ sym (brought_new p q changes follows.named follows.are tag none (object_of t o) refl (sym new ∙ is)))
    (λ is fields h.
    ap (λ f. object_of t (fields_or o f)) h
    ∙ sym (brought_same p q changes follows.named follows.are tag (object_of t o) refl (sym new ∙ is)))
    c.zero_fields_if.ensures.new c.zero_fields_if.ensures.same
