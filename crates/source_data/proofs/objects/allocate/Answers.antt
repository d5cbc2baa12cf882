use Rattle.std.proofs.Common.{◌≡◌, ◌++◌, ◌∷◌, [], true, length, Some, refl, sym, ap, ◌∙◌, arith}
use Rattle.std.proofs.lemmas.List.{map-append, length-map}
use Rattle.c_semantics.specs.Transformers.{zero_fields}
use Rattle.c_semantics.specs.Values.{Reference}
use Rattle.source_data.specs.declared.store.Object.{Object}
use Rattle.resolved_tree.specs.Nodes.{word}
use Rattle.source_programs.specs.Programs.{current_of, table_of}
use Rattle.source_data.specs.Stores.{object_of, objects_of}
use Rattle.local_evaluation.specs.Values.{seen}
use Rattle.local_evaluation.specs.Work.{newest}
use Rattle.source_data.proofs.Counting.{count_seen}
use Rattle.source_data.proofs.Fields.{allocates}
use Rattle.source_data.proofs.Newest.{last_first}
use Rattle.source_data.proofs.objects.allocate.Goals as goal

pub returns-clause-made : goal.returns-clause-made
returns-clause-made c = λ slot is_program.
    let t = table_of c.args.program.now in
    let text = current_of c.args.program.now in
    let tag = word t c.args.tag in
    let old = c.args.store.now in
    let made : Object = record { tag = c.args.tag; fields = c.in_ok-fields.fields; live = true } in
    let number : c.len-number.result ≡ length (objects_of t old.objects.all.items) =
    omega (arith, c.len-number.ensures, old.objects.all.ok.0, length-map old.objects.all.items (object_of t))
    in
    allocates t text slot old (record old { objects = c.add.new.objects }) tag c.args.values.now.items c.push-2.new.self.items
    (λ full. c.if-store.false (old.objects.counted ∙ sym (count_seen t old.objects.all.items) ∙ full))
    (ap (objects_of t) c.in_ok-add.ensures
    ∙ map-append (object_of t) old.objects.all.items (made ∷ [])
    ∙ ap (λ fs. objects_of t old.objects.all.items ++ record { tag = tag; fields = fs; live = true } ∷ [])
    (c.in_ok-fields.ensures t ∙ ap zero_fields (c.members.ensures is_program)))
    (λ w. refl)
    (ap newest c.in_ok-push-2.ensures.items
    ∙ last_first seen c.args.values.now.items _
    ∙ ap (λ n. Reference (Some n) ∷ newest c.args.values.now.items) number)
