use Rattle.std.proofs.Common.{map, ◌∙◌, arith}
use Rattle.std.proofs.lemmas.List.{length-map}
use Rattle.local_evaluation.specs.Values.{seen}
use Rattle.source_programs.specs.Definitions.{binding_of, bindings_of}
use Rattle.source_install.proofs.BroughtObjects.{fields_more, variables_names, variables_values}
use Rattle.source_install.proofs.install.fields_of.Goals as goal

pub returns-in_default : goal.returns-in_default
returns-in_default c = λ t.
    let vs = c.args.values.now in
    let long = length-map vs seen in
    c.loop-place.invariant t
    ∙ variables_values (bindings_of t c.args.members.now) (map seen vs) c.loop-place.place (omega (arith, c.in_default.ensures.lookup, long))

pub loop-place-preserved : goal.loop-place-preserved
loop-place-preserved c = λ t.
    let lookup = c.in-Some.ensures.lookup in
    fields_more t c.args.members.now c.args.values.now c.loop-place.place _ c.in-Some.value.now c.loop-place.fields.items c.push.new.self.items
    c.in_ok-push.ensures.items (omega (arith, c.loop-place-test.true)) lookup.3.0 lookup.1 (c.loop-place.invariant t)

pub returns : goal.returns
returns c = λ t.
    let bs = c.args.members.now in
    let some_names = length-map bs (binding_of t) in
    c.loop-place.invariant t
    ∙ variables_names (bindings_of t bs) (map seen c.args.values.now) c.loop-place.place (omega (arith, c.loop-place-test.false, some_names))
