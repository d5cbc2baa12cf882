use Rattle.std.proofs.Common.{List, [], take, sym, subst}
use Rattle.std.proofs.lemmas.List.{take_all}
use Rattle.c_tree.specs.declared.def.Def.{Def}
use Rattle.c_tree.specs.declared.def.Function.{Function}
use Rattle.c_semantics.specs.Texts.{definition}
use Rattle.brought_bodies.proofs.NewBodies.{unknown_at}
use Rattle.check_in_places.specs.declared.section.Section.{Section}
use Rattle.check_in_places.specs.CheckIns.{functions_in}
use Rattle.check_in_places.specs.Bodies.{AreSections, AreBodiesOf}
use Rattle.check_in_places.proofs.Added.{functions_with}
use Rattle.check_in_places.proofs.bodies.bodies_among.Goals as goal

pub loop-one-init : goal.loop-one-init
loop-one-init c = λ text same. record {
  flow = c.new.ensures c.args.names.now c.requires.table;
  sections = subst {A = List Section} (λ list. AreSections c.args.names.now (definition text.definitions) 0 [] list) (sym c.new-2.ensures.items) tt;
}

pub loop-one-preserved : goal.loop-one-preserved
loop-one-preserved c = λ text same.
    subst {A = List Function}
    (λ fs. AreBodiesOf c.args.names.now text fs c.add_definition.new.bodies.flow c.add_definition.new.bodies.sections.items)
    (sym (functions_with c.args.definitions.now c.loop-one.one-index c.one-item.result c.loop-one-test.true c.one-item.is))
    (c.in_ok-add_definition.ensures text (functions_in (take c.loop-one.one-index c.args.definitions.now)) same (c.loop-one.invariant text same))

pub returns : goal.returns
returns c = λ text same.
    subst {A = List Def}
    (λ ds. AreBodiesOf c.args.names.now text (functions_in ds) c.loop-one.bodies.flow c.loop-one.bodies.sections.items)
    (take_all c.loop-one.one-index c.args.definitions.now c.loop-one-test.false) (c.loop-one.invariant text same)

pub add_definition-requires : goal.add_definition-requires
add_definition-requires c = λ unknown.
    c.requires.known
    (unknown_at c.args.names.now c.args.definitions.now c.args.known.now c.loop-one.one-index c.one-item.result c.loop-one-test.true c.one-item.is
    (sym c.requires.whole) unknown)
