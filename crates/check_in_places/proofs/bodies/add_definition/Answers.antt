use Rattle.std.proofs.Common.{List, ◌++◌, ap, sym, ◌∙◌, subst, append-nil}
use Rattle.std.specs.Prelude.{OnOk}
use Rattle.c_tree.specs.declared.def.Function.{Function}
use Rattle.c_tree.specs.BareDef.{BareDef}
use Rattle.name_resolution.specs.Known.{known_of}
use Rattle.brought_bodies.specs.Unknown.{IsUnknownIn}
use Rattle.check_in_places.specs.Bodies.{AreBodiesOf}
use Rattle.check_in_places.proofs.Added.{bare_of_function, one_function, no_function}
use Rattle.check_in_places.proofs.bodies.add_definition.Goals as goal

pub returns-in-Some : goal.returns-in-Some
returns-in-Some c = λ text done same are.
    subst {A = List Function} (λ more. OnOk c.add_function.result
    (AreBodiesOf c.args.names.now text (done ++ more) c.add_function.new.bodies.flow c.add_function.new.bodies.sections.items))
    (sym (one_function c.args.added.now c.in-Some.function.now (sym c.in-Some.ensures)))
    (c.add_function.ensures text done same are)

pub returns-in-None : goal.returns-in-None
returns-in-None c = λ text done same are.
    subst {A = List Function} (λ fs. AreBodiesOf c.args.names.now text fs c.args.bodies.now.flow c.args.bodies.now.sections.items)
    (sym (ap (λ more. done ++ more) (no_function c.args.added.now (sym c.in-None.ensures)) ∙ append-nil done)) are

pub add_function-requires : goal.add_function-requires
add_function-requires c =
    subst {A = BareDef} (λ d. IsUnknownIn c.args.names.now (known_of c.args.known.now) d → ⊥)
    (bare_of_function c.args.added.now.kind c.in-Some.function.now (sym c.in-Some.ensures)) c.requires
