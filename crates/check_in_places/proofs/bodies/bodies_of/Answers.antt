use Rattle.std.proofs.Common.{List, map, ap, ◌∙◌, subst, sym}
use Rattle.std.specs.Prelude.{IfOk}
use Rattle.c_tree.specs.Bare.{bare_def}
use Rattle.c_tree.specs.declared.def.Def.{Def}
use Rattle.c_semantics.specs.SourceTexts.{text_of}
use Rattle.name_resolution.specs.Known.{known_of}
use Rattle.brought_bodies.specs.Unknown.{HasUnknownFunction}
use Rattle.check_in_places.specs.CheckIns.{functions_in}
use Rattle.check_in_places.specs.Bodies.{AreBodiesOf}
use Rattle.check_in_places.proofs.bodies.bodies_of.Goals as goal

pub returns : goal.returns
returns c =
    subst {A = List Def}
    (λ ds. IfOk c.bodies_among.result (λ bodies. AreBodiesOf c.args.names.now (text_of c.args.program.now) (functions_in ds) bodies.flow bodies.sections.items))
    c.as_slice-definitions.ensures
    (c.bodies_among.ensures (text_of c.args.program.now) (ap known_of (c.in_ok-known.ensures ∙ c.as_slice-definitions.ensures)))

pub bodies_among-requires-clause-known : goal.bodies_among-requires-clause-known
bodies_among-requires-clause-known c =
    subst {A = List Def} (λ ds. HasUnknownFunction c.args.names.now (map bare_def ds) → ⊥) (sym c.as_slice-definitions.ensures) c.requires.known
