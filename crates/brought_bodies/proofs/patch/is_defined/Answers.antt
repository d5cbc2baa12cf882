use Rattle.std.proofs.Common.{Option, ap, ◌∙◌}
use Rattle.std.specs.Prelude.{is_some}
use Rattle.c_tree.specs.declared.def.Def.{Def}
use Rattle.brought_bodies.proofs.Defined.{found_among, copied_some}
use Rattle.brought_bodies.proofs.patch.is_defined.Goals as goal

pub returns : goal.returns
returns c =
    c.is_some.ensures ∙ copied_some c.declared.result
    ∙ ap {A = Option Def} is_some c.declared.ensures ∙ found_among c.args.known.now c.args.name.now
