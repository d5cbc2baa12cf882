use Rattle.std.proofs.Common.{List, [], Some, All, map, sym, ap, subst, ◌∙◌}
use Rattle.std.proofs.lemmas.List.Elements.{All-nil}
use Rattle.c_tree.specs.Bare.{bare_def}
use Rattle.c_tree.specs.BareDef.{BareDef}
use Rattle.source_install.specs.OwnCells.{IsOwn}
use Rattle.source_install.proofs.GlobalNames.{own_cells}
use Rattle.source_install.proofs.InstallSteps.{no_text, text_is}
use Rattle.source_install.proofs.globals.definitions_in.Goals as goal

pub returns-in-Some : goal.returns-in-Some
returns-in-Some c =
    let program = c.program.result.now in
    let is = text_is c.args.program.now c.args.number program (sym c.in-Some.ensures ∙ ap Some (sym c.program.ensures.tree)) in
    record {
      text = ap (map bare_def) c.as_slice.ensures ∙ sym is;
      own = subst {A = List BareDef} (λ t. All (IsOwn t) t) (sym is) (own_cells program c.program.ensures.typed);
    }

pub returns-in-None : goal.returns-in-None
returns-in-None c =
    let is = no_text c.args.program.now c.args.number (sym c.in-None.ensures) in
    record {
      text = sym is;
      own = subst {A = List BareDef} (λ t. All (IsOwn t) t) (sym is) (All-nil (IsOwn []));
    }
