use Rattle.std.proofs.Common.{◌≡◌, ◌++◌, ◌∙◌, List, map, subst}
use Rattle.std.specs.Prelude.{IfOk}
use Rattle.std.specs.List.{flat_map}
use Rattle.c_tree.specs.Bare.{bare_def}
use Rattle.c_tree.specs.declared.def.Def.{Def}
use Rattle.changes_report.specs.Shown.{change_text, lists_text}
use Rattle.changes_report.proofs.output.text_of_patch.Goals as goal

pub returns : goal.returns
returns c =
    subst {A = List Def}
    (λ ds. IfOk c.text_among.result (λ text. text.items
    ≡ lists_text c.args.changes.now ++ flat_map (change_text (map bare_def ds)) c.args.transforms.now))
    (c.in_ok-known.ensures ∙ c.as_slice.ensures) c.text_among.ensures
