-- Private work of a run.
use Rattle.std.specs.Prelude.{List}
use Rattle.c_tree.specs.BareDef.{BareDef}
use Rattle.code_image.specs.Images.{IsImage}
use Rattle.code_machine.specs.declared.work.Work.{Work}
use Rattle.code_machine.specs.Copies.{work_image}

-- the code that a work shares is that of some texts
abbrev pub WorksFor : List (List BareDef) → Work → Type 0
WorksFor texts w = IsImage texts (work_image w)
