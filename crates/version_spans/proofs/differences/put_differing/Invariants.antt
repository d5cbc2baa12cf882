use Rattle.std.proofs.Common.{◌≡◌, ◌||◌, ◌&&◌, map, take, string_bytes}
use Rattle.c_tree.specs.Bare.{bare_def}
use Rattle.c_tree.specs.BareExpr.{Bytes}
use Rattle.name_sets.specs.NameLists.{is_among}
use Rattle.version_spans.specs.declared.names.NameForm.{NameForm as Form}
use Rattle.version_spans.specs.Beginnings.{differ}
use Rattle.version_spans.specs.Kept.{name_of, texts_in}
use Rattle.version_spans.proofs.differences.put_differing.Given as goal

-- those of the names so far on which the texts differ are put in
abbrev pub invariant-loop-name : goal.invariant-loop-name
invariant-loop-name l =
    (form : Form) (text : Bytes) → is_among (texts_in l.set form) text
    ≡ ((is_among (map string_bytes (take l.name-index l.names)) (name_of form text) && differ (map bare_def l.old) (map bare_def l.new) (name_of form text))
    || is_among (texts_in l.fn.set form) text)
