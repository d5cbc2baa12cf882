-- How the parts of the text come together.
use Rattle.std.proofs.Common.{◌≡◌, List, ◌++◌, map, Some, None, sym, ◌∙◌, ap}
use Rattle.std.specs.Option.{option_map_or}
use Rattle.std.specs.List.{flat_map}
use Rattle.c_tree.specs.BareExpr.{Bytes}
use Rattle.c_tree.specs.Bare.{bare_def}
use Rattle.c_tree.specs.BareDef.{BareDef}
use Rattle.c_tree.specs.declared.def.Def.{Def}
use Rattle.patch_faults.specs.declared.fault.TransformFault.{TransformFault}
use Rattle.patch_faults.specs.Sorts.{other_kind}
use Rattle.patch_faults.specs.TransformFaults.{first_transform_fault, place_of}
use Rattle.c_semantics.specs.Changes.{changed, interface, added}
use Rattle.patch_compare.specs.declared.answer.Changes.{Changes}
use Rattle.std.specs.Prelude.{codes}
use Rattle.changes_report.specs.ChangesText.{changes_text, fault_text, kind_text, name_line, patch_text, text_by_fault, transform_lines}
use Rattle.changes_report.specs.Shown.{AreChanges, lists_text}

-- the names of a comparison are those of the text
lists_are : (p q : List BareDef) (c : Changes) → AreChanges p q c
    → lists_text c
    ≡ flat_map (name_line (codes "changed")) (changed p q) ++ flat_map (name_line (codes "interface")) (interface p q)
    ++ flat_map (name_line (codes "added")) (added p q)
lists_are p q c are =
    ap (λ names. flat_map (name_line (codes "changed")) names ++ flat_map (name_line (codes "interface")) c.interface
    ++ flat_map (name_line (codes "added")) c.added) are.differ
    ∙ ap (λ names. flat_map (name_line (codes "changed")) (changed p q) ++ flat_map (name_line (codes "interface")) names
    ++ flat_map (name_line (codes "added")) c.added) are.faces
    ∙ ap (λ names. flat_map (name_line (codes "changed")) (changed p q) ++ flat_map (name_line (codes "interface")) (interface p q)
    ++ flat_map (name_line (codes "added")) names) are.more

-- the text where the newer text is a patch
pub patch_is : (old new : List Def) (text : Bytes) (c : Changes) (lines : Bytes) → AreChanges (map bare_def old) (map bare_def new) c
    → first_transform_fault old new ≡ None
    → lines ≡ flat_map (transform_lines (map bare_def old) (map bare_def new)) (interface (map bare_def old) (map bare_def new))
    → lists_text c ++ lines ≡ text_by_fault old new text
patch_is old new text c lines are none is =
    let p : List BareDef = map bare_def old in
    let q : List BareDef = map bare_def new in
    ap (λ xs. xs ++ lines) (lists_are p q c are)
    ∙ ap (λ xs. flat_map (name_line (codes "changed")) (changed p q) ++ flat_map (name_line (codes "interface")) (interface p q)
    ++ flat_map (name_line (codes "added")) (added p q) ++ xs) is
    ∙ ap (λ fault. option_map_or (λ f. fault_text text (place_of f)) fault (patch_text p q)) (sym none)

-- the text where a transformer has a fault
pub fault_is : (old new : List Def) (text : Bytes) (fault : TransformFault) → first_transform_fault old new ≡ Some fault
    → fault_text text (place_of fault) ≡ text_by_fault old new text
fault_is old new text fault is =
    ap (λ found. option_map_or (λ f. fault_text text (place_of f)) found (patch_text (map bare_def old) (map bare_def new))) (sym is)

-- the whole text, where no name is of another sort
pub no_kind : (old new : List Def) (text : Bytes) → other_kind (map bare_def old) (map bare_def new) ≡ None
    → text_by_fault old new text ≡ changes_text old new text
no_kind old new text none = ap (λ kind. option_map_or kind_text kind (text_by_fault old new text)) (sym none)

-- and where one is
pub kind_is : (old new : List Def) (text name : Bytes) → other_kind (map bare_def old) (map bare_def new) ≡ Some name
    → kind_text name ≡ changes_text old new text
kind_is old new text name is = ap (λ kind. option_map_or kind_text kind (text_by_fault old new text)) (sym is)
