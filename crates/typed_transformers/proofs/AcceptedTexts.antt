-- What the transformers of accepted texts give is typed.
use Rattle.std.proofs.Common.{List, map, All, subst}
use Rattle.c_tree.specs.BareExpr.{Bytes}
use Rattle.c_tree.specs.BareDef.{BareDef}
use Rattle.c_tree.specs.Bare.{bare_def}
use Rattle.c_semantics.specs.Names.{struct_name}
use Rattle.c_semantics.specs.Texts.{definition, global_type, members_of}
use Rattle.c_semantics.specs.Values.{Value}
use Rattle.c_semantics.specs.Pieces.{Variable}
use Rattle.c_semantics.specs.Transformers.{transformed, transformed_global}
use Rattle.frame_bodies.proofs.AcceptedFacts.{bare_of, facts_in}
use Rattle.patch_faults.specs.TransformLaws.{GlobalsAreAsFound, NoneWhereNone, ObjectsAreAsFound}
use Rattle.typed_trees.specs.ValueTypes.{HasType, ScopeHas}
use Rattle.typed_trees.specs.ExpressionTypes.{IsStruct}
use Rattle.typed_transformers.specs.TransformerTypes.{CellsAreTyped, CellsTyped, FieldsAreTyped}
use Rattle.typed_transformers.proofs.Transformed.{cells_typed, fields_typed}

abbrev FieldsIn : List Bytes → Bytes → List Variable → List BareDef → List BareDef → Type 0
FieldsIn tags tag fields p q =
    IsStruct (definition q (struct_name tag))
    → (IsStruct (definition p (struct_name tag)) → ScopeHas tags (members_of (definition p (struct_name tag))) fields)
    → ScopeHas tags (members_of (definition q (struct_name tag))) (transformed p q tag fields)

pub fields_are_typed : NoneWhereNone → ObjectsAreAsFound → FieldsAreTyped
fields_are_typed none_where_none objects p q tags tag fields f =
    let old = p.tree.definitions in
    let new = q.tree.definitions in
    subst (λ ds. FieldsIn tags tag fields ds q.definitions) (bare_of p f.older)
    (subst (λ ds. FieldsIn tags tag fields (map bare_def old) ds) (bare_of q f.newer)
    (λ struct h.
    fields_typed tags objects old new (facts_in p f.older) tag fields h (facts_in q f.newer) (none_where_none old new f.faultless) struct))

abbrev CellsIn : List Bytes → Bytes → List Value → List BareDef → List BareDef → Type 0
CellsIn tags name cells p q =
    CellsTyped tags (definition p name) cells → All (HasType tags (global_type (definition q name))) (transformed_global p q name cells)

pub cells_are_typed : NoneWhereNone → GlobalsAreAsFound → CellsAreTyped
cells_are_typed none_where_none globals p q tags name cells f =
    let old = p.tree.definitions in
    let new = q.tree.definitions in
    subst (λ ds. CellsIn tags name cells ds q.definitions) (bare_of p f.older)
    (subst (λ ds. CellsIn tags name cells (map bare_def old) ds) (bare_of q f.newer)
    (cells_typed tags globals old new name cells (facts_in p f.older) (facts_in q f.newer) (none_where_none old new f.faultless)))
