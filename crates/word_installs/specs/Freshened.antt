-- What a stop needs so that the object that it uses can be brought to the text in force.
use Rattle.std.specs.Prelude.{◌≡◌, ℕ, ◌≤◌, List, ◌∷◌, Contains, Option, Some, None}
use Rattle.std.specs.FinMap.{get}
use Rattle.c_tree.specs.BareExpr.{Bytes}
use Rattle.c_tree.specs.BareDef.{BareDef}
use Rattle.c_semantics.specs.Names.{struct_name}
use Rattle.c_semantics.specs.Texts.{definition}
use Rattle.typed_trees.specs.ExpressionTypes.{IsStruct}
use Rattle.object_store.specs.declared.object.Object.{Object}
use Rattle.code_runs.specs.CodeData.{Data, Names}
use Rattle.word_data.specs.declared.stop.SharedStop.{SharedStop}
use Rattle.word_data.specs.declared.stop.SharedStop.TheVariants.{ReadField, WriteField}

-- the handle of the object whose field a stop uses, with these words on its stack
abbrev pub used_handle : SharedStop → List ℕ → Option ℕ
used_handle (ReadField n) (h ∷ under) = Some h
used_handle (WriteField n) (w ∷ h ∷ under) = Some h
used_handle _ stack = None

-- each object has the layout of a version so far
abbrev pub HasLayouts : Data → Type 0
HasLayouts d = (h : ℕ) (own : Object) → get d.objects.live h ≡ Some own → own.layout ≤ d.version

-- the tags of the structs of a text are numbered
abbrev pub NumbersStructs : Names → List BareDef → Type 0
NumbersStructs names text = (tag : Bytes) → IsStruct (definition text (struct_name tag)) → Contains names.tags tag
