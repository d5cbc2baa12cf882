-- Worlds in which all values have the types of their places, by the texts of a run's versions.
use Rattle.std.specs.Prelude.{◌≡◌, List, map, All, Option, Some, None}
use Rattle.c_ints.specs.declared.kind.Kind.TheVariants.{I32}
use Rattle.c_ints.specs.declared.int.Int.{Int}
use Rattle.c_ints.specs.Number.{kind_of, value_of}
use Rattle.c_tree.specs.BareExpr.{Bytes}
use Rattle.c_tree.specs.BareDef.{BareDef}
use Rattle.c_semantics.specs.Names.{struct_name}
use Rattle.c_semantics.specs.Texts.{definition, global_type, int, members_of}
use Rattle.source_model.specs.Worlds.{World, Object, Slot, Free, Live, Over, Finish, Finished, Trapped, cells_of}
use Rattle.version_laws.specs.Histories.{last_text}
use Rattle.typed_trees.specs.ValueTypes.{HasType, ScopeHas}
use Rattle.typed_trees.specs.ExpressionTypes.{IsStruct}
use Rattle.typed_transformers.specs.TransformerTypes.{HasCells}
use Rattle.typed_runs.specs.TypedFrames.{ThreadTyped}

-- the struct tags of some objects, by number: what each handle is checked against
abbrev pub tags_of : List Object → List Bytes
tags_of objects = map (λ o. o.tag) objects

-- a slot: its thread is typed, or it ended with an int
abbrev pub SlotTyped : List (List BareDef) → List Bytes → Slot → Type 0
SlotTyped texts tags Free = Unit {0}
SlotTyped texts tags (Live th) = ThreadTyped texts tags th
SlotTyped texts tags (Over serial result) = HasType tags int result

-- an object has the fields of its struct, in the order of the layout, each with a value of its type, where the text still
-- defines the struct
abbrev pub ObjectTyped : List BareDef → List Bytes → Object → Type 0
ObjectTyped text tags o =
    IsStruct (definition text (struct_name o.tag)) → ScopeHas tags (members_of (definition text (struct_name o.tag))) o.fields

-- under the name of each global variable and array of a text a world has cells of its type
abbrev pub GlobalsTyped : List BareDef → List Bytes → World → Type 0
GlobalsTyped text tags w =
    (name : Bytes) → HasCells (definition text name) → All (HasType tags (global_type (definition text name))) (cells_of w name)

-- the number with which main ended a run is that of an int
abbrev pub FinishTyped : Option Finish → Type 0
FinishTyped (Some (Finished r)) = (n : Int) × (kind_of n ≡ I32) × (r ≡ value_of n)
FinishTyped (Some (Trapped kind slot)) = Unit {0}
FinishTyped None = Unit {0}

-- a world after the versions of some texts. Its threads are typed as long as the run goes on: a thread that trapped stands
-- amid its stop
pub record WorldTyped (texts : List (List BareDef)) (w : World) : Type 0 where
  pub slots : w.finish ≡ None → All (SlotTyped texts (tags_of w.objects)) w.slots
  pub objects : All (ObjectTyped (last_text texts) (tags_of w.objects)) w.objects
  pub globals : GlobalsTyped (last_text texts) (tags_of w.objects) w
  pub finish : FinishTyped w.finish
