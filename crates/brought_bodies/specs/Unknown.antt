-- Where a name that a text uses isn't in a table of names.
use Rattle.std.specs.Prelude.{List, Some, Contains, ◌⊎◌}
use Rattle.c_tree.specs.BareExpr.{Bytes}
use Rattle.c_tree.specs.BareDef.{BareDef, Function}
use Rattle.c_semantics.specs.Texts.{Definitions, definition}
use Rattle.c_semantics.specs.Skeletons.{skeleton_of}
use Rattle.skeleton_gen.specs.declared.naming.SkeletonFault.{SkeletonFault}
use Rattle.skeleton_gen.specs.declared.naming.SkeletonFault.TheVariants as skeleton
use Rattle.skeleton_gen.specs.Naming.{HasUnknown}
use Rattle.brought_bodies.specs.declared.fault.BodyFault.{BodyFault}
use Rattle.brought_bodies.specs.declared.fault.BodyFault.TheVariants.{Unknown, Memory}

-- why there is no body where there is no skeleton
abbrev pub fault_of : SkeletonFault → BodyFault
fault_of skeleton.Unknown = Unknown
fault_of skeleton.Memory = Memory

-- a definition is that of a function that isn't in the table, or that uses a name at a point that isn't
abbrev pub IsUnknownIn : List Bytes → Definitions → BareDef → Type 0
IsUnknownIn names look (Function result name parameters body) =
    (¬ Contains names name)
    ⊎ HasUnknown names (skeleton_of look (Some (Function result name parameters body))).points
IsUnknownIn names look _ = ⊥

-- some definition of a text is
pub record HasUnknownFunction (names : List Bytes) (text : List BareDef) : Type 0 where
  pub function : BareDef
  pub is_there : Contains text function
  pub unknown : IsUnknownIn names (definition text) function
