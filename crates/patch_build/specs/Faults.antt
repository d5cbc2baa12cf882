-- Why there is no patch, from the parts that find a cause.
use Rattle.std.specs.Prelude.{◌≡◌, Option, Some}
use Rattle.name_sets.specs.declared.table.NamesFault.{NamesFault}
use Rattle.name_sets.specs.declared.table.NamesFault.TheVariants as table
use Rattle.source_model.specs.declared.patch.NotPatch.{NotPatch}
use Rattle.source_model.specs.declared.patch.NotPatch.TheVariants.{Names, Kind, Transform}
use Rattle.patch_compare.specs.declared.answer.CompareFault.{CompareFault}
use Rattle.patch_compare.specs.declared.answer.CompareFault.TheVariants as compared
use Rattle.patch_faults.specs.declared.fault.TransformFault.{TransformFault}
use Rattle.patch_faults.specs.declared.fault.TransformFault.TheVariants as transformer
use Rattle.patch_build.specs.declared.fault.PatchFault.{PatchFault}
use Rattle.brought_bodies.specs.declared.fault.BodyFault.{BodyFault}
use Rattle.brought_bodies.specs.declared.fault.BodyFault.TheVariants as bodies
use Rattle.patch_build.specs.declared.fault.PatchFault.TheVariants.{Not, UndefinedName, Memory}

-- a fault names the first cause, or it is no such cause: a name that the text doesn't define, or lack of memory
abbrev pub IsCause : Option NotPatch → PatchFault → Type 0
IsCause first (Not cause) = first ≡ Some cause
IsCause first UndefinedName = Unit {0}
IsCause first Memory = Unit {0}

-- a table of names that is full
abbrev pub fault_of_names : NamesFault → PatchFault
fault_of_names table.Full = Not Names
fault_of_names table.Memory = Memory

-- a name of another sort
abbrev pub fault_of_comparison : CompareFault → PatchFault
fault_of_comparison (compared.Kind name) = Not (Kind name)
fault_of_comparison compared.Memory = Memory

-- a transformer that doesn't fit
abbrev pub fault_of_transformer : TransformFault → PatchFault
fault_of_transformer (transformer.NotChanged place) = Not (Transform place)
fault_of_transformer (transformer.OldField place) = Not (Transform place)
fault_of_transformer (transformer.Wrong place) = Not (Transform place)
fault_of_transformer transformer.Memory = Memory

-- bodies that aren't given: the table has the names of the text, so one that a function uses isn't defined
abbrev pub fault_of_bodies : BodyFault → PatchFault
fault_of_bodies bodies.Unknown = UndefinedName
fault_of_bodies bodies.Memory = Memory
