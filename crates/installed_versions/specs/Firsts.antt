-- Why a text has no first version.
use Rattle.std.specs.Prelude.{◌≡◌, true, List, [], ◌∷◌, map}
use Rattle.c_tree.specs.Bare.{bare_def}
use Rattle.c_tree.specs.BareExpr.{Bytes}
use Rattle.c_tree.specs.declared.def.Program.{Program}
use Rattle.c_front.specs.Accepted.{Accepted}
use Rattle.c_semantics.specs.SourceTexts.{text_of}
use Rattle.c_semantics.specs.Store.{store}
use Rattle.code_store.specs.Limits.{are_too_many}
use Rattle.brought_bodies.specs.Undefined.{HasUndefinedUse}
use Rattle.brought_bodies.specs.Unknown.{HasUnknownFunction}
use Rattle.brought_bodies.specs.declared.fault.BodyFault.{BodyFault}
use Rattle.brought_bodies.specs.declared.fault.BodyFault.TheVariants as body
use Rattle.installed_versions.specs.declared.fault.FirstFault.{FirstFault}
use Rattle.installed_versions.specs.declared.fault.FirstFault.TheVariants.{UndefinedName, StoreFull, Memory}

-- why there is none where there are no bodies
abbrev pub fault_of : BodyFault → FirstFault
fault_of body.Unknown = UndefinedName
fault_of body.Memory = Memory

-- its bodies are too many
abbrev pub HasTooMany : Program → Type 0
HasTooMany program = are_too_many (store (text_of program ∷ [])) ≡ true

-- what holds of a text without a first version
abbrev pub IsFirstFault : Program → FirstFault → Type 0
IsFirstFault program UndefinedName = HasUndefinedUse (map bare_def program.definitions)
IsFirstFault program StoreFull = HasTooMany program
IsFirstFault program Memory = Unit {0}

-- and of one whose bodies aren't stored by a table of names
abbrev pub IsStoreFault : List Bytes → Program → FirstFault → Type 0
IsStoreFault names program UndefinedName = HasUnknownFunction names (map bare_def program.definitions)
IsStoreFault names program StoreFull = HasTooMany program
IsStoreFault names program Memory = Unit {0}

-- an accepted program has a first version, unless there is no memory
abbrev pub AcceptedProgramsStart : Type 0
AcceptedProgramsStart =
    (bytes : Bytes) (program : Program) → Accepted bytes program → (fault : FirstFault) → IsFirstFault program fault → fault ≡ Memory
