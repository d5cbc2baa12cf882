-- Small bodies: which are well formed, and which instruction breaks the others.
use Rattle.std.proofs.Common.{◌≡◌, List, [], ◌∷◌, Some, None, refl}
use Rattle.c_ints.specs.declared.kind.Kind.TheVariants.{I32}
use Rattle.c_ints.specs.declared.operator.BinOp.TheVariants.{Add}
use Rattle.run_types.specs.CheckIns as check_in
use Rattle.c_semantics.specs.Texts.{Definitions}
use Rattle.c_semantics.specs.Stops as stop
use Rattle.bytecode.specs.Instructions.{Instruction, Load, Store, Binary, JumpIfZero, Halt, Back, CheckIn}
use Rattle.code_kinds.specs.declared.kind.WordKind.{WordKind}
use Rattle.code_kinds.specs.declared.kind.WordKind.TheVariants.{Integer, Handle}
use Rattle.code_kinds.specs.Shapes.{Shape, after, leads_to}
use Rattle.code_kinds.specs.WellFormed.{entry, kept}

abbrev nothing : Definitions
nothing name = None

abbrev shape : List WordKind → List WordKind → Shape
shape stack variables = record { stack = stack; variables = variables; transactions = 0; due = None }

-- a variable's word is an integer where the variable is one
loads : after nothing Integer 2 (Load 0) (shape [] (Integer ∷ [])) ≡ Some (shape (Integer ∷ []) (Integer ∷ []))
loads = refl

-- a variable that isn't in scope has no word
loads_none : after nothing Integer 2 (Load 1) (shape [] (Integer ∷ [])) ≡ None
loads_none = refl

-- the next variable is declared by its first word, and takes the place of those after it where the kind differs
declares : after nothing Integer 2 (Store 1) (shape (Handle ∷ []) (Integer ∷ [])) ≡ Some (shape [] (Integer ∷ Handle ∷ []))
declares = refl

declares_again : after nothing Integer 3 (Store 1) (shape (Handle ∷ []) (Integer ∷ Integer ∷ Integer ∷ []))
    ≡ Some (shape [] (Integer ∷ Handle ∷ []))
declares_again = refl

assigns : after nothing Integer 3 (Store 0) (shape (Integer ∷ []) (Integer ∷ Handle ∷ [])) ≡ Some (shape [] (Integer ∷ Handle ∷ []))
assigns = refl

-- there is no room, and no variable before
no_room : after nothing Integer 1 (Store 1) (shape (Integer ∷ []) (Integer ∷ [])) ≡ None
no_room = refl

skips_one : after nothing Integer 3 (Store 1) (shape (Integer ∷ []) []) ≡ None
skips_one = refl

-- a handle isn't added
adds_no_handle : after nothing Integer 1 (Binary Add I32) (shape (Integer ∷ Handle ∷ []) []) ≡ None
adds_no_handle = refl

-- the entry check-in comes first, and nothing else does
enters : after nothing Integer 1 (CheckIn check_in.Entry 0) (entry (Integer ∷ [])) ≡ Some (shape [] (Integer ∷ []))
enters = refl

enters_late : after nothing Integer 1 (Load 0) (entry (Integer ∷ [])) ≡ None
enters_late = refl

checks_in_without_a_stop : after nothing Integer 1 (CheckIn check_in.Call 3) (shape [] []) ≡ None
checks_in_without_a_stop = refl

-- a transaction's begin asks for its check-in, and its end closes it; a return leaves none open
abbrev begun : Shape
begun = record { stack = []; variables = []; transactions = 1; due = Some (record { kind = check_in.Begin; number = 4 }) }

begins : after nothing Integer 1 (Halt stop.Begin 3) (shape [] []) ≡ Some begun
begins = refl

ends_none : after nothing Integer 1 (Halt stop.End 3) (shape [] []) ≡ None
ends_none = refl

returns_from_inside : after nothing Integer 1 (Halt stop.Return 3) (record { stack = Integer ∷ []; variables = []; transactions = 1; due = None }) ≡ None
returns_from_inside = refl

returns_a_handle : after nothing Integer 1 (Halt stop.Return 3) (shape (Handle ∷ []) []) ≡ None
returns_a_handle = refl

-- a back edge says how many variables its loop begins with
abbrev loop : List Instruction
loop = CheckIn check_in.Entry 0 ∷ Load 0 ∷ JumpIfZero 1 ∷ Back 2 1 1 ∷ Load 0 ∷ Halt stop.Return 2 ∷ []

loop_keeps : kept loop 1 ≡ Some 1
loop_keeps = refl

nothing_kept : kept loop 2 ≡ None
nothing_kept = refl

loop_leads : leads_to 3 (Back 2 1 1) ≡ 1 ∷ []
loop_leads = refl
