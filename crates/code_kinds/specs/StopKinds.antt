-- What stops take from the stack and leave there, by what the definitions say of the names that they use.
use Rattle.std.specs.Prelude.{ℕ, ◌==◌, Bool, List, [], ◌∷◌, map, reverse, length, Option, Some, None, option_map, if◌then◌else◌}
use Rattle.std.specs.Option.{option_and_then}
use Rattle.c_ints.specs.declared.kind.Kind.{Kind}
use Rattle.c_format.specs.declared.reading.Reading.TheVariants.{Text}
use Rattle.c_format.specs.Formats.{kinds}
use Rattle.c_tree.specs.BareExpr.{Bytes}
use Rattle.c_tree.specs.BareDef.{BareBinding, BareDef, Struct, Mutex, Function, Global, Array}
use Rattle.c_semantics.specs.Names.{struct_name}
use Rattle.c_semantics.specs.Texts.{Definitions, bound, result_type}
use Rattle.c_semantics.specs.Stops.{Stop, ReadGlobal, WriteGlobal, ReadElement, WriteElement, ReadField, WriteField, New, Free, Print, InitMutex, Lock, Unlock, Spawn, Join, Call, Return, Back, Begin, End, Update}
use Rattle.code_kinds.specs.declared.kind.WordKind.{WordKind}
use Rattle.code_kinds.specs.declared.kind.WordKind.TheVariants.{Integer, Handle, Thread}
use Rattle.code_kinds.specs.WordKinds.{word_kind, same_kind}

-- the kinds of the words on a stack, the newest first
abbrev pub Words : Type 0
Words = List WordKind

-- ---- what a name is

-- the kind of a global variable's word, of the words of an array
abbrev pub variable_kind : Option BareDef → Option WordKind
variable_kind (Some (Global d)) = Some (word_kind d.declared)
variable_kind _ = None

abbrev pub element_kind : Option BareDef → Option WordKind
element_kind (Some (Array element name length initial)) = Some (word_kind element)
element_kind _ = None

-- the fields of a struct, and the kind of one of them
abbrev pub fields : Option BareDef → Option (List BareBinding)
fields (Some (Struct tag members)) = Some members
fields _ = None

abbrev pub field_kind : Definitions → Bytes → Bytes → Option WordKind
field_kind look tag name =
    option_and_then (λ members. option_map (λ b. word_kind b.declared) (bound members name)) (fields (look (struct_name tag)))

-- whether a name is a mutex
abbrev pub is_mutex : Option BareDef → Bool
is_mutex (Some (Mutex name)) = Bool.true
is_mutex _ = Bool.false

-- the kinds of a function's parameters, and of its value
abbrev pub parameter_kinds : Option BareDef → Option Words
parameter_kinds (Some (Function result name parameters body)) = Some (map (λ p. word_kind p.declared) parameters)
parameter_kinds _ = None

-- ---- the newest words

-- what is left under the newest word, which is of a kind
abbrev pub take_one : WordKind → Words → (Words → Option Words) → Option Words
take_one k [] go = None
take_one k (j ∷ under) go = if same_kind k j then go under else None

-- under the newest words, which are of these kinds
abbrev pub take_all : Words → Words → (Words → Option Words) → Option Words
take_all [] stack go = go stack
take_all (k ∷ ks) stack go = take_one k stack (λ under. take_all ks under go)

-- so many integers
abbrev pub integers : List Kind → Words
integers ks = map (λ k. Integer) ks

-- arguments, if there are as many as are expected
abbrev pub take_arguments : ℕ → Words → Words → (Words → Option Words) → Option Words
take_arguments n ks stack go = if length ks == n then take_all (reverse ks) stack go else None

-- ---- stops

-- what is on the stack after a stop, in a function whose value is of a kind; nothing where the stop doesn't find what it takes
abbrev pub after_stop : Definitions → WordKind → Stop → Words → Option Words
after_stop look result (ReadGlobal name) stack = option_map (λ k. k ∷ stack) (variable_kind (look name))
after_stop look result (WriteGlobal name) stack =
    option_and_then (λ k. take_one k stack (λ under. Some (k ∷ under))) (variable_kind (look name))
after_stop look result (ReadElement name) stack =
    option_and_then (λ k. take_one Integer stack (λ under. Some (k ∷ under))) (element_kind (look name))
after_stop look result (WriteElement name) stack =
    option_and_then (λ k. take_one k stack (λ below. take_one Integer below (λ under. Some (k ∷ under)))) (element_kind (look name))
after_stop look result (ReadField tag name) stack =
    option_and_then (λ k. take_one Handle stack (λ under. Some (k ∷ under))) (field_kind look tag name)
after_stop look result (WriteField tag name) stack =
    option_and_then (λ k. take_one k stack (λ below. take_one Handle below (λ under. Some (k ∷ under)))) (field_kind look tag name)
after_stop look result (New tag) stack = option_map (λ members. Handle ∷ stack) (fields (look (struct_name tag)))
after_stop look result (Free tag) stack = take_one Handle stack (λ under. Some (Integer ∷ under))
after_stop look result (Print format n) stack =
    option_and_then (λ ks. take_arguments n (integers ks) stack (λ under. Some (Integer ∷ under))) (kinds Text format)
after_stop look result (InitMutex name) stack = if is_mutex (look name) then Some (Integer ∷ stack) else None
after_stop look result (Lock name) stack = if is_mutex (look name) then Some (Integer ∷ stack) else None
after_stop look result (Unlock name) stack = if is_mutex (look name) then Some (Integer ∷ stack) else None
after_stop look result (Spawn name) stack =
    option_and_then (λ ks. take_arguments 1 ks stack (λ under. Some (Thread ∷ under))) (parameter_kinds (look name))
after_stop look result Join stack = take_one Thread stack (λ under. Some (Integer ∷ under))
after_stop look result (Call name n) stack =
    option_and_then (λ ks. take_arguments n ks stack (λ under. Some (word_kind (result_type (look name)) ∷ under)))
    (parameter_kinds (look name))
after_stop look result Return stack = take_one result stack (λ under. Some under)
after_stop look result Back stack = None
after_stop look result Begin stack = Some stack
after_stop look result End stack = Some stack
after_stop look result Update stack = Some stack
