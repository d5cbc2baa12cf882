-- The types and limits of definitions (6.7, 6.9) and of a whole text.
use Rattle.std.specs.Prelude.{ℕ, ◌+◌, Bool, true, false, not, nat_le, int_le, ◌&&◌, ◌≡◌, pos, unsigned_abs, List, [], ◌∷◌, ◌++◌, map, length, flat_map, Option, Some, None, is_some, is_none, codes, if◌then◌else◌}
use Rattle.std.specs.List.{list_any}
use Rattle.std.specs.Str.{bytes_eq}
use Rattle.c_ints.specs.Number.{value_of}
use Rattle.name_sets.specs.Limit.{most_names}
use Rattle.c_tree.specs.BareExpr.{Bytes}
use Rattle.c_tree.specs.declared.name.Name.{Name}
use Rattle.c_tree.specs.declared.name.CType.{CType}
use Rattle.c_tree.specs.declared.expr.Expr.{Expr}
use Rattle.c_tree.specs.declared.stmt.Declaration.{Declaration}
use Rattle.c_tree.specs.declared.def.Binding.{Binding}
use Rattle.c_tree.specs.declared.def.Parameters.{Parameters}
use Rattle.c_tree.specs.declared.def.Parameters.TheVariants.{Named, Unnamed}
use Rattle.c_tree.specs.declared.def.Prototype.{Prototype}
use Rattle.c_tree.specs.declared.def.Function.{Function}
use Rattle.c_tree.specs.declared.def.Array.{Array}
use Rattle.c_tree.specs.declared.def.StructTransform.{StructTransform}
use Rattle.c_tree.specs.declared.def.Def.{Def}
use Rattle.c_tree.specs.declared.def.DefKind.{DefKind}
use Rattle.c_tree.specs.declared.def.DefKind.TheVariants as kind
use Rattle.c_tree.specs.declared.def.Program.{Program}
use Rattle.c_expr_types.specs.declared.fault.TypeKind.TheVariants.{DeclaredTwice, WrongType, NoMain, OverLimit, BadTransformer}
use Rattle.c_expr_types.specs.declared.fault.Fault.{Fault}
use Rattle.c_expr_types.specs.Faults.{fault, unless, first}
use Rattle.c_definitions.specs.Lookup.{Meaning, Scopes, name_of, meaning_in, definition_of, defined, members_of, types_of, declare}
use Rattle.c_definitions.specs.Lookup.Meaning.{AFunction}
use Rattle.c_definitions.specs.declared.lookup.Position.TheVariants.{InInitialiser}
use Rattle.c_expr_types.specs.declared.found.Part.{Part}
use Rattle.c_expr_types.specs.Found.{required, same_type}
use Rattle.c_expr_types.specs.Expressions.{is_int, fits, unknown_tag, infer}
use Rattle.c_expr_types.specs.Need.{need, optional_need, greatest, body_need}
use Rattle.c_types.specs.Statements.{Around, hiding, in_order, walk, total, variables}
use Rattle.c_types.specs.declared.statement.Loop.TheVariants.{Outside}
use Rattle.c_types.specs.TransformSyntax.{transforms_struct, is_transforming, is_global, of_struct, of_global}

-- Limits. What goes past one is reported at the first token of the definition.

-- tokens of a function, its parameters, its variables with the parameters; fields of a struct; the operand need; the cells
-- of all globals and arrays, and the length of an array. The names of a text have the limit of `name_sets`
abbrev pub max_tokens : ℕ
max_tokens = 4096

abbrev pub max_parameters : ℕ
max_parameters = 8

abbrev pub max_variables : ℕ
max_variables = 64

abbrev pub max_fields : ℕ
max_fields = 16

abbrev pub max_need : ℕ
max_need = 64

abbrev pub max_cells : ℕ
max_cells = 65536

-- some definitions declare the name, or there is none
abbrev pub declared_by : List Def → Option Name → Bool
declared_by ds None = true
declared_by ds (Some name) = is_some (definition_of ds name.text)

-- how many names a definition adds to those of others: 1 where it declares one that they don't
abbrev pub name_added : List Def → DefKind → ℕ
name_added ds (kind.Struct tag members) = if is_some (members_of ds tag.text) then 0 else 1
name_added ds made = if declared_by ds (name_of made) then 0 else 1

-- how many names some definitions have: functions, globals, arrays, mutexes, and structs, which are a space of their own
abbrev pub names_of : List Def → ℕ
names_of [] = 0
names_of (d ∷ ds) = name_added ds d.kind + names_of ds

-- how many cells
abbrev pub cells_in : DefKind → ℕ
cells_in (kind.Global d) = 1
cells_in (kind.Array a) = unsigned_abs (value_of a.length.value)
cells_in _ = 0

abbrev pub cells_of : List Def → ℕ
cells_of ds = total (map (λ d. cells_in d.kind) ds)

-- Parts of definitions.

-- names with types: members or parameters, after some that have these names
abbrev pub bindings : List Def → List Bytes → List Binding → List Fault
bindings text before [] = []
bindings text before (b ∷ bs) =
    unknown_tag text b.declared
    ++ (unless (not (list_any (bytes_eq b.name.text) before)) DeclaredTwice b.name.place
    ++ bindings text (b.name.text ∷ before) bs)

-- what a prototype has between its parentheses
abbrev pub parameters : List Def → Parameters → List Fault
parameters text (Named bs) = bindings text [] bs
parameters text (Unnamed types) = flat_map (unknown_tag text) types

abbrev pub parameter_types : Parameters → List CType
parameter_types (Named bs) = types_of bs
parameter_types (Unnamed types) = types

-- an initialiser of a global
abbrev pub initialiser : List Def → Expr → Part
initialiser text e = infer (record { text = text; scopes = [] ∷ []; position = InInitialiser }) e

-- and converted to its type
abbrev pub initialiser_faults : List Def → CType → Expr → List Fault
initialiser_faults text t e = required (fits text t (initialiser text e).found) (initialiser text e)

abbrev pub initial : List Def → CType → Option Expr → List Fault
initial text t None = []
initial text t (Some e) = initialiser_faults text t e

abbrev pub initialisers_of : Option (List Expr) → List Expr
initialisers_of None = []
initialisers_of (Some es) = es

-- the scopes in a function: its parameters are in the block that its body is
abbrev pub with_parameters : List Binding → Scopes → Scopes
with_parameters [] scopes = scopes
with_parameters (b ∷ bs) scopes = with_parameters bs (declare b.name.text b.declared scopes)

-- what surrounds the statements of a function
abbrev pub inside : List Def → Function → Around
inside text f = record {
  text = text;
  result = f.result;
  loop = Outside;
  in_transaction = false;
  scopes = with_parameters f.parameters ([] ∷ []);
}

-- the result's type has an unknown tag
abbrev pub result_faults : List Def → Option CType → List Fault
result_faults text None = []
result_faults text (Some t) = unknown_tag text t

-- Definitions, each with the text and what comes before it.

-- the name stands for something already; the tag is one of a struct already
abbrev pub named_twice : List Def → Name → List Fault
named_twice before name = unless (is_none (definition_of before name.text)) DeclaredTwice name.place

abbrev pub tagged_twice : List Def → Name → List Fault
tagged_twice before tag = unless (is_none (members_of before tag.text)) DeclaredTwice tag.place

-- the names up to and with the definition are too many
abbrev pub many_names : List Def → Def → List Fault
many_names before d = unless (nat_le (names_of (before ++ d ∷ [])) most_names) OverLimit d.place

-- the cells up to and with it are too many
abbrev pub many_cells : List Def → Def → List Fault
many_cells before d = unless (nat_le (cells_of (before ++ d ∷ [])) max_cells) OverLimit d.place

-- `struct T { .. };` (6.7.2.1)
abbrev pub struct_faults : List Def → List Def → Def → Name → List Binding → List Fault
struct_faults text before d tag members =
    hiding (bindings text [] members)
    (tagged_twice before tag
    ++ (unless (nat_le (length members) max_fields) OverLimit d.place ++ many_names before d))

-- `struct T;`: the text defines the struct
abbrev pub forward_faults : List Def → Def → Name → List Fault
forward_faults text d tag = unless (is_some (members_of text tag.text)) WrongType d.place

-- `mtx_t m;`
abbrev pub mutex_faults : List Def → Def → Name → List Fault
mutex_faults before d name = named_twice before name ++ many_names before d

-- a function is within its limits
abbrev pub is_small : Function → Bool
is_small f =
    nat_le f.tokens max_tokens && nat_le (length f.parameters) max_parameters
    && nat_le (length f.parameters + total (map variables f.body)) max_variables
    && nat_le (body_need f.body) max_need

-- a function (6.9.1)
abbrev pub function_faults : List Def → List Def → Def → Function → List Fault
function_faults text before d f =
    hiding (bindings text [] f.parameters ++ (in_order (map walk f.body) (inside text f)).faults)
    (result_faults text f.result
    ++ (named_twice before f.name ++ (unless (is_small f) OverLimit d.place ++ many_names before d)))

-- two results, or two lists of parameters, are of the same types (6.7.6.3p15)
abbrev pub same_result : Option CType → Option CType → Bool
same_result None None = true
same_result (Some a) (Some b) = same_type a b
same_result _ _ = false

abbrev pub same_types : List CType → List CType → Bool
same_types [] [] = true
same_types (a ∷ as') (b ∷ bs) = same_type a b && same_types as' bs
same_types _ _ = false

-- a function of that type
abbrev pub agrees : Option Meaning → Option CType → List CType → Bool
agrees (Some (AFunction result types)) result' types' = same_result result result' && same_types types types'
agrees _ result' types' = false

-- a prototype: the text defines the function, with that type
abbrev pub prototype_faults : List Def → Def → Prototype → List Fault
prototype_faults text d p =
    hiding (parameters text p.parameters)
    (result_faults text p.result
    ++ unless (agrees (defined text p.name.text) p.result (parameter_types p.parameters)) WrongType d.place)

-- a global variable (6.7.9)
abbrev pub global_faults : List Def → List Def → Def → Declaration → List Fault
global_faults text before d variable =
    hiding (initial text variable.declared variable.initial)
    (unknown_tag text variable.declared
    ++ (named_twice before variable.name
    ++ (unless (nat_le (optional_need variable.initial) max_need) OverLimit d.place
    ++ (many_names before d ++ many_cells before d))))

-- an array has a length from 1 on, a list that isn't longer, and small initialisers
abbrev pub is_small_array : Array → Bool
is_small_array a =
    int_le (pos 1) (value_of a.length.value) && int_le (value_of a.length.value) (pos max_cells)
    && int_le (pos (length (initialisers_of a.initial))) (value_of a.length.value)
    && nat_le (greatest (map need (initialisers_of a.initial))) max_need

-- an array (6.7.6.2, 6.7.9)
abbrev pub array_faults : List Def → List Def → Def → Array → List Fault
array_faults text before d a =
    hiding (flat_map (initialiser_faults text a.element) (initialisers_of a.initial))
    (unknown_tag text a.element
    ++ (named_twice before a.name
    ++ (unless (is_small_array a) OverLimit d.place ++ (many_names before d ++ many_cells before d))))

-- `dsu_transform struct T { .. }`
abbrev pub struct_transform_faults : List Def → List Def → Def → StructTransform → List Fault
struct_transform_faults text before d t =
    unless (not (list_any (λ d'. of_struct t.name.text d'.kind) before)
    && transforms_struct text (members_of text t.name.text) t.values) BadTransformer d.place
    ++ unless (nat_le (greatest (map (λ v. need v.value) t.values)) max_need) OverLimit d.place

-- `dsu_transform g = e;`
abbrev pub global_transform_faults : List Def → List Def → Def → Name → Expr → List Fault
global_transform_faults text before d name e =
    unless (not (list_any (λ d'. of_global name.text d'.kind) before)
    && is_global (defined text name.text) && is_transforming text e) BadTransformer d.place
    ++ unless (nat_le (need e) max_need) OverLimit d.place

abbrev pub kind_faults : List Def → List Def → Def → DefKind → List Fault
kind_faults text before d (kind.Struct tag members) = struct_faults text before d tag members
kind_faults text before d (kind.Forward tag) = forward_faults text d tag
kind_faults text before d (kind.Mutex name) = mutex_faults before d name
kind_faults text before d (kind.Function f) = function_faults text before d f
kind_faults text before d (kind.Prototype p) = prototype_faults text d p
kind_faults text before d (kind.Global variable) = global_faults text before d variable
kind_faults text before d (kind.Array a) = array_faults text before d a
kind_faults text before d (kind.TransformStruct t) = struct_transform_faults text before d t
kind_faults text before d (kind.TransformGlobal name e) = global_transform_faults text before d name e

-- the faults of some definitions of a text, which come after others
abbrev pub all_faults : List Def → List Def → List Def → List Fault
all_faults text before [] = []
all_faults text before (d ∷ ds) = kind_faults text before d d.kind ++ all_faults text (before ++ d ∷ []) ds

-- Whole texts.

-- `int main(void)` (5.1.2.2.1)
abbrev pub is_main : Option Meaning → Bool
is_main (Some (AFunction (Some t) [])) = is_int t
is_main _ = false

-- a definition of it
abbrev pub defines_main : DefKind → Bool
defines_main made = is_main (meaning_in made)

-- where the name is that a definition declares
abbrev pub name_place : ℕ → Option Name → ℕ
name_place end None = end
name_place end (Some name) = name.place

-- there is no main, or what has its name is none
abbrev pub main_faults : ℕ → Option Def → List Fault
main_faults end None = fault NoMain end ∷ []
main_faults end (Some d) = unless (defines_main d.kind) NoMain (name_place end (name_of d.kind))

-- all faults of a text. Its definitions are its parts
abbrev pub faults_in : Program → List Fault
faults_in program =
    hiding (all_faults program.definitions [] program.definitions)
    (main_faults program.end (definition_of program.definitions (codes "main")))

-- the text types: it has no fault
abbrev pub Types : Program → Type 0
Types program = faults_in program ≡ []

-- the fault that's told of a text
abbrev pub first_fault : Program → Option Fault
first_fault program = first (faults_in program)
