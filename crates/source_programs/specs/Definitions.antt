-- The definitions of a text by name, as they are kept for a run.
use Rattle.std.specs.Prelude.{◌≡◌, List, [], map, Option, Some, None, find, bytes_eq, slice_get}
use Rattle.std.specs.Option.{option_and_then, option_map_or, is_some}
use Rattle.c_tree.specs.BareExpr.{Bytes, BareType}
use Rattle.c_tree.specs.BareDef.{BareBinding, BareDef}
use Rattle.c_semantics.specs.Resolved.{Statements, NoStatements}
use Rattle.c_semantics.specs.Resolution.{resolved_body}
use Rattle.c_semantics.specs.Texts as texts
use Rattle.c_semantics.specs.Texts.{Definitions, defined, definition, result_type, int}
use Rattle.source_programs.specs.declared.definition.Binding.{Binding}
use Rattle.source_programs.specs.declared.definition.Definition.{Definition}
use Rattle.resolved_tree.specs.Nodes.{Table, word, type_of, statements_at}

-- parameters or fields
abbrev pub binding_of : Table → Binding → BareBinding
binding_of t b = record { declared = type_of t b.declared; name = word t b.name }

abbrev pub bindings_of : Table → List Binding → List BareBinding
bindings_of t bs = map (binding_of t) bs

-- what is kept of a name that may be defined
abbrev pub parameters_of : Table → Option Definition → List BareBinding
parameters_of t d = option_map_or (λ x. bindings_of t x.parameters.items) d []

abbrev pub members_of : Table → Option Definition → List BareBinding
members_of t d = option_map_or (λ x. bindings_of t x.members.items) d []

abbrev pub result_of : Table → Option Definition → BareType
result_of t d = option_map_or (λ x. type_of t x.result) d int

abbrev pub body_if : Table → Option Definition → Statements
body_if t d = option_map_or (λ x. statements_at t x.body) d NoStatements

-- it is what a text defines
pub record IsDefinition (t : Table) (look : Definitions) (d : Option Definition) (own : Option BareDef) : Type 0 where
  pub there : is_some d ≡ is_some own
  pub parameters : parameters_of t d ≡ texts.parameters_of own
  pub members : members_of t d ≡ texts.members_of own
  pub result : result_of t d ≡ result_type own
  pub body : body_if t d ≡ resolved_body look own

-- it is that of a name, and what the text's definition defines
pub record Defines (t : Table) (look : Definitions) (d : Definition) (own : BareDef) : Type 0 where
  pub name : defined own ≡ Some (word t d.name)
  pub definition : IsDefinition t look (Some d) (Some own)

-- or there is none, as the text's definition defines no name
abbrev pub DefinesIf : Table → Definitions → Option Definition → BareDef → Type 0
DefinesIf t look None own = defined own ≡ None
DefinesIf t look (Some d) own = Defines t look d own

-- it is that of a name and has nothing of a function or of a struct
pub record IsPlain (t : Table) (d : Definition) (own : Bytes) : Type 0 where
  pub name : word t d.name ≡ own
  pub parameters : bindings_of t d.parameters.items ≡ []
  pub members : bindings_of t d.members.items ≡ []
  pub result : type_of t d.result ≡ int
  pub body : statements_at t d.body ≡ NoStatements

-- the first of some definitions that is that of a name
abbrev pub kept : Table → List Definition → Bytes → Option Definition
kept t ds name = find (λ d. bytes_eq name (word t d.name)) ds

-- they are those of a text, by name
abbrev pub AreDefinitions : Table → List BareDef → List Definition → Type 0
AreDefinitions t text ds = (name : Bytes) → IsDefinition t (definition text) (kept t ds name) (definition text name)

-- the names of some definitions, in order
abbrev pub names_in : Table → List Definition → List Bytes
names_in t ds = map (λ d. word t d.name) ds

-- the tree at the place that is kept of a name, among the definitions of a text
abbrev pub tree_kept : Table → List BareDef → List Definition → Definitions
tree_kept t text ds name = option_and_then (λ d. slice_get text d.place) (kept t ds name)

-- it is what the text defines as the name
abbrev pub HaveTrees : Table → List BareDef → List Definition → Type 0
HaveTrees t text ds = (name : Bytes) → tree_kept t text ds name ≡ definition text name
