-- Definitions and whole texts (6.9). What is at the first level has depth 0.
use Rattle.std.specs.Prelude.{◌≡◌, ℕ, List, [], ◌∷◌, ◌++◌, map, length, Option, Some, None}
use Rattle.c_ints.specs.declared.int.Int.{Int}
use Rattle.c_tree.specs.declared.name.CType.{CType}
use Rattle.c_tree.specs.declared.expr.Expr.{Expr}
use Rattle.c_tree.specs.declared.stmt.Stmt.{Stmt}
use Rattle.c_tree.specs.declared.def.Binding.{Binding}
use Rattle.c_tree.specs.declared.def.Parameters.{Parameters}
use Rattle.c_tree.specs.declared.def.Parameters.TheVariants.{Named, Unnamed}
use Rattle.c_tree.specs.declared.def.Prototype.{Prototype}
use Rattle.c_tree.specs.declared.def.Function.{Function}
use Rattle.c_tree.specs.declared.def.FieldValue.{FieldValue}
use Rattle.c_tree.specs.declared.def.Def.{Def}
use Rattle.c_tree.specs.declared.def.DefKind.{DefKind}
use Rattle.c_tree.specs.declared.def.DefKind.TheVariants as kind
use Rattle.c_tree.specs.declared.def.Program.{Program}
use Rattle.c_expr_parser.specs.Placed.{Placed, at, start, end}
use Rattle.c_expr_parser.specs.Terminals.{IsPunctuator, IsKeyword, IsLibraryWord, IsIdentifier, IsNumber, name}
use Rattle.c_expr_parser.specs.TypeNames.{TypeName}
use Rattle.c_expr_parser.specs.Expressions.{Conditional}
use Rattle.c_expr_parser.specs.Declarations.{Commas, Declarators, Members}
use Rattle.c_expr_parser.specs.Statements.{Items}

-- the definition of a kind that begins at a place
abbrev pub def : ℕ → DefKind → Def
def place made = record { place = place; kind = made }

-- the definitions of a list of kinds that begin at one place
abbrev pub defs : ℕ → List DefKind → List Def
defs place made = map (def place) made

-- `static`, which changes nothing and makes no part of a tree, or nothing (6.7.1)
pub data Static : List Placed → Type 0 where
  absent : Static []
  present : {word : Placed} → IsKeyword 0 "static" word → Static (word ∷ [])

-- the type of a function's result; none where it is void
pub data ResultType : List Placed → Option CType → Type 0 where
  nothing : {word : Placed} → IsKeyword 0 "void" word → ResultType (word ∷ []) None
  value : {ts : List Placed} {t : CType} → TypeName 0 ts t → ResultType ts (Some t)

-- a parameter: a type and a name
pub data Parameter (depth : ℕ) : List Placed → Binding → Type 0 where
  parameter : {ts : List Placed} {t : CType} {variable : Placed} → TypeName depth ts t → IsIdentifier depth variable
      → Parameter depth (ts ++ variable ∷ []) (record { declared = t; name = name variable })

-- parameters with names (6.7.6.3): nothing, `void`, or some with commas between
pub data ParameterList (depth : ℕ) : List Placed → List Binding → Type 0 where
  nothing : ParameterList depth [] []
  void : {word : Placed} → IsKeyword depth "void" word → ParameterList depth (word ∷ []) []
  some : {ts : List Placed} {parameters : List Binding} → Commas depth (Parameter depth) ts parameters
      → ParameterList depth ts parameters

-- a definition of a function (6.9.1), with the number of its tokens
pub data FunctionDefinition : List Placed → Function → Type 0 where
  function : {whole result parameters body : List Placed} {function paren close brace final : Placed}
      {r : Option CType} {ps : List Binding} {ss : List Stmt}
      → ResultType result r → IsIdentifier 0 function → IsPunctuator 0 "(" paren → ParameterList 1 parameters ps
      → IsPunctuator 0 ")" close → IsPunctuator 0 "{" brace → Items 1 body ss → IsPunctuator 0 "}" final
      → whole ≡ result ++ (function ∷ paren ∷ parameters ++ (close ∷ brace ∷ body ++ final ∷ []))
      → FunctionDefinition whole (record {
        result = r;
        name = name function;
        parameters = ps;
        body = ss;
        end = at final;
        tokens = length whole;
      })

-- what a prototype has between its parentheses: parameters with names, or types alone
pub data PrototypeParameters (depth : ℕ) : List Placed → Parameters → Type 0 where
  named : {ts : List Placed} {parameters : List Binding} → ParameterList depth ts parameters
      → PrototypeParameters depth ts (Named parameters)
  unnamed : {ts : List Placed} {types : List CType} → Commas depth (TypeName depth) ts types
      → PrototypeParameters depth ts (Unnamed types)

-- a prototype (6.7.6.3)
pub data PrototypeDeclaration : List Placed → Prototype → Type 0 where
  prototype : {result parameters : List Placed} {function paren close semicolon : Placed} {r : Option CType} {ps : Parameters}
      → ResultType result r → IsIdentifier 0 function → IsPunctuator 0 "(" paren → PrototypeParameters 1 parameters ps
      → IsPunctuator 0 ")" close → IsPunctuator 0 ";" semicolon
      → PrototypeDeclaration (result ++ (function ∷ paren ∷ parameters ++ close ∷ semicolon ∷ []))
      (record { result = r; name = name function; parameters = ps })

-- a comma, or nothing
pub data TrailingComma (depth : ℕ) : List Placed → Type 0 where
  absent : TrailingComma depth []
  present : {comma : Placed} → IsPunctuator depth "," comma → TrailingComma depth (comma ∷ [])

-- a global variable or array, alone or with its initialisers (6.7.6.2, 6.7.9)
pub data GlobalDeclarator (t : CType) : List Placed → DefKind → Type 0 where
  plain : {global : Placed} → IsIdentifier 0 global
      → GlobalDeclarator t (global ∷ []) (kind.Global (record { declared = t; name = name global; initial = None }))
  initialised : {global sign : Placed} {ts : List Placed} {e : Expr}
      → IsIdentifier 0 global → IsPunctuator 0 "=" sign → Conditional 0 ts e
      → GlobalDeclarator t (global ∷ sign ∷ ts) (kind.Global (record { declared = t; name = name global; initial = Some e }))
  array : {global bracket number close : Placed} {length : Int}
      → IsIdentifier 0 global → IsPunctuator 0 "[" bracket → IsNumber 1 length number → IsPunctuator 0 "]" close
      → GlobalDeclarator t (global ∷ bracket ∷ number ∷ close ∷ []) (kind.Array (record {
        element = t;
        name = name global;
        length = record { place = at number; value = length };
        initial = None;
      }))
  initialised_array : {global bracket number close sign brace final : Placed} {ts trailing : List Placed} {length : Int} {es : List Expr}
      → IsIdentifier 0 global → IsPunctuator 0 "[" bracket → IsNumber 1 length number → IsPunctuator 0 "]" close
      → IsPunctuator 0 "=" sign → IsPunctuator 0 "{" brace → Commas 1 (Conditional 1) ts es → TrailingComma 1 trailing
      → IsPunctuator 0 "}" final
      → GlobalDeclarator t (global ∷ bracket ∷ number ∷ close ∷ sign ∷ brace ∷ ts ++ (trailing ++ final ∷ [])) (kind.Array (record {
        element = t;
        name = name global;
        length = record { place = at number; value = length };
        initial = Some es;
      }))

-- the updates of a struct's transformer
pub data Updates (depth : ℕ) : List Placed → List FieldValue → Type 0 where
  none : Updates depth [] []
  more : {field sign semicolon : Placed} {ts rest : List Placed} {e : Expr} {updates : List FieldValue}
      → IsIdentifier depth field → IsPunctuator depth "=" sign → Conditional depth ts e → IsPunctuator depth ";" semicolon
      → Updates depth rest updates
      → Updates depth (field ∷ sign ∷ ts ++ semicolon ∷ rest) (record { field = name field; value = e } ∷ updates)

-- what is at the first level of a text: a definition for each name that it declares
pub data Item : List Placed → List Def → Type 0 where
  forward : {word tag semicolon : Placed}
      → IsKeyword 0 "struct" word → IsIdentifier 0 tag → IsPunctuator 0 ";" semicolon
      → Item (word ∷ tag ∷ semicolon ∷ []) (def (at word) (kind.Forward (name tag)) ∷ [])
  struct : {word tag brace final semicolon : Placed} {ts : List Placed} {members : List Binding}
      → IsKeyword 0 "struct" word → IsIdentifier 0 tag → IsPunctuator 0 "{" brace → Members 1 ts members → IsPunctuator 0 "}" final
      → IsPunctuator 0 ";" semicolon
      → Item (word ∷ tag ∷ brace ∷ ts ++ final ∷ semicolon ∷ []) (def (at word) (kind.Struct (name tag) members) ∷ [])
  mutex : {static : List Placed} {word variable semicolon : Placed}
      → Static static → IsLibraryWord 0 "mtx_t" word → IsIdentifier 0 variable → IsPunctuator 0 ";" semicolon
      → Item (static ++ word ∷ variable ∷ semicolon ∷ []) (def (at word) (kind.Mutex (name variable)) ∷ [])
  function : {static ts : List Placed} {f : Function} → Static static → FunctionDefinition ts f
      → Item (static ++ ts) (def (start ts) (kind.Function f) ∷ [])
  prototype : {static ts : List Placed} {p : Prototype} → Static static → PrototypeDeclaration ts p
      → Item (static ++ ts) (def (start ts) (kind.Prototype p) ∷ [])
  global : {static ts names : List Placed} {semicolon : Placed} {t : CType} {globals : List DefKind}
      → Static static → TypeName 0 ts t → Declarators 0 t (GlobalDeclarator t) names globals → IsPunctuator 0 ";" semicolon
      → Item (static ++ (ts ++ (names ++ semicolon ∷ []))) (defs (start ts) globals)
  transform_struct : {word struct tag brace final : Placed} {ts : List Placed} {updates : List FieldValue}
      → IsLibraryWord 0 "dsu_transform" word → IsKeyword 0 "struct" struct → IsIdentifier 0 tag → IsPunctuator 0 "{" brace
      → Updates 1 ts updates → IsPunctuator 0 "}" final
      → Item (word ∷ struct ∷ tag ∷ brace ∷ ts ++ final ∷ [])
      (def (at word) (kind.TransformStruct (record { name = name tag; values = updates })) ∷ [])
  transform_global : {word global sign semicolon : Placed} {ts : List Placed} {e : Expr}
      → IsLibraryWord 0 "dsu_transform" word → IsIdentifier 0 global → IsPunctuator 0 "=" sign → Conditional 0 ts e
      → IsPunctuator 0 ";" semicolon
      → Item (word ∷ global ∷ sign ∷ ts ++ semicolon ∷ []) (def (at word) (kind.TransformGlobal (name global) e) ∷ [])

-- what a text consists of (6.9), and the definitions that it makes
pub data ItemList : List Placed → List Def → Type 0 where
  none : ItemList [] []
  more : {ts rest : List Placed} {made others : List Def} → Item ts made → ItemList rest others
      → ItemList (ts ++ rest) (made ++ others)

-- the tokens of a whole text and its tree; the tree ends after the last token
pub data TranslationUnit : List Placed → Program → Type 0 where
  program : {ts : List Placed} {made : List Def} → ItemList ts made
      → TranslationUnit ts (record { definitions = made; end = end ts })
