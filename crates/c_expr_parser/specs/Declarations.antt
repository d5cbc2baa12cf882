-- Declarations (6.7): lists with commas, and the declarations of variables.
use Rattle.std.specs.Prelude.{ℕ, List, [], ◌∷◌, ◌++◌, Some, None}
use Rattle.c_tree.specs.declared.name.CType.{CType}
use Rattle.c_tree.specs.declared.expr.Expr.{Expr}
use Rattle.c_tree.specs.declared.stmt.Declaration.{Declaration}
use Rattle.c_tree.specs.declared.def.Binding.{Binding}
use Rattle.c_expr_parser.specs.Placed.{Placed}
use Rattle.c_expr_parser.specs.Terminals.{IsPunctuator, IsIdentifier, name}
use Rattle.c_expr_parser.specs.TypeNames.{TypeName, Star}
use Rattle.c_expr_parser.specs.Expressions.{Assignment}

-- one phrase or more, with commas between
pub data Commas {A : Type 0} (depth : ℕ) (Phrase : List Placed → A → Type 0) : List Placed → List A → Type 0 where
  last : {ts : List Placed} {a : A} → Phrase ts a → Commas depth Phrase ts (a ∷ [])
  more : {ts rest : List Placed} {comma : Placed} {a : A} {others : List A}
      → Phrase ts a → IsPunctuator depth "," comma → Commas depth Phrase rest others
      → Commas depth Phrase (ts ++ comma ∷ rest) (a ∷ others)

-- what a type declares: one declarator or more with commas between, each but the first after the type's star
pub data Declarators {A : Type 0} (depth : ℕ) (t : CType) (Declarator : List Placed → A → Type 0)
    : List Placed → List A → Type 0 where
  last : {ts : List Placed} {a : A} → Declarator ts a → Declarators depth t Declarator ts (a ∷ [])
  more : {ts stars rest : List Placed} {comma : Placed} {a : A} {others : List A}
      → Declarator ts a → IsPunctuator depth "," comma → Star depth t stars → Declarators depth t Declarator rest others
      → Declarators depth t Declarator (ts ++ (comma ∷ stars ++ rest)) (a ∷ others)

-- a variable of a block, alone or with an initialiser (6.7.6, 6.7.9)
pub data Variable (depth : ℕ) (t : CType) : List Placed → Declaration → Type 0 where
  plain : {variable : Placed} → IsIdentifier depth variable
      → Variable depth t (variable ∷ []) (record { declared = t; name = name variable; initial = None })
  initialised : {variable sign : Placed} {ts : List Placed} {e : Expr}
      → IsIdentifier depth variable → IsPunctuator depth "=" sign → Assignment depth ts e
      → Variable depth t (variable ∷ sign ∷ ts) (record { declared = t; name = name variable; initial = Some e })

-- a declaration of a block: a tree for each name
pub data Variables (depth : ℕ) : List Placed → List Declaration → Type 0 where
  declaration : {ts names : List Placed} {semicolon : Placed} {t : CType} {declared : List Declaration}
      → TypeName depth ts t → Declarators depth t (Variable depth t) names declared → IsPunctuator depth ";" semicolon
      → Variables depth (ts ++ (names ++ semicolon ∷ [])) declared

-- a name of a type: a member of a struct
pub data Member (depth : ℕ) (t : CType) : List Placed → Binding → Type 0 where
  member : {field : Placed} → IsIdentifier depth field
      → Member depth t (field ∷ []) (record { declared = t; name = name field })

-- the members of a struct (6.7.2.1), one declaration of them or more
pub data Members (depth : ℕ) : List Placed → List Binding → Type 0 where
  last : {ts names : List Placed} {semicolon : Placed} {t : CType} {members : List Binding}
      → TypeName depth ts t → Declarators depth t (Member depth t) names members → IsPunctuator depth ";" semicolon
      → Members depth (ts ++ (names ++ semicolon ∷ [])) members
  more : {ts names rest : List Placed} {semicolon : Placed} {t : CType} {members others : List Binding}
      → TypeName depth ts t → Declarators depth t (Member depth t) names members → IsPunctuator depth ";" semicolon
      → Members depth rest others
      → Members depth (ts ++ (names ++ semicolon ∷ rest)) (members ++ others)
