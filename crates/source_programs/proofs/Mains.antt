-- A text without faults defines main.
use Rattle.std.proofs.Common.{◌≡◌, Bool, true, false, IsTrue, ℕ, List, [], ◌∷◌, map, Option, Some, None, is_some, codes, if◌then◌else◌, refl}
use Rattle.c_tree.specs.Bare.{bare_def, bare_kind}
use Rattle.c_tree.specs.BareDef.{BareDef}
use Rattle.c_tree.specs.BareExpr.{Bytes}
use Rattle.c_tree.specs.declared.def.Def.{Def}
use Rattle.c_tree.specs.declared.def.DefKind.{DefKind}
use Rattle.c_tree.specs.declared.def.DefKind.TheVariants as kind
use Rattle.c_tree.specs.declared.def.Program.{Program}
use Rattle.c_expr_types.specs.declared.fault.Fault.{Fault}
use Rattle.c_types.specs.Definitions.{Types, all_faults, main_faults}
use Rattle.c_definitions.specs.Lookup.{definition_of, is_named, name_of}
use Rattle.c_types.specs.Statements.{hiding}
use Rattle.c_semantics.specs.Texts.{defines, definition}
use Rattle.source_model.specs.JournalLaws.{HasMain}

-- a definition that declares a name defines it
declared_is_defined : (name : Bytes) (k : DefKind) → is_named name (name_of k) ≡ true → defines name (bare_kind k) ≡ true
declared_is_defined name (kind.Struct tag members) e = cc
declared_is_defined name (kind.Forward tag) e = cc
declared_is_defined name (kind.Mutex own) e = e
declared_is_defined name (kind.Function f) e = e
declared_is_defined name (kind.Prototype p) e = cc
declared_is_defined name (kind.Global d) e = e
declared_is_defined name (kind.Array a) e = e
declared_is_defined name (kind.TransformStruct t) e = cc
declared_is_defined name (kind.TransformGlobal global e) h = cc

-- so a name that a text declares has a definition there
declared_has_definition : (text : List Def) (name : Bytes) → IsTrue (is_some (definition_of text name)) → IsTrue (is_some (definition (map bare_def text) name))
declared_has_definition [] name h = h
declared_has_definition (d ∷ text) name h =
    by (is_named name (name_of d.kind)) (defines name (bare_def d)) (declared_is_defined name d.kind) (declared_has_definition text name) h
  where
    rest : Option Def
    rest = definition_of text name

    bare_rest : Option BareDef
    bare_rest = definition (map bare_def text) name

    by : (a b : Bool) → (a ≡ true → b ≡ true) → (IsTrue (is_some rest) → IsTrue (is_some bare_rest))
        → IsTrue (is_some (if a then Some d else rest)) → IsTrue (is_some (if b then Some (bare_def d) else bare_rest))
    by a true e after h = refl
    by true false e after h = let no : false ≡ true = e refl in absurd (cc)
    by false false e after h = after h

-- main is declared where there is no fault
main_is_declared : (parts : List Fault) (end : ℕ) (main : Option Def) → hiding parts (main_faults end main) ≡ [] → IsTrue (is_some main)
main_is_declared [] end None e = cc
main_is_declared [] end (Some d) e = refl
main_is_declared (f ∷ more) end main e = cc

pub has_main : (p : Program) → Types p → HasMain (map bare_def p.definitions)
has_main p types =
    let main = definition_of p.definitions (codes "main") in
    declared_has_definition p.definitions (codes "main") (main_is_declared (all_faults p.definitions [] p.definitions) p.end main types)
