-- The code of a text is that of its functions.
use Rattle.std.proofs.Common.{◌≡◌, ℕ, Bool, true, false, List, [], ◌∷◌, map, filter_map, length, Option, Some, None, find, cond, bytes_eq, refl, sym, ap, subst, ◌∙◌}
use Rattle.std.specs.List.{All}
use Rattle.std.proofs.lemmas.List.Elements.{All-cons, All-nil}
use Rattle.c_tree.specs.BareDef.{BareDef}
use Rattle.c_tree.specs.BareDef as bare
use Rattle.c_tree.specs.BareExpr.{Bytes}
use Rattle.c_semantics.specs.Names.{struct_name}
use Rattle.c_semantics.specs.Resolution.{resolved_body}
use Rattle.c_semantics.specs.Texts.{Definitions, defines, definition, parameters_of, result_type}
use Rattle.c_semantics.specs.SourceTexts.{Text}
use Rattle.typed_uses.proofs.Lookups.{itself, same_bytes}
use Rattle.frame_bodies.specs.AcceptedTexts.{is_function, looked_up}
use Rattle.frame_bodies.proofs.OnlyOnce.{Lone, NoFunction, NotNamed, alone_in}
use Rattle.tree_code.specs.Code.{body_code}
use Rattle.text_code.specs.Bodies.{CodedFunction, code_of_text}
use Rattle.accepted_code.specs.AcceptedCode.{CodeIsThatOfFunctions, code_named}

no : {b : Bool} → b ≡ false → b ≡ true → ⊥
no e h = never (sym e ∙ h)
  where
    never : false ≡ true → ⊥
    never e = cc

-- the code of a definition under a name
abbrev coded_at : Definitions → Bytes → Option BareDef → CodedFunction
coded_at look name d = record {
  name = name;
  parameters = length (parameters_of d);
  code = body_code look (parameters_of d) (result_type d) (resolved_body look d);
}

-- ---- each function is found by its name

module _ (look : Definitions) (function : Bytes) where
  abbrev Names : Option BareDef → Option CodedFunction → Type 0
  Names d o = is_function d ≡ true → o ≡ Some (coded_at look function d)

  -- a definition that is no function is passed over
  skip : (b : Bool) (d : BareDef) (rest : Option BareDef) (o : Option CodedFunction) → is_function (Some d) ≡ false → Names rest o
      → Names (cond b (Some d) rest) o
  skip true d rest o n ih h = absurd (no n h)
  skip false d rest o n ih h = ih h

  named : (name : Bytes) (d : BareDef) (b : Bool) → bytes_eq function name ≡ b → (rest : Option BareDef) (o : Option CodedFunction)
      → Names rest o → Names (cond b (Some d) rest) (cond b (Some (coded_at look name (Some d))) o)
  named name d true e rest o ih h = ap (λ n. Some (coded_at look n (Some d))) (sym (same_bytes function name e))
  named name d false e rest o ih h = ih h

  found : (ds : List BareDef) → Names (find (defines function) ds) (code_named function (code_of_text look ds))
  found [] h = absurd (no refl h)
  found (bare.Struct tag members ∷ ds) h = skip (bytes_eq function (struct_name tag)) (bare.Struct tag members) _ _ refl (found ds) h
  found (bare.Forward tag ∷ ds) h = found ds h
  found (bare.Mutex name ∷ ds) h = skip (bytes_eq function name) (bare.Mutex name) _ _ refl (found ds) h
  found (bare.Function result name parameters body ∷ ds) h =
      named name (bare.Function result name parameters body) (bytes_eq function name) refl _ _ (found ds) h
  found (bare.Prototype result name parameters ∷ ds) h = found ds h
  found (bare.Global d ∷ ds) h = skip (bytes_eq function d.name) (bare.Global d) _ _ refl (found ds) h
  found (bare.Array element name size initial ∷ ds) h =
      skip (bytes_eq function name) (bare.Array element name size initial) _ _ refl (found ds) h
  found (bare.TransformStruct tag values ∷ ds) h = found ds h
  found (bare.TransformGlobal name value ∷ ds) h = found ds h

-- ---- each body is that of the function with its name

-- what is found under a function's name is the function
abbrev IsFound : Definitions → BareDef → Type 0
IsFound look (bare.Function result name parameters body) = look name ≡ Some (bare.Function result name parameters body)
IsFound look _ = Unit {0}

abbrev AreFound : Definitions → List BareDef → Type 0
AreFound look [] = Unit {0}
AreFound look (d ∷ ds) = IsFound look d × AreFound look ds

-- also after another definition
still : (d : BareDef) (ds es : List BareDef) → ((f : Bytes) → defines f d ≡ true → NoFunction f es) → AreFound (definition ds) es
    → AreFound (definition (d ∷ ds)) es
still d ds [] other h = tt
still d ds (e ∷ es) other h = (by e (λ f g. (other f g).0) h.0, still d ds es (λ f g. (other f g).1) h.1)
  where
    test : (name : Bytes) (e : BareDef) (b : Bool) → (b ≡ true → bytes_eq name name ≡ false) → definition ds name ≡ Some e
        → cond b (Some d) (find (defines name) ds) ≡ Some e
    test name e true other h = absurd (no (other refl) (itself name))
    test name e false other h = h

    by : (e : BareDef) → ((f : Bytes) → defines f d ≡ true → NotNamed f e) → IsFound (definition ds) e → IsFound (definition (d ∷ ds)) e
    by (bare.Struct tag members) other h = tt
    by (bare.Forward tag) other h = tt
    by (bare.Mutex name) other h = tt
    by (bare.Function result name parameters body) other h =
        test name (bare.Function result name parameters body) (defines name d) (other name) h
    by (bare.Prototype result name parameters) other h = tt
    by (bare.Global d) other h = tt
    by (bare.Array element name size initial) other h = tt
    by (bare.TransformStruct tag values) other h = tt
    by (bare.TransformGlobal name value) other h = tt

own : (d : BareDef) (ds : List BareDef) → IsFound (definition (d ∷ ds)) d
own (bare.Struct tag members) ds = tt
own (bare.Forward tag) ds = tt
own (bare.Mutex name) ds = tt
own (bare.Function result name parameters body) ds =
    ap (λ b. cond b (Some (bare.Function result name parameters body)) (find (defines name) ds)) (itself name)
own (bare.Prototype result name parameters) ds = tt
own (bare.Global d) ds = tt
own (bare.Array element name size initial) ds = tt
own (bare.TransformStruct tag values) ds = tt
own (bare.TransformGlobal name value) ds = tt

all_found : (ds : List BareDef) → Lone ds → AreFound (definition ds) ds
all_found [] l = tt
all_found (d ∷ ds) l = (own d ds, still d ds ds l.0 (all_found ds l.1))

module _ (look : Definitions) where
  abbrev IsOwn : CodedFunction → Type 0
  IsOwn c = (is_function (look c.name) ≡ true) × (c ≡ coded_at look c.name (look c.name))

  each : (ds : List BareDef) → AreFound look ds → All IsOwn (code_of_text look ds)
  each [] h = All-nil IsOwn
  each (bare.Struct tag members ∷ ds) h = each ds h.1
  each (bare.Forward tag ∷ ds) h = each ds h.1
  each (bare.Mutex name ∷ ds) h = each ds h.1
  each (bare.Function result name parameters body ∷ ds) h =
      let d = bare.Function result name parameters body in
      All-cons IsOwn (coded_at look name (Some d)) (code_of_text look ds) (ap is_function h.0, ap (coded_at look name) (sym h.0)) (each ds h.1)
  each (bare.Prototype result name parameters ∷ ds) h = each ds h.1
  each (bare.Global d ∷ ds) h = each ds h.1
  each (bare.Array element name size initial ∷ ds) h = each ds h.1
  each (bare.TransformStruct tag values ∷ ds) h = each ds h.1
  each (bare.TransformGlobal name value ∷ ds) h = each ds h.1

pub code_is_that_of_functions : CodeIsThatOfFunctions
code_is_that_of_functions text a = record {
  each = each (looked_up text) text.definitions (all_found text.definitions (alone_in text a));
  found = λ function h. found (looked_up text) function text.definitions h;
}
