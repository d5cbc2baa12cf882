-- The names of functions, globals, arrays and mutexes are identifiers, so what an accepted text defines as a struct's name is a struct.
use Rattle.std.proofs.Common.{◌≡◌, ℕ, Bool, true, false, cond, List, [], ◌∷◌, ◌++◌, map, Option, Some, None, bytes_eq, refl, sym, ap, subst, ◌∙◌}
use Rattle.c_lexer.specs.Units.{is_name}
use Rattle.c_tree.specs.Bare.{bare_def, bare_kind}
use Rattle.c_tree.specs.BareDef.{BareDef}
use Rattle.c_tree.specs.BareExpr.{Bytes}
use Rattle.c_tree.specs.declared.name.Name.{Name}
use Rattle.c_tree.specs.declared.name.CType.{CType}
use Rattle.c_tree.specs.declared.def.Def.{Def}
use Rattle.c_tree.specs.declared.def.DefKind.{DefKind}
use Rattle.c_tree.specs.declared.def.DefKind.TheVariants as kind
use Rattle.c_tree.specs.declared.def.Function.{Function as FunctionTree}
use Rattle.c_tree.specs.declared.def.Program.{Program}
use Rattle.c_expr_parser.specs.Placed.{Placed, text, tokens}
use Rattle.c_expr_parser.specs.Terminals.{IsIdentifier}
use Rattle.c_expr_parser.specs.Declarations.{Declarators}
use Rattle.c_expr_parser.specs.Definitions.{FunctionDefinition, GlobalDeclarator, Item, ItemList, TranslationUnit, defs}
use Rattle.c_definitions.specs.Lookup.{name_of}
use Rattle.c_front.specs.Accepted.{IsReadAs}
use Rattle.c_semantics.specs.Names.{struct_name}
use Rattle.c_semantics.specs.SourceTexts.{Text}
use Rattle.c_semantics.specs.Texts.{defines, definition}
use Rattle.typed_trees.specs.ExpressionTypes.{IsStruct}
use Rattle.typed_uses.proofs.Identifiers.{AreWords, IsWord, lexed_words, no_identifier}
use Rattle.typed_uses.proofs.Lookups.{same_bytes}
use Rattle.frame_bodies.specs.AcceptedTexts.{IsAccepted}
use Rattle.frame_bodies.proofs.AcceptedFacts.{bare_of}

-- the tokens that are placed
abbrev Words : List Placed → Type 0
Words ts = AreWords (tokens ts)

before : (ts us : List Placed) → Words (ts ++ us) → Words ts
before [] us w = tt
before (t ∷ ts) us w = (w.0, before ts us w.1)

behind : (ts us : List Placed) → Words (ts ++ us) → Words us
behind [] us w = w
behind (t ∷ ts) us w = behind ts us w.1

-- the name that a definition declares is an identifier
abbrev IsIdentified : Option Name → Type 0
IsIdentified None = Unit {0}
IsIdentified (Some n) = is_name n.text ≡ true

abbrev Identified : List Def → Type 0
Identified [] = Unit {0}
Identified (d ∷ ds) = IsIdentified (name_of d.kind) × Identified ds

identified : (depth : ℕ) (t : Placed) → IsIdentifier depth t → IsWord t.token → is_name (text t) ≡ true
identified depth t i w = w i.sort

of_function : (ts : List Placed) (f : FunctionTree) → FunctionDefinition ts f → Words ts → is_name f.name.text ≡ true
of_function whole _ (FunctionDefinition.function {result = result} {function = function} r i paren ps close brace ss final e) w =
    identified 0 function i (behind result _ (subst Words e w)).0

of_global : (t : CType) (ts : List Placed) (k : DefKind) → GlobalDeclarator t ts k → Words ts → IsIdentified (name_of k)
of_global t _ _ (GlobalDeclarator.plain {global = global} i) w = identified 0 global i w.0
of_global t _ _ (GlobalDeclarator.initialised {global = global} i sign e) w = identified 0 global i w.0
of_global t _ _ (GlobalDeclarator.array {global = global} i bracket n close) w = identified 0 global i w.0
of_global t _ _ (GlobalDeclarator.initialised_array {global = global} i bracket n close sign brace es trailing final) w = identified 0 global i w.0

of_globals : (t : CType) (place : ℕ) (ts : List Placed) (ks : List DefKind) → Declarators 0 t (GlobalDeclarator t) ts ks → Words ts →
    Identified (defs place ks)
of_globals t place _ _ (Declarators.last {ts = ts} {a = k} g) w = (of_global t ts k g w, tt)
of_globals t place _ _ (Declarators.more {ts = ts} {stars = stars} {rest = rest} {comma = comma} {a = k} {others = others} g c s later) w =
    (of_global t ts k g (before ts _ w), of_globals t place rest others later (behind stars rest (behind ts (comma ∷ stars ++ rest) w).1))

of_item : (ts : List Placed) (ds : List Def) → Item ts ds → Words ts → Identified ds
of_item _ _ (Item.forward word tag semicolon) w = (tt, tt)
of_item _ _ (Item.struct word tag brace members final semicolon) w = (tt, tt)
of_item _ _ (Item.mutex {static = static} {variable = variable} s word i semicolon) w = (identified 0 variable i (behind static _ w).1.0, tt)
of_item _ _ (Item.function {static = static} {ts = ts} {f = f} s d) w = (of_function ts f d (behind static ts w), tt)
of_item _ _ (Item.prototype s p) w = (tt, tt)
of_item _ _ (Item.global {static = static} {ts = ts} {names = names} {t = t} {globals = globals} s type declarators semicolon) w =
    of_globals t _ names globals declarators (before names _ (behind ts _ (behind static _ w)))
of_item _ _ (Item.transform_struct word struct tag brace updates final) w = (tt, tt)
of_item _ _ (Item.transform_global word i sign e semicolon) w = (tt, tt)

all_identified : (ds es : List Def) → Identified ds → Identified es → Identified (ds ++ es)
all_identified [] es a b = b
all_identified (d ∷ ds) es a b = (a.0, all_identified ds es a.1 b)

of_items : (ts : List Placed) (ds : List Def) → ItemList ts ds → Words ts → Identified ds
of_items _ _ ItemList.none w = tt
of_items _ _ (ItemList.more {ts = ts} {rest = rest} {made = made} {others = others} item later) w =
    all_identified made others (of_item ts made item (before ts rest w)) (of_items rest others later (behind ts rest w))

of_unit : (ts : List Placed) (program : Program) → TranslationUnit ts program → Words ts → Identified program.definitions
of_unit ts _ (TranslationUnit.program {made = made} items) w = of_items ts made items w

identified_in : (bytes : Bytes) (program : Program) → IsReadAs bytes program → Identified program.definitions
identified_in bytes program is =
    let words : Words is.reads.placed = subst AreWords (sym is.reads.are) (lexed_words bytes is.tokens is.lexes) in
    subst (λ (p : Program). Identified p.definitions) (sym is.ends) (of_unit is.reads.placed is.read is.reads.phrase words)

-- ---- what is defined as a struct's name

abbrev IsStructIf : Option BareDef → Type 0
IsStructIf None = Unit {0}
IsStructIf (Some d) = IsStruct (Some d)

another : (tag name : Bytes) → is_name name ≡ true → bytes_eq (struct_name tag) name ≡ true → ⊥
another tag name is e =
    let named : is_name (struct_name tag) ≡ true = subst (λ (s : Bytes). is_name s ≡ true) (sym (same_bytes (struct_name tag) name e)) is in
    let clash : true ≡ false = sym named ∙ no_identifier tag in cc

struct_only : (ds : List Def) (tag : Bytes) → Identified ds → IsStructIf (definition (map bare_def ds) (struct_name tag))
struct_only [] tag i = tt
struct_only (d ∷ ds) tag i = by d.kind i.0 (struct_only ds tag i.1)
  where
    rest : Option BareDef
    rest = definition (map bare_def ds) (struct_name tag)

    -- a definition of a name of its own
    passed : (own : BareDef) (name : Bytes) → is_name name ≡ true → IsStructIf rest → (b : Bool) → bytes_eq (struct_name tag) name ≡ b
        → IsStructIf (cond b (Some own) rest)
    passed own name is h true e = absurd (another tag name is e)
    passed own name is h false e = h

    one : (t : Name) (own : BareDef) → IsStruct (Some own) → IsStructIf rest → (b : Bool) → IsStructIf (cond b (Some own) rest)
    one t own is h true = is
    one t own is h false = h

    by : (k : DefKind) → IsIdentified (name_of k) → IsStructIf rest
        → IsStructIf (cond (defines (struct_name tag) (bare_kind k)) (Some (bare_kind k)) rest)
    by (kind.Struct t members) i h = one t (bare_kind (kind.Struct t members)) tt h (bytes_eq (struct_name tag) (struct_name t.text))
    by (kind.Forward t) i h = h
    by (kind.Mutex n) i h = passed (bare_kind (kind.Mutex n)) n.text i h (bytes_eq (struct_name tag) n.text) refl
    by (kind.Function f) i h = passed (bare_kind (kind.Function f)) f.name.text i h (bytes_eq (struct_name tag) f.name.text) refl
    by (kind.Prototype p) i h = h
    by (kind.Global g) i h = passed (bare_kind (kind.Global g)) g.name.text i h (bytes_eq (struct_name tag) g.name.text) refl
    by (kind.Array a) i h = passed (bare_kind (kind.Array a)) a.name.text i h (bytes_eq (struct_name tag) a.name.text) refl
    by (kind.TransformStruct t) i h = h
    by (kind.TransformGlobal n e) i h = h

pub struct_found : (text : Text) (tag : Bytes) (d : BareDef) → IsAccepted text → definition text.definitions (struct_name tag) ≡ Some d
    → IsStruct (Some d)
struct_found text tag d a found =
    let only = struct_only text.tree.definitions tag (identified_in a.bytes text.tree a.accepted.is_read) in
    subst IsStructIf found (subst (λ (ds : List BareDef). IsStructIf (definition ds (struct_name tag))) (bare_of text a) only)
