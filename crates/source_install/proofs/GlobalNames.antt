-- In a text that types, what has cells is the only thing with cells of its name.
use Rattle.std.proofs.Common.{◌≡◌, Bool, true, false, cond, IsTrue, List, [], ◌∷◌, ◌++◌, map, Option, Some, None, is_none, All, bytes_eq, refl, sym, ap, subst, ◌∙◌}
use Rattle.std.specs.Option.{option_map_or}
use Rattle.std.proofs.lemmas.List.{append_assoc}
use Rattle.std.proofs.lemmas.List.Elements.{All-nil, All-cons}
use Rattle.std.proofs.lemmas.Slice.Eq.{bytes_eq-Decides}
use Rattle.std.specs.Prelude.{⊤}
use Rattle.c_tree.specs.BareExpr.{Bytes}
use Rattle.c_tree.specs.BareDef.{BareDef}
use Rattle.c_tree.specs.Bare.{bare_def, bare_kind}
use Rattle.c_tree.specs.declared.name.Name.{Name}
use Rattle.c_tree.specs.declared.def.Def.{Def}
use Rattle.c_tree.specs.declared.def.DefKind.{DefKind}
use Rattle.c_tree.specs.declared.def.DefKind.TheVariants.{Struct, Forward, Mutex, Function, Prototype, Global, Array, TransformStruct, TransformGlobal}
use Rattle.c_tree.specs.declared.def.Program.{Program}
use Rattle.c_expr_types.specs.declared.fault.Fault.{Fault}
use Rattle.c_expr_types.specs.declared.fault.TypeKind.TheVariants.{DeclaredTwice}
use Rattle.c_expr_types.specs.Faults.{unless}
use Rattle.c_definitions.specs.Lookup.{definition_of, is_named, name_of}
use Rattle.c_types.specs.Statements.{hiding}
use Rattle.c_types.specs.Definitions.{Types, all_faults, kind_faults, named_twice}
use Rattle.c_semantics.specs.Texts.{defined, defines, definition}
use Rattle.source_model.specs.Installs.{has_cells}
use Rattle.source_install.specs.OwnCells.{IsOwn}

same_bytes : (a b : Bytes) → bytes_eq a b ≡ true → a ≡ b
same_bytes a b e = (bytes_eq-Decides a b).0 e

itself : (a : Bytes) → bytes_eq a a ≡ true
itself a = (bytes_eq-Decides a a).1 refl

-- ---- what is defined by a name

-- what has cells defines its own name
cells_named : (name : Bytes) (k : DefKind) → has_cells (bare_kind k) ≡ true → defines name (bare_kind k) ≡ is_named name (name_of k)
cells_named name (Struct tag members) cells = cc
cells_named name (Forward tag) cells = cc
cells_named name (Mutex n) cells = cc
cells_named name (Function f) cells = cc
cells_named name (Prototype p) cells = cc
cells_named name (Global d) cells = refl
cells_named name (Array a) cells = refl
cells_named name (TransformStruct t) cells = cc
cells_named name (TransformGlobal n e) cells = cc

-- nothing with cells is there
abbrev NoCells : Option BareDef → Type 0
NoCells None = ⊤
NoCells (Some d) = has_cells d ≡ false

-- where none of some definitions has a name as its own, nothing with cells has it
none_named : (ds : List Def) (name : Bytes) → definition_of ds name ≡ None → NoCells (definition (map bare_def ds) name)
none_named [] name none = tt
none_named (d ∷ ds) name none =
    by (none_named ds name) (is_named name (name_of d.kind)) refl none (defines name (bare_def d)) refl (has_cells (bare_def d)) refl
  where
    by : (definition_of ds name ≡ None → NoCells (definition (map bare_def ds) name)) → (m : Bool) → is_named name (name_of d.kind) ≡ m → cond m (Some d) (definition_of ds name) ≡ None
        → (b : Bool) → defines name (bare_def d) ≡ b → (h : Bool) → has_cells (bare_def d) ≡ h
        → NoCells (cond b (Some (bare_def d)) (definition (map bare_def ds) name))
    by rest true own none b is h has = cc
    by rest false own none false is h has = rest none
    by rest false own none true is false has = has
    by rest false own none true is true has = let clash : true ≡ false = sym is ∙ cells_named name d.kind has ∙ own in cc

-- so the first with cells that defines it is found, if what is found has cells
first_found : (before : List Def) (d : Def) (ds : List Def) (name : Bytes) → NoCells (definition (map bare_def before) name)
    → defines name (bare_def d) ≡ true
    → (other : BareDef) → definition (map bare_def (before ++ d ∷ ds)) name ≡ Some other → has_cells other ≡ true → other ≡ bare_def d
first_found [] d ds name none this other is has =
    let both : Some (bare_def d) ≡ Some other = sym (ap (λ b. cond b (Some (bare_def d)) (definition (map bare_def ds) name)) this) ∙ is in cc
first_found (b ∷ before) d ds name none this other is has = by (defines name (bare_def b)) none is (first_found before d ds name)
  where
    by : (t : Bool) → NoCells (cond t (Some (bare_def b)) (definition (map bare_def before) name))
        → cond t (Some (bare_def b)) (definition (map bare_def (before ++ d ∷ ds)) name) ≡ Some other
        → (NoCells (definition (map bare_def before) name) → defines name (bare_def d) ≡ true
        → (other : BareDef) → definition (map bare_def (before ++ d ∷ ds)) name ≡ Some other → has_cells other ≡ true → other ≡ bare_def d)
        → other ≡ bare_def d
    by true none is rest =
        let same : bare_def b ≡ other = cc in
        let clash : true ≡ false = sym has ∙ ap has_cells (sym same) ∙ none in cc
    by false none is rest = rest none this other is has

-- ---- a text without a fault

left_none : (xs ys : List Fault) → xs ++ ys ≡ [] → xs ≡ []
left_none [] ys e = refl
left_none (x ∷ xs) ys e = cc

right_none : (xs ys : List Fault) → xs ++ ys ≡ [] → ys ≡ []
right_none [] ys e = e
right_none (x ∷ xs) ys e = cc

parts_none : (xs ys : List Fault) → hiding xs ys ≡ [] → xs ≡ []
parts_none [] ys e = refl
parts_none (x ∷ xs) ys e = cc

whole_none : (xs ys : List Fault) → hiding xs ys ≡ [] → ys ≡ []
whole_none [] ys e = e
whole_none (x ∷ xs) ys e = cc

not_before : (before : List Def) (name : Name) → named_twice before name ≡ [] → definition_of before name.text ≡ None
not_before before name e = by (definition_of before name.text) e
  where
    by : (o : Option Def) → unless (is_none o) DeclaredTwice name.place ≡ [] → o ≡ None
    by None e = refl
    by (Some d) e = cc

module _ (text before : List Def) (d : Def) (ds : List Def) where
  abbrev whole : List BareDef
  whole = map bare_def (before ++ d ∷ ds)

  -- a definition of a name that comes once
  once : (name : Name) → named_twice before name ≡ [] → defined (bare_def d) ≡ Some name.text → IsOwn whole (bare_def d)
  once name twice is cells n same other found has =
      let named : name.text ≡ n = let both : Some name.text ≡ Some n = sym is ∙ same in cc in
      first_found before d ds name.text (none_named before name.text (not_before before name twice))
      (ap (λ o. option_map_or (bytes_eq name.text) o false) is ∙ itself name.text) other (ap (definition whole) named ∙ found) has

  own_here : (k : DefKind) → d.kind ≡ k → kind_faults text before d k ≡ [] → IsOwn whole (bare_def d)
  own_here (Global v) is e =
      once v.name (left_none (named_twice before v.name) _ (right_none _ _ (whole_none _ _ e))) (ap (λ k. defined (bare_kind k)) is)
  own_here (Array a) is e =
      once a.name (left_none (named_twice before a.name) _ (right_none _ _ (whole_none _ _ e))) (ap (λ k. defined (bare_kind k)) is)
  own_here (Struct tag members) is e = λ cells. let none : IsTrue false = subst (λ k. IsTrue (has_cells (bare_kind k))) is cells in cc
  own_here (Forward tag) is e = λ cells. let none : IsTrue false = subst (λ k. IsTrue (has_cells (bare_kind k))) is cells in cc
  own_here (Mutex n) is e = λ cells. let none : IsTrue false = subst (λ k. IsTrue (has_cells (bare_kind k))) is cells in cc
  own_here (Function f) is e = λ cells. let none : IsTrue false = subst (λ k. IsTrue (has_cells (bare_kind k))) is cells in cc
  own_here (Prototype p) is e = λ cells. let none : IsTrue false = subst (λ k. IsTrue (has_cells (bare_kind k))) is cells in cc
  own_here (TransformStruct t) is e = λ cells. let none : IsTrue false = subst (λ k. IsTrue (has_cells (bare_kind k))) is cells in cc
  own_here (TransformGlobal n v) is e = λ cells. let none : IsTrue false = subst (λ k. IsTrue (has_cells (bare_kind k))) is cells in cc

own_all : (text before ds : List Def) → all_faults text before ds ≡ [] → All (IsOwn (map bare_def (before ++ ds))) (map bare_def ds)
own_all text before [] e = All-nil (IsOwn (map bare_def (before ++ [])))
own_all text before (d ∷ ds) e =
    let whole = map bare_def (before ++ d ∷ ds) in
    All-cons (IsOwn whole) (bare_def d) (map bare_def ds)
    (own_here text before d ds d.kind refl (left_none (kind_faults text before d d.kind) _ e))
    (subst (λ l. All (IsOwn (map bare_def l)) (map bare_def ds)) (append_assoc before (d ∷ []) ds)
    (own_all text (before ++ d ∷ []) ds (right_none (kind_faults text before d d.kind) _ e)))

pub own_cells : (program : Program) → Types program → All (IsOwn (map bare_def program.definitions)) (map bare_def program.definitions)
own_cells program types =
    own_all program.definitions [] program.definitions (parts_none (all_faults program.definitions [] program.definitions) _ types)
