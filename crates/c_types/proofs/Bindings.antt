-- Names that are declared in one block, one after another, and lists of types.
use Rattle.std.proofs.Common.{◌≡◌, ℕ, ◌+◌, ◌<◌, Bool, true, false, not, ◌||◌, ◌&&◌, List, [], ◌∷◌, ◌++◌, drop, length, get_or, Option, None, Some, is_some, refl, sym, ap, ◌∙◌, arith, append_assoc, bytes_eq, if◌then◌else◌}
use Rattle.std.specs.Option.{option_or}
use Rattle.std.specs.List.{list_any}
use Rattle.std.proofs.lemmas.List.{at_drop_more}
use Rattle.c_scope.specs.Tables.{look_up}
use Rattle.c_tree.specs.BareExpr.{Bytes}
use Rattle.c_tree.specs.declared.name.CType.{CType}
use Rattle.c_tree.specs.declared.def.Binding.{Binding}
use Rattle.c_tree.specs.declared.def.Def.{Def}
use Rattle.c_expr_types.specs.declared.fault.Fault.{Fault}
use Rattle.c_expr_types.specs.declared.fault.TypeKind.TheVariants.{DeclaredTwice}
use Rattle.c_expr_types.specs.Faults.{first, sooner, unless}
use Rattle.c_expr_types.specs.Found.{same_type}
use Rattle.c_definitions.specs.Lookup.{Scopes, declare, is_repeated}
use Rattle.c_expr_types.specs.Expressions.{unknown_tag}
use Rattle.c_types.specs.Definitions.{bindings, same_types, with_parameters}
use Rattle.c_expr_types.proofs.Firsts.{first_append, sooner_of_three}
use Rattle.c_definitions.proofs.Index.{one_more, one_more_is, look_up_one_more}

-- what is wrong with one of them
abbrev pub binding_faults : List Def → Scopes → Binding → List Fault
binding_faults text scopes b =
    unknown_tag text b.declared ++ unless (not (is_repeated b.name.text scopes)) DeclaredTwice b.name.place

-- and with all, by the scopes before them
abbrev pub bound_by : List Def → Scopes → List Binding → List Fault
bound_by text scopes [] = []
bound_by text scopes (b ∷ bs) = binding_faults text scopes b ++ bound_by text (declare b.name.text b.declared scopes) bs

pub some_of_two : {T : Type 0} (o : Option T) (e : Bool) (v : T) → is_some (option_or o (if e then Some v else None)) ≡ (e || is_some o)
some_of_two None true v = refl
some_of_two None false v = refl
some_of_two (Some x) true v = refl
some_of_two (Some x) false v = refl

bound_is : (text : List Def) (before : List Bytes) (table : List (Bytes × CType)) (bs : List Binding) →
    ((name : Bytes) → is_some (look_up table name) ≡ list_any (bytes_eq name) before) →
    bound_by text (table ∷ []) bs ≡ bindings text before bs
bound_is text before table [] same = refl
bound_is text before table (b ∷ bs) same =
    append_assoc (unknown_tag text b.declared) (unless (not (is_repeated b.name.text (table ∷ []))) DeclaredTwice b.name.place) (bound_by text (declare b.name.text b.declared (table ∷ [])) bs)
    ∙ ap (λ x. unknown_tag text b.declared ++ (unless (not x) DeclaredTwice b.name.place ++ bound_by text (declare b.name.text b.declared (table ∷ [])) bs)) (same b.name.text)
    ∙ ap (λ more. unknown_tag text b.declared ++ (unless (not (list_any (bytes_eq b.name.text) before)) DeclaredTwice b.name.place ++ more))
    (ap (λ scopes. bound_by text scopes bs) (one_more_is table b.name.text b.declared)
    ∙ bound_is text (b.name.text ∷ before) (one_more b.name.text b.declared table) bs
    (λ name. ap is_some (look_up_one_more table b.name.text b.declared name)
    ∙ some_of_two (look_up table name) (bytes_eq name b.name.text) b.declared
    ∙ ap (λ x. bytes_eq name b.name.text || x) (same name)))

-- all of them, after none
pub bound_behind_none : (text : List Def) (bs : List Binding) → bound_by text ([] ∷ []) bs ≡ bindings text [] bs
bound_behind_none text bs = bound_is text [] [] bs (λ name. refl)

-- one step along them
pub along_bound : (text : List Def) (bs : List Binding) (i : ℕ) (b : Binding) (scopes behind : Scopes) (now next : Option Fault) →
    i < length bs → b ≡ get_or bs i b → behind ≡ declare b.name.text b.declared scopes →
    next ≡ sooner now (first (binding_faults text scopes b)) →
    sooner next (first (bound_by text behind (drop (i + 1) bs))) ≡ sooner now (first (bound_by text scopes (drop i bs)))
along_bound text bs i b scopes behind now next below is made told =
    let inner : Scopes = declare b.name.text b.declared scopes in
    let rest : List Fault = bound_by text inner (drop (i + 1) bs) in
    ap (λ s. sooner next (first (bound_by text s (drop (i + 1) bs)))) made
    ∙ ap (λ n. sooner n (first rest)) told
    ∙ sym (sooner_of_three now (first (binding_faults text scopes b)) (first rest))
    ∙ ap (sooner now)
    (sym (first_append (binding_faults text scopes b) rest)
    ∙ ap (λ y. first (binding_faults text scopes y ++ bound_by text (declare y.name.text y.declared scopes) (drop (i + 1) bs))) is
    ∙ sym (at_drop_more (λ ys. first (bound_by text scopes ys)) bs i b below))

pub along_parameters : (bs : List Binding) (i : ℕ) (b : Binding) (scopes behind : Scopes) →
    i < length bs → b ≡ get_or bs i b → behind ≡ declare b.name.text b.declared scopes →
    with_parameters (drop (i + 1) bs) behind ≡ with_parameters (drop i bs) scopes
along_parameters bs i b scopes behind below is made =
    ap (with_parameters (drop (i + 1) bs)) made
    ∙ ap (λ y. with_parameters (drop (i + 1) bs) (declare y.name.text y.declared scopes)) is
    ∙ sym (at_drop_more (λ ys. with_parameters ys scopes) bs i b below)

-- lists of types that aren't as long aren't the same
pub longer_differs : (as' bs : List CType) → (length as' ≡ length bs → ⊥) → same_types as' bs ≡ false
longer_differs [] [] apart = absurd (apart refl)
longer_differs [] (b ∷ bs) apart = refl
longer_differs (a ∷ as') [] apart = refl
longer_differs (a ∷ as') (b ∷ bs) apart =
    ap (λ x. same_type a b && x) (longer_differs as' bs (λ same. apart (omega (arith, same)))) ∙ never (same_type a b)
  where
    never : (x : Bool) → (x && false) ≡ false
    never true = refl
    never false = refl
