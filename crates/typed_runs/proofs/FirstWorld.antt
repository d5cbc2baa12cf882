-- The first world of an accepted text is typed.
use Rattle.std.proofs.Common.{◌≡◌, ℕ, Bool, true, false, List, [], ◌∷◌, map, replicate, Option, Some, None, unwrap_or, option_and_then, codes, All, refl, sym, ap, subst, ◌∙◌, le_refl, ◌-◌}
use Rattle.std.specs.Prelude.{filter_map, slice_index_or}
use Rattle.std.specs.Option.{option_map_or}
use Rattle.std.proofs.lemmas.List.Elements.{All-cons, All-map, All-nil, All-replicate}
use Rattle.c_ints.specs.declared.kind.Kind.{Kind}
use Rattle.c_ints.specs.declared.kind.Kind.TheVariants.{I8, U8, I16, U16, I32, U32, I64, U64}
use Rattle.c_ints.specs.declared.operator.BinOp.{BinOp}
use Rattle.c_ints.specs.declared.operator.BinOp.TheVariants.{Eq, Ne}
use Rattle.c_ints.specs.declared.operator.SafeOp.{SafeOp}
use Rattle.c_ints.specs.declared.operator.UnOp.{UnOp}
use Rattle.c_ints.specs.Number.{reduced, value_of}
use Rattle.c_ints.specs.Arithmetic.{binary_wrapped}
use Rattle.c_ints.proofs.Reduction.{kind_of-number}
use Rattle.c_tree.specs.BareExpr.{Bytes, BareType, BareExpr, Integer, Handle, Thread}
use Rattle.c_tree.specs.BareExpr as e
use Rattle.c_tree.specs.BareDef.{BareDef, Struct, Forward, Mutex, Function, Prototype, Global, Array, TransformStruct, TransformGlobal}
use Rattle.c_tree.specs.Bare.{bare_binding, bare_type}
use Rattle.c_tree.specs.declared.name.CType.{CType}
use Rattle.c_tree.specs.declared.name.CType.TheVariants as tree
use Rattle.c_tree.specs.declared.def.Def.{Def}
use Rattle.c_tree.specs.declared.def.Binding.{Binding}
use Rattle.c_definitions.specs.Lookup.{Meaning, definition_of, meaning_in, name_of, types_of}
use Rattle.c_definitions.specs.Lookup.Meaning.{AVariable, AnArray, AFunction, AMutex}
use Rattle.c_expr_types.specs.declared.fault.TypeKind.TheVariants.{NoMain}
use Rattle.c_types.specs.Definitions.{all_faults, defines_main, is_main, main_faults, name_place}
use Rattle.c_expr_types.specs.Expressions.{is_int}
use Rattle.c_semantics.specs.Texts.{definition, global_type, int, result_type}
use Rattle.c_semantics.specs.Values.{Value, Number, Reference, Started, compared, converted_to, int_of, is_true}
use Rattle.c_semantics.specs.Constants.{chosen, constant, elements, initial, initial_cells, no_old, object_of, safe, wrapped, wrapped_unary}
use Rattle.c_semantics.specs.SourceTexts.{Text}
use Rattle.c_semantics.specs.Threads.{started}
use Rattle.source_model.specs.Worlds.{Limits, Free, Live, cells_at_first, first_world, main_enter}
use Rattle.typed_transformers.specs.TransformerTypes.{HasCells}
use Rattle.typed_uses.proofs.Faultless.{none_hidden, passes}
use Rattle.frame_bodies.specs.AcceptedTexts.{IsAccepted}
use Rattle.frame_bodies.proofs.AcceptedFacts.{bare_of, facts_in}
use Rattle.typed_texts.proofs.Meanings.{function_named}
use Rattle.world_laws.proofs.Found.{cells_found, cells_in, entry_of}
use Rattle.typed_trees.specs.ValueTypes.{HasType, HaveTypes}
use Rattle.typed_trees.specs.ExpressionTypes.{IsFunction, parameter_types}
use Rattle.typed_trees.proofs.ValuesOfTypes.{zero_has}
use Rattle.typed_runs.specs.TypedWorlds.{ObjectTyped, SlotTyped, WorldTyped}
use Rattle.typed_transformers.proofs.Transformed.{filled_typed}

-- ---- main

-- what a text defines as main: a function without parameters that returns an int
pub record MainTyped (text : List BareDef) : Type 0 where
  pub function : IsFunction (definition text (codes "main"))
  pub none : parameter_types (definition text (codes "main")) ≡ []
  pub returns : result_type (definition text (codes "main")) ≡ int

abbrev IsMain : Option Meaning → Type 0
IsMain m = (t : CType) × (m ≡ Some (AFunction (Some t) [])) × (is_int t ≡ true)

main_is : (m : Option Meaning) → is_main m ≡ true → IsMain m
main_is None e = cc
main_is (Some (AVariable t)) e = cc
main_is (Some (AnArray t)) e = cc
main_is (Some AMutex) e = cc
main_is (Some (AFunction None types)) e = cc
main_is (Some (AFunction (Some t) (u ∷ us))) e = cc
main_is (Some (AFunction (Some t) [])) e = (t, refl, e)

main_found : (end : ℕ) (o : Option Def) → main_faults end o ≡ [] → IsMain (option_and_then (λ d. meaning_in d.kind) o)
main_found end None e = cc
main_found end (Some d) e = main_is (meaning_in d.kind) (passes (defines_main d.kind) NoMain (name_place end (name_of d.kind)) e)

int_is : (t : CType) → is_int t ≡ true → bare_type t ≡ int
int_is (tree.Integer k) e = by k e
  where
    by : (k : Kind) → is_int (tree.Integer k) ≡ true → bare_type (tree.Integer k) ≡ int
    by I32 e = refl
    by I8 e = cc
    by U8 e = cc
    by I16 e = cc
    by U16 e = cc
    by U32 e = cc
    by I64 e = cc
    by U64 e = cc
int_is (tree.Handle tag) e = cc
int_is tree.Thread e = cc

no_types : (bs : List Binding) → [] ≡ types_of bs → map (λ p. p.declared) (map bare_binding bs) ≡ []
no_types [] e = refl
no_types (b ∷ bs) e = cc

pub main_typed : (text : Text) → IsAccepted text → MainTyped text.definitions
main_typed text a =
    let ds = text.tree.definitions in
    let main = main_found text.tree.end (definition_of ds (codes "main")) (none_hidden (all_faults ds [] ds) _ a.accepted.types).1 in
    let named = function_named ds (codes "main") (Some main.0) [] (facts_in text a) main.1 in
    subst MainTyped (bare_of text a) (record {
      function = named.function;
      none = ap (map (λ p. p.declared)) named.parameters ∙ no_types named.bindings named.types;
      returns = named.result main.0 refl ∙ int_is main.0 main.2;
    })

-- ---- values at first

-- a value names no object
abbrev NamesNone : Value → Type 0
NamesNone (Reference (Some n)) = ⊥
NamesNone _ = Unit {0}

compared_none : (op : BinOp) (a b : Option ℕ) → NamesNone (compared op a b)
compared_none Eq a b = tt
compared_none Ne a b = tt
compared_none _ a b = tt

wrapped_none : (op : BinOp) (a b : Value) → NamesNone (wrapped op a b)
wrapped_none op (Number a) (Number b) = by (safe op)
  where
    by : (o : Option SafeOp) → NamesNone (option_map_or (λ f. Number (binary_wrapped f a b)) o (int_of 0))
    by None = tt
    by (Some f) = tt
wrapped_none op (Number a) (Reference o) = compared_none op (object_of (Number a)) o
wrapped_none op (Number a) (Started r) = compared_none op (object_of (Number a)) None
wrapped_none op (Reference o) b = compared_none op o (object_of b)
wrapped_none op (Started r) b = compared_none op None (object_of b)

unary_none : (op : UnOp) (v : Value) → NamesNone (wrapped_unary op v)
unary_none op (Number n) = tt
unary_none op (Reference o) = tt
unary_none op (Started r) = tt

converted_none : (t : BareType) (v : Value) → NamesNone v → NamesNone (converted_to t v)
converted_none (Integer k) (Number n) h = tt
converted_none (Integer k) (Reference o) h = tt
converted_none (Integer k) (Started r) h = tt
converted_none (Handle tag) (Number n) h = tt
converted_none (Handle tag) (Reference o) h = h
converted_none (Handle tag) (Started r) h = tt
converted_none Thread (Number n) h = tt
converted_none Thread (Reference o) h = tt
converted_none Thread (Started r) h = tt

object_none : (v : Value) → NamesNone v → NamesNone (Reference (object_of v))
object_none (Number n) h = tt
object_none (Reference o) h = h
object_none (Started r) h = tt

chosen_none : (c : Bool) (a b : Value) → NamesNone a → NamesNone b → NamesNone (chosen c a b)
chosen_none c (Number a) (Number b) g h = tt
chosen_none true (Number a) (Reference o) g h = object_none (Number a) g
chosen_none false (Number a) (Reference o) g h = object_none (Reference o) h
chosen_none true (Number a) (Started r) g h = object_none (Number a) g
chosen_none false (Number a) (Started r) g h = object_none (Started r) h
chosen_none true (Reference o) b g h = object_none (Reference o) g
chosen_none false (Reference o) b g h = object_none b h
chosen_none true (Started r) b g h = object_none (Started r) g
chosen_none false (Started r) b g h = object_none b h

-- no initialiser gives the handle of an object
constant_none : (x : BareExpr) → NamesNone (constant no_old x)
constant_none (e.Number n) = tt
constant_none (e.Character n) = tt
constant_none (e.Variable name) = tt
constant_none (e.Dot a name) = tt
constant_none (e.Unary op a) = unary_none op (constant no_old a)
constant_none (e.Cast to a) = converted_none to (constant no_old a) (constant_none a)
constant_none (e.Binary op a b) = wrapped_none op (constant no_old a) (constant no_old b)
constant_none (e.Choice c a b) =
    chosen_none (is_true (constant no_old c)) (constant no_old a) (constant no_old b) (constant_none a) (constant_none b)
constant_none _ = tt

module _ (tags : List Bytes) where
  converted_typed : (t : BareType) (v : Value) → NamesNone v → HasType tags t (converted_to t v)
  converted_typed (Integer k) (Number n) h = kind_of-number k (reduced k (value_of n))
  converted_typed (Integer k) (Reference o) h = zero_has tags (Integer k)
  converted_typed (Integer k) (Started r) h = zero_has tags (Integer k)
  converted_typed (Handle tag) (Number n) h = tt
  converted_typed (Handle tag) (Reference None) h = tt
  converted_typed (Handle tag) (Reference (Some n)) h = absurd h
  converted_typed (Handle tag) (Started r) h = tt
  converted_typed Thread (Number n) h = tt
  converted_typed Thread (Reference o) h = tt
  converted_typed Thread (Started r) h = tt

  pub initial_typed : (t : BareType) (x : Option BareExpr) → HasType tags t (initial t x)
  initial_typed t None = zero_has tags t
  initial_typed t (Some x) = converted_typed t (constant no_old x) (constant_none x)

  pub initial_cells_typed : (d : BareDef) → HasCells (Some d) → All (HasType tags (global_type (Some d))) (initial_cells d)
  initial_cells_typed (Global d) has =
      All-cons (HasType tags d.declared) (initial d.declared d.initial) [] (initial_typed d.declared d.initial) (All-nil (HasType tags d.declared))
  initial_cells_typed (Array type name n values) has =
      filled_typed tags type (elements n) (map (λ v. initial type (Some v)) (unwrap_or values []))
      (All-map (HasType tags type) (λ v. initial type (Some v)) (unwrap_or values [])
      (λ k d within. initial_typed type (Some (slice_index_or (unwrap_or values []) k d))))
  initial_cells_typed _ has = absurd has

-- ---- the first world

makes_first : (d : BareDef) → cells_at_first d ≡ entry_of initial_cells d
makes_first (Global d) = refl
makes_first (Array type name n values) = refl
makes_first (Struct tag members) = refl
makes_first (Forward tag) = refl
makes_first (Mutex name) = refl
makes_first (Function r name ps body) = refl
makes_first (Prototype r name ps) = refl
makes_first (TransformStruct tag values) = refl
makes_first (TransformGlobal name value) = refl

first_cells : (text : List BareDef) (name : Bytes) (o : Option BareDef) → definition text name ≡ o → HasCells o
    → All (HasType [] (global_type o)) (cells_in (filter_map cells_at_first text) name)
first_cells text name (Some (Global d)) e has =
    subst (All (HasType [] d.declared)) (sym (cells_found cells_at_first initial_cells makes_first text name (Global d) refl e))
    (initial_cells_typed [] (Global d) tt)
first_cells text name (Some (Array type own n values)) e has =
    subst (All (HasType [] type)) (sym (cells_found cells_at_first initial_cells makes_first text name (Array type own n values) refl e))
    (initial_cells_typed [] (Array type own n values) tt)
first_cells text name _ e has = absurd has

pub first_typed : (text : List BareDef) (limits : Limits) → MainTyped text → WorldTyped (text ∷ []) (first_world text limits)
first_typed text limits main = record {
  slots = λ e.
      All-cons (SlotTyped (text ∷ []) []) (Live (started 0 main_enter)) (replicate (limits.slots - 1) Free) (
        record {
          known = le_refl 1;
          function = main.function;
          arguments = subst (λ ts. HaveTypes [] ts []) (sym main.none) tt;
        },
        main.returns,
      )
      (All-replicate (SlotTyped (text ∷ []) []) (limits.slots - 1) Free tt);
  objects = All-nil (ObjectTyped text []);
  globals = λ name. first_cells text name (definition text name) refl;
  finish = tt;
}
