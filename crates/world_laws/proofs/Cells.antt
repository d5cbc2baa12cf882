-- The globals, arrays and mutexes of the first world, and of a world after an install.
use Rattle.std.proofs.Common.{◌≡◌, ℕ, ◌-◌, Bool, true, false, List, [], ◌∷◌, map, length, take, replicate, length-append, unsigned_abs, ℤ, Option, Some, None, unwrap_or, All, refl, sym, ap, subst, ◌∙◌, arith, if◌then◌else◌}
use Rattle.std.specs.Prelude.{IsTrue, filter_map, slice_index_or, AllPairs, ◌≢◌}
use Rattle.std.proofs.lemmas.List.{length-take, length-replicate}
use Rattle.std.proofs.lemmas.List.Elements.{All-nil, All-append, All-map, All-replicate, All-take, filter_passes}
use Rattle.std.proofs.lemmas.List.Kept.{AllPairs-filter}
use Rattle.c_ints.specs.declared.int.Int.{Int}
use Rattle.c_ints.specs.Number.{value_of}
use Rattle.c_tree.specs.BareExpr.{Bytes, BareType, BareExpr}
use Rattle.c_tree.specs.BareStmt.{BareDeclaration}
use Rattle.c_tree.specs.BareDef.{BareDef, Struct, Forward, Mutex, Function, Prototype, Global, Array, TransformStruct, TransformGlobal}
use Rattle.c_semantics.specs.Texts.{definition}
use Rattle.c_semantics.specs.Same.{same_type}
use Rattle.c_semantics.specs.Changes.{same_interface}
use Rattle.c_semantics.specs.Values.{Value, zero_of, converted_to}
use Rattle.c_semantics.specs.Constants.{constant, elements, filled, initial, initial_cells, no_old}
use Rattle.c_semantics.specs.Transformers.{first_cell, given_value, new_cells, old_value, transformed_global}
use Rattle.patch_faults.specs.TransformLaws.{has_type}
use Rattle.world_laws.proofs.TypedValues.{converted_has_type, zero_has_type}
use Rattle.source_model.specs.Worlds.{World, Cells, Held, cells_at_first, cells_of}
use Rattle.source_model.specs.Installs.{carried, global_after, installed, is_mutex}
use Rattle.definition_laws.specs.EqualParts.{HaveEqualInterfaces}
use Rattle.definition_laws.proofs.SameDefinitions.{interface_equal_if_same}
use Rattle.definition_laws.proofs.SameTrees.{types}
use Rattle.world_laws.specs.Holdings.{names_with_cells, IsOne, AreElements, HoldsGlobals, HoldsMutexes}
use Rattle.world_laws.specs.WorldLaws.{FirstWorldHolds, InstallsHold}
use Rattle.world_laws.proofs.Found.{cells_found, cells_in, entries_named, entry_of, found_defines, same_bytes}

-- ---- numbers and types of cells

abbrev Of : BareType → Value → Type 0
Of t v = IsTrue (has_type t v)

filled_count : (type : BareType) (n : ℕ) (cells : List Value) → length (filled type n cells) ≡ n
filled_count type n cells =
    let sum = length-append (take n cells) (replicate (n - length cells) (zero_of type)) in
    let front = length-take n cells in
    let back = length-replicate (n - length cells) (zero_of type) in
    omega (arith, sum, front, back)

filled_types : (type : BareType) (n : ℕ) (cells : List Value) → All (Of type) cells → All (Of type) (filled type n cells)
filled_types type n cells h =
    All-append (Of type) (take n cells) (replicate (n - length cells) (zero_of type)) (All-take (Of type) n cells h)
    (All-replicate (Of type) (n - length cells) (zero_of type) (zero_has_type type))

filled_elements : (type : BareType) (n : Int) (cells : List Value) → All (Of type) cells → AreElements type n (filled type (elements n) cells)
filled_elements type n cells h = record { count = filled_count type (elements n) cells; fit = filled_types type (elements n) cells h }

initial_fits : (type : BareType) (e : Option BareExpr) → Of type (initial type e)
initial_fits type None = zero_has_type type
initial_fits type (Some e) = converted_has_type type (constant no_old e)

initial_one : (d : BareDeclaration) → IsOne d.declared (initial_cells (Global d))
initial_one d = record { value = initial d.declared d.initial; is = refl; fits = initial_fits d.declared d.initial }

initial_elements : (type : BareType) (name : Bytes) (n : Int) (values : Option (List BareExpr))
    → AreElements type n (initial_cells (Array type name n values))
initial_elements type name n values =
    filled_elements type n (map (λ v. initial type (Some v)) (unwrap_or values []))
    (All-map (Of type) (λ v. initial type (Some v)) (unwrap_or values [])
    (λ k d within. initial_fits type (Some (slice_index_or (unwrap_or values []) k d))))

-- ---- what is held, by the text and the parts of a world

-- the cells under each name that a text defines as a variable or an array
pub record GlobalsHeld (text : List BareDef) (gs : List Cells) : Type 0 where
  pub variables : (name : Bytes) (d : BareDeclaration) → definition text name ≡ Some (Global d) → IsOne d.declared (cells_in gs name)
  pub arrays : (name own : Bytes) (type : BareType) (n : Int) (values : Option (List BareExpr))
      → definition text name ≡ Some (Array type own n values) → AreElements type n (cells_in gs name)

pub record MutexesHeld (text : List BareDef) (hs : List Held) : Type 0 where
  pub declared : All (λ h. IsTrue (is_mutex (definition text h.mutex))) hs
  pub once : AllPairs (λ g h. g.mutex ≢ h.mutex) hs

pub globals_held : (w : World) → HoldsGlobals w → GlobalsHeld w.text w.globals
globals_held w h = record { variables = h.variables; arrays = h.arrays }

pub mutexes_held : (w : World) → HoldsMutexes w → MutexesHeld w.text w.holders
mutexes_held w h = record { declared = h.declared; once = h.once }

-- ---- the first world

makes_first : (d : BareDef) → cells_at_first d ≡ entry_of initial_cells d
makes_first (Global d) = refl
makes_first (Array type name n values) = refl
makes_first (Struct tag members) = refl
makes_first (Forward tag) = refl
makes_first (Mutex name) = refl
makes_first (Function r name ps body) = refl
makes_first (Prototype r name ps) = refl
makes_first (TransformStruct tag values) = refl
makes_first (TransformGlobal name value) = refl

none_pairs : {A : Type 0} (R : A → A → Type 0) → AllPairs R []
none_pairs R i j d less within = absurd (omega arith)

pub first_globals : (text : List BareDef) → GlobalsHeld text (filter_map cells_at_first text)
first_globals text = record {
  variables = λ name d e.
      subst (IsOne d.declared) (sym (cells_found cells_at_first initial_cells makes_first text name (Global d) refl e)) (initial_one d);
  arrays = λ name own type n values e.
      subst (AreElements type n) (sym (cells_found cells_at_first initial_cells makes_first text name (Array type own n values) refl e))
      (initial_elements type own n values);
}

pub no_mutexes : (text : List BareDef) → MutexesHeld text []
no_mutexes text = record {
  declared = All-nil (λ (h : Held). IsTrue (is_mutex (definition text h.mutex)));
  once = none_pairs (λ (g h : Held). g.mutex ≢ h.mutex);
}

pub first_named : (text : List BareDef) → map (λ g. g.name) (filter_map cells_at_first text) ≡ names_with_cells text
first_named text = entries_named cells_at_first initial_cells makes_first text

pub first_world_holds : FirstWorldHolds
first_world_holds text limits =
    let globals = first_globals text in
    let mutexes = no_mutexes text in
    (record { named = first_named text; variables = globals.variables; arrays = globals.arrays }, record { declared = mutexes.declared; once = mutexes.once })

-- ---- an install

module _ (w : World) (q : List BareDef) where
  -- the cells of a definition after it
  abbrev brought : BareDef → List Value
  brought (Global d) = carried w w.text q (Global d) d.name (definition w.text d.name)
  brought (Array type name n values) = carried w w.text q (Array type name n values) name (definition w.text name)
  brought _ = []

  makes_after : (d : BareDef) → global_after w w.text q d ≡ entry_of brought d
  makes_after (Global d) = refl
  makes_after (Array type name n values) = refl
  makes_after (Struct tag members) = refl
  makes_after (Forward tag) = refl
  makes_after (Mutex name) = refl
  makes_after (Function r name ps body) = refl
  makes_after (Prototype r name ps) = refl
  makes_after (TransformStruct tag values) = refl
  makes_after (TransformGlobal name value) = refl

  -- a variable's new value has its new type
  transformed_one : (a : Option BareDef) (d : BareDeclaration) (given : Option BareExpr) (cells : List Value)
      → IsOne d.declared (new_cells a (Some (Global d)) given cells)
  transformed_one a d given cells = by a given
    where
      zero : IsOne d.declared (zero_of d.declared ∷ [])
      zero = record { value = zero_of d.declared; is = refl; fits = zero_has_type d.declared }

      by : (a : Option BareDef) (given : Option BareExpr) → IsOne d.declared (new_cells a (Some (Global d)) given cells)
      by (Some (Global c)) (Some e) =
          record { value = converted_to d.declared (constant (old_value (first_cell cells)) e); is = refl; fits = converted_has_type d.declared _ }
      by (Some (Global c)) None = zero
      by None given = zero
      by (Some (Struct tag members)) given = zero
      by (Some (Forward tag)) given = zero
      by (Some (Mutex name)) given = zero
      by (Some (Function r name ps body)) given = zero
      by (Some (Prototype r name ps)) given = zero
      by (Some (Array type name n values)) given = zero
      by (Some (TransformStruct tag values)) given = zero
      by (Some (TransformGlobal name value)) given = zero

  -- an array has as many elements as its new length
  transformed_elements : (a : Option BareDef) (name : Bytes) (type : BareType) (own : Bytes) (n : Int) (values : Option (List BareExpr))
      (given : Option BareExpr) → definition w.text name ≡ a → GlobalsHeld w.text w.globals
      → AreElements type n (new_cells a (Some (Array type own n values)) given (cells_of w name))
  transformed_elements a name type own n values given is holds = by a is
    where
      none : AreElements type n (filled type (elements n) [])
      none = filled_elements type n [] (All-nil (Of type))

      kept : (t : BareType) (m : Int) (x : Bytes) (vs : Option (List BareExpr)) → definition w.text name ≡ Some (Array t x m vs)
          → (b : Bool) → same_type t type ≡ b → All (Of type) (if b then cells_of w name else [])
      kept t m x vs e true same = subst (λ u. All (Of u) (cells_of w name)) (types t type same) (holds.arrays name x t m vs e).fit
      kept t m x vs e false same = All-nil (Of type)

      by : (a : Option BareDef) → definition w.text name ≡ a → AreElements type n (new_cells a (Some (Array type own n values)) given (cells_of w name))
      by (Some (Array t x m vs)) e = filled_elements type n _ (kept t m x vs e (same_type t type) refl)
      by None e = none
      by (Some (Struct tag members)) e = none
      by (Some (Forward tag)) e = none
      by (Some (Mutex name)) e = none
      by (Some (Function r name ps body)) e = none
      by (Some (Prototype r name ps)) e = none
      by (Some (Global d)) e = none
      by (Some (TransformStruct tag values)) e = none
      by (Some (TransformGlobal name value)) e = none

  -- an unchanged one has what it had
  same_one : (old : BareDef) (name : Bytes) (d : BareDeclaration) → definition w.text name ≡ Some old → GlobalsHeld w.text w.globals
      → HaveEqualInterfaces old (Global d) → IsOne d.declared (cells_of w name)
  same_one (Global c) name d e holds same = subst (λ t. IsOne t (cells_of w name)) same (holds.variables name c e)
  same_one (Struct tag members) name d e holds same = absurd same
  same_one (Forward tag) name d e holds same = absurd same
  same_one (Mutex n) name d e holds same = absurd same
  same_one (Function r n ps body) name d e holds same = absurd same
  same_one (Prototype r n ps) name d e holds same = absurd same
  same_one (Array t n k values) name d e holds same = absurd same
  same_one (TransformStruct tag values) name d e holds same = absurd same
  same_one (TransformGlobal n value) name d e holds same = absurd same

  more_elements : (t u : BareType) (m n : Int) (cells : List Value) → t ≡ u → value_of m ≡ value_of n → AreElements t m cells → AreElements u n cells
  more_elements t u m n cells e f h = record {
    count = h.count ∙ ap unsigned f;
    fit = subst (λ x. All (Of x) cells) e h.fit;
  }
    where
      unsigned : ℤ → ℕ
      unsigned z = unsigned_abs z

  same_elements : (old : BareDef) (name own : Bytes) (type : BareType) (n : Int) (values : Option (List BareExpr))
      → definition w.text name ≡ Some old → GlobalsHeld w.text w.globals → HaveEqualInterfaces old (Array type own n values)
      → AreElements type n (cells_of w name)
  same_elements (Array t x m vs) name own type n values e holds same =
      more_elements t type m n (cells_of w name) same.0 same.1 (holds.arrays name x t m vs e)
  same_elements (Struct tag members) name own type n values e holds same = absurd same
  same_elements (Forward tag) name own type n values e holds same = absurd same
  same_elements (Mutex x) name own type n values e holds same = absurd same
  same_elements (Function r x ps body) name own type n values e holds same = absurd same
  same_elements (Prototype r x ps) name own type n values e holds same = absurd same
  same_elements (Global d) name own type n values e holds same = absurd same
  same_elements (TransformStruct tag vs) name own type n values e holds same = absurd same
  same_elements (TransformGlobal x value) name own type n values e holds same = absurd same

  carried_one : (name : Bytes) (d : BareDeclaration) (o : Option BareDef) → definition w.text name ≡ o → definition q name ≡ Some (Global d)
      → GlobalsHeld w.text w.globals → IsOne d.declared (carried w w.text q (Global d) name o)
  carried_one name d None before after holds = initial_one d
  carried_one name d (Some old) before after holds = by (same_interface old (Global d)) refl
    where
      new : IsOne d.declared (transformed_global w.text q name (cells_of w name))
      new =
          subst (λ o. IsOne d.declared (new_cells (definition w.text name) o (given_value q name) (cells_of w name))) (sym after)
          (transformed_one (definition w.text name) d (given_value q name) (cells_of w name))

      by : (b : Bool) → same_interface old (Global d) ≡ b
          → IsOne d.declared (if b then cells_of w name else transformed_global w.text q name (cells_of w name))
      by true same = same_one old name d before holds (interface_equal_if_same old (Global d) same)
      by false same = new

  carried_elements : (name own : Bytes) (type : BareType) (n : Int) (values : Option (List BareExpr)) (o : Option BareDef)
      → definition w.text name ≡ o → definition q name ≡ Some (Array type own n values) → GlobalsHeld w.text w.globals
      → AreElements type n (carried w w.text q (Array type own n values) name o)
  carried_elements name own type n values None before after holds = initial_elements type own n values
  carried_elements name own type n values (Some old) before after holds = by (same_interface old (Array type own n values)) refl
    where
      new : AreElements type n (transformed_global w.text q name (cells_of w name))
      new =
          subst (λ o. AreElements type n (new_cells (definition w.text name) o (given_value q name) (cells_of w name))) (sym after)
          (transformed_elements (definition w.text name) name type own n values (given_value q name) refl holds)

      by : (b : Bool) → same_interface old (Array type own n values) ≡ b
          → AreElements type n (if b then cells_of w name else transformed_global w.text q name (cells_of w name))
      by true same = same_elements old name own type n values before holds (interface_equal_if_same old (Array type own n values) same)
      by false same = new

  -- under its name, the name that it has itself
  variable_after : (name : Bytes) (d : BareDeclaration) → definition q name ≡ Some (Global d) → GlobalsHeld w.text w.globals
      → IsOne d.declared (cells_in (installed q w).globals name)
  variable_after name d e holds =
      let own : name ≡ d.name = same_bytes name d.name (found_defines q name (Global d) e) in
      subst (IsOne d.declared) (sym (cells_found (global_after w w.text q) brought makes_after q name (Global d) refl e))
      (subst (λ n. IsOne d.declared (carried w w.text q (Global d) n (definition w.text n))) own
      (carried_one name d (definition w.text name) refl e holds))

  array_after : (name own : Bytes) (type : BareType) (n : Int) (values : Option (List BareExpr)) → definition q name ≡ Some (Array type own n values)
      → GlobalsHeld w.text w.globals → AreElements type n (cells_in (installed q w).globals name)
  array_after name own type n values e holds =
      let is : name ≡ own = same_bytes name own (found_defines q name (Array type own n values) e) in
      subst (AreElements type n) (sym (cells_found (global_after w w.text q) brought makes_after q name (Array type own n values) refl e))
      (subst (λ x. AreElements type n (carried w w.text q (Array type own n values) x (definition w.text x))) is
      (carried_elements name own type n values (definition w.text name) refl e holds))

  pub globals_after : GlobalsHeld w.text w.globals → GlobalsHeld q (installed q w).globals
  globals_after holds = record {
    variables = λ name d e. variable_after name d e holds;
    arrays = λ name own type n values e. array_after name own type n values e holds;
  }

  pub mutexes_after : MutexesHeld w.text w.holders → MutexesHeld q (installed q w).holders
  mutexes_after holds = record {
    declared = filter_passes (λ (h : Held). is_mutex (definition q h.mutex)) w.holders;
    once = AllPairs-filter (λ (g h : Held). g.mutex ≢ h.mutex) (λ (h : Held). is_mutex (definition q h.mutex)) w.holders holds.once;
  }

  pub named_after : map (λ g. g.name) (installed q w).globals ≡ names_with_cells q
  named_after = entries_named (global_after w w.text q) brought makes_after q

pub installs_hold : InstallsHold
installs_hold q w = (
  λ h. let globals = globals_after w q (globals_held w h) in record { named = named_after w q; variables = globals.variables; arrays = globals.arrays },
  λ h. let mutexes = mutexes_after w q (mutexes_held w h) in record { declared = mutexes.declared; once = mutexes.once },
)
