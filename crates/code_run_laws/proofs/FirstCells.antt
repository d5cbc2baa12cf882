-- The first cells of globals and arrays are in range.
use Rattle.std.proofs.Common.{ℕ, zero, suc, Bool, true, false, List, [], ◌∷◌, ◌++◌, map, take, replicate, Option, Some, None, find, bytes_eq, if◌then◌else◌, unwrap_or, length, ◌-◌}
use Rattle.std.specs.Prelude.{filter_map}
use Rattle.std.specs.Option.{option_map_or}
use Rattle.c_tree.specs.BareExpr.{Bytes, BareExpr, BareType}
use Rattle.c_tree.specs.BareDef.{BareDef, Struct, Forward, Mutex, Function, Prototype, Global, Array, TransformStruct, TransformGlobal}
use Rattle.c_semantics.specs.Values.{Value, zero_of}
use Rattle.c_semantics.specs.Constants.{constant, elements, filled, initial, initial_cells, no_old}
use Rattle.source_model.specs.Worlds.{Cells, Limits, cells_at_first, cells_of, first_world}
use Rattle.world_laws.proofs.Found.{cells_in}
use Rattle.tree_code.specs.Ranges.{AllRanged, Ranged}
use Rattle.tree_code.proofs.WordSteps.{converted_ranged}
use Rattle.tree_code.proofs.WordValues.{zero_ranged}

-- ---- lists of values in range

both_ranged : (vs ws : List Value) → AllRanged vs → AllRanged ws → AllRanged (vs ++ ws)
both_ranged [] ws g h = h
both_ranged (v ∷ vs) ws g h = (g.0, both_ranged vs ws g.1 h)

ranged_take : (n : ℕ) (vs : List Value) → AllRanged vs → AllRanged (take n vs)
ranged_take zero vs h = tt
ranged_take (suc n) [] h = tt
ranged_take (suc n) (v ∷ vs) h = (h.0, ranged_take n vs h.1)

ranged_copies : (n : ℕ) (v : Value) → Ranged v → AllRanged (replicate n v)
ranged_copies zero v h = tt
ranged_copies (suc n) v h = (h, ranged_copies n v h)

-- ---- by a definition

initial_ranged : (type : BareType) (e : Option BareExpr) → Ranged (initial type e)
initial_ranged type None = zero_ranged type
initial_ranged type (Some e) = converted_ranged type (constant no_old e)

listed_ranged : (type : BareType) (es : List BareExpr) → AllRanged (map (λ e. initial type (Some e)) es)
listed_ranged type [] = tt
listed_ranged type (e ∷ es) = (initial_ranged type (Some e), listed_ranged type es)

pub filled_ranged : (type : BareType) (n : ℕ) (vs : List Value) → AllRanged vs → AllRanged (filled type n vs)
filled_ranged type n vs h =
    both_ranged (take n vs) (replicate (n - length vs) (zero_of type)) (ranged_take n vs h)
    (ranged_copies (n - length vs) (zero_of type) (zero_ranged type))

pub initial_cells_ranged : (d : BareDef) → AllRanged (initial_cells d)
initial_cells_ranged (Global g) = (initial_ranged g.declared g.initial, tt)
initial_cells_ranged (Array type name n values) =
    filled_ranged type (elements n) (map (λ e. initial type (Some e)) (unwrap_or values [])) (listed_ranged type (unwrap_or values []))
initial_cells_ranged _ = tt

-- the cells of each entry are in range
abbrev EachRanged : List Cells → Type 0
EachRanged [] = Unit {0}
EachRanged (g ∷ gs) = AllRanged g.cells × EachRanged gs

first_ranged : (text : List BareDef) → EachRanged (filter_map cells_at_first text)
first_ranged [] = tt
first_ranged (Global g ∷ text) = (initial_cells_ranged (Global g), first_ranged text)
first_ranged (Array type name n values ∷ text) = (initial_cells_ranged (Array type name n values), first_ranged text)
first_ranged (Struct tag members ∷ text) = first_ranged text
first_ranged (Forward tag ∷ text) = first_ranged text
first_ranged (Mutex name ∷ text) = first_ranged text
first_ranged (Function result name parameters body ∷ text) = first_ranged text
first_ranged (Prototype result name parameters ∷ text) = first_ranged text
first_ranged (TransformStruct tag values ∷ text) = first_ranged text
first_ranged (TransformGlobal name value ∷ text) = first_ranged text

ranged_under : (gs : List Cells) (name : Bytes) → EachRanged gs → AllRanged (cells_in gs name)
ranged_under [] name h = tt
ranged_under (g ∷ gs) name h = by (bytes_eq name g.name) (ranged_under gs name h.1)
  where
    by : (b : Bool) → AllRanged (cells_in gs name)
        → AllRanged (option_map_or (λ x. x.cells) (if b then Some g else find (λ x. bytes_eq name x.name) gs) [])
    by true rest = h.0
    by false rest = rest

pub first_cells_ranged : (text : List BareDef) (limits : Limits) (name : Bytes) → AllRanged (cells_of (first_world text limits) name)
first_cells_ranged text limits name = ranged_under (filter_map cells_at_first text) name (first_ranged text)
