-- The first cells of globals and arrays name no object and no thread.
use Rattle.std.proofs.Common.{ℕ, ◌-◌, Bool, true, false, List, [], ◌∷◌, map, length, take, Option, Some, None, unwrap_or}
use Rattle.std.specs.Prelude.{All, filter_map, replicate}
use Rattle.std.specs.List.{cons_option}
use Rattle.std.specs.Option.{option_map_or}
use Rattle.std.proofs.lemmas.List.Elements.{All-append, All-cons, All-nil, All-replicate, All-take}
use Rattle.c_ints.specs.declared.operator.BinOp.{BinOp}
use Rattle.c_ints.specs.declared.operator.BinOp.TheVariants.{Eq, Ne}
use Rattle.c_ints.specs.declared.operator.SafeOp.{SafeOp}
use Rattle.c_ints.specs.declared.operator.UnOp.{UnOp}
use Rattle.c_ints.specs.Arithmetic.{binary_wrapped}
use Rattle.c_tree.specs.BareDef.{BareDef}
use Rattle.c_tree.specs.BareDef as bare
use Rattle.c_tree.specs.BareExpr.{BareExpr, BareType, Handle, Integer, Thread}
use Rattle.c_tree.specs.BareExpr as e
use Rattle.c_semantics.specs.Constants.{chosen, constant, elements, filled, initial, initial_cells, no_old, object_of, safe, wrapped, wrapped_unary}
use Rattle.c_semantics.specs.Values.{Value, Number, Reference, Started, compared, converted_to, int_of, is_true, zero_of}
use Rattle.source_model.specs.Worlds.{cells_at_first}
use Rattle.image_load.specs.FirstCells.{ArePlain, IsPlain}

zero_plain : (t : BareType) → IsPlain (zero_of t)
zero_plain (Integer k) = tt
zero_plain (Handle tag) = tt
zero_plain Thread = tt

compared_plain : (op : BinOp) (a b : Option ℕ) → IsPlain (compared op a b)
compared_plain Eq a b = tt
compared_plain Ne a b = tt
compared_plain _ a b = tt

wrapped_plain : (op : BinOp) (a b : Value) → IsPlain (wrapped op a b)
wrapped_plain op (Number a) (Number b) = by (safe op)
  where
    by : (o : Option SafeOp) → IsPlain (option_map_or (λ f. Number (binary_wrapped f a b)) o (int_of 0))
    by None = tt
    by (Some f) = tt
wrapped_plain op (Number a) (Reference o) = compared_plain op (object_of (Number a)) o
wrapped_plain op (Number a) (Started r) = compared_plain op (object_of (Number a)) None
wrapped_plain op (Reference o) b = compared_plain op o (object_of b)
wrapped_plain op (Started r) b = compared_plain op None (object_of b)

unary_plain : (op : UnOp) (v : Value) → IsPlain (wrapped_unary op v)
unary_plain op (Number n) = tt
unary_plain op (Reference o) = tt
unary_plain op (Started r) = tt

converted_plain : (t : BareType) (v : Value) → IsPlain v → IsPlain (converted_to t v)
converted_plain (Integer k) (Number n) h = tt
converted_plain (Integer k) (Reference o) h = tt
converted_plain (Integer k) (Started r) h = tt
converted_plain (Handle tag) (Number n) h = tt
converted_plain (Handle tag) (Reference o) h = h
converted_plain (Handle tag) (Started r) h = tt
converted_plain Thread (Number n) h = tt
converted_plain Thread (Reference o) h = tt
converted_plain Thread (Started r) h = h

object_plain : (v : Value) → IsPlain v → IsPlain (Reference (object_of v))
object_plain (Number n) h = tt
object_plain (Reference o) h = h
object_plain (Started r) h = tt

chosen_plain : (c : Bool) (a b : Value) → IsPlain a → IsPlain b → IsPlain (chosen c a b)
chosen_plain c (Number a) (Number b) g h = tt
chosen_plain true (Number a) (Reference o) g h = object_plain (Number a) g
chosen_plain false (Number a) (Reference o) g h = object_plain (Reference o) h
chosen_plain true (Number a) (Started r) g h = object_plain (Number a) g
chosen_plain false (Number a) (Started r) g h = object_plain (Started r) h
chosen_plain true (Reference o) b g h = object_plain (Reference o) g
chosen_plain false (Reference o) b g h = object_plain b h
chosen_plain true (Started r) b g h = object_plain (Started r) g
chosen_plain false (Started r) b g h = object_plain b h

constant_plain : (x : BareExpr) → IsPlain (constant no_old x)
constant_plain (e.Number n) = tt
constant_plain (e.Character n) = tt
constant_plain (e.Variable name) = tt
constant_plain (e.Dot a name) = tt
constant_plain (e.Unary op a) = unary_plain op (constant no_old a)
constant_plain (e.Cast to a) = converted_plain to (constant no_old a) (constant_plain a)
constant_plain (e.Binary op a b) = wrapped_plain op (constant no_old a) (constant no_old b)
constant_plain (e.Choice c a b) =
    chosen_plain (is_true (constant no_old c)) (constant no_old a) (constant no_old b) (constant_plain a) (constant_plain b)
constant_plain _ = tt

initial_plain : (t : BareType) (x : Option BareExpr) → IsPlain (initial t x)
initial_plain t None = zero_plain t
initial_plain t (Some x) = converted_plain t (constant no_old x) (constant_plain x)

filled_plain : (t : BareType) (n : ℕ) (cells : List Value) → All IsPlain cells → All IsPlain (filled t n cells)
filled_plain t n cells h =
    All-append IsPlain (take n cells) (replicate (n - length cells) (zero_of t)) (All-take IsPlain n cells h)
    (All-replicate IsPlain (n - length cells) (zero_of t) (zero_plain t))

each_plain : (t : BareType) (es : List BareExpr) → All IsPlain (map (λ v. initial t (Some v)) es)
each_plain t [] = All-nil IsPlain
each_plain t (x ∷ xs) = All-cons IsPlain (initial t (Some x)) (map (λ v. initial t (Some v)) xs) (initial_plain t (Some x)) (each_plain t xs)

pub cells_plain : (d : BareDef) → All IsPlain (initial_cells d)
cells_plain (bare.Global v) = All-cons IsPlain (initial v.declared v.initial) [] (initial_plain v.declared v.initial) (All-nil IsPlain)
cells_plain (bare.Array type name n values) =
    filled_plain type (elements n) (map (λ v. initial type (Some v)) (unwrap_or values [])) (each_plain type (unwrap_or values []))
cells_plain _ = All-nil IsPlain

pub first_cells_plain : (text : List BareDef) → All ArePlain (filter_map cells_at_first text)
first_cells_plain [] = All-nil ArePlain
first_cells_plain (d ∷ ds) = by d (first_cells_plain ds)
  where
    by : (d : BareDef) → All ArePlain (filter_map cells_at_first ds) → All ArePlain (cons_option (cells_at_first d) (filter_map cells_at_first ds))
    by (bare.Global v) rest =
        All-cons ArePlain (record { name = v.name; cells = initial_cells (bare.Global v) }) (filter_map cells_at_first ds) (cells_plain (bare.Global v)) rest
    by (bare.Array type name n values) rest =
        All-cons ArePlain (record { name = name; cells = initial_cells (bare.Array type name n values) }) (filter_map cells_at_first ds)
        (cells_plain (bare.Array type name n values)) rest
    by _ rest = rest
