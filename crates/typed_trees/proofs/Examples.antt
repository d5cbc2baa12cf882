-- Small trees, and which of them are typed.
use Rattle.std.proofs.Common.{◌≡◌, false, IsTrue, List, [], ◌∷◌, Some, None, pos, refl, inl, inr}
use Rattle.std.specs.Prelude.{◌⊎◌, codes}
use Rattle.c_ints.specs.declared.kind.Kind.TheVariants.{I8, I32, I64}
use Rattle.c_ints.specs.declared.operator.BinOp.TheVariants.{Add, Eq}
use Rattle.c_ints.specs.declared.operator.UnOp.TheVariants.{Negate, Not}
use Rattle.c_ints.specs.Number.{number}
use Rattle.c_tree.specs.BareExpr.{Bytes, BareType, Integer, Handle}
use Rattle.c_tree.specs.BareStmt.{NoStmts}
use Rattle.c_tree.specs.BareDef.{BareBinding, BareDef, Struct, Mutex, Function, Global}
use Rattle.c_semantics.specs.Texts.{Definitions, definition, int}
use Rattle.c_semantics.specs.Values.{Number, Reference}
use Rattle.c_semantics.specs.Resolved.{Expression, Statement, Statements, NoExpressions, ExpressionThen, NoStatements, StatementThen}
use Rattle.c_semantics.specs.Resolved as tree
use Rattle.c_semantics.specs.Stops as stop
use Rattle.c_semantics.specs.Pieces.{ConvertTo, Set, At}
use Rattle.typed_trees.specs.ValueTypes.{Environment, HasType}
use Rattle.typed_trees.specs.ExpressionTypes.{IsTyped, type_of}
use Rattle.typed_trees.specs.StatementTypes.{StatementTyped, StatementsTyped}
use Rattle.typed_trees.specs.PieceTypes.{going}
use Rattle.typed_trees.proofs.ValuesOfTypes.{never}

-- struct node { char small; struct node *next; };  int total;  long f(long x, struct node *n);  mtx_t m;
abbrev node : Bytes
node = codes "node"

abbrev bound : BareType → Bytes → BareBinding
bound type name = record { declared = type; name = name }

abbrev text : List BareDef
text =
    Struct node (bound (Integer I8) (codes "small") ∷ bound (Handle node) (codes "next") ∷ [])
    ∷ Global (record { declared = int; name = codes "total"; initial = None })
    ∷ Function (Some (Integer I64)) (codes "f") (bound (Integer I64) (codes "x") ∷ bound (Handle node) (codes "n") ∷ []) NoStmts
    ∷ Mutex (codes "m")
    ∷ []

abbrev look : Definitions
look = definition text

-- char c; struct node *p; in scope
abbrev env : Environment
env = (bound (Integer I8) (codes "c") ∷ bound (Handle node) (codes "p") ∷ []) ∷ []

abbrev c : Expression
c = tree.Read (tree.Local (codes "c"))

abbrev p : Expression
p = tree.Read (tree.Local (codes "p"))

abbrev zero : Expression
zero = tree.Constant (number I32 (pos 0))

-- values: an int is no char; a handle is one of its object's struct
int_has : HasType [] int (Number (number I32 (pos 7)))
int_has = refl

no_char : HasType [] (Integer I8) (Number (number I32 (pos 7))) → ⊥
no_char e = cc

object_has : HasType (codes "other" ∷ node ∷ []) (Handle node) (Reference (Some 1))
object_has = refl

no_node : HasType (codes "other" ∷ node ∷ []) (Handle node) (Reference (Some 0)) → ⊥
no_node e = cc

-- c + total is an int
sum_typed : IsTyped look env (tree.Binary Add c (tree.Read (tree.Global (codes "total"))))
sum_typed = (refl, tt, tt)

sum_type : type_of look env (tree.Binary Add c (tree.Read (tree.Global (codes "total")))) ≡ int
sum_type = refl

-- p == 0 is typed with the conversion of 0, and not without it
null_compared : IsTyped look env (tree.Binary Eq (tree.Convert (Handle node) p) (tree.Convert (Handle node) zero))
null_compared = ((refl, inl refl), (tt, inr refl), (refl, refl))

null_unconverted : IsTyped look env (tree.Binary Eq p zero) → ⊥
null_unconverted t = t.2

-- 1 is no null handle
one_is_no_handle : IsTyped look env (tree.Convert (Handle node) (tree.Constant (number I32 (pos 1)))) → ⊥
one_is_no_handle t = by t.1
  where
    by : (⊥ ⊎ IsTrue false) → ⊥
    by (inl e) = e
    by (inr e) = never e

-- -p isn't typed, !p is an int
no_negated : IsTyped look env (tree.Unary Negate p) → ⊥
no_negated t = t.1

negated : IsTyped look env (tree.Unary Not p)
negated = (refl, tt)

-- f(c, p) wants c as a long
called : IsTyped look env
    (tree.Call (codes "f") (ExpressionThen (tree.Convert (Integer I64) c) (ExpressionThen (tree.Convert (Handle node) p) NoExpressions)))
called = (((refl, inl tt), ((refl, inl refl), tt)), tt, refl)

argument_unconverted : IsTyped look env
    (tree.Call (codes "f") (ExpressionThen c (ExpressionThen (tree.Convert (Handle node) p) NoExpressions))) → ⊥
argument_unconverted t = by (t.2)
  where
    by : (Integer I8 ∷ Handle node ∷ []) ≡ (Integer I64 ∷ Handle node ∷ []) → ⊥
    by e = cc

-- c ? c : total has one type on both sides, or none
chosen : IsTyped look env (tree.Choice c (tree.Convert int c) (tree.Convert int (tree.Read (tree.Global (codes "total")))))
chosen = (refl, (refl, inl tt), (tt, inl tt), tt, refl)

side_unconverted : IsTyped look env (tree.Choice c c (tree.Convert int (tree.Read (tree.Global (codes "total"))))) → ⊥
side_unconverted t = by t.4
  where
    by : int ≡ Integer I8 → ⊥
    by e = cc

-- c++ has the type of c; kept at the type of the sum, it isn't typed
stepped : IsTyped look env (tree.Postfix (Integer I8) Add (tree.Local (codes "c")))
stepped = (refl, refl, tt)

step_unconverted : IsTyped look env (tree.Postfix int Add (tree.Local (codes "c"))) → ⊥
step_unconverted t = by t.1
  where
    by : int ≡ Integer I8 → ⊥
    by e = cc

-- p->small is a char; with another struct's tag it isn't typed
field_type : type_of look env (tree.Read (tree.Field node p (codes "small"))) ≡ Integer I8
field_type = refl

field_typed : IsTyped look env (tree.Read (tree.Field node p (codes "small")))
field_typed = (refl, refl, refl)

other_tag : IsTyped look env (tree.Read (tree.Field (codes "other") p (codes "small"))) → ⊥
other_tag t = never t.2

-- a lock wants a mutex
locked : IsTyped look env (tree.Lock (codes "m"))
locked = tt

no_mutex : IsTyped look env (tree.Lock (codes "total")) → ⊥
no_mutex t = t

-- return c; in a function of long wants the conversion
returned : StatementTyped look (Integer I64) env (tree.Return (tree.Convert (Integer I64) c))
returned = ((refl, inl tt), refl)

result_unconverted : StatementTyped look (Integer I64) env (tree.Return c) → ⊥
result_unconverted t = by t.1
  where
    by : Integer I8 ≡ Integer I64 → ⊥
    by e = cc

-- if (c) long d; declares for nothing that is after it, so it is no part
no_declared_part : StatementTyped look int env (tree.If c (tree.Declare (Integer I64) (codes "d") None)) → ⊥
no_declared_part t = t.2

-- { long d = c; d; }: the second statement sees d
abbrev block : Statements
block =
    StatementThen (tree.Declare (Integer I64) (codes "d") (Some (tree.Convert (Integer I64) c)))
    (StatementThen (tree.Evaluate (tree.Read (tree.Local (codes "d")))) NoStatements)

block_typed : StatementsTyped look int ([] ∷ env) block
block_typed = (((refl, inl tt), refl), (refl, tt))

-- total = the newest value; what is after it finds no value
pieces_typed : (going look (Integer I64) (Set (tree.Global (codes "total")) 3 ∷ ConvertTo (Integer I64) ∷ At stop.Return 4 ∷ [])).on (int ∷ []) env
pieces_typed = (tt, (refl, (tt, refl)))

no_value : (going look (Integer I64) (ConvertTo (Integer I64) ∷ At stop.Return 4 ∷ [])).on [] env → ⊥
no_value t = t

unconverted_return : (going look (Integer I64) (At stop.Return 4 ∷ [])).on (int ∷ []) env → ⊥
unconverted_return e = cc

-- the value of a field that is read comes with its handle's struct alone
field_read : (going look int (At (stop.ReadField node (codes "small")) 2 ∷ ConvertTo int ∷ At stop.Return 3 ∷ [])).on (Handle node ∷ []) env
field_read = ((bound (Integer I8) (codes "small"), refl), (refl, (tt, refl)))

other_handle : (going look int (At (stop.ReadField node (codes "small")) 2 ∷ ConvertTo int ∷ At stop.Return 3 ∷ [])).on (Handle (codes "other") ∷ []) env → ⊥
other_handle t = by t.1.0
  where
    by : Handle (codes "other") ≡ Handle node → ⊥
    by e = cc
