-- Small texts: which names a newer text changes, and of which the interface.
use Rattle.std.proofs.Common.{◌≡◌, List, [], ◌∷◌, Some, None, refl, pos}
use Rattle.std.specs.Prelude.{codes}
use Rattle.c_ints.specs.declared.kind.Kind.{Kind}
use Rattle.c_ints.specs.declared.kind.Kind.TheVariants.{I32, I64}
use Rattle.c_ints.specs.declared.int.Int.{Int}
use Rattle.c_ints.specs.Number.{number}
use Rattle.c_tree.specs.BareExpr.{Bytes, BareExpr, Integer, Number}
use Rattle.c_tree.specs.BareExpr as e
use Rattle.c_tree.specs.BareStmt.{BareStmts, NoStmts, StmtThen, ReturnValue}
use Rattle.c_tree.specs.BareDef.{BareBinding, Named, BareDef, Struct, Mutex, Function, Prototype, Global, Array}
use Rattle.c_semantics.specs.Changes.{changed, interface, added}

abbrev binding : Kind → Bytes → BareBinding
binding k name = record { declared = Integer k; name = name }

abbrev return : BareExpr → BareStmts
return value = StmtThen (ReturnValue value) NoStmts

abbrev whole : Kind → Int
whole k = number k (pos 2)

-- int f(int NAME) { return NAME; }
abbrev with_parameter : Bytes → List BareDef
with_parameter name = Function (Some (Integer I32)) (codes "f") (binding I32 name ∷ []) (return (e.Variable name)) ∷ []

renamed_parameter : changed (with_parameter (codes "a")) (with_parameter (codes "b")) ≡ codes "f" ∷ []
renamed_parameter = refl

its_interface_stays : interface (with_parameter (codes "a")) (with_parameter (codes "b")) ≡ []
its_interface_stays = refl

-- int f(int a) { return 2; }   long f(int a) { return 2; }   int f(long a) { return 2; }
abbrev of_types : Kind → Kind → List BareDef
of_types result parameter =
    Function (Some (Integer result)) (codes "f") (binding parameter (codes "a") ∷ []) (return (Number (whole I32))) ∷ []

another_result : interface (of_types I32 I32) (of_types I64 I32) ≡ codes "f" ∷ []
another_result = refl

another_parameter : interface (of_types I32 I32) (of_types I32 I64) ≡ codes "f" ∷ []
another_parameter = refl

-- int g;   int g = 2;   long g;
abbrev plain : Kind → List BareDef
plain k = Global (record { declared = Integer k; name = codes "g"; initial = None }) ∷ []

abbrev initialised : List BareDef
initialised = Global (record { declared = Integer I32; name = codes "g"; initial = Some (Number (whole I32)) }) ∷ []

another_initialiser : changed (plain I32) initialised ≡ []
another_initialiser = refl

another_type : interface (plain I32) (plain I64) ≡ codes "g" ∷ []
another_type = refl

-- struct s { int a; };   struct s { int a; int b; };   struct s { int b; int a; };
abbrev with_fields : List BareBinding → List BareDef
with_fields fields = Struct (codes "s") fields ∷ []

abbrev one_field : List BareDef
one_field = with_fields (binding I32 (codes "a") ∷ [])

abbrev two_fields : List BareDef
two_fields = with_fields (binding I32 (codes "a") ∷ binding I32 (codes "b") ∷ [])

abbrev turned : List BareDef
turned = with_fields (binding I32 (codes "b") ∷ binding I32 (codes "a") ∷ [])

a_field_more : changed one_field two_fields ≡ codes "struct s" ∷ []
a_field_more = refl

and_of_its_interface : interface one_field two_fields ≡ codes "struct s" ∷ []
and_of_its_interface = refl

fields_in_order : changed two_fields turned ≡ codes "struct s" ∷ []
fields_in_order = refl

-- int v[2];   int v[2L] = { 2 };   int v;   mtx_t v;
abbrev array : Kind → List BareDef
array k = Array (Integer I32) (codes "v") (whole k) None ∷ []

abbrev filled : List BareDef
filled = Array (Integer I32) (codes "v") (whole I64) (Some (Number (whole I32) ∷ [])) ∷ []

abbrev scalar : List BareDef
scalar = Global (record { declared = Integer I32; name = codes "v"; initial = None }) ∷ []

abbrev mutex : List BareDef
mutex = Mutex (codes "v") ∷ []

equal_length : changed (array I32) filled ≡ []
equal_length = refl

another_sort : interface (array I32) scalar ≡ codes "v" ∷ []
another_sort = refl

a_mutex_is_one : changed mutex mutex ≡ []
a_mutex_is_one = refl

-- a function that is gone, and one that a prototype alone announces
gone : changed (with_parameter (codes "a")) mutex ≡ codes "f" ∷ []
gone = refl

announced : changed (with_parameter (codes "a")) (Prototype (Some (Integer I32)) (codes "f") (Named (binding I32 (codes "a") ∷ [])) ∷ []) ≡ codes "f" ∷ []
announced = refl

new_ones : added (with_parameter (codes "a")) mutex ≡ codes "v" ∷ []
new_ones = refl
