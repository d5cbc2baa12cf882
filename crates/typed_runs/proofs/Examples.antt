-- A small text, what is typed by it, and what isn't: a value of a wrong kind, a handle of another struct, a result of another
-- type.
use Rattle.std.proofs.Common.{◌≡◌, pos, List, [], ◌∷◌, Some, None, true, codes, refl, subst, sym, le_refl}
use Rattle.std.proofs.lemmas.List.Elements.{All-head}
use Rattle.c_ints.specs.declared.kind.Kind.TheVariants.{I32, I64}
use Rattle.c_ints.specs.Number.{number}
use Rattle.c_tree.specs.BareExpr.{Bytes, BareType, Integer, Handle}
use Rattle.c_tree.specs.BareStmt.{NoStmts}
use Rattle.c_tree.specs.BareDef.{BareBinding, BareDef, Struct, Function, Global}
use Rattle.c_semantics.specs.Texts.{definition, int}
use Rattle.c_semantics.specs.Values.{Value, Number, Reference}
use Rattle.c_semantics.specs.Resolved.{Local}
use Rattle.c_semantics.specs.Stops as stop
use Rattle.c_semantics.specs.Pieces.{Get, At}
use Rattle.c_semantics.specs.Threads.{Enter, Frame}
use Rattle.source_model.specs.Worlds.{World, Limits, Object, Finished, first_world}
use Rattle.typed_trees.specs.ValueTypes.{Environment, HasType, HaveTypes, ScopesHave}
use Rattle.typed_trees.specs.PieceTypes.{Stack, going}
use Rattle.typed_runs.specs.TypedFrames.{Below, EnterTyped, FrameTyped, FrameWaits}
use Rattle.typed_runs.specs.TypedWorlds.{FinishTyped, GlobalsTyped, ObjectTyped, WorldTyped}
use Rattle.typed_runs.proofs.FirstWorld.{first_typed}

-- struct node { int small; struct node *next; };  int total;  int main(void) {}  long f(long x) {}
abbrev node : Bytes
node = codes "node"

abbrev bound : BareType → Bytes → BareBinding
bound type name = record { declared = type; name = name }

abbrev text : List BareDef
text =
    Struct node (bound int (codes "small") ∷ bound (Handle node) (codes "next") ∷ [])
    ∷ Global (record { declared = int; name = codes "total"; initial = None })
    ∷ Function (Some int) (codes "main") [] NoStmts
    ∷ Function (Some (Integer I64)) (codes "f") (bound (Integer I64) (codes "x") ∷ []) NoStmts
    ∷ []

abbrev texts : List (List BareDef)
texts = text ∷ []

abbrev an_int : Value
an_int = Number (number I32 (pos 7))

abbrev a_long : Value
a_long = Number (number I64 (pos 7))

no_int : HasType [] int a_long → ⊥
no_int e = cc

-- ---- the first world

limits : Limits
limits = record { objects = 4; slots = 2 }

first : WorldTyped texts (first_world text limits)
first = first_typed text limits (record { function = tt; none = refl; returns = refl })

-- ---- frames

-- main is about to return these values
abbrev returning : List Value → Frame
returning values =
    record { function = codes "main"; version = 1; standing = 0; pieces = At stop.Return 1 ∷ []; values = values; scopes = [] ∷ [] }

returns : FrameTyped texts [] (returning (an_int ∷ []))
returns = record {
  known = le_refl 1;
  goes_on = record { stack = int ∷ []; env = [] ∷ []; typed = refl; values_have = (refl, tt); scopes_have = (tt, tt) };
}

-- a long isn't what main returns, and no value isn't one
returns_no_long : FrameTyped texts [] (returning (a_long ∷ [])) → ⊥
returns_no_long h = by h.goes_on.stack h.goes_on.env h.goes_on.typed h.goes_on.values_have
  where
    by : (stack : Stack) (env : Environment) → (going (definition text) int (At stop.Return 1 ∷ [])).on stack env
        → HaveTypes [] stack (a_long ∷ []) → ⊥
    by [] env typed have = typed
    by (t ∷ under) env typed have = no_int (subst (λ u. HasType [] u a_long) typed have.0)

returns_something : FrameTyped texts [] (returning []) → ⊥
returns_something h = by h.goes_on.stack h.goes_on.env h.goes_on.typed h.goes_on.values_have
  where
    by : (stack : Stack) (env : Environment) → (going (definition text) int (At stop.Return 1 ∷ [])).on stack env → HaveTypes [] stack [] → ⊥
    by [] env typed have = typed
    by (t ∷ under) env typed have = have

-- a variable c that main reads and returns: its scope has to hold an int
abbrev reading : Value → Frame
reading value = record {
  function = codes "main";
  version = 1;
  standing = 0;
  pieces = Get (Local (codes "c")) 1 ∷ At stop.Return 1 ∷ [];
  values = [];
  scopes = (record { name = codes "c"; value = value } ∷ []) ∷ [];
}

reads : FrameTyped texts [] (reading an_int)
reads = record {
  known = le_refl 1;
  goes_on = record {
    stack = [];
    env = (bound int (codes "c") ∷ []) ∷ [];
    typed = (refl, refl);
    values_have = tt;
    scopes_have = ((refl, refl, tt), tt);
  };
}

reads_no_long : FrameTyped texts [] (reading a_long) → ⊥
reads_no_long h = by h.goes_on.stack h.goes_on.env h.goes_on.typed h.goes_on.scopes_have
  where
    named : (type : BareType) (name : Bytes) (stack : Stack) → codes "c" ≡ name
        → (going (definition text) int (Get (Local (codes "c")) 1 ∷ At stop.Return 1 ∷ [])).on stack ((bound type name ∷ []) ∷ []) → type ≡ int
    named type name stack is typed =
        (subst (λ n. (going (definition text) int (Get (Local (codes "c")) 1 ∷ At stop.Return 1 ∷ [])).on stack ((bound type n ∷ []) ∷ [])) (sym is) typed).1

    by : (stack : Stack) (env : Environment) → (going (definition text) int (Get (Local (codes "c")) 1 ∷ At stop.Return 1 ∷ [])).on stack env
        → ScopesHave [] env ((record { name = codes "c"; value = a_long } ∷ []) ∷ []) → ⊥
    by stack [] typed have = have
    by stack ([] ∷ outer) typed have = have.0
    by stack ((b ∷ []) ∷ []) typed have =
        no_int (subst (λ u. HasType [] u a_long) (named b.declared b.name stack have.0.0 typed) have.0.1)
    by stack ((b ∷ []) ∷ (bs ∷ outer)) typed have = have.1
    by stack ((b ∷ (c ∷ bs)) ∷ outer) typed have = have.0.2

-- ---- results

-- a frame that called f waits for its long; the last frame of a thread gives an int
waits : FrameWaits texts [] int (returning [])
waits = record { known = le_refl 1; stack = []; env = [] ∷ []; typed = refl; values_have = tt; scopes_have = (tt, tt) }

waits_for_no_long : FrameWaits texts [] (Integer I64) (returning []) → ⊥
waits_for_no_long h = by h.typed
  where
    by : Integer I64 ≡ int → ⊥
    by e = cc

last_is_no_long : Below texts [] (Integer I64) [] → ⊥
last_is_no_long e = cc

-- ---- enters

abbrev entering : Value → Enter
entering value = record { function = codes "f"; arguments = value ∷ []; version = 1 }

enters : EnterTyped texts [] (entering a_long)
enters = record { known = le_refl 1; function = tt; arguments = (refl, tt) }

enters_with_no_int : EnterTyped texts [] (entering an_int) → ⊥
enters_with_no_int h = by h.arguments.0
  where
    by : HasType [] (Integer I64) an_int → ⊥
    by e = cc

-- ---- objects and globals

-- an object of struct node, whose field next is the handle of object 0
abbrev object : Object
object = record {
  tag = node;
  fields = record { name = codes "small"; value = an_int } ∷ record { name = codes "next"; value = Reference (Some 0) } ∷ [];
  live = true;
}

next_is_a_node : ObjectTyped text (node ∷ []) object
next_is_a_node struct = (refl, refl, (refl, refl, tt))

next_is_another : ObjectTyped text (codes "other" ∷ node ∷ []) object → ⊥
next_is_another h = by (h tt).2.1
  where
    by : HasType (codes "other" ∷ node ∷ []) (Handle node) (Reference (Some 0)) → ⊥
    by e = cc

abbrev total_is : Value → World
total_is value = record (first_world text limits) { globals = record { name = codes "total"; cells = value ∷ [] } ∷ [] }

total_is_no_long : GlobalsTyped text [] (total_is a_long) → ⊥
total_is_no_long h = no_int (All-head (HasType [] int) a_long [] (h (codes "total") tt))

-- main's result
finished : FinishTyped (Some (Finished (pos 7)))
finished = (number I32 (pos 7), refl, refl)
