-- Small texts and runs: which names are numbered, what an install without moves leaves, when a thread's move can be made, and what is
-- used at a field's stop.
use Rattle.std.proofs.Common.{◌≡◌, zero, suc, Bool, true, false, List, [], ◌∷◌, replicate, arith, Contains, Some, None, option_map, pos, codes, bytes_eq, refl, sym, subst, if◌then◌else◌}
use Rattle.std.proofs.lemmas.Slice.Eq.{bytes_eq-Decides}
use Rattle.run_types.specs.CheckIns as check_in
use Rattle.run_types.specs.declared.run.Event.{Event}
use Rattle.run_types.specs.declared.run.Event.TheVariants.{CheckIn, Decide, Move, Offer}
use Rattle.c_ints.specs.declared.kind.Kind.TheVariants.{I32}
use Rattle.c_ints.specs.Number.{number}
use Rattle.c_tree.specs.BareExpr.{BareExpr, Bytes, Handle}
use Rattle.c_tree.specs.BareExpr as expr
use Rattle.c_tree.specs.BareStmt.{NoStmts, ReturnValue, StmtThen}
use Rattle.c_tree.specs.BareDef.{BareBinding, BareDef, Function, Global, Struct}
use Rattle.c_semantics.specs.Changes.{agree, same_interface}
use Rattle.c_semantics.specs.Names.{struct_name}
use Rattle.c_semantics.specs.SourceTexts.{Text}
use Rattle.c_semantics.specs.Stops.{ReadField, ReadGlobal, Return}
use Rattle.c_semantics.specs.Texts.{definition, int}
use Rattle.c_semantics.specs.Values.{int_of}
use Rattle.source_model.specs.Answers.{Installed}
use Rattle.source_model.specs.Guards.{Guard, Rules, Setup, seat_of}
use Rattle.source_model.specs.Journals.{guard_after}
use Rattle.source_model.specs.Worlds.{cells_of}
use Rattle.version_laws.specs.Histories.{last_text, text_in}
use Rattle.typed_transformers.specs.TransformerTypes.{HasCells}
use Rattle.typed_trees.specs.ExpressionTypes.{IsMutex, IsStruct}
use Rattle.bytecode.specs.declared.kind.ValueKind.TheVariants.{Number}
use Rattle.bytecode.specs.Instructions.{CheckIn as CheckInAt, Constant, Halt}
use Rattle.code_runs.specs.CodeData.{Names, field_number}
use Rattle.code_runs.specs.CodeMoves.{code_in}
use Rattle.code_runs.specs.CodeThreads.{CodeFrame, Rests}
use Rattle.code_runs.specs.SharedStops.{members_in}
use Rattle.code_run_laws.specs.WorldMatches.{Numbers}
use Rattle.code_install_laws.specs.UsedNames.{UsesNext, at_stop}

no : false ≡ true → ⊥
no e = cc

abbrev g : Bytes
g = codes "g"

abbrev h : Bytes
h = codes "h"

abbrev variable : Bytes → BareDef
variable name = Global (record { declared = int; name = name; initial = None })

-- ---- int g;  is numbered by g alone, and  int g; int h;  is not

abbrev names : Names
names = record { cells = g ∷ []; mutexes = []; tags = [] }

no_mutex : (b : Bool) → IsMutex (if b then Some (variable g) else None) → ⊥
no_mutex true is = is
no_mutex false is = is

no_struct : (b : Bool) → IsStruct (if b then Some (variable g) else None) → ⊥
no_struct true is = is
no_struct false is = is

g_numbered : Numbers names (variable g ∷ [])
g_numbered = record {
  cells = λ name has. by name (bytes_eq name g) refl has;
  mutexes = λ name is. absurd (no_mutex (bytes_eq name g) is);
  tags = λ tag is. absurd (no_struct (bytes_eq (struct_name tag) g) is);
}
  where
    by : (name : Bytes) (b : Bool) → bytes_eq name g ≡ b → HasCells (if b then Some (variable g) else None) → Contains (g ∷ []) name
    by name true same has = subst (Contains (g ∷ [])) (sym ((bytes_eq-Decides name g).0 same)) (zero, omega arith, refl)
    by name false other has = absurd has

h_unnumbered : Numbers names (variable g ∷ variable h ∷ []) → ⊥
h_unnumbered n = by (n.cells h tt)
  where
    by : Contains (g ∷ []) h → ⊥
    by (zero, within, is) = no (subst (λ x. bytes_eq x h ≡ true) (sym is) refl)
    by (suc k, within, is) = absurd (omega (arith, within))

-- ---- int main(void) { return 0; }

abbrev main : BareExpr → BareDef
main result = Function (Some int) (codes "main") [] (StmtThen (ReturnValue result) NoStmts)

abbrev zero_of : BareExpr
zero_of = expr.Number (number I32 (pos 0))

abbrev text : List BareDef → Text
text definitions = record { definitions = definitions; tokens = []; tree = record { definitions = []; end = 0 } }

-- a newer text has a variable more
abbrev setup : Setup
setup = record {
  first = text (main zero_of ∷ []);
  offers = record { text = text (variable h ∷ main zero_of ∷ []); lines = 0 } ∷ [];
  limits = record { objects = 1; slots = 1 };
}

-- what is seen of a slot: whether its thread is at a check-in, and whether a definition was misused
abbrev seen : Guard → Bool × Bool
seen g = ((seat_of g 0).at_check_in, g.world.misused)

module _ (rules : Rules) where
  -- main is entered and is at its entry check-in, where it can't move
  main_entered : option_map seen (guard_after rules setup (Move 0 ∷ [])) ≡ Some (true, false)
  main_entered = refl

  main_waits : guard_after rules setup (Move 0 ∷ Move 0 ∷ []) ≡ None
  main_waits = refl

  -- after it the thread goes on, and its next move misuses nothing
  main_goes_on : option_map seen (guard_after rules setup (Move 0 ∷ CheckIn 0 ∷ [])) ≡ Some (false, false)
  main_goes_on = refl

  main_returns : option_map (λ g. g.world.misused) (guard_after rules setup (Move 0 ∷ CheckIn 0 ∷ Move 0 ∷ [])) ≡ Some false
  main_returns = refl

  -- the newer text is installed before any move: the answer says so, and the world has its variable
  abbrev installing : List Event
  installing = Offer 1 ∷ Decide 1 ∷ []

  answer_says_so : option_map (λ g. g.answers) (guard_after rules setup installing) ≡ Some (record { offer = 1; answer = Installed 2 } ∷ [])
  answer_says_so = refl

  variable_is_there : option_map (λ g. cells_of g.world h) (guard_after rules setup installing) ≡ Some (int_of 0 ∷ [])
  variable_is_there = refl

-- ---- struct pair { int a; int b; };  struct pair *p;  int main(void) { return p->b; }

abbrev member : Bytes → BareBinding
member name = record { declared = int; name = name }

abbrev pair : List BareBinding → BareDef
pair members = Struct (codes "pair") members

abbrev a_then_b : BareDef
a_then_b = pair (member (codes "a") ∷ member (codes "b") ∷ [])

abbrev b_then_a : BareDef
b_then_a = pair (member (codes "b") ∷ member (codes "a") ∷ [])

abbrev reading : BareDef → List BareDef
reading struct =
    struct ∷ Global (record { declared = Handle (codes "pair"); name = codes "p"; initial = None })
    ∷ main (expr.Arrow (expr.Variable (codes "p")) (codes "b")) ∷ []

-- the struct stays, and then it changes
abbrev staying : List (List BareDef)
staying = reading a_then_b ∷ reading a_then_b ∷ []

abbrev changing : List (List BareDef)
changing = reading a_then_b ∷ reading b_then_a ∷ []

main_code : code_in staying 1 (codes "main") ≡
    CheckInAt check_in.Entry 0 ∷ Halt (ReadGlobal (codes "p")) 1 ∷ Halt (ReadField (codes "pair") (codes "b")) 2 ∷ Halt Return 3
    ∷ Constant (Number I32) 0 ∷ Halt Return 4 ∷ []
main_code = refl

-- main of version 1 stands before the read, with the null handle
abbrev frame : CodeFrame
frame = record { function = codes "main"; version = 1; standing = 1; state = record { place = 2; stack = 0 ∷ []; locals = replicate 64 0 } }

struct_is_used : UsesNext staying (Rests frame) 1 (struct_name (codes "pair"))
struct_is_used = at_stop frame (ReadField (codes "pair") (codes "b")) 2 3 (struct_name (codes "pair")) (refl, refl) refl

b_stays : field_number (members_in (text_in staying 1) (codes "pair")) (codes "b") ≡ field_number (members_in (last_text staying) (codes "pair")) (codes "b")
b_stays = refl

-- where its number changes, so does the interface of the struct: the read would be a misuse
b_moves : field_number (members_in (last_text changing) (codes "pair")) (codes "b") ≡ 0
b_moves = refl

struct_changes : agree same_interface (definition (text_in changing 1) (struct_name (codes "pair"))) (definition (last_text changing) (struct_name (codes "pair")))
    ≡ false
struct_changes = refl
