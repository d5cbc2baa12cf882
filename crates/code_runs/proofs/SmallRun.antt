-- A whole run of code: main enters, writes a global, reads it, and returns what it read.
use Rattle.std.proofs.Common.{◌≡◌, ℕ, List, [], ◌∷◌, Some, None, pos, codes, replicate, arith, refl}
use Rattle.std.specs.FinMap.{empty}
use Rattle.c_ints.specs.declared.kind.Kind.TheVariants.{I32}
use Rattle.c_ints.specs.Number.{number}
use Rattle.run_types.specs.CheckIns as check_in
use Rattle.c_tree.specs.BareExpr.{Bytes, Assign, Variable}
use Rattle.c_tree.specs.BareExpr as expr
use Rattle.c_tree.specs.BareStmt.{Evaluate, ReturnValue, NoStmts, StmtThen}
use Rattle.c_tree.specs.BareDef.{BareDef, Function, Global}
use Rattle.c_semantics.specs.Texts.{int}
use Rattle.c_semantics.specs.Stops.{ReadGlobal, Return, WriteGlobal}
use Rattle.source_model.specs.Worlds.{Finished}
use Rattle.bytecode.specs.declared.kind.ValueKind.TheVariants.{Number}
use Rattle.bytecode.specs.Instructions.{CheckIn, Constant, Drop, Halt}
use Rattle.bytecode.specs.Meaning.{here, more}
use Rattle.code_runs.specs.CodeData.{Data, Names}
use Rattle.code_runs.specs.CodeThreads.{CodeEnter, CodeFrame, CodeThread, CodeWorld, Rests, Live, starting}
use Rattle.code_runs.specs.CodeMoves.{Moves, code_in, enters, rests, stops}
use Rattle.code_runs.specs.SharedStops.{goes}
use Rattle.code_runs.specs.Layouts.{uses_none}

-- int g;  int main(void) { g = 7; return g; }
abbrev g : Bytes
g = codes "g"

abbrev text : List BareDef
text =
    Global (record { declared = int; name = g; initial = None })
    ∷ Function (Some int) (codes "main") []
    (StmtThen (Evaluate (Assign (Variable g) (expr.Number (number I32 (pos 7))))) (StmtThen (ReturnValue (Variable g)) NoStmts)) ∷ []

abbrev texts : List (List BareDef)
texts = text ∷ []

main_code : code_in texts 1 (codes "main") ≡
    CheckIn check_in.Entry 0 ∷ Constant (Number I32) 7 ∷ Halt (WriteGlobal g) 1 ∷ Drop ∷ Halt (ReadGlobal g) 2 ∷ Halt Return 3
    ∷ Constant (Number I32) 0 ∷ Halt Return 4 ∷ []
main_code = refl

abbrev names : Names
names = record { cells = g ∷ []; mutexes = []; tags = [] }

-- ---- the states of the run

abbrev shared : ℕ → Data
shared w = record { cells = (w ∷ []) ∷ []; objects = record { capacity = 4; created = 0; live = empty }; holders = []; version = 0 }

abbrev main : CodeEnter
main = record { function = codes "main"; arguments = []; version = 1 }

-- main at a place with words on its stack, having stopped at a point
abbrev frame : ℕ → ℕ → List ℕ → CodeFrame
frame point place stack = record {
  function = codes "main";
  version = 1;
  standing = point;
  state = record { place = place; stack = stack; locals = replicate 64 0 };
}

abbrev thread : CodeFrame → CodeThread
thread f = record { serial = 0; depth = 0; next = Rests f; below = [] }

abbrev at : ℕ → CodeThread → CodeWorld
at w th = record { shared = shared w; slots = Live th ∷ []; threads = 1; finish = None }

-- ---- its moves

main_enters : Moves texts names (at 0 (starting 0 main)) 0 (starting 0 main) (at 0 (thread (frame 0 2 (7 ∷ [])))) []
main_enters =
    enters main (frame 0 1 []) (frame 0 2 (7 ∷ [])) refl (omega arith)
    (record { function = refl; version = refl; others = replicate 64 0; locals = refl; room = refl })
    (record {
      function = refl;
      version = refl;
      stood = refl;
      runs = more _ (frame 0 2 (7 ∷ [])).state _ refl (here (frame 0 2 (7 ∷ [])).state);
      ends = rests refl;
    })

-- the value of the assignment is dropped
global_written : Moves texts names (at 0 (thread (frame 0 2 (7 ∷ [])))) 0 (thread (frame 0 2 (7 ∷ []))) (at 7 (thread (frame 1 4 []))) []
global_written =
    stops (frame 0 2 (7 ∷ [])) (WriteGlobal g) 1 3 (at 7 (thread (frame 1 4 []))) [] refl (refl, refl) (
      shared 0,
      (
        uses_none refl,
        (
          goes (shared 7) (7 ∷ []),
          (
            refl,
            (
              refl,
              (
                frame 1 4 [],
                (
                  record {
                    function = refl;
                    version = refl;
                    stood = refl;
                    runs = more _ (frame 1 4 []).state _ refl (here (frame 1 4 []).state);
                    ends = rests refl;
                  },
                  refl,
                ),
              ),
            ),
          ),
        ),
      ),
    )

global_read : Moves texts names (at 7 (thread (frame 1 4 []))) 0 (thread (frame 1 4 [])) (at 7 (thread (frame 2 5 (7 ∷ [])))) []
global_read =
    stops (frame 1 4 []) (ReadGlobal g) 2 5 (at 7 (thread (frame 2 5 (7 ∷ [])))) [] refl (refl, refl) (
      shared 7,
      (
        uses_none refl,
        (
          goes (shared 7) (7 ∷ []),
          (
            refl,
            (
              refl,
              (
                frame 2 5 (7 ∷ []),
                (
                  record { function = refl; version = refl; stood = refl; runs = here (frame 2 5 (7 ∷ [])).state; ends = rests refl },
                  refl,
                ),
              ),
            ),
          ),
        ),
      ),
    )

main_returned : Moves texts names (at 7 (thread (frame 2 5 (7 ∷ [])))) 0 (thread (frame 2 5 (7 ∷ [])))
    (record (at 7 (thread (frame 2 5 (7 ∷ [])))) { finish = Some (Finished (pos 7)) }) []
main_returned =
    stops (frame 2 5 (7 ∷ [])) Return 3 6 (record (at 7 (thread (frame 2 5 (7 ∷ [])))) { finish = Some (Finished (pos 7)) }) [] refl (refl, refl)
    (refl, refl)
