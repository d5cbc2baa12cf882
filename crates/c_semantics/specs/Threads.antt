-- A thread of the source machine.
use Rattle.std.specs.Prelude.{ℕ, ◌+◌, List, [], ◌∷◌, Option, Some}
use Rattle.c_tree.specs.BareExpr.{Bytes, BareType}
use Rattle.c_tree.specs.BareDef.{BareBinding}
use Rattle.c_semantics.specs.Texts.{Definitions, result_type, parameters_of}
use Rattle.c_semantics.specs.Resolved.{Statements}
use Rattle.c_semantics.specs.Resolution.{resolved_body}
use Rattle.c_semantics.specs.Points.{size_stmts}
use Rattle.c_semantics.specs.Values.{Value, zero_of}
use Rattle.c_semantics.specs.Stops as stop
use Rattle.c_semantics.specs.Pieces.{Piece, Variable, Scopes, Halt, Sequence, Push, At}
use Rattle.c_semantics.specs.Evaluation.{local}

-- a use of a name: the number of the name's entry that was current at the use
pub record Use : Type 0 where
  pub name : Bytes
  pub entry : ℕ

-- the uses of a transaction, the first first
abbrev pub Record : Type 0
Record = List Use

-- a call in progress: its function, the version under which it was entered, the point at which it last stopped
-- (0 before its first stop), what it has still to evaluate, its values, the newest first, and its variables
pub record Frame : Type 0 where
  pub function : Bytes
  pub version : ℕ
  pub standing : ℕ
  pub pieces : List Piece
  pub values : List Value
  pub scopes : Scopes

-- an enter that is due: the function, its arguments in order, and the version of the frame that called or spawned
pub record Enter : Type 0 where
  pub function : Bytes
  pub arguments : List Value
  pub version : ℕ

-- a thread: its number among all threads, its frames, the innermost first, the enter that is due, how many
-- transactions it is in, and its uses since it began the outermost one; its slot is that in which the world has it
pub record Thread : Type 0 where
  pub serial : ℕ
  pub frames : List Frame
  pub entering : Option Enter
  pub depth : ℕ
  pub uses : Record

-- a thread that starts: it comes before an enter, and in no transaction
abbrev pub started : ℕ → Enter → Thread
started serial enter =
    record { serial = serial; frames = []; entering = Some enter; depth = 0; uses = [] }

-- the parameters with their arguments
abbrev pub bind : List BareBinding → List Value → List Variable
bind [] arguments = []
bind (p ∷ ps) [] = record { name = p.name; value = zero_of p.declared } ∷ bind ps []
bind (p ∷ ps) (v ∷ vs) = record { name = p.name; value = v } ∷ bind ps vs

-- what a function has to evaluate: its body, and the closing return, which gives zero
abbrev pub body_pieces : Statements → BareType → List Piece
body_pieces body result = Sequence body 1 ∷ Push (zero_of result) ∷ At stop.Return (1 + size_stmts body) ∷ []

-- the frame of a function that is entered
abbrev pub entered : Definitions → Bytes → ℕ → List Value → Frame
entered look function version arguments =
    let definition = look function in
    record {
      function = function;
      version = version;
      standing = 0;
      pieces = body_pieces (resolved_body look definition) (result_type definition);
      values = [];
      scopes = bind (parameters_of definition) arguments ∷ [];
    }

-- the next move of a frame: its local evaluation
abbrev pub next_of : Frame → Halt
next_of f = local f.pieces f.values f.scopes
