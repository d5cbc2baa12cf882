-- Where the private instructions of a frame that matches end, it rests there as local evaluation ends.
use Rattle.std.proofs.Common.{◌≡◌, ℕ, ◌≤◌, List, ◌∷◌, length, ap₂, subst, ◌∙◌}
use Rattle.c_tree.specs.BareExpr.{Bytes, BareType}
use Rattle.c_tree.specs.BareDef.{BareDef}
use Rattle.c_semantics.specs.Texts.{Definitions}
use Rattle.c_semantics.specs.Values.{Value}
use Rattle.c_semantics.specs.Pieces.{Piece, Scopes, Halt, Stopped, Trapped, Nothing, At}
use Rattle.c_semantics.specs.Evaluation.{local}
use Rattle.c_semantics.specs.Threads.{Frame}
use Rattle.typed_runs.specs.TypedFrames.{result_in, version_in}
use Rattle.bytecode.specs.Words.{Naming, Distinguishes}
use Rattle.bytecode.specs.Meaning.{State, Runs, step, Traps}
use Rattle.tree_code.specs.Code.{Code}
use Rattle.tree_code.specs.CodedPieces.{Stops}
use Rattle.tree_code.specs.CodeLaws.{CodeDoesLocalEvaluation, EndsSo, HasWords, Matches}
use Rattle.code_kinds.specs.WellFormed.{most_variables}
use Rattle.code_runs.specs.CodeThreads.{CodeFrame}
use Rattle.code_runs.specs.CodeMoves.{Ends, GoesOn, code_in, frame_code, rests, traps}
use Rattle.code_run_laws.specs.ThreadMatches.{FrameRests, RestsSo}
use Rattle.code_run_laws.proofs.OneEnd.{one_end, rests_at}

module _ (evaluates : CodeDoesLocalEvaluation) where
  pub rests_where : (code : Code) (look : Definitions) (result : BareType) (tags : List Bytes) (naming : Naming) (ps : List Piece)
      (values : List Value) (scopes : Scopes) (s next : State)
      → HasWords code → Distinguishes (length tags) naming → Matches code most_variables look result tags naming ps values scopes s
      → Runs code s next → Ends code next → RestsSo code look result tags naming (local ps values scopes) next
  rests_where code look result tags naming ps values scopes s next words apart matches runs ends =
      by (local ps values scopes) (evaluates code most_variables look result tags naming ps values scopes s words apart matches)
    where
      by : (x : Halt) → EndsSo code most_variables look result tags naming x s → RestsSo code look result tags naming x next
      by (Stopped x n rest left inner) e =
          let same = one_end code s e.to next e.runs runs (rests (rests_at code x n e.after e.to e.stands)) ends in (
            e.after,
            (
              subst (λ (p : State). Stops code x n p.place e.after) same e.stands,
              subst (Matches code most_variables look result tags naming (At x n ∷ rest) left inner) same e.matches,
            ),
          )
      by (Trapped kind) e =
          subst (λ p. step code p ≡ Traps kind) (one_end code s e.to next e.runs runs (traps kind e.traps) ends) e.traps
      by Nothing e = absurd e

  module _ (texts : List (List BareDef)) (tags : List Bytes) (naming : Naming) (apart : Distinguishes (length tags) naming) where
    -- a frame of code that goes on from where one of the source machine is
    pub goes_on_resting : (f : Frame) (own next : CodeFrame) (place : ℕ) (stack : List ℕ)
        → HasWords (code_in texts f.version f.function) → own.function ≡ f.function → own.version ≡ f.version → f.version ≤ length texts
        → GoesOn texts own place stack f.standing next
        → Matches (code_in texts f.version f.function) most_variables (version_in texts f.version) (result_in texts f.version f.function) tags
        naming f.pieces f.values f.scopes (record { place = place; stack = stack; locals = own.state.locals })
        → FrameRests texts tags naming f next
    goes_on_resting f own next place stack words function version known goes matches =
        let is : frame_code texts own ≡ code_in texts f.version f.function = ap₂ (code_in texts) version function in (
          record {
            function = goes.function ∙ function;
            version = goes.version ∙ version;
            standing = goes.stood;
            known = known;
          },
          rests_where (code_in texts f.version f.function) (version_in texts f.version) (result_in texts f.version f.function) tags naming
              f.pieces f.values f.scopes (record { place = place; stack = stack; locals = own.state.locals }) next.state words apart matches
              (subst (λ c. Runs c (record { place = place; stack = stack; locals = own.state.locals }) next.state) is goes.runs)
              (subst (λ c. Ends c next.state) is goes.ends),
        )
