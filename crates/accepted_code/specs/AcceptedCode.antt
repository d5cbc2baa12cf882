-- The code of the functions of an accepted text.
use Rattle.std.specs.Prelude.{◌≡◌, ◌≤◌, ℕ, true, List, [], ◌∷◌, All, length, find, Option, Some, bytes_eq}
use Rattle.c_tree.specs.BareExpr.{Bytes, BareType}
use Rattle.c_tree.specs.BareDef.{BareBinding}
use Rattle.c_semantics.specs.Texts.{Definitions, parameters_of, result_type}
use Rattle.c_semantics.specs.Resolved.{Statements}
use Rattle.c_semantics.specs.Resolution.{resolved_body}
use Rattle.c_semantics.specs.SourceTexts.{Text}
use Rattle.typed_trees.specs.StatementTypes.{BodyTyped}
use Rattle.frame_bodies.specs.AcceptedTexts.{IsAccepted, is_function, looked_up}
use Rattle.tree_code.specs.Code.{HaveRoom, body_code}
use Rattle.tree_code.specs.CodeLaws.{HasWords}
use Rattle.code_kinds.specs.WellFormed.{BreaksAt, FunctionCode, WellFormed, most_variables}
use Rattle.formed_code.specs.FormedLaws.{function_code}
use Rattle.code_verify.specs.declared.source.Body.{Body}
use Rattle.code_verify.specs.declared.source.Source.{Source}
use Rattle.code_verify.specs.declared.source.VerifyFault.{VerifyFault}
use Rattle.code_verify.specs.declared.source.VerifyFault.TheVariants.{Memory}
use Rattle.code_verify.specs.Seen.{function_code as verified_code}
use Rattle.code_verify.specs.Verified.{Explains}
use Rattle.text_code.specs.Bodies.{CodedFunction, code_of_text}

-- a function whose frames have so many variables. That its tree is typed and has room, and that its constants are words, is
-- what ties its code to local evaluation; it is well formed, so no instruction breaks it
pub record FunctionCodeIsFine (look : Definitions) (parameters : List BareBinding) (result : BareType) (most : ℕ) (body : Statements)
    : Type 0 where
  pub typed : BodyTyped look result parameters body
  pub room : HaveRoom most (parameters ∷ []) body
  pub words : HasWords (body_code look parameters result body)
  pub few : length parameters ≤ most
  pub well_formed : WellFormed (function_code look parameters result most body)
  pub unbroken : (n : ℕ) → BreaksAt (function_code look parameters result most body) n → ⊥

-- the function of a text with a name, under the text's own definitions, with room for as many variables as a function may have
abbrev pub FineIn : Text → Bytes → Type 0
FineIn text function =
    let look = looked_up text in
    let d = look function in
    FunctionCodeIsFine look (parameters_of d) (result_type d) most_variables (resolved_body look d)

abbrev pub FunctionsHaveFineCode : Type 0
FunctionsHaveFineCode = (text : Text) (function : Bytes) → IsAccepted text → FineIn text function

-- ---- the verifier

abbrev pub code_in : Text → Bytes → FunctionCode
code_in text function =
    let look = looked_up text in
    let d = look function in
    function_code look (parameters_of d) (result_type d) most_variables (resolved_body look d)

-- where such code is handed to the verifier, its only fault is lack of memory
abbrev pub CodeIsVerified : Type 0
CodeIsVerified =
    (text : Text) (function : Bytes) (source : Source) (body : Body) (fault : VerifyFault)
    → IsAccepted text → verified_code source body ≡ code_in text function → Explains (verified_code source body) fault
    → fault ≡ Memory

-- ---- the code of a text

-- of the function with a name
abbrev pub coded_in : Text → Bytes → CodedFunction
coded_in text function =
    let look = looked_up text in
    let d = look function in
    record {
      name = function;
      parameters = length (parameters_of d);
      code = body_code look (parameters_of d) (result_type d) (resolved_body look d);
    }

abbrev pub IsCodeIn : Text → CodedFunction → Type 0
IsCodeIn text c = (is_function (looked_up text c.name) ≡ true) × (c ≡ coded_in text c.name)

abbrev pub code_named : Bytes → List CodedFunction → Option CodedFunction
code_named function bodies = find (λ c. bytes_eq function c.name) bodies

-- each body is that of the function with its name, and each function of the text is found by its name
pub record AreFunctions (text : Text) (bodies : List CodedFunction) : Type 0 where
  pub each : All (IsCodeIn text) bodies
  pub found : (function : Bytes) → is_function (looked_up text function) ≡ true
      → code_named function bodies ≡ Some (coded_in text function)

abbrev pub CodeIsThatOfFunctions : Type 0
CodeIsThatOfFunctions =
    (text : Text) → IsAccepted text → AreFunctions text (code_of_text (looked_up text) text.definitions)
