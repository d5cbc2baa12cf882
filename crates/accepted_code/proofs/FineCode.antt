-- The code of an accepted text's functions is fine, so the verifier finds no fault in it.
use Rattle.std.proofs.Common.{◌≡◌, ◌≤◌, ℕ, refl, subst, arith}
use Rattle.c_tree.specs.BareExpr.{Bytes}
use Rattle.c_semantics.specs.Texts.{parameters_of, result_type}
use Rattle.c_semantics.specs.Resolution.{resolved_body}
use Rattle.c_semantics.specs.SourceTexts.{Text}
use Rattle.frame_bodies.specs.AcceptedTexts.{IsAccepted, looked_up}
use Rattle.frame_bodies.specs.Ends.{AcceptedLeaveAtEnds}
use Rattle.constant_ranges.specs.Ranges.{ConstantsAreInRange}
use Rattle.typed_texts.specs.TypedTexts.{FunctionsAreTyped}
use Rattle.code_kinds.specs.WellFormed.{BreaksAt, FunctionCode, deepest, most_variables}
use Rattle.formed_code.specs.FormedLaws.{CodeIsWellFormed, function_code}
use Rattle.tree_limits.specs.LimitLaws.{RoomIsEnough, WordsAreFew}
use Rattle.code_verify.specs.declared.source.VerifyFault.{VerifyFault}
use Rattle.code_verify.specs.declared.source.VerifyFault.TheVariants.{Bad, Memory}
use Rattle.code_verify.specs.Verified.{Explains}
use Rattle.accepted_code.specs.AcceptedCode.{CodeIsVerified, FineIn, FunctionsHaveFineCode, code_in}
use Rattle.accepted_code.proofs.ConstantWords.{constants_are_words}
use Rattle.accepted_code.proofs.Limits.{limited}
use Rattle.accepted_code.proofs.Unbroken.{unbroken}

pub functions_have_fine_code : AcceptedLeaveAtEnds → CodeIsWellFormed → ConstantsAreInRange → FunctionsAreTyped → WordsAreFew → RoomIsEnough
    → FunctionsHaveFineCode
functions_have_fine_code leave formed ranged typed few enough text function a =
    let look = looked_up text in
    let d = look function in
    let ps = parameters_of d in
    let result = result_type d in
    let body = resolved_body look d in
    let limits = limited few enough text function a in
    let well = formed look ps result most_variables body (typed text function a) limits.room limits.few (omega arith) limits.shallow (leave text function a) in
    record {
      typed = typed text function a;
      room = limits.room;
      words = constants_are_words look ps result body (ranged text function a);
      few = limits.few;
      well_formed = well;
      unbroken = unbroken (function_code look ps result most_variables body) well;
    }

only_memory : (u : FunctionCode) (fault : VerifyFault) → ((n : ℕ) → BreaksAt u n → ⊥) → Explains u fault → fault ≡ Memory
only_memory u (Bad place) h e = absurd (h place e)
only_memory u Memory h e = refl

pub code_is_verified : FunctionsHaveFineCode → CodeIsVerified
code_is_verified fine text function source body fault a is e =
    only_memory (code_in text function) fault (fine text function a).unbroken (subst (λ u. Explains u fault) is e)
