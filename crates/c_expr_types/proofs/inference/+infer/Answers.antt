use Rattle.std.specs.Prelude.{IfOk}
use Rattle.std.proofs.Common.{◌≡◌, subst, sym}
use Rattle.c_definitions.specs.Views.{names_seen}
use Rattle.c_expr_types.proofs.InferredByForm.{inferred_by_form}
use Rattle.c_expr_types.proofs.inference.+infer.Goals as goal

pub infer_form-returns-in-Call : goal.infer_form-returns-in-Call
infer_form-returns-in-Call t c =
    subst (λ due. IfOk c.infer_call.result (λ found. found ≡ due))
    (sym (inferred_by_form (names_seen c.args.names.now) c.args.expr.now _ c.in-Call.is))
    c.infer_call.ensures

pub infer_form-returns-in-Print : goal.infer_form-returns-in-Print
infer_form-returns-in-Print t c =
    subst (λ due. IfOk c.infer_print.result (λ found. found ≡ due))
    (sym (inferred_by_form (names_seen c.args.names.now) c.args.expr.now _ c.in-Print.is))
    c.infer_print.ensures
