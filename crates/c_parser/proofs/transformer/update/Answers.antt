use Rattle.std.proofs.Common.{◌≡◌, refl, sym, ap, ◌∙◌}
use Rattle.std.specs.Prelude.{codes}
use Rattle.c_parser.specs.TextPlans.{punctuator, text_parsed}
use Rattle.c_parser.specs.Parts.{update_then}
use Rattle.c_parser.proofs.FunctionReturns.{through_of, through_conditional, hands_of, hands_conditional}
use Rattle.c_parser.proofs.transformer.update.Goals as goal

pub returns-in_err-field-clause-reads : goal.returns-in_err-field-clause-reads
returns-in_err-field-clause-reads c k =
    let e1 : text_parsed (update_then c.args.depth k) c.args.tokens.now ≡ _ = refl in
    hands_of _ c.from_residual.result c.in_err-field.field-0.0 _ _ _ c.from_residual.ensures.1 (e1) c.in_err-field.ensures.reads

pub returns-in_err-rest-clause-reads : goal.returns-in_err-rest-clause-reads
returns-in_err-rest-clause-reads c k =
    let e1 : text_parsed (update_then c.args.depth k) c.args.tokens.now ≡ _ = refl in
    hands_of _ c.from_residual-in_err-rest.result c.in_err-rest.field-0.0 _ _ _ c.from_residual-in_err-rest.ensures.1 (through_of _ _ _ (e1) c.in_ok-field.ensures.reads) c.in_err-rest.ensures.reads

pub returns-in_err-value-clause-reads : goal.returns-in_err-value-clause-reads
returns-in_err-value-clause-reads c k =
    let e1 : text_parsed (update_then c.args.depth k) c.args.tokens.now ≡ _ = refl in
    hands_conditional _ c.from_residual-in_err-value.result c.in_err-value.field-0.0 c.args.depth (λ e. punctuator (codes ";") c.args.depth (k (record { field = c.in_ok-field.field; value = e }))) _ c.from_residual-in_err-value.ensures.1 (through_of _ _ _ (through_of _ _ _ (e1) c.in_ok-field.ensures.reads) c.in_ok-rest.ensures.reads) c.in_err-value.ensures.reads

pub returns-in_err-rest-2-clause-reads : goal.returns-in_err-rest-2-clause-reads
returns-in_err-rest-2-clause-reads c k =
    let e1 : text_parsed (update_then c.args.depth k) c.args.tokens.now ≡ _ = refl in
    hands_of _ c.from_residual-in_err-rest-2.result c.in_err-rest-2.field-0.0 _ _ _ c.from_residual-in_err-rest-2.ensures.1 (through_conditional c.args.depth (λ e. punctuator (codes ";") c.args.depth (k (record { field = c.in_ok-field.field; value = e }))) _ (through_of _ _ _ (through_of _ _ _ (e1) c.in_ok-field.ensures.reads) c.in_ok-rest.ensures.reads) c.in_ok-value.ensures.reads) c.in_err-rest-2.ensures.reads

pub returns-clause-reads : goal.returns-clause-reads
returns-clause-reads c k =
    let e1 : text_parsed (update_then c.args.depth k) c.args.tokens.now ≡ _ = refl in
    through_of _ _ _ (through_conditional c.args.depth (λ e. punctuator (codes ";") c.args.depth (k (record { field = c.in_ok-field.field; value = e }))) _ (through_of _ _ _ (through_of _ _ _ (e1) c.in_ok-field.ensures.reads) c.in_ok-rest.ensures.reads) c.in_ok-value.ensures.reads) c.in_ok-rest-2.ensures.reads ∙ ap (λ e. text_parsed (k (record { field = c.in_ok-field.field; value = e })) c.in_ok-rest-2.rest.now) (sym c.into_inner-value.ensures)
