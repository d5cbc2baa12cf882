use Rattle.std.proofs.Common.{◌≡◌, refl, sym, ap, ◌∙◌}
use Rattle.c_parser.specs.TextPlans.{as_optional, text_parsed}
use Rattle.c_parser.specs.Parts.{variable_then}
use Rattle.c_parser.proofs.FunctionReturns.{through_of, hands, hands_of}
use Rattle.c_parser.proofs.declaration.variable.Goals as goal

pub returns-in_err-variable-clause-reads : goal.returns-in_err-variable-clause-reads
returns-in_err-variable-clause-reads c k =
    let e1 : text_parsed (variable_then c.args.depth c.args.declared.now k) c.args.tokens.now ≡ _ = refl in
    hands_of _ c.from_residual.result c.in_err-variable.field-0.0 _ _ _ c.from_residual.ensures.1 e1 c.in_err-variable.ensures.reads

pub returns-in_err-initial-clause-reads : goal.returns-in_err-initial-clause-reads
returns-in_err-initial-clause-reads c k =
    let e1 : text_parsed (variable_then c.args.depth c.args.declared.now k) c.args.tokens.now ≡ _ = refl in
    hands _ c.from_residual-in_err-initial.result c.in_err-initial.field-0.0 c.from_residual-in_err-initial.ensures.1 (through_of _ _ _ e1 c.in_ok-variable.ensures.reads)
    (c.in_err-initial.ensures.reads (λ e. k (record { declared = c.args.declared.now; name = c.in_ok-variable.variable; initial = as_optional e })))

pub returns-clause-reads : goal.returns-clause-reads
returns-clause-reads c k =
    let e1 : text_parsed (variable_then c.args.depth c.args.declared.now k) c.args.tokens.now ≡ _ = refl in
    through_of _ _ _ e1 c.in_ok-variable.ensures.reads
    ∙ c.in_ok-initial.ensures.reads (λ e. k (record { declared = c.args.declared.now; name = c.in_ok-variable.variable; initial = as_optional e }))
    ∙ ap (λ t. text_parsed (k (record { declared = t; name = c.in_ok-variable.variable; initial = c.in_ok-initial.initial })) c.in_ok-initial.rest.now) (sym c.in_ok-declared.ensures)
