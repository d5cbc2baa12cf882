use Rattle.std.proofs.Common.{◌≡◌, Some, refl, sym, ◌∙◌, arith, length}
use Rattle.c_parser.specs.TextPlans.{typed_item, globals_by, text_parsed}
use Rattle.c_parser.specs.Parts.{function_plan}
use Rattle.c_parser.proofs.ItemContinuations.{function_some, function_none, hands_then, makes_typed, globals_tail}
use Rattle.c_parser.proofs.FunctionReturns.{through_of, hands_of}
use Rattle.c_parser.proofs.item.typed.Goals as goal

pub returns-in_err-first-clause-reads : goal.returns-in_err-first-clause-reads
returns-in_err-first-clause-reads c =
    let e1 : text_parsed (typed_item c.args.start c.args.declared) c.args.tokens.now ≡ _ = refl in
    hands_of _ c.from_residual.result c.in_err-first.field-0.0 _ _ _ c.from_residual.ensures.1 (e1) c.in_err-first.ensures.reads

pub returns-in_err-def-clause-reads : goal.returns-in_err-def-clause-reads
returns-in_err-def-clause-reads c =
    let e1 : text_parsed (typed_item c.args.start c.args.declared) c.args.tokens.now ≡ _ = refl in
    hands_then _ c.from_residual-in_err-def.result c.in_err-def.field-0.0 (function_plan c.args.start (Some c.args.declared) c.in_ok-first.first) (globals_by c.args.start c.args.declared c.in_ok-first.first) _ c.from_residual-in_err-def.ensures.1 (through_of _ _ _ (e1) c.in_ok-first.ensures.reads ∙ function_some c.args.start (Some c.args.declared) c.in_ok-first.first (globals_by c.args.start c.args.declared c.in_ok-first.first) _ (sym c.is_ahead.ensures ∙ c.if-is_ahead.true)) c.in_err-def.ensures.reads

pub returns-then-is_ahead-clause-reads : goal.returns-then-is_ahead-clause-reads
returns-then-is_ahead-clause-reads c =
    let e1 : text_parsed (typed_item c.args.start c.args.declared) c.args.tokens.now ≡ _ = refl in
    makes_typed c.args.start c.args.declared c.in_ok-first.first _ _ _ _ c.in_ok-def.def _ (through_of _ _ _ (e1) c.in_ok-first.ensures.reads ∙ function_some c.args.start (Some c.args.declared) c.in_ok-first.first (globals_by c.args.start c.args.declared c.in_ok-first.first) _ (sym c.is_ahead.ensures ∙ c.if-is_ahead.true)) c.in_ok-def.ensures.reads c.in_ok-push.ensures

pub returns-clause-reads : goal.returns-clause-reads
returns-clause-reads c =
    let e1 : text_parsed (typed_item c.args.start c.args.declared) c.args.tokens.now ≡ _ = refl in
    globals_tail _ _ _ (λ x. x.0.items) (λ x. x.1.now) (length c.in_ok-first.rest.now) (through_of _ _ _ (e1) c.in_ok-first.ensures.reads ∙ function_none c.args.start c.args.declared c.in_ok-first.first (globals_by c.args.start c.args.declared c.in_ok-first.first) _ (sym c.is_ahead.ensures ∙ c.if-is_ahead.false)) (omega (arith, c.requires, c.in_ok-first.ensures.within)) c.globals.ensures.reads c.globals.ensures.within
