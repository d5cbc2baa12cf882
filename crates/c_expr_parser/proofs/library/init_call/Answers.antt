use Rattle.std.proofs.Common.{◌∙◌, add-one}
use Rattle.c_expr_parser.specs.Plans.{parsed, init_call}
use Rattle.c_expr_parser.proofs.PlanResults.{parsed_then}
use Rattle.c_expr_parser.proofs.FunctionReturns.{Goes, through, hands_on, tail_call}
use Rattle.c_expr_parser.proofs.library.init_call.Goals as goal

pub returns-in_err-rest-clause-reads : goal.returns-in_err-rest-clause-reads
returns-in_err-rest-clause-reads c =
    let e1 : Goes (parsed (init_call c.args.depth c.args.start) c.args.tokens.now) _ _ = record { on = parsed_then _ _ _ } in
    hands_on _ c.from_residual.result c.in_err-rest.field-0.0 c.from_residual.ensures.1 e1 c.in_err-rest.ensures.reads

pub returns-in_err-rest-2-clause-reads : goal.returns-in_err-rest-2-clause-reads
returns-in_err-rest-2-clause-reads c =
    let e1 : Goes (parsed (init_call c.args.depth c.args.start) c.args.tokens.now) _ _ = record { on = parsed_then _ _ _ } in
    let e2 : Goes (parsed (init_call c.args.depth c.args.start) c.args.tokens.now) _ _ = record { on = through e1 c.in_ok-rest.ensures.reads ∙ parsed_then _ _ _ } in
    hands_on _ c.from_residual-in_err-rest-2.result c.in_err-rest-2.field-0.0 c.from_residual-in_err-rest-2.ensures.1 e2 (rw add-one at c.in_err-rest-2.ensures.reads)

pub returns-in_err-mutex-clause-reads : goal.returns-in_err-mutex-clause-reads
returns-in_err-mutex-clause-reads c =
    let e1 : Goes (parsed (init_call c.args.depth c.args.start) c.args.tokens.now) _ _ = record { on = parsed_then _ _ _ } in
    let e2 : Goes (parsed (init_call c.args.depth c.args.start) c.args.tokens.now) _ _ = record { on = through e1 c.in_ok-rest.ensures.reads ∙ parsed_then _ _ _ } in
    let e3 : Goes (parsed (init_call c.args.depth c.args.start) c.args.tokens.now) _ _ = record { on = through e2 (rw add-one at c.in_ok-rest-2.ensures.reads) ∙ parsed_then _ _ _ } in
    hands_on _ c.from_residual-in_err-mutex.result c.in_err-mutex.field-0.0 c.from_residual-in_err-mutex.ensures.1 e3 (rw add-one at c.in_err-mutex.ensures.reads)

pub returns-in_err-rest-3-clause-reads : goal.returns-in_err-rest-3-clause-reads
returns-in_err-rest-3-clause-reads c =
    let e1 : Goes (parsed (init_call c.args.depth c.args.start) c.args.tokens.now) _ _ = record { on = parsed_then _ _ _ } in
    let e2 : Goes (parsed (init_call c.args.depth c.args.start) c.args.tokens.now) _ _ = record { on = through e1 c.in_ok-rest.ensures.reads ∙ parsed_then _ _ _ } in
    let e3 : Goes (parsed (init_call c.args.depth c.args.start) c.args.tokens.now) _ _ = record { on = through e2 (rw add-one at c.in_ok-rest-2.ensures.reads) ∙ parsed_then _ _ _ } in
    let e4 : Goes (parsed (init_call c.args.depth c.args.start) c.args.tokens.now) _ _ = record { on = through e3 (rw add-one at c.in_ok-mutex.ensures.reads) ∙ parsed_then _ _ _ } in
    hands_on _ c.from_residual-in_err-rest-3.result c.in_err-rest-3.field-0.0 c.from_residual-in_err-rest-3.ensures.1 e4 (rw add-one at c.in_err-rest-3.ensures.reads)

pub returns-in_err-rest-4-clause-reads : goal.returns-in_err-rest-4-clause-reads
returns-in_err-rest-4-clause-reads c =
    let e1 : Goes (parsed (init_call c.args.depth c.args.start) c.args.tokens.now) _ _ = record { on = parsed_then _ _ _ } in
    let e2 : Goes (parsed (init_call c.args.depth c.args.start) c.args.tokens.now) _ _ = record { on = through e1 c.in_ok-rest.ensures.reads ∙ parsed_then _ _ _ } in
    let e3 : Goes (parsed (init_call c.args.depth c.args.start) c.args.tokens.now) _ _ = record { on = through e2 (rw add-one at c.in_ok-rest-2.ensures.reads) ∙ parsed_then _ _ _ } in
    let e4 : Goes (parsed (init_call c.args.depth c.args.start) c.args.tokens.now) _ _ = record { on = through e3 (rw add-one at c.in_ok-mutex.ensures.reads) ∙ parsed_then _ _ _ } in
    let e5 : Goes (parsed (init_call c.args.depth c.args.start) c.args.tokens.now) _ _ = record { on = through e4 (rw add-one at c.in_ok-rest-3.ensures.reads) ∙ parsed_then _ _ _ } in
    hands_on _ c.from_residual-in_err-rest-4.result c.in_err-rest-4.field-0.0 c.from_residual-in_err-rest-4.ensures.1 e5 (rw add-one at c.in_err-rest-4.ensures.reads)

pub returns-in_err-rest-5-clause-reads : goal.returns-in_err-rest-5-clause-reads
returns-in_err-rest-5-clause-reads c =
    let e1 : Goes (parsed (init_call c.args.depth c.args.start) c.args.tokens.now) _ _ = record { on = parsed_then _ _ _ } in
    let e2 : Goes (parsed (init_call c.args.depth c.args.start) c.args.tokens.now) _ _ = record { on = through e1 c.in_ok-rest.ensures.reads ∙ parsed_then _ _ _ } in
    let e3 : Goes (parsed (init_call c.args.depth c.args.start) c.args.tokens.now) _ _ = record { on = through e2 (rw add-one at c.in_ok-rest-2.ensures.reads) ∙ parsed_then _ _ _ } in
    let e4 : Goes (parsed (init_call c.args.depth c.args.start) c.args.tokens.now) _ _ = record { on = through e3 (rw add-one at c.in_ok-mutex.ensures.reads) ∙ parsed_then _ _ _ } in
    let e5 : Goes (parsed (init_call c.args.depth c.args.start) c.args.tokens.now) _ _ = record { on = through e4 (rw add-one at c.in_ok-rest-3.ensures.reads) ∙ parsed_then _ _ _ } in
    let e6 : Goes (parsed (init_call c.args.depth c.args.start) c.args.tokens.now) _ _ = record { on = through e5 (rw add-one at c.in_ok-rest-4.ensures.reads) ∙ parsed_then _ _ _ } in
    hands_on _ c.from_residual-in_err-rest-5.result c.in_err-rest-5.field-0.0 c.from_residual-in_err-rest-5.ensures.1 e6 c.in_err-rest-5.ensures.reads

pub returns-clause-reads : goal.returns-clause-reads
returns-clause-reads c =
    let e1 : Goes (parsed (init_call c.args.depth c.args.start) c.args.tokens.now) _ _ = record { on = parsed_then _ _ _ } in
    let e2 : Goes (parsed (init_call c.args.depth c.args.start) c.args.tokens.now) _ _ = record { on = through e1 c.in_ok-rest.ensures.reads ∙ parsed_then _ _ _ } in
    let e3 : Goes (parsed (init_call c.args.depth c.args.start) c.args.tokens.now) _ _ = record { on = through e2 (rw add-one at c.in_ok-rest-2.ensures.reads) ∙ parsed_then _ _ _ } in
    let e4 : Goes (parsed (init_call c.args.depth c.args.start) c.args.tokens.now) _ _ = record { on = through e3 (rw add-one at c.in_ok-mutex.ensures.reads) ∙ parsed_then _ _ _ } in
    let e5 : Goes (parsed (init_call c.args.depth c.args.start) c.args.tokens.now) _ _ = record { on = through e4 (rw add-one at c.in_ok-rest-3.ensures.reads) ∙ parsed_then _ _ _ } in
    let e6 : Goes (parsed (init_call c.args.depth c.args.start) c.args.tokens.now) _ _ = record { on = through e5 (rw add-one at c.in_ok-rest-4.ensures.reads) ∙ parsed_then _ _ _ } in
    tail_call _ _ (through e6 c.in_ok-rest-5.ensures.reads) c.primary.ensures.reads
