use Rattle.std.proofs.Common.{◌∙◌, add-one}
use Rattle.c_expr_parser.specs.Plans.{parsed, size_of_struct}
use Rattle.c_expr_parser.proofs.PlanResults.{parsed_then, parsed_return}
use Rattle.c_expr_parser.proofs.FunctionReturns.{Goes, through, hands_on}
use Rattle.c_expr_parser.proofs.library.size_of_struct.Goals as goal

pub returns-in_err-rest-clause-reads : goal.returns-in_err-rest-clause-reads
returns-in_err-rest-clause-reads c =
    let e1 : Goes (parsed (size_of_struct c.args.depth) c.args.tokens.now) _ _ = record { on = parsed_then _ _ _ } in
    hands_on _ c.from_residual.result c.in_err-rest.field-0.0 c.from_residual.ensures.1 e1 c.in_err-rest.ensures.reads

pub returns-in_err-rest-2-clause-reads : goal.returns-in_err-rest-2-clause-reads
returns-in_err-rest-2-clause-reads c =
    let e1 : Goes (parsed (size_of_struct c.args.depth) c.args.tokens.now) _ _ = record { on = parsed_then _ _ _ } in
    let e2 : Goes (parsed (size_of_struct c.args.depth) c.args.tokens.now) _ _ = record { on = through e1 c.in_ok-rest.ensures.reads ∙ parsed_then _ _ _ } in
    hands_on _ c.from_residual-in_err-rest-2.result c.in_err-rest-2.field-0.0 c.from_residual-in_err-rest-2.ensures.1 e2 c.in_err-rest-2.ensures.reads

pub returns-in_err-rest-3-clause-reads : goal.returns-in_err-rest-3-clause-reads
returns-in_err-rest-3-clause-reads c =
    let e1 : Goes (parsed (size_of_struct c.args.depth) c.args.tokens.now) _ _ = record { on = parsed_then _ _ _ } in
    let e2 : Goes (parsed (size_of_struct c.args.depth) c.args.tokens.now) _ _ = record { on = through e1 c.in_ok-rest.ensures.reads ∙ parsed_then _ _ _ } in
    let e3 : Goes (parsed (size_of_struct c.args.depth) c.args.tokens.now) _ _ = record { on = through e2 c.in_ok-rest-2.ensures.reads ∙ parsed_then _ _ _ } in
    hands_on _ c.from_residual-in_err-rest-3.result c.in_err-rest-3.field-0.0 c.from_residual-in_err-rest-3.ensures.1 e3 (rw add-one at c.in_err-rest-3.ensures.reads)

pub returns-in_err-tag-clause-reads : goal.returns-in_err-tag-clause-reads
returns-in_err-tag-clause-reads c =
    let e1 : Goes (parsed (size_of_struct c.args.depth) c.args.tokens.now) _ _ = record { on = parsed_then _ _ _ } in
    let e2 : Goes (parsed (size_of_struct c.args.depth) c.args.tokens.now) _ _ = record { on = through e1 c.in_ok-rest.ensures.reads ∙ parsed_then _ _ _ } in
    let e3 : Goes (parsed (size_of_struct c.args.depth) c.args.tokens.now) _ _ = record { on = through e2 c.in_ok-rest-2.ensures.reads ∙ parsed_then _ _ _ } in
    let e4 : Goes (parsed (size_of_struct c.args.depth) c.args.tokens.now) _ _ = record { on = through e3 (rw add-one at c.in_ok-rest-3.ensures.reads) ∙ parsed_then _ _ _ } in
    hands_on _ c.from_residual-in_err-tag.result c.in_err-tag.field-0.0 c.from_residual-in_err-tag.ensures.1 e4 (rw add-one at c.in_err-tag.ensures.reads)

pub returns-in_err-rest-4-clause-reads : goal.returns-in_err-rest-4-clause-reads
returns-in_err-rest-4-clause-reads c =
    let e1 : Goes (parsed (size_of_struct c.args.depth) c.args.tokens.now) _ _ = record { on = parsed_then _ _ _ } in
    let e2 : Goes (parsed (size_of_struct c.args.depth) c.args.tokens.now) _ _ = record { on = through e1 c.in_ok-rest.ensures.reads ∙ parsed_then _ _ _ } in
    let e3 : Goes (parsed (size_of_struct c.args.depth) c.args.tokens.now) _ _ = record { on = through e2 c.in_ok-rest-2.ensures.reads ∙ parsed_then _ _ _ } in
    let e4 : Goes (parsed (size_of_struct c.args.depth) c.args.tokens.now) _ _ = record { on = through e3 (rw add-one at c.in_ok-rest-3.ensures.reads) ∙ parsed_then _ _ _ } in
    let e5 : Goes (parsed (size_of_struct c.args.depth) c.args.tokens.now) _ _ = record { on = through e4 (rw add-one at c.in_ok-tag.ensures.reads) ∙ parsed_then _ _ _ } in
    hands_on _ c.from_residual-in_err-rest-4.result c.in_err-rest-4.field-0.0 c.from_residual-in_err-rest-4.ensures.1 e5 c.in_err-rest-4.ensures.reads

pub returns-clause-reads : goal.returns-clause-reads
returns-clause-reads c =
    let e1 : Goes (parsed (size_of_struct c.args.depth) c.args.tokens.now) _ _ = record { on = parsed_then _ _ _ } in
    let e2 : Goes (parsed (size_of_struct c.args.depth) c.args.tokens.now) _ _ = record { on = through e1 c.in_ok-rest.ensures.reads ∙ parsed_then _ _ _ } in
    let e3 : Goes (parsed (size_of_struct c.args.depth) c.args.tokens.now) _ _ = record { on = through e2 c.in_ok-rest-2.ensures.reads ∙ parsed_then _ _ _ } in
    let e4 : Goes (parsed (size_of_struct c.args.depth) c.args.tokens.now) _ _ = record { on = through e3 (rw add-one at c.in_ok-rest-3.ensures.reads) ∙ parsed_then _ _ _ } in
    let e5 : Goes (parsed (size_of_struct c.args.depth) c.args.tokens.now) _ _ = record { on = through e4 (rw add-one at c.in_ok-tag.ensures.reads) ∙ parsed_then _ _ _ } in
    through e5 c.in_ok-rest-4.ensures.reads ∙ parsed_return _ _
