use Rattle.std.proofs.Common.{◌≡◌, ◌++◌, refl}
use Rattle.c_parser.specs.TextPlans.{text_parsed}
use Rattle.c_parser.specs.Parts.{member_line_then}
use Rattle.c_parser.proofs.FunctionReturns.{through_of, hands_of, tail_call}
use Rattle.c_parser.proofs.members.member_line.Goals as goal

pub returns-in_err-declared-clause-reads : goal.returns-in_err-declared-clause-reads
returns-in_err-declared-clause-reads c k =
    let e1 : text_parsed (member_line_then c.args.depth (λ bs. k (c.args.before.items ++ bs))) c.args.tokens.now ≡ _ = refl in
    hands_of _ c.from_residual.result c.in_err-declared.field-0.0 _ _ _ c.from_residual.ensures.1 (e1) c.in_err-declared.ensures.reads

pub returns-clause-reads : goal.returns-clause-reads
returns-clause-reads c k =
    let e1 : text_parsed (member_line_then c.args.depth (λ bs. k (c.args.before.items ++ bs))) c.args.tokens.now ≡ _ = refl in
    tail_call c.member_names.result (λ x. text_parsed (k x.0.items) x.1.now) (through_of _ _ _ (e1) c.in_ok-declared.ensures.reads) (c.member_names.ensures.reads k)
