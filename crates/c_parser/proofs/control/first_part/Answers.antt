use Rattle.std.proofs.Common.{◌∷◌, ◌++◌, [], refl, sym, ap, ◌∙◌}
use Rattle.c_expr_parser.specs.Statements.{declares}
use Rattle.c_parser.specs.TextPlans.{Give, First, statements, declaration_behind, found, text_parsed}
use Rattle.c_parser.proofs.PlanResults.{parsed_give, dead_end}
use Rattle.c_parser.proofs.PhraseBeginnings.{first_declaration, first_none, first_deep, first_expression}
use Rattle.c_parser.proofs.FunctionReturns.{through_of, hands, hands_of, sinks_on}
use Rattle.c_parser.proofs.control.first_part.Goals as goal

pub returns-in_default-clause-reads : goal.returns-in_default-clause-reads
returns-in_default-clause-reads c =
    dead_end (First c.args.depth) Give c.args.tokens.now c.in_default.ensures.cases refl

pub returns-in_err-declared-clause-reads : goal.returns-in_err-declared-clause-reads
returns-in_err-declared-clause-reads c =
    hands_of _ c.from_residual.result c.in_err-declared.field-0.0 _ _ _ c.from_residual.ensures.1 (first_declaration c.args.depth _ _ _ c.in-Some.ensures.cases.0 (sym c.begins_type.ensures ∙ c.if-begins_type.true)) c.in_err-declared.ensures.reads

pub returns-in_err-list-clause-reads : goal.returns-in_err-list-clause-reads
returns-in_err-list-clause-reads c =
    hands _ c.from_residual-in_err-list.result c.in_err-list.field-0.0 c.from_residual-in_err-list.ensures.1 (through_of _ _ _ (first_declaration c.args.depth _ _ _ c.in-Some.ensures.cases.0 (sym c.begins_type.ensures ∙ c.if-begins_type.true)) c.in_ok-declared.ensures.reads ∙ ap (λ l. text_parsed (declaration_behind c.args.depth c.in_ok-declared.declared (λ ds. Give (statements (l ++ declares c.in-Some.first.now.at ds)))) c.in_ok-declared.rest.now) (sym c.new.ensures.items)) (c.in_err-list.ensures.reads (λ l. Give (statements l)))

pub returns-then-begins_type-clause-reads : goal.returns-then-begins_type-clause-reads
returns-then-begins_type-clause-reads c =
    through_of _ _ _ (first_declaration c.args.depth _ _ _ c.in-Some.ensures.cases.0 (sym c.begins_type.ensures ∙ c.if-begins_type.true)) c.in_ok-declared.ensures.reads ∙ ap (λ l. text_parsed (declaration_behind c.args.depth c.in_ok-declared.declared (λ ds. Give (statements (l ++ declares c.in-Some.first.now.at ds)))) c.in_ok-declared.rest.now) (sym c.new.ensures.items) ∙ (c.in_ok-list.ensures.reads (λ l. Give (statements l))) ∙ parsed_give _ _ ∙ ap (λ l. found (statements l) c.in_ok-list.rest.now) (sym c.of.ensures)

pub returns-in_err-shallow-clause-reads : goal.returns-in_err-shallow-clause-reads
returns-in_err-shallow-clause-reads c =
    sinks_on _ c.from_residual-in_err-shallow.result c.in_err-shallow.field-0.0 c.from_residual-in_err-shallow.ensures.1 c.in_err-shallow.ensures.1 (first_deep c.args.depth _ _ _ c.in-Some.ensures.cases.0 (sym c.begins_type.ensures ∙ c.if-begins_type.false) (sym c.is.ensures ∙ c.if-is.true) c.in_err-shallow.ensures.0)

pub returns-then-is-clause-reads : goal.returns-then-is-clause-reads
returns-then-is-clause-reads c =
    first_none c.args.depth _ _ _ c.in-Some.ensures.cases.0 (sym c.begins_type.ensures ∙ c.if-begins_type.false) (sym c.is.ensures ∙ c.if-is.true) c.in_ok-shallow.ensures ∙ parsed_give _ _ ∙ ap (λ l. found (statements l) c.in-Some.rest.now) (sym c.new-list.ensures.items ∙ sym c.of-then-is.ensures)

pub returns-in_err-statement-clause-reads : goal.returns-in_err-statement-clause-reads
returns-in_err-statement-clause-reads c =
    hands _ c.from_residual-in_err-statement.result c.in_err-statement.field-0.0 c.from_residual-in_err-statement.ensures.1 (first_expression c.args.depth _ _ _ c.in-Some.ensures.cases.0 (sym c.begins_type.ensures ∙ c.if-begins_type.false) (sym c.is.ensures ∙ c.if-is.false)) (c.in_err-statement.ensures.reads (λ s. Give (statements (s ∷ []))))

pub returns-clause-reads : goal.returns-clause-reads
returns-clause-reads c =
    first_expression c.args.depth _ _ _ c.in-Some.ensures.cases.0 (sym c.begins_type.ensures ∙ c.if-begins_type.false) (sym c.is.ensures ∙ c.if-is.false) ∙ (c.in_ok-statement.ensures.reads (λ s. Give (statements (s ∷ [])))) ∙ parsed_give _ _ ∙ ap (λ l. found (statements l) c.in_ok-statement.rest.now) (sym (c.of-2.ensures ∙ c.in_ok-push.ensures ∙ ap (λ l. l ++ c.in_ok-statement.statement ∷ []) c.new-list.ensures.items))
