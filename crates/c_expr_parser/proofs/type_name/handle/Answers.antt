use Rattle.std.proofs.Common.{◌∙◌}
use Rattle.std.specs.Prelude.{codes}
use Rattle.std.proofs.lemmas.Result.{err_from_is_err_and}
use Rattle.c_lexer.specs.declared.token.TokenKind.TheVariants.{Keyword, Punctuator}
use Rattle.c_tree.specs.declared.name.CType.TheVariants.{Handle}
use Rattle.c_expr_parser.specs.Plans.{Word, Naming, Return, typed, as_name, punctuator, nothing, named}
use Rattle.c_expr_parser.proofs.PlanResults.{parsed_return}
use Rattle.c_expr_parser.proofs.TypeReading.{goes, stops, tagged}
use Rattle.c_expr_parser.proofs.type_name.handle.Goals as goal

pub returns-in_err-rest-clause-reads : goal.returns-in_err-rest-clause-reads
returns-in_err-rest-clause-reads c =
    let p = err_from_is_err_and c.from_residual.result c.from_residual.ensures.1 in
    rw (p.1, p.2) (stops _ (Word Keyword (codes "struct") c.args.depth) (λ v. tagged c.args.depth) c.args.tokens.now c.in_err-rest.ensures.reads)

pub returns-in_err-tag-clause-reads : goal.returns-in_err-tag-clause-reads
returns-in_err-tag-clause-reads c =
    let d = c.args.depth in
    let p = err_from_is_err_and c.from_residual-in_err-tag.result c.from_residual-in_err-tag.ensures.1 in
    rw (p.1, p.2, goes (Word Keyword (codes "struct") d) (λ v. tagged d) c.args.tokens.now nothing c.in_ok-rest.rest.now c.in_ok-rest.ensures.reads)
    (stops _ (Naming d) (λ v. punctuator (codes "*") d (Return (typed (Handle (as_name v))))) c.in_ok-rest.rest.now c.in_err-tag.ensures.reads)

pub returns-in_err-rest-2-clause-reads : goal.returns-in_err-rest-2-clause-reads
returns-in_err-rest-2-clause-reads c =
    let d = c.args.depth in
    let tag = c.in_ok-tag.tag in
    let p = err_from_is_err_and c.from_residual-in_err-rest-2.result c.from_residual-in_err-rest-2.ensures.1 in
    rw (
      p.1,
      p.2,
      goes (Word Keyword (codes "struct") d) (λ v. tagged d) c.args.tokens.now nothing c.in_ok-rest.rest.now c.in_ok-rest.ensures.reads,
      goes (Naming d) (λ v. punctuator (codes "*") d (Return (typed (Handle (as_name v))))) c.in_ok-rest.rest.now (named tag) c.in_ok-tag.rest.now c.in_ok-tag.ensures.reads,
    )
    (stops _ (Word Punctuator (codes "*") d) (λ v. Return (typed (Handle tag))) c.in_ok-tag.rest.now c.in_err-rest-2.ensures.reads)

pub returns-clause-reads : goal.returns-clause-reads
returns-clause-reads c =
    let d = c.args.depth in
    let tag = c.in_ok-tag.tag in
    goes (Word Keyword (codes "struct") d) (λ v. tagged d) c.args.tokens.now nothing c.in_ok-rest.rest.now c.in_ok-rest.ensures.reads
    ∙ goes (Naming d) (λ v. punctuator (codes "*") d (Return (typed (Handle (as_name v))))) c.in_ok-rest.rest.now (named tag) c.in_ok-tag.rest.now c.in_ok-tag.ensures.reads
    ∙ goes (Word Punctuator (codes "*") d) (λ v. Return (typed (Handle tag))) c.in_ok-tag.rest.now nothing c.in_ok-rest-2.rest.now c.in_ok-rest-2.ensures.reads
    ∙ parsed_return (typed (Handle tag)) c.in_ok-rest-2.rest.now
