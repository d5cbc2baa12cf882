use Rattle.std.proofs.Common.{◌∷◌, [], length, refl, sym, ap, ◌∙◌, arith}
use Rattle.std.specs.Prelude.{codes}
use Rattle.std.proofs.lemmas.Result.{err_from_is_err_and}
use Rattle.c_lexer.specs.declared.token.TokenKind.TheVariants.{LibraryWord}
use Rattle.c_tree.specs.declared.name.CType.TheVariants.{Thread}
use Rattle.c_expr_parser.specs.Plans.{Word, Words, Return, Then, typed, nothing}
use Rattle.c_expr_parser.proofs.PlanResults.{parsed_return, reads_deep, reads_end}
use Rattle.c_expr_parser.proofs.TypeReading.{goes, stops, begins_word, begins_no_word, longer_means, takes_word, integer_type, handle_type, thread_type}
use Rattle.c_expr_parser.proofs.type_name.type_name.Goals as goal

pub returns-in_default-clause-reads : goal.returns-in_default-clause-reads
returns-in_default-clause-reads c = reads_end _ _ c.in_default.ensures.cases refl

pub returns-then-depth-gt-MOST_DEPTH-clause-reads : goal.returns-then-depth-gt-MOST_DEPTH-clause-reads
returns-then-depth-gt-MOST_DEPTH-clause-reads c =
    let t = c.in-Some.token.now in
    let longer = c.in-Some-longer.ensures [] c.none.ensures in
    reads_deep _ _ t c.in-Some.rest.now (Then (Words c.args.depth (t.text ∷ [])) Return) c.in-Some.ensures.cases.0
    (takes_word c.args.depth t (begins_word t _ longer.0)) c.if-depth-gt-MOST_DEPTH.true

pub returns-in-Some-longer-clause-reads : goal.returns-in-Some-longer-clause-reads
returns-in-Some-longer-clause-reads c =
    let t = c.in-Some.token.now in
    let longer = c.in-Some-longer.ensures [] c.none.ensures in
    integer_type c.args.depth c.args.tokens.now t c.in-Some.rest.now c.in-Some.ensures.cases.0 (begins_word t _ longer.0) (omega arith)
    ∙ c.rest_of_type.ensures.reads (t.text ∷ []) c.args.depth longer.1 (longer_means [] t _ longer.0) (omega arith)

pub returns-in-Some-longer-clause-within : goal.returns-in-Some-longer-clause-within
returns-in-Some-longer-clause-within c = (omega arith, omega (arith, c.rest_of_type.ensures.within, ap length c.in-Some.ensures.cases.0))

pub returns-then-is-clause-reads : goal.returns-then-is-clause-reads
returns-then-is-clause-reads c =
    let t = c.in-Some.token.now in
    rw (handle_type c.args.depth c.args.tokens.now t c.in-Some.rest.now c.in-Some.ensures.cases.0
    (begins_no_word t (c.in_default-longer.ensures [] c.none.ensures)) (sym c.is.ensures ∙ c.if-is.true)) c.handle.ensures.reads

pub returns-in_err-rest-clause-reads : goal.returns-in_err-rest-clause-reads
returns-in_err-rest-clause-reads c =
    let d = c.args.depth in
    let t = c.in-Some.token.now in
    let p = err_from_is_err_and c.from_residual.result c.from_residual.ensures.1 in
    rw (
      p.1,
      p.2,
      thread_type d c.args.tokens.now t c.in-Some.rest.now c.in-Some.ensures.cases.0
          (begins_no_word t (c.in_default-longer.ensures [] c.none.ensures)) (sym c.is.ensures ∙ c.if-is.false),
    )
    (stops _ (Word LibraryWord (codes "thrd_t") d) (λ v. Return (typed Thread)) c.args.tokens.now c.in_err-rest.ensures.reads)

pub returns-clause-reads : goal.returns-clause-reads
returns-clause-reads c =
    let d = c.args.depth in
    let t = c.in-Some.token.now in
    thread_type d c.args.tokens.now t c.in-Some.rest.now c.in-Some.ensures.cases.0
    (begins_no_word t (c.in_default-longer.ensures [] c.none.ensures)) (sym c.is.ensures ∙ c.if-is.false)
    ∙ goes (Word LibraryWord (codes "thrd_t") d) (λ v. Return (typed Thread)) c.args.tokens.now nothing c.in_ok-rest.rest.now c.in_ok-rest.ensures.reads
    ∙ parsed_return (typed Thread) c.in_ok-rest.rest.now
