use Rattle.std.proofs.Common.{[], ◌++◌, length, refl, sym, ap, ◌∙◌, arith, unwrap_or}
use Rattle.c_expr_parser.specs.Plans.{MoreStrings, Return, Then, read, quoted, reads}
use Rattle.c_expr_parser.proofs.PlanResults.{reads_dead, reads_deep, reads_end}
use Rattle.c_expr_parser.proofs.StringReading.{string_of, some_meant, none_meant, begins, no_begin, first_string}
use Rattle.c_expr_parser.proofs.quoted.strings.Goals as goal

pub returns-in_default-clause-reads : goal.returns-in_default-clause-reads
returns-in_default-clause-reads c = reads_end _ _ c.in_default.ensures.cases refl

pub returns-then-not-branch-clause-reads : goal.returns-then-not-branch-clause-reads
returns-then-not-branch-clause-reads c =
    let t = c.in-Some.first.now in
    reads_dead _ _ t c.in-Some.behind.now c.in-Some.ensures.cases.0
    (no_begin c.args.depth t (none_meant (string_of t) (sym c.in_ok-append_token.ensures.0 ∙ c.if-not-branch.true))) refl

pub returns-then-depth-gt-MOST_DEPTH-clause-reads : goal.returns-then-depth-gt-MOST_DEPTH-clause-reads
returns-then-depth-gt-MOST_DEPTH-clause-reads c =
    let t = c.in-Some.first.now in
    let bytes = unwrap_or (string_of t) [] in
    reads_deep _ _ t c.in-Some.behind.now (Then (MoreStrings c.args.depth t.at bytes) Return) c.in-Some.ensures.cases.0
    (begins c.args.depth t bytes (some_meant (string_of t) (sym c.in_ok-append_token.ensures.0 ∙ c.if-not-branch.false))) c.if-depth-gt-MOST_DEPTH.true

pub returns-clause-reads : goal.returns-clause-reads
returns-clause-reads c =
    let t = c.in-Some.first.now in
    let bytes = unwrap_or (string_of t) [] in
    let appended = c.in_ok-append_token.ensures in
    first_string c.args.depth c.args.tokens.now t c.in-Some.behind.now bytes c.in-Some.ensures.cases.0
    (some_meant (string_of t) (sym appended.0 ∙ c.if-not-branch.false)) (omega arith)
    ∙ ap (λ b. reads (MoreStrings c.args.depth t.at b) c.in-Some.behind.now) (sym (appended.1 ∙ ap (λ b. b ++ bytes) c.new-bytes.ensures.bytes))
    ∙ c.in_ok-rest.ensures.reads c.args.depth t.at (omega arith)
    ∙ ap (λ b. read (quoted t.at b) c.in_ok-rest.rest.now) (sym c.from.ensures)

pub returns-clause-within : goal.returns-clause-within
returns-clause-within c = (omega arith, omega (arith, c.in_ok-rest.ensures.within, ap length c.in-Some.ensures.cases.0))
