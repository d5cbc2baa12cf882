use Rattle.std.proofs.Common.{refl, arith, sym, ◌∙◌, ap, Some}
use Rattle.c_expr_parser.specs.Plans.{Value, named, Return, read}
use Rattle.c_expr_parser.specs.Tables.{when_some}
use Rattle.c_expr_parser.proofs.PlanResults.{reads_dead, reads_end, reads_one, reads_deep}
use Rattle.c_expr_parser.proofs.cursor.name.Goals as goal

pub returns-then-not-is_kind-clause-reads : goal.returns-then-not-is_kind-clause-reads
returns-then-not-is_kind-clause-reads c =
    let t = c.in-Some.token.now in
    reads_dead _ _ t c.in-Some.rest.now c.in-Some.ensures.cases.0
    (ap (λ b. when_some b (Some (Return (named (record { place = t.at; text = t.text }))))) (sym c.is_kind.ensures ∙ c.if-not-is_kind.true)) refl

pub returns-then-depth-gt-MOST_DEPTH-clause-reads : goal.returns-then-depth-gt-MOST_DEPTH-clause-reads
returns-then-depth-gt-MOST_DEPTH-clause-reads c =
    let t = c.in-Some.token.now in
    let name : Value = named (record { place = t.at; text = t.text }) in
    reads_deep _ _ t c.in-Some.rest.now (Return name) c.in-Some.ensures.cases.0
    (ap (λ b. when_some b (Some (Return name))) (sym c.is_kind.ensures ∙ c.if-not-is_kind.false)) c.if-depth-gt-MOST_DEPTH.true

pub returns-in_ok-clone-in-Some-clause-reads : goal.returns-in_ok-clone-in-Some-clause-reads
returns-in_ok-clone-in-Some-clause-reads c =
    let t = c.in-Some.token.now in
    let name : Value = named (record { place = t.at; text = t.text }) in
    reads_one _ _ t c.in-Some.rest.now name c.in-Some.ensures.cases.0
    (ap (λ b. when_some b (Some (Return name))) (sym c.is_kind.ensures ∙ c.if-not-is_kind.false)) (omega arith)
    ∙ ap (λ text. read (named (record { place = t.at; text = text })) c.in-Some.rest.now) (sym c.in_ok-clone-in-Some.ensures.cases)

pub returns-in-None-clause-reads : goal.returns-in-None-clause-reads
returns-in-None-clause-reads c = reads_end _ _ c.in-None.ensures.cases refl
