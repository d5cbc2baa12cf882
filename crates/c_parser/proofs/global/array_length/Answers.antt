use Rattle.std.proofs.Common.{refl, sym, ap, ◌∙◌, arith}
use Rattle.std.specs.Prelude.{option_map}
use Rattle.c_expr_parser.specs.Tables.{when_some, constant_of}
use Rattle.c_parser.specs.TextPlans.{Give, ArrayLength, numbered}
use Rattle.c_parser.proofs.PlanResults.{parsed_give, dead_end, dead_first, takes_first, sinks_first}
use Rattle.c_parser.proofs.global.array_length.Goals as goal

pub returns-in_default-clause-reads : goal.returns-in_default-clause-reads
returns-in_default-clause-reads c =
    dead_end (ArrayLength c.args.depth) Give c.args.tokens.now c.in_default.ensures.cases refl

pub returns-then-not-is_kind-clause-reads : goal.returns-then-not-is_kind-clause-reads
returns-then-not-is_kind-clause-reads c =
    dead_first (ArrayLength c.args.depth) Give c.in-Some.token.now _ _ c.in-Some.ensures.cases.0 (ap (λ b. when_some b (option_map (λ n. Give (numbered (record { place = c.in-Some.token.now.at; value = n }))) (constant_of c.in-Some.token.now.text))) (sym c.is_kind.ensures ∙ c.if-not-is_kind.true)) refl

pub returns-in_default-constant-clause-reads : goal.returns-in_default-constant-clause-reads
returns-in_default-constant-clause-reads c =
    dead_first (ArrayLength c.args.depth) Give c.in-Some.token.now _ _ c.in-Some.ensures.cases.0 (ap (λ b. when_some b (option_map (λ n. Give (numbered (record { place = c.in-Some.token.now.at; value = n }))) (constant_of c.in-Some.token.now.text))) (sym c.is_kind.ensures ∙ c.if-not-is_kind.false) ∙ ap (option_map (λ n. Give (numbered (record { place = c.in-Some.token.now.at; value = n })))) (sym (c.in_default-constant.ensures ∙ ap constant_of c.as_str.ensures))) refl

pub returns-then-depth-gt-MOST_DEPTH-clause-reads : goal.returns-then-depth-gt-MOST_DEPTH-clause-reads
returns-then-depth-gt-MOST_DEPTH-clause-reads c =
    sinks_first (ArrayLength c.args.depth) Give (Give (numbered (record { place = c.in-Some.token.now.at; value = c.in-Some-constant.value }))) c.in-Some.token.now _ _ c.in-Some.ensures.cases.0 (ap (λ b. when_some b (option_map (λ n. Give (numbered (record { place = c.in-Some.token.now.at; value = n }))) (constant_of c.in-Some.token.now.text))) (sym c.is_kind.ensures ∙ c.if-not-is_kind.false) ∙ ap (option_map (λ n. Give (numbered (record { place = c.in-Some.token.now.at; value = n })))) (sym (c.in-Some-constant.ensures ∙ ap constant_of c.as_str.ensures))) c.if-depth-gt-MOST_DEPTH.true

pub returns-clause-reads : goal.returns-clause-reads
returns-clause-reads c =
    takes_first (ArrayLength c.args.depth) Give (Give (numbered (record { place = c.in-Some.token.now.at; value = c.in-Some-constant.value }))) c.in-Some.token.now _ _ c.in-Some.ensures.cases.0 (ap (λ b. when_some b (option_map (λ n. Give (numbered (record { place = c.in-Some.token.now.at; value = n }))) (constant_of c.in-Some.token.now.text))) (sym c.is_kind.ensures ∙ c.if-not-is_kind.false) ∙ ap (option_map (λ n. Give (numbered (record { place = c.in-Some.token.now.at; value = n })))) (sym (c.in-Some-constant.ensures ∙ ap constant_of c.as_str.ensures))) (omega arith) ∙ parsed_give _ _
