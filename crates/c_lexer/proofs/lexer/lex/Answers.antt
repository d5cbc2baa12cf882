use Rattle.std.proofs.Common.{◌+◌, ◌≢◌, ◌∷◌, [], ◌++◌, take, drop, sym, ap, subst, arith, ◌∙◌, Some, Ok, Err, IsUtf8}
use Rattle.std.proofs.lemmas.Result.{err_from_is_err_and}
use Rattle.c_lexer.specs.declared.token.LexFault.TheVariants.{Memory}
use Rattle.c_lexer.specs.declared.unit.Reading.TheVariants.{Space, Lexeme, Bad}
use Rattle.c_lexer.specs.Bytes.{starts_line}
use Rattle.c_lexer.specs.Cut.{Lexes, token}
use Rattle.c_lexer.proofs.Laws.{unit_not_empty}
use Rattle.c_lexer.proofs.Utf8.{lexeme_utf8}
use Rattle.c_lexer.proofs.CutSoFar.{Reached, past_space, past_lexeme, ends, faults, too_many, unit_read, same_answer, computed_answer}
use Rattle.c_lexer.proofs.lexer.lex.Goals as goal
use Rattle.c_lexer.proofs.lexer.lex.Goals.{in-Space, in-Lexeme+in_ok-push_token-in-Lexeme}

pub push_token-requires : goal.push_token-requires
push_token-requires c =
    let text = c.args.text.now in
    let n = c.unit_at-unit.result.len in
    subst (λ l. IsUtf8 (take n l)) (sym c.split_at.ensures.back)
    (lexeme_utf8 (starts_line text c.loop-at.at) (take n (drop c.loop-at.at text)) c.in-Lexeme.kind (c.unit_at-unit.ensures.is ∙ ap Some c.in-Lexeme.is))

pub loop-at-preserved : goal.loop-at-preserved
loop-at-preserved c =
    let text = c.args.text.now in
    let n = c.unit_at-unit.result.len in
    elim c.match-unit.branch [
      | in-Space w ↦
          rw w.tokens-is (past_space text c.loop-at.tokens.items c.loop-at.at n c.loop-at.invariant
          (unit_read text c.loop-at.at n c.unit_at-unit.result.reading Space c.unit_at-unit.ensures w.in-Space.is))
      | in-Lexeme+in_ok-push_token-in-Lexeme w ↦
          let kind = w.in-Lexeme.kind in
          let unit = unit_read text c.loop-at.at n c.unit_at-unit.result.reading (Lexeme kind) c.unit_at-unit.ensures w.in-Lexeme.is in
          rw (w.tokens-is, w.in_ok-push_token-in-Lexeme.ensures.pushed)
          (subst (λ rest. Reached text (c.loop-at.tokens.items ++ token kind c.loop-at.at (take n rest) ∷ []) (c.loop-at.at + n)) (sym w.split_at.ensures.back)
          (past_lexeme text c.loop-at.tokens.items c.loop-at.at n kind c.loop-at.invariant unit w.in_ok-push_token-in-Lexeme.ensures.room))
    ]

pub loop-at-smaller : goal.loop-at-smaller
loop-at-smaller c =
    let some = unit_not_empty (starts_line c.args.text.now c.loop-at.at) c.unit_at-unit.ensures in omega (arith, some, c.loop-at-test.true)

-- one token too many
past_limit : (c : goal.After-drop-tokens) → c.in_err-push_token-in-Lexeme.field-0.0 ≢ Memory → Lexes c.args.text.now (Err c.in_err-push_token-in-Lexeme.field-0.0)
past_limit c other =
    let text = c.args.text.now in
    let n = c.unit_at-unit.result.len in
    rw (c.in_err-push_token-in-Lexeme.ensures.full other)
    (too_many text c.loop-at.tokens.items c.loop-at.at n c.in-Lexeme.kind c.loop-at.invariant
    (unit_read text c.loop-at.at n c.unit_at-unit.result.reading (Lexeme c.in-Lexeme.kind) c.unit_at-unit.ensures c.in-Lexeme.is)
    (c.in_err-push_token-in-Lexeme.ensures.most other))

pub returns-in_err-push_token-in-Lexeme : goal.returns-in_err-push_token-in-Lexeme
returns-in_err-push_token-in-Lexeme c =
    let p = err_from_is_err_and c.from_residual.result c.from_residual.ensures.1 in
    rw (p.1, p.2) (record {
      cut = λ other. past_limit c other;
      only = λ answer is other. same_answer c.args.text.now _ (past_limit c other) answer is;
      computed = λ other. computed_answer c.args.text.now _ (past_limit c other);
    })

-- a unit that is a fault
first_fault : (c : goal.After-drop-tokens-in-Bad) → Lexes c.args.text.now (Err c.at.result)
first_fault c =
    let text = c.args.text.now in
    let n = c.unit_at-unit.result.len in
    rw c.at.ensures (faults text c.loop-at.tokens.items c.loop-at.at n c.in-Bad.fault c.loop-at.invariant
    (unit_read text c.loop-at.at n c.unit_at-unit.result.reading (Bad c.in-Bad.fault) c.unit_at-unit.ensures c.in-Bad.is))

pub returns-in-Bad : goal.returns-in-Bad
returns-in-Bad c = record {
  cut = λ other. first_fault c;
  only = λ answer is other. same_answer c.args.text.now _ (first_fault c) answer is;
  computed = λ other. computed_answer c.args.text.now _ (first_fault c);
}

whole_text : (c : goal.After-loop-at) → Lexes c.args.text.now (Ok c.loop-at.tokens.items)
whole_text c = ends c.args.text.now c.loop-at.tokens.items c.loop-at.at c.loop-at.invariant c.loop-at-test.false

pub returns : goal.returns
returns c = record {
  cut = whole_text c;
  only = λ answer is. same_answer c.args.text.now _ (whole_text c) answer is;
  computed = computed_answer c.args.text.now _ (whole_text c);
}
