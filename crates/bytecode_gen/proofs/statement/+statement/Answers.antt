use Rattle.std.proofs.Common.{◌≡◌, ◌<◌, ◌≤◌, ◌+◌, ◌-◌, [], ◌∷◌, length, take, refl, sym, ap, ◌∙◌, arith}
use Rattle.std.proofs.lemmas.Result.{on_ok_weaker}
use Rattle.c_semantics.specs.Points.{size_stmt, size_stmts}
use Rattle.local_evaluation.specs.Weights as weight
use Rattle.resolved_tree.specs.Nodes.{expression_at, expression_if, statement_at, statements_at}
use Rattle.typed_trees.specs.StatementTypes.{declare_all}
use Rattle.expr_gen.specs.Scope.{variables_of}
use Rattle.bytecode_gen.specs.declared.part.Jumps.{Jumps}
use Rattle.typed_trees.specs.ValueTypes.{Environment, in_scope}
use Rattle.bytecode_gen.specs.Tails.{InScope, in_a_row, trees_of, look_of}
use Rattle.bytecode_gen.proofs.LoopCode.{emits_turns, emits_do}
use Rattle.bytecode_gen.proofs.Preceding.{precedes_nothing, inside_loop, longer, longer_by_one, still_inside}
use Rattle.bytecode_gen.proofs.Rows.{all_left, emits_all, emits_last, emits_none, last_in_scope, none_declared, row_weight, size_without_last}
use Rattle.bytecode_gen.proofs.Scoping.{in_one_scope, inner_block, still_in_scope, truncated}
use Rattle.bytecode_gen.proofs.StatementCode.{emits_for, emits_if, emits_if_else, emits_transaction}
use Rattle.bytecode_gen.proofs.Walking.{all_counted, emits_of, emitted, scope_of, still_inside_walk, walks, walks_block, walks_statement}
use Rattle.bytecode_gen.proofs.statement.+statement.Goals as goal

pub statement-returns-in-Empty : goal.statement-returns-in-Empty
statement-returns-in-Empty m c =
    let s = c.args.source.now in
    walks_statement (look_of s) c.args.n c.args.jumps c.in-Empty.ensures
    (walks (record { code = λ env scope. precedes_nothing (trees_of s) c.args.tail.now.items }))

pub statement-returns-in-Break : goal.statement-returns-in-Break
statement-returns-in-Break m c =
    let s = c.args.source.now in
    on_ok_weaker c.jump.result
    (λ h. walks_statement (look_of s) c.args.n c.args.jumps c.in-Break.ensures (walks (record { code = λ env scope. h (trees_of s) }))) c.jump.ensures

pub statement-returns-in-Continue : goal.statement-returns-in-Continue
statement-returns-in-Continue m c =
    let s = c.args.source.now in
    on_ok_weaker c.jump-in-Continue.result
    (λ h. walks_statement (look_of s) c.args.n c.args.jumps c.in-Continue.ensures (walks (record { code = λ env scope. h (trees_of s) }))) c.jump-in-Continue.ensures

pub statement-returns-in-Evaluate : goal.statement-returns-in-Evaluate
statement-returns-in-Evaluate m c =
    let s = c.args.source.now in
    on_ok_weaker c.dropped.result
    (λ h. walks_statement (look_of s) c.args.n c.args.jumps c.in-Evaluate.ensures (walks (emits_of c.as_slice.ensures.value h))) c.dropped.ensures

pub statement-returns-in-Declare : goal.statement-returns-in-Declare
statement-returns-in-Declare m c =
    let s = c.args.source.now in
    on_ok_weaker c.declare.result
    (λ h. walks_statement (look_of s) c.args.n c.args.jumps c.in-Declare.ensures (h)) c.declare.ensures

pub statement-returns-in-Return : goal.statement-returns-in-Return
statement-returns-in-Return m c =
    let s = c.args.source.now in
    on_ok_weaker c.returned.result
    (λ h. walks_statement (look_of s) c.args.n c.args.jumps c.in-Return.ensures (walks (emits_of c.as_slice-in-Return.ensures.value h))) c.returned.ensures

pub statement-returns-in-UpdatePoint : goal.statement-returns-in-UpdatePoint
statement-returns-in-UpdatePoint m c =
    let s = c.args.source.now in
    on_ok_weaker c.checked_stop.result
    (λ h. walks_statement (look_of s) c.args.n c.args.jumps c.in-UpdatePoint.ensures (walks (record { code = λ env scope. h (trees_of s) }))) c.checked_stop.ensures

pub statement-returns-in-Block : goal.statement-returns-in-Block
statement-returns-in-Block m c =
    let s = c.args.source.now in
    on_ok_weaker c.statements.result
    (λ h. walks_statement (look_of s) c.args.n c.args.jumps c.in-Block.ensures (walks_block (look_of s) (statements_at (trees_of s) c.in-Block.ss) c.args.n c.args.jumps h)) c.statements.ensures

pub statement-returns-in-Transaction : goal.statement-returns-in-Transaction
statement-returns-in-Transaction m c =
    let s = c.args.source.now in
    on_ok_weaker c.transaction.result
    (λ h. walks_statement (look_of s) c.args.n c.args.jumps c.in-Transaction.ensures (h)) c.transaction.ensures

pub statement-returns-in-If : goal.statement-returns-in-If
statement-returns-in-If m c =
    let s = c.args.source.now in
    on_ok_weaker c.conditional.result
    (λ h. walks_statement (look_of s) c.args.n c.args.jumps c.in-If.ensures (h)) c.conditional.ensures

pub statement-returns-in-IfElse : goal.statement-returns-in-IfElse
statement-returns-in-IfElse m c =
    let s = c.args.source.now in
    on_ok_weaker c.alternative.result
    (λ h. walks_statement (look_of s) c.args.n c.args.jumps c.in-IfElse.ensures (h)) c.alternative.ensures

pub statement-returns-in-While : goal.statement-returns-in-While
statement-returns-in-While m c =
    let s = c.args.source.now in
    on_ok_weaker c.turns.result
    (λ h. walks_statement (look_of s) c.args.n c.args.jumps c.in-While.ensures (h)) c.turns.ensures

pub statement-returns-in-DoWhile : goal.statement-returns-in-DoWhile
statement-returns-in-DoWhile m c =
    let s = c.args.source.now in
    on_ok_weaker c.do_turns.result
    (λ h. walks_statement (look_of s) c.args.n c.args.jumps c.in-DoWhile.ensures (h)) c.do_turns.ensures

pub statement-returns-in-For : goal.statement-returns-in-For
statement-returns-in-For m c =
    let s = c.args.source.now in
    on_ok_weaker c.for_turns.result
    (λ h. walks_statement (look_of s) c.args.n c.args.jumps c.in-For.ensures (h)) c.for_turns.ensures

pub statements-overflow_sub-at : goal.statements-overflow_sub-at
statements-overflow_sub-at m c =
    let t = trees_of c.args.source.now in
    let d = c.index-s.result.now in
    let e = size_without_last t c.in_ok-list.list.items c.loop-left.left d d (omega arith) (omega arith) c.index-s.ensures in
    let p = c.statement_points-at.ensures in
    let i = c.loop-left.invariant.at in
    omega arith

pub statements-statement-requires : goal.statements-statement-requires
statements-statement-requires m c =
    let t = trees_of c.args.source.now in
    let list = c.in_ok-list.list.items in
    let d = c.index-s.result.now in
    let light = row_weight t list (c.loop-left.left - 1) d (omega arith) in
    let here = ap (λ s. weight.of_statement (statement_at t s)) c.index-s.ensures in
    let all = ap weight.of_statements c.in_ok-list.ensures.list in
    (omega arith, c.loop-left.invariant.inside)

pub statements-loop-left-preserved : goal.statements-loop-left-preserved
statements-loop-left-preserved m c =
    let s = c.args.source.now in
    let t = trees_of s in
    let list = c.in_ok-list.list.items in
    let left = c.loop-left.left in
    let d = c.index-s.result.now in
    let some : 0 < left = omega arith in
    let within : left ≤ length list = c.loop-left.invariant.within in
    let e = size_without_last t list left d d some within c.index-s.ensures in
    let p = c.statement_points-at.ensures in
    let i = c.loop-left.invariant.at in
    let at = c.loop-left.at - c.statement_points-at.result in
    let next : c.loop-left.at ≡ at + size_stmt (statement_at t d) = omega arith in
    let scope = λ (env : Environment) (h : InScope t env c.args.variables.now.items). c.forget.ensures (declare_all (in_a_row t (take (left - 1) list)) env)
    (last_in_scope t list left d d env c.loop-left.variables.items some within c.index-s.ensures (c.loop-left.invariant.scope env h)) in
    record {
      within = omega arith;
      inside = still_inside_walk c.loop-left.invariant.inside c.in_ok-statement.ensures;
      at = omega arith;
      scope = λ env h. still_in_scope t (declare_all (in_a_row t (take (left - 1) list)) env) c.forget.new.variables.items
          c.statement.new.variables.items c.in_ok-statement.ensures.keeps (scope env h);
      code = λ env h. emits_last (look_of s) env c.args.jumps list left d d at c.loop-left.at some within c.index-s.ensures c.requires next
          (c.loop-left.invariant.code env h) (c.in_ok-statement.ensures.emits.code (declare_all (in_a_row t (take (left - 1) list)) env) (scope env h));
    }

pub statements-loop-left-init : goal.statements-loop-left-init
statements-loop-left-init m c =
    let s = c.args.source.now in
    let t = trees_of s in
    let list = c.in_ok-list.list.items in
    let left = c.len-left.result in
    let full : left ≡ length list = c.len-left.ensures ∙ c.in_ok-list.list.ok.0 in
    let row = all_left t list (statements_at t c.args.ss) left full c.in_ok-list.ensures.list in
    record {
      within = omega arith;
      inside = c.requires;
      at = c.in_ok-at.ensures ∙ ap (λ ss. c.args.n + size_stmts ss) (sym row);
      scope = λ env h. let declared = c.in_ok-list.ensures.variables env h in
          record { same = ap (λ ss. in_scope (declare_all ss env)) row ∙ declared.same };
      code = λ env h. emits_none (look_of s) (declare_all (in_a_row t (take left list)) env) c.args.jumps list left c.in_ok-at.at full;
    }

pub statements-returns : goal.statements-returns
statements-returns m c =
    let s = c.args.source.now in
    let t = trees_of s in
    let list = c.in_ok-list.list.items in
    let vs = c.args.variables.now.items in
    let none : c.loop-left.left ≡ 0 = omega arith in
    record {
      emits = record {
        code = λ env h. emits_all (look_of s) env c.args.jumps list (statements_at t c.args.ss) c.loop-left.left c.loop-left.at c.args.n none
            c.in_ok-list.ensures.list c.loop-left.invariant.at (c.loop-left.invariant.code env h);
      };
      keeps = none_declared t list c.loop-left.left vs c.loop-left.variables.items none
          (c.loop-left.invariant.scope (variables_of t vs ∷ []) (in_one_scope t vs));
    }

pub transaction-statements-requires : goal.transaction-statements-requires
transaction-statements-requires m c = (omega arith, still_inside c.requires (c.in_ok-checked_stop.ensures (trees_of c.args.source.now)))

pub transaction-returns : goal.transaction-returns
transaction-returns m c =
    let s = c.args.source.now in
    let t = trees_of s in
    let body = c.in_ok-statements.ensures in
    on_ok_weaker c.checked_stop-2.result
    (λ h. record {
      emits = record {
        code = λ env scope. emits_transaction (look_of s) env (statements_at t c.args.ss) c.args.n c.args.jumps c.in_ok-inside.inside c.in_ok-end.end
            c.requires c.in_ok-inside.ensures c.in_ok-end.ensures (c.in_ok-checked_stop.ensures t)
            (body.emits.code ([] ∷ env) (inner_block t env c.args.variables.now.items scope)) (h t);
      };
      keeps = body.keeps;
    })
    c.checked_stop-2.ensures

pub conditional-statement-requires : goal.conditional-statement-requires
conditional-statement-requires m c = (omega arith, c.requires)

pub conditional-returns : goal.conditional-returns
conditional-returns m c =
    let s = c.args.source.now in
    let t = trees_of s in
    let body = c.in_ok-statement.ensures in
    on_ok_weaker c.condition.result
    (λ h. record {
      emits = record {
        code = λ env scope. emits_if (look_of s) env (expression_at t c.args.parts.0) (statement_at t c.args.parts.1) c.args.n c.args.jumps
            c.in_ok-inside.inside c.in_ok-over.over c.len-past.result c.in_ok-inside.ensures (c.len-past.ensures ∙ c.args.tail.now.ok.0)
            c.in_ok-over.ensures (body.emits.code env scope) (h.code env (scope_of c.as_slice.ensures.value body.keeps scope));
      };
      keeps = body.keeps;
    })
    c.condition.ensures

pub alternative-statement-requires : goal.alternative-statement-requires
alternative-statement-requires m c = (omega arith, c.requires)

pub alternative-statement-requires-2 : goal.alternative-statement-requires-2
alternative-statement-requires-2 m c =
    (omega arith, still_inside (still_inside_walk c.requires c.in_ok-statement.ensures) (c.in_ok-jump.ensures (trees_of c.args.source.now)))

pub alternative-returns : goal.alternative-returns
alternative-returns m c =
    let s = c.args.source.now in
    let t = trees_of s in
    let other = c.in_ok-statement.ensures in
    let first = c.in_ok-statement-2.ensures in
    let kept = first.keeps ∙ other.keeps in
    on_ok_weaker c.condition.result
    (λ h. record {
      emits = record {
        code = λ env scope. emits_if_else (look_of s) env (expression_at t c.args.parts.0) (statement_at t c.args.parts.1)
            (statement_at t c.args.parts.2) c.args.n c.args.jumps c.in_ok-first.first c.in_ok-second.second c.len-end.result c.len-other.result
            c.in_ok-over.over c.requires c.in_ok-first.ensures c.in_ok-second.ensures (c.len-end.ensures ∙ c.args.tail.now.ok.0)
            (c.len-other.ensures ∙ c.statement.new.tail.ok.0) c.in_ok-over.ensures (other.emits.code env scope) (c.in_ok-jump.ensures t)
            (first.emits.code env (scope_of refl other.keeps scope)) (h.code env (scope_of c.as_slice.ensures.value kept scope));
      };
      keeps = kept;
    })
    c.condition.ensures

pub turns-statement-requires : goal.turns-statement-requires
turns-statement-requires m c = (
  omega arith,
  inside_loop (c.in_ok-precede.ensures (trees_of c.args.source.now)) (emitted c.in_ok-dropped_if.ensures)
      (c.len-past.ensures ∙ c.args.tail.now.ok.0) (c.len-before_step.ensures ∙ c.dropped_if.new.tail.ok.0),
)

pub turns-lead_back-requires : goal.turns-lead_back-requires
turns-lead_back-requires m c =
    let a = longer_by_one (c.in_ok-precede.ensures (trees_of c.args.source.now)) in
    let b = longer (emitted c.in_ok-dropped_if.ensures) in
    let d = longer (emitted c.in_ok-statement.ensures.emits) in
    let e = longer (emitted c.in_ok-guard.ensures) in
    let past = c.len-past.ensures ∙ c.args.tail.now.ok.0 in
    let all = c.guard.new.tail.ok.0 in
    omega arith

pub turns-returns : goal.turns-returns
turns-returns m c =
    let s = c.args.source.now in
    let t = trees_of s in
    let l = c.args.l in
    let body = c.in_ok-statement.ensures in
    let jumps : Jumps = record { broken = c.len-past.result; continued = c.len-before_step.result } in
    on_ok_weaker c.lead_back.result
    (λ h. record {
      emits = record {
        code = λ env scope. emits_turns (look_of s) env (expression_if t l.test) (expression_if t l.step) (statement_at t l.body) l.first jumps
            c.in_ok-body.body c.in_ok-step.step c.in_ok-point.point c.len-past.result c.in_ok-kept.kept c.in_ok-body.ensures c.in_ok-step.ensures
            c.in_ok-point.ensures (all_counted c.in_ok-kept.ensures c.as_slice.ensures.value scope) (c.len-past.ensures ∙ c.args.tail.now.ok.0) refl (c.len-before_step.ensures ∙ c.dropped_if.new.tail.ok.0)
            (c.in_ok-precede.ensures t) (c.in_ok-dropped_if.ensures.code env (scope_of c.as_slice-2.ensures.value refl scope))
            (body.emits.code env scope) (c.in_ok-guard.ensures.code env (scope_of c.as_slice-3.ensures.value body.keeps scope)) (h t);
      };
      keeps = body.keeps;
    })
    c.lead_back.ensures

pub do_turns-statement-requires : goal.do_turns-statement-requires
do_turns-statement-requires m c = (
  omega arith,
  inside_loop (c.in_ok-precede.ensures (trees_of c.args.source.now)) (emitted c.in_ok-condition.ensures)
      (c.len-past.ensures ∙ c.args.tail.now.ok.0) (c.len-before_test.ensures ∙ c.condition.new.tail.ok.0),
)

pub do_turns-lead_back-requires : goal.do_turns-lead_back-requires
do_turns-lead_back-requires m c =
    let a = longer_by_one (c.in_ok-precede.ensures (trees_of c.args.source.now)) in
    let b = longer (emitted c.in_ok-condition.ensures) in
    let d = longer (emitted c.in_ok-statement.ensures.emits) in
    let past = c.len-past.ensures ∙ c.args.tail.now.ok.0 in
    let all = c.statement.new.tail.ok.0 in
    omega arith

pub do_turns-returns : goal.do_turns-returns
do_turns-returns m c =
    let s = c.args.source.now in
    let t = trees_of s in
    let body = c.in_ok-statement.ensures in
    let jumps : Jumps = record { broken = c.len-past.result; continued = c.len-before_test.result } in
    on_ok_weaker c.lead_back.result
    (λ h. record {
      emits = record {
        code = λ env scope. emits_do (look_of s) env (statement_at t c.args.parts.0) (expression_at t c.args.parts.1) c.args.n jumps c.in_ok-test.test
            c.in_ok-point.point c.len-past.result c.in_ok-kept.kept c.in_ok-test.ensures c.in_ok-point.ensures
            (all_counted c.in_ok-kept.ensures c.as_slice.ensures.value scope) (c.len-past.ensures ∙ c.args.tail.now.ok.0) refl
            (c.len-before_test.ensures ∙ c.condition.new.tail.ok.0) (c.in_ok-precede.ensures t)
            (c.in_ok-condition.ensures.code env (scope_of c.as_slice-2.ensures.value refl scope)) (body.emits.code env scope) (h t);
      };
      keeps = body.keeps;
    })
    c.lead_back.ensures

pub for_turns-turns-requires : goal.for_turns-turns-requires
for_turns-turns-requires m c = (omega arith, tt)

pub for_turns-statements-requires : goal.for_turns-statements-requires
for_turns-statements-requires m c = (omega arith, still_inside_walk c.requires c.in_ok-turns.ensures)

pub for_turns-returns : goal.for_turns-returns
for_turns-returns m c =
    let s = c.args.source.now in
    let t = trees_of s in
    let vs = c.args.variables.now.items in
    let fewer = c.truncate.new.self.items in
    let first = statements_at t c.args.parts.0 in
    let turning = c.in_ok-turns.ensures in
    let declared = c.in_ok-declared.ensures.variables in
    let kept = truncated t first vs c.declared.new.variables.items c.turns.new.variables.items fewer c.len-outside.result
    (c.len-outside.ensures ∙ c.args.variables.now.ok.0)
    (declared ([] ∷ variables_of t vs ∷ []) (inner_block t (variables_of t vs ∷ []) vs (in_one_scope t vs))) turning.keeps c.truncate.ensures.items in
    on_ok_weaker c.statements.result
    (λ h. record {
      emits = record {
        code = λ env scope.
            let inner = inner_block t env vs scope in
            emits_for (look_of s) env first (expression_if t c.args.parts.1) (expression_if t c.args.parts.2) (statement_at t c.args.parts.3) c.args.n
            c.args.jumps c.in_ok-after_statements.field-0 c.requires c.in_ok-after_statements.ensures
            (turning.emits.code (declare_all first ([] ∷ env)) (declared ([] ∷ env) inner))
            (h.emits.code ([] ∷ env) (still_in_scope t ([] ∷ env) vs fewer kept inner));
      };
      keeps = h.keeps ∙ kept;
    })
    c.statements.ensures
