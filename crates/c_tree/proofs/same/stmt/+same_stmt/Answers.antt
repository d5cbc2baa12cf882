use Rattle.std.proofs.Common.{rules, ◌≡◌, map, ◌<◌, length, arith, ap, sym, ◌∙◌}
use Rattle.c_tree.specs.Bare.{bare_block, bare_stmt}
use Rattle.c_tree.proofs.Lists.{equal_at}
use Rattle.c_tree.proofs.Stmts.{block_once, of_transaction, of_if, of_if_else, of_while, of_do_while, of_for}
use Rattle.c_tree.proofs.StmtForms.{same_form}
use Rattle.c_tree.proofs.same.stmt.+same_stmt.Goals as goal

pub same_block-returns : goal.same_block-returns
same_block-returns t c =
    let p = ap (map bare_stmt) c.as_slice.ensures in
    let q = ap (map bare_stmt) c.as_slice-2.ensures in (
      λ h. ap bare_block (sym p ∙ c.same_stmts.ensures.0 h ∙ q),
      λ e. c.same_stmts.ensures.1 (p ∙ block_once _ _ e ∙ sym q),
    )

pub same_stmts-returns-then-not-same_stmt : goal.same_stmts-returns-then-not-same_stmt
same_stmts-returns-then-not-same_stmt t c = (
  λ h. cc,
  λ e.
      let below : c.loop-i.i < length c.args.b.now = omega (arith, c.loop-i-test.true, c.if-a-b.false) in
      let k = equal_at bare_stmt c.args.a.now c.args.b.now c.loop-i.i _ _ c.loop-i-test.true below c.index-a-i.is c.index-b-i.is e in
      let r = c.same_stmt.ensures.1 k in
      search (rules, r),
)

pub same_stmt-returns-in-Transaction-node : goal.same_stmt-returns-in-Transaction-node
same_stmt-returns-in-Transaction-node t c =
    let p = of_transaction _ _ _ c.in-Transaction.is in
    let q = of_transaction _ _ _ c.in-Transaction-node.is in (
      λ h.
          let r = c.same_block-in-Transaction-node.ensures.0 h in
          search (rules, p, q, r),
      λ e.
          let k = sym p ∙ e ∙ q in
          let j : bare_block (map bare_stmt c.in-Transaction.x) ≡ bare_block (map bare_stmt c.in-Transaction-node.y) = cc in
          c.same_block-in-Transaction-node.ensures.1 j,
    )

pub same_stmt-returns-in_default : goal.same_stmt-returns-in_default
same_stmt-returns-in_default t c = (
  λ h. cc,
  λ e.
      let same = same_form _ _ _ c.in-Block.is e in
      absurd (c.in_default.not-Block same.0 same.1),
)

pub same_stmt-returns-in_default-node : goal.same_stmt-returns-in_default-node
same_stmt-returns-in_default-node t c = (
  λ h. cc,
  λ e.
      let same = same_form _ _ _ c.in-Empty.is e in
      absurd (c.in_default-node.not-Empty same),
)

pub same_stmt-returns-in_default-node-2 : goal.same_stmt-returns-in_default-node-2
same_stmt-returns-in_default-node-2 t c = (
  λ h. cc,
  λ e.
      let same = same_form _ _ _ c.in-Evaluate.is e in
      absurd (c.in_default-node-2.not-Evaluate same.0 same.1),
)

pub same_stmt-returns-in_default-node-3 : goal.same_stmt-returns-in_default-node-3
same_stmt-returns-in_default-node-3 t c = (
  λ h. cc,
  λ e.
      let same = same_form _ _ _ c.in-Declare.is e in
      absurd (c.in_default-node-3.not-Declare same.0 same.1),
)

pub same_stmt-returns-in_default-node-4 : goal.same_stmt-returns-in_default-node-4
same_stmt-returns-in_default-node-4 t c = (
  λ h. cc,
  λ e.
      let same = same_form _ _ _ c.in-If.is e in
      absurd (c.in_default-node-4.not-If same.0 same.1 same.2),
)

pub same_stmt-returns-in_default-node-5 : goal.same_stmt-returns-in_default-node-5
same_stmt-returns-in_default-node-5 t c = (
  λ h. cc,
  λ e.
      let same = same_form _ _ _ c.in-IfElse.is e in
      absurd (c.in_default-node-5.not-IfElse same.0 same.1 same.2 same.3),
)

pub same_stmt-returns-in_default-node-6 : goal.same_stmt-returns-in_default-node-6
same_stmt-returns-in_default-node-6 t c = (
  λ h. cc,
  λ e.
      let same = same_form _ _ _ c.in-While.is e in
      absurd (c.in_default-node-6.not-While same.0 same.1 same.2),
)

pub same_stmt-returns-in_default-node-7 : goal.same_stmt-returns-in_default-node-7
same_stmt-returns-in_default-node-7 t c = (
  λ h. cc,
  λ e.
      let same = same_form _ _ _ c.in-DoWhile.is e in
      absurd (c.in_default-node-7.not-DoWhile same.0 same.1 same.2),
)

pub same_stmt-returns-in_default-node-8 : goal.same_stmt-returns-in_default-node-8
same_stmt-returns-in_default-node-8 t c = (
  λ h. cc,
  λ e.
      let same = same_form _ _ _ c.in-For.is e in
      absurd (c.in_default-node-8.not-For same.0 same.1 same.2 same.3 same.4),
)

pub same_stmt-returns-in_default-node-9 : goal.same_stmt-returns-in_default-node-9
same_stmt-returns-in_default-node-9 t c = (
  λ h. cc,
  λ e.
      let same = same_form _ _ _ c.in-Break.is e in
      absurd (c.in_default-node-9.not-Break same),
)

pub same_stmt-returns-in_default-node-10 : goal.same_stmt-returns-in_default-node-10
same_stmt-returns-in_default-node-10 t c = (
  λ h. cc,
  λ e.
      let same = same_form _ _ _ c.in-Continue.is e in
      absurd (c.in_default-node-10.not-Continue same),
)

pub same_stmt-returns-in_default-node-11 : goal.same_stmt-returns-in_default-node-11
same_stmt-returns-in_default-node-11 t c = (
  λ h. cc,
  λ e.
      let same = same_form _ _ _ c.in-Return.is e in
      absurd (c.in_default-node-11.not-Return same),
)

pub same_stmt-returns-in_default-node-12 : goal.same_stmt-returns-in_default-node-12
same_stmt-returns-in_default-node-12 t c = (
  λ h. cc,
  λ e.
      let same = same_form _ _ _ c.in-ReturnValue.is e in
      absurd (c.in_default-node-12.not-ReturnValue same.0 same.1),
)

pub same_stmt-returns-in_default-node-13 : goal.same_stmt-returns-in_default-node-13
same_stmt-returns-in_default-node-13 t c = (
  λ h. cc,
  λ e.
      let same = same_form _ _ _ c.in-Update.is e in
      absurd (c.in_default-node-13.not-Update same),
)

pub same_stmt-returns-in_default-node-14 : goal.same_stmt-returns-in_default-node-14
same_stmt-returns-in_default-node-14 t c = (
  λ h. cc,
  λ e.
      let same = same_form _ _ _ c.in-Transaction.is e in
      absurd (c.in_default-node-14.not-Transaction same.0 same.1 same.2),
)

pub same_stmt-returns-then-same_expr : goal.same_stmt-returns-then-same_expr
same_stmt-returns-then-same_expr t c =
    let p = of_if _ _ _ c.in-If.is in
    let q = of_if _ _ _ c.in-If-node.is in
    search (rules, p, q)

pub same_stmt-returns-then-same_inner : goal.same_stmt-returns-then-same_inner
same_stmt-returns-then-same_inner t c =
    let p = of_if_else _ _ _ _ c.in-IfElse.is in
    let q = of_if_else _ _ _ _ c.in-IfElse-node.is in
    search (rules, p, q)

pub same_stmt-returns-then-same_expr-3 : goal.same_stmt-returns-then-same_expr-3
same_stmt-returns-then-same_expr-3 t c =
    let p = of_while _ _ _ c.in-While.is in
    let q = of_while _ _ _ c.in-While-node.is in
    search (rules, p, q)

pub same_stmt-returns-then-same_expr-4 : goal.same_stmt-returns-then-same_expr-4
same_stmt-returns-then-same_expr-4 t c =
    let p = of_do_while _ _ _ c.in-DoWhile.is in
    let q = of_do_while _ _ _ c.in-DoWhile-node.is in
    search (rules, p, q)

pub same_stmt-returns-then-same_optional-2 : goal.same_stmt-returns-then-same_optional-2
same_stmt-returns-then-same_optional-2 t c =
    let p = of_for _ _ _ _ _ c.in-For.is in
    let q = of_for _ _ _ _ _ c.in-For-node.is in
    search (rules, p, q)
