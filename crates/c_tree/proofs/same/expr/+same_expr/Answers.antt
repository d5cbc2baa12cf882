use Rattle.std.proofs.Common.{rules, ◌≡◌, map, ◌<◌, length, arith, ap, sym, ◌∙◌}
use Rattle.c_tree.specs.declared.expr.ExprNode.TheVariants.{Number, Character, Null, Success, Error, Variable, Unary, Step, Cast, Binary, And, Or, Choice, Assign, Update, Call, Element, Arrow, Dot, Print, Calloc, Free, Create, Join, JoinInto, InitMutex, Lock, Unlock}
use Rattle.c_tree.specs.Bare.{bare_arguments, bare_expr}
use Rattle.c_tree.proofs.Lists.{equal_at}
use Rattle.c_tree.proofs.Exprs.{arguments_once, of_call, of_print, of_number, of_character, of_null, of_success, of_error, of_variable, of_unary, of_step, of_cast, of_binary, of_and, of_or, of_choice, of_assign, of_update, of_element, of_arrow, of_dot, of_calloc, of_free, of_create, of_join, of_join_into, of_init_mutex, of_lock, of_unlock}
use Rattle.c_tree.proofs.Forms.{same_form}
use Rattle.c_tree.proofs.same.expr.+same_expr.Goals as goal

pub same_arguments-returns : goal.same_arguments-returns
same_arguments-returns t c =
    let p = ap (map bare_expr) c.as_slice.ensures in
    let q = ap (map bare_expr) c.as_slice-2.ensures in (
      λ h. ap bare_arguments (sym p ∙ c.same_exprs.ensures.0 h ∙ q),
      λ e. c.same_exprs.ensures.1 (p ∙ arguments_once _ _ e ∙ sym q),
    )

pub same_expr-returns-in_default : goal.same_expr-returns-in_default
same_expr-returns-in_default t c = (
  λ h. cc,
  λ e.
      let same = same_form _ _ (Number c.in-Number.n) c.in-Number.is e in
      absurd (c.in_default.not-Number same.0 same.1),
)

pub same_expr-returns-in_default-node : goal.same_expr-returns-in_default-node
same_expr-returns-in_default-node t c = (
  λ h. cc,
  λ e.
      let same = same_form _ _ (Character c.in-Character.n) c.in-Character.is e in
      absurd (c.in_default-node.not-Character same.0 same.1),
)

pub same_expr-returns-in_default-node-2 : goal.same_expr-returns-in_default-node-2
same_expr-returns-in_default-node-2 t c = (
  λ h. cc,
  λ e.
      let same = same_form _ _ Null c.in-Null.is e in
      absurd (c.in_default-node-2.not-Null same),
)

pub same_expr-returns-in_default-node-3 : goal.same_expr-returns-in_default-node-3
same_expr-returns-in_default-node-3 t c = (
  λ h. cc,
  λ e.
      let same = same_form _ _ Success c.in-Success.is e in
      absurd (c.in_default-node-3.not-Success same),
)

pub same_expr-returns-in_default-node-4 : goal.same_expr-returns-in_default-node-4
same_expr-returns-in_default-node-4 t c = (
  λ h. cc,
  λ e.
      let same = same_form _ _ Error c.in-Error.is e in
      absurd (c.in_default-node-4.not-Error same),
)

pub same_expr-returns-in_default-node-5 : goal.same_expr-returns-in_default-node-5
same_expr-returns-in_default-node-5 t c = (
  λ h. cc,
  λ e.
      let same = same_form _ _ (Variable c.in-Variable.name) c.in-Variable.is e in
      absurd (c.in_default-node-5.not-Variable same.0 same.1),
)

pub same_expr-returns-in_default-node-6 : goal.same_expr-returns-in_default-node-6
same_expr-returns-in_default-node-6 t c = (
  λ h. cc,
  λ e.
      let same = same_form _ _ (Unary c.in-Unary.op c.in-Unary.x) c.in-Unary.is e in
      absurd (c.in_default-node-6.not-Unary same.0 same.1 same.2),
)

pub same_expr-returns-in_default-node-7 : goal.same_expr-returns-in_default-node-7
same_expr-returns-in_default-node-7 t c = (
  λ h. cc,
  λ e.
      let same = same_form _ _ (Step c.in-Step.op c.in-Step.x) c.in-Step.is e in
      absurd (c.in_default-node-7.not-Step same.0 same.1 same.2),
)

pub same_expr-returns-in_default-node-8 : goal.same_expr-returns-in_default-node-8
same_expr-returns-in_default-node-8 t c = (
  λ h. cc,
  λ e.
      let same = same_form _ _ (Cast c.in-Cast.to c.in-Cast.x) c.in-Cast.is e in
      absurd (c.in_default-node-8.not-Cast same.0 same.1 same.2),
)

pub same_expr-returns-in_default-node-9 : goal.same_expr-returns-in_default-node-9
same_expr-returns-in_default-node-9 t c = (
  λ h. cc,
  λ e.
      let same = same_form _ _ (Binary c.in-Binary.op c.in-Binary.x c.in-Binary.y) c.in-Binary.is e in
      absurd (c.in_default-node-9.not-Binary same.0 same.1 same.2 same.3),
)

pub same_expr-returns-in_default-node-10 : goal.same_expr-returns-in_default-node-10
same_expr-returns-in_default-node-10 t c = (
  λ h. cc,
  λ e.
      let same = same_form _ _ (And c.in-And.x c.in-And.y) c.in-And.is e in
      absurd (c.in_default-node-10.not-And same.0 same.1 same.2),
)

pub same_expr-returns-in_default-node-11 : goal.same_expr-returns-in_default-node-11
same_expr-returns-in_default-node-11 t c = (
  λ h. cc,
  λ e.
      let same = same_form _ _ (Or c.in-Or.x c.in-Or.y) c.in-Or.is e in
      absurd (c.in_default-node-11.not-Or same.0 same.1 same.2),
)

pub same_expr-returns-in_default-node-12 : goal.same_expr-returns-in_default-node-12
same_expr-returns-in_default-node-12 t c = (
  λ h. cc,
  λ e.
      let same = same_form _ _ (Choice c.in-Choice.x c.in-Choice.y c.in-Choice.z) c.in-Choice.is e in
      absurd (c.in_default-node-12.not-Choice same.0 same.1 same.2 same.3),
)

pub same_expr-returns-in_default-node-13 : goal.same_expr-returns-in_default-node-13
same_expr-returns-in_default-node-13 t c = (
  λ h. cc,
  λ e.
      let same = same_form _ _ (Assign c.in-Assign.x c.in-Assign.y) c.in-Assign.is e in
      absurd (c.in_default-node-13.not-Assign same.0 same.1 same.2),
)

pub same_expr-returns-in_default-node-14 : goal.same_expr-returns-in_default-node-14
same_expr-returns-in_default-node-14 t c = (
  λ h. cc,
  λ e.
      let same = same_form _ _ (Update c.in-Update.op c.in-Update.x c.in-Update.y) c.in-Update.is e in
      absurd (c.in_default-node-14.not-Update same.0 same.1 same.2 same.3),
)

pub same_expr-returns-in_default-node-15 : goal.same_expr-returns-in_default-node-15
same_expr-returns-in_default-node-15 t c = (
  λ h. cc,
  λ e.
      let same = same_form _ _ (Call c.in-Call.name c.in-Call.x) c.in-Call.is e in
      absurd (c.in_default-node-15.not-Call same.0 same.1 same.2),
)

pub same_expr-returns-in_default-node-16 : goal.same_expr-returns-in_default-node-16
same_expr-returns-in_default-node-16 t c = (
  λ h. cc,
  λ e.
      let same = same_form _ _ (Element c.in-Element.name c.in-Element.x) c.in-Element.is e in
      absurd (c.in_default-node-16.not-Element same.0 same.1 same.2),
)

pub same_expr-returns-in_default-node-17 : goal.same_expr-returns-in_default-node-17
same_expr-returns-in_default-node-17 t c = (
  λ h. cc,
  λ e.
      let same = same_form _ _ (Arrow c.in-Arrow.x c.in-Arrow.name) c.in-Arrow.is e in
      absurd (c.in_default-node-17.not-Arrow same.0 same.1 same.2),
)

pub same_expr-returns-in_default-node-18 : goal.same_expr-returns-in_default-node-18
same_expr-returns-in_default-node-18 t c = (
  λ h. cc,
  λ e.
      let same = same_form _ _ (Dot c.in-Dot.x c.in-Dot.name) c.in-Dot.is e in
      absurd (c.in_default-node-18.not-Dot same.0 same.1 same.2),
)

pub same_expr-returns-in_default-node-19 : goal.same_expr-returns-in_default-node-19
same_expr-returns-in_default-node-19 t c = (
  λ h. cc,
  λ e.
      let same = same_form _ _ (Print c.in-Print.place c.in-Print.f c.in-Print.x) c.in-Print.is e in
      absurd (c.in_default-node-19.not-Print same.0 same.1 same.2 same.3),
)

pub same_expr-returns-in_default-node-20 : goal.same_expr-returns-in_default-node-20
same_expr-returns-in_default-node-20 t c = (
  λ h. cc,
  λ e.
      let same = same_form _ _ (Calloc c.in-Calloc.name) c.in-Calloc.is e in
      absurd (c.in_default-node-20.not-Calloc same.0 same.1),
)

pub same_expr-returns-in_default-node-21 : goal.same_expr-returns-in_default-node-21
same_expr-returns-in_default-node-21 t c = (
  λ h. cc,
  λ e.
      let same = same_form _ _ (Free c.in-Free.x) c.in-Free.is e in
      absurd (c.in_default-node-21.not-Free same.0 same.1),
)

pub same_expr-returns-in_default-node-22 : goal.same_expr-returns-in_default-node-22
same_expr-returns-in_default-node-22 t c = (
  λ h. cc,
  λ e.
      let same = same_form _ _ (Create c.in-Create.x c.in-Create.name c.in-Create.y) c.in-Create.is e in
      absurd (c.in_default-node-22.not-Create same.0 same.1 same.2 same.3),
)

pub same_expr-returns-in_default-node-23 : goal.same_expr-returns-in_default-node-23
same_expr-returns-in_default-node-23 t c = (
  λ h. cc,
  λ e.
      let same = same_form _ _ (Join c.in-Join.x) c.in-Join.is e in
      absurd (c.in_default-node-23.not-Join same.0 same.1),
)

pub same_expr-returns-in_default-node-24 : goal.same_expr-returns-in_default-node-24
same_expr-returns-in_default-node-24 t c = (
  λ h. cc,
  λ e.
      let same = same_form _ _ (JoinInto c.in-JoinInto.x c.in-JoinInto.y) c.in-JoinInto.is e in
      absurd (c.in_default-node-24.not-JoinInto same.0 same.1 same.2),
)

pub same_expr-returns-in_default-node-25 : goal.same_expr-returns-in_default-node-25
same_expr-returns-in_default-node-25 t c = (
  λ h. cc,
  λ e.
      let same = same_form _ _ (InitMutex c.in-InitMutex.name) c.in-InitMutex.is e in
      absurd (c.in_default-node-25.not-InitMutex same.0 same.1),
)

pub same_expr-returns-in_default-node-26 : goal.same_expr-returns-in_default-node-26
same_expr-returns-in_default-node-26 t c = (
  λ h. cc,
  λ e.
      let same = same_form _ _ (Lock c.in-Lock.name) c.in-Lock.is e in
      absurd (c.in_default-node-26.not-Lock same.0 same.1),
)

pub same_expr-returns-in_default-node-27 : goal.same_expr-returns-in_default-node-27
same_expr-returns-in_default-node-27 t c = (
  λ h. cc,
  λ e.
      let same = same_form _ _ (Unlock c.in-Unlock.name) c.in-Unlock.is e in
      absurd (c.in_default-node-27.not-Unlock same.0 same.1),
)

pub same_expr-returns-then-eq-5 : goal.same_expr-returns-then-eq-5
same_expr-returns-then-eq-5 t c =
    let p = of_call _ _ _ c.in-Call.is in
    let q = of_call _ _ _ c.in-Call-node.is in (
      λ h.
          let r = c.same_arguments.ensures.0 h in
          search (rules, p, q, r),
      λ e.
          let k = sym p ∙ e ∙ q in
          let j : bare_arguments (map bare_expr c.in-Call.x) ≡ bare_arguments (map bare_expr c.in-Call-node.y) = cc in
          c.same_arguments.ensures.1 j,
    )

pub same_expr-returns-then-eq-9 : goal.same_expr-returns-then-eq-9
same_expr-returns-then-eq-9 t c =
    let p = of_print _ _ _ _ c.in-Print.is in
    let q = of_print _ _ _ _ c.in-Print-node.is in (
      λ h.
          let r = c.same_arguments-then-eq-9.ensures.0 h in
          search (rules, p, q, r),
      λ e.
          let k = sym p ∙ e ∙ q in
          let j : bare_arguments (map bare_expr c.in-Print.x) ≡ bare_arguments (map bare_expr c.in-Print-node.y) = cc in
          c.same_arguments-then-eq-9.ensures.1 j,
    )

pub same_exprs-returns-then-not-same_expr : goal.same_exprs-returns-then-not-same_expr
same_exprs-returns-then-not-same_expr t c = (
  λ h. cc,
  λ e.
      let below : c.loop-i.i < length c.args.b.now = omega (arith, c.loop-i-test.true, c.if-a-b.false) in
      let k = equal_at bare_expr c.args.a.now c.args.b.now c.loop-i.i _ _ c.loop-i-test.true below c.index-a-i.is c.index-b-i.is e in
      let r = c.same_expr.ensures.1 k in
      search (rules, r),
)

pub same_expr-returns-in-Number-node : goal.same_expr-returns-in-Number-node
same_expr-returns-in-Number-node t c =
    let p = of_number _ _ c.in-Number.is in
    let q = of_number _ _ c.in-Number-node.is in
    search (rules, p, q)

pub same_expr-returns-in-Character-node : goal.same_expr-returns-in-Character-node
same_expr-returns-in-Character-node t c =
    let p = of_character _ _ c.in-Character.is in
    let q = of_character _ _ c.in-Character-node.is in
    search (rules, p, q)

pub same_expr-returns-in-Null-node : goal.same_expr-returns-in-Null-node
same_expr-returns-in-Null-node t c =
    let p = of_null _ c.in-Null.is in
    let q = of_null _ c.in-Null-node.is in
    search (rules, p, q)

pub same_expr-returns-in-Success-node : goal.same_expr-returns-in-Success-node
same_expr-returns-in-Success-node t c =
    let p = of_success _ c.in-Success.is in
    let q = of_success _ c.in-Success-node.is in
    search (rules, p, q)

pub same_expr-returns-in-Error-node : goal.same_expr-returns-in-Error-node
same_expr-returns-in-Error-node t c =
    let p = of_error _ c.in-Error.is in
    let q = of_error _ c.in-Error-node.is in
    search (rules, p, q)

pub same_expr-returns-in-Variable-node : goal.same_expr-returns-in-Variable-node
same_expr-returns-in-Variable-node t c =
    let p = of_variable _ _ c.in-Variable.is in
    let q = of_variable _ _ c.in-Variable-node.is in
    search (rules, p, q)

pub same_expr-returns-then-eq : goal.same_expr-returns-then-eq
same_expr-returns-then-eq t c =
    let p = of_unary _ _ _ c.in-Unary.is in
    let q = of_unary _ _ _ c.in-Unary-node.is in
    search (rules, p, q)

pub same_expr-returns-then-eq-2 : goal.same_expr-returns-then-eq-2
same_expr-returns-then-eq-2 t c =
    let p = of_step _ _ _ c.in-Step.is in
    let q = of_step _ _ _ c.in-Step-node.is in
    search (rules, p, q)

pub same_expr-returns-then-same_type : goal.same_expr-returns-then-same_type
same_expr-returns-then-same_type t c =
    let p = of_cast _ _ _ c.in-Cast.is in
    let q = of_cast _ _ _ c.in-Cast-node.is in
    search (rules, p, q)

pub same_expr-returns-then-same_part : goal.same_expr-returns-then-same_part
same_expr-returns-then-same_part t c =
    let p = of_binary _ _ _ _ c.in-Binary.is in
    let q = of_binary _ _ _ _ c.in-Binary-node.is in
    search (rules, p, q)

pub same_expr-returns-then-same_part-2 : goal.same_expr-returns-then-same_part-2
same_expr-returns-then-same_part-2 t c =
    let p = of_and _ _ _ c.in-And.is in
    let q = of_and _ _ _ c.in-And-node.is in
    search (rules, p, q)

pub same_expr-returns-then-same_part-3 : goal.same_expr-returns-then-same_part-3
same_expr-returns-then-same_part-3 t c =
    let p = of_or _ _ _ c.in-Or.is in
    let q = of_or _ _ _ c.in-Or-node.is in
    search (rules, p, q)

pub same_expr-returns-then-same_part-5 : goal.same_expr-returns-then-same_part-5
same_expr-returns-then-same_part-5 t c =
    let p = of_choice _ _ _ _ c.in-Choice.is in
    let q = of_choice _ _ _ _ c.in-Choice-node.is in
    search (rules, p, q)

pub same_expr-returns-then-same_part-6 : goal.same_expr-returns-then-same_part-6
same_expr-returns-then-same_part-6 t c =
    let p = of_assign _ _ _ c.in-Assign.is in
    let q = of_assign _ _ _ c.in-Assign-node.is in
    search (rules, p, q)

pub same_expr-returns-then-same_part-7 : goal.same_expr-returns-then-same_part-7
same_expr-returns-then-same_part-7 t c =
    let p = of_update _ _ _ _ c.in-Update.is in
    let q = of_update _ _ _ _ c.in-Update-node.is in
    search (rules, p, q)

pub same_expr-returns-then-eq-6 : goal.same_expr-returns-then-eq-6
same_expr-returns-then-eq-6 t c =
    let p = of_element _ _ _ c.in-Element.is in
    let q = of_element _ _ _ c.in-Element-node.is in
    search (rules, p, q)

pub same_expr-returns-then-eq-7 : goal.same_expr-returns-then-eq-7
same_expr-returns-then-eq-7 t c =
    let p = of_arrow _ _ _ c.in-Arrow.is in
    let q = of_arrow _ _ _ c.in-Arrow-node.is in
    search (rules, p, q)

pub same_expr-returns-then-eq-8 : goal.same_expr-returns-then-eq-8
same_expr-returns-then-eq-8 t c =
    let p = of_dot _ _ _ c.in-Dot.is in
    let q = of_dot _ _ _ c.in-Dot-node.is in
    search (rules, p, q)

pub same_expr-returns-in-Calloc-node : goal.same_expr-returns-in-Calloc-node
same_expr-returns-in-Calloc-node t c =
    let p = of_calloc _ _ c.in-Calloc.is in
    let q = of_calloc _ _ c.in-Calloc-node.is in
    search (rules, p, q)

pub same_expr-returns-in-Free-node : goal.same_expr-returns-in-Free-node
same_expr-returns-in-Free-node t c =
    let p = of_free _ _ c.in-Free.is in
    let q = of_free _ _ c.in-Free-node.is in
    search (rules, p, q)

pub same_expr-returns-then-same_part-8 : goal.same_expr-returns-then-same_part-8
same_expr-returns-then-same_part-8 t c =
    let p = of_create _ _ _ _ c.in-Create.is in
    let q = of_create _ _ _ _ c.in-Create-node.is in
    search (rules, p, q)

pub same_expr-returns-in-Join-node : goal.same_expr-returns-in-Join-node
same_expr-returns-in-Join-node t c =
    let p = of_join _ _ c.in-Join.is in
    let q = of_join _ _ c.in-Join-node.is in
    search (rules, p, q)

pub same_expr-returns-then-same_part-9 : goal.same_expr-returns-then-same_part-9
same_expr-returns-then-same_part-9 t c =
    let p = of_join_into _ _ _ c.in-JoinInto.is in
    let q = of_join_into _ _ _ c.in-JoinInto-node.is in
    search (rules, p, q)

pub same_expr-returns-in-InitMutex-node : goal.same_expr-returns-in-InitMutex-node
same_expr-returns-in-InitMutex-node t c =
    let p = of_init_mutex _ _ c.in-InitMutex.is in
    let q = of_init_mutex _ _ c.in-InitMutex-node.is in
    search (rules, p, q)

pub same_expr-returns-in-Lock-node : goal.same_expr-returns-in-Lock-node
same_expr-returns-in-Lock-node t c =
    let p = of_lock _ _ c.in-Lock.is in
    let q = of_lock _ _ c.in-Lock-node.is in
    search (rules, p, q)

pub same_expr-returns-in-Unlock-node : goal.same_expr-returns-in-Unlock-node
same_expr-returns-in-Unlock-node t c =
    let p = of_unlock _ _ c.in-Unlock.is in
    let q = of_unlock _ _ c.in-Unlock-node.is in
    search (rules, p, q)
