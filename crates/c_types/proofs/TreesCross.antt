-- A checked text may be sent to a thread and shared by threads (`Send` and `Sync`). A type that leads to an expression or a
-- statement gets no such proof by itself: where one crosses, the answer cites these.
use denote.RattleType.{RattleType}
use denote.Enum.Declared.{shape}
use denote.Param.Send.{IsSend, IsSync, sendable, recorded_send, recorded_sync, enum_send, enum_sync}
use Rattle.c_tree.specs.contracts.expr.Expr as Expr
use Rattle.c_tree.specs.contracts.stmt.Declaration as Declaration
use Rattle.c_tree.specs.contracts.stmt.StmtNode as StmtNode
use Rattle.c_tree.specs.contracts.stmt.Stmt as Stmt
use Rattle.c_tree.specs.contracts.def.Function as Function
use Rattle.c_tree.specs.contracts.def.Array as Array
use Rattle.c_tree.specs.contracts.def.FieldValue as FieldValue
use Rattle.c_tree.specs.contracts.def.StructTransform as StructTransform
use Rattle.c_tree.specs.contracts.def.DefKind as DefKind
use Rattle.c_tree.specs.contracts.def.Def as Def
use Rattle.c_tree.specs.contracts.def.Program as Program
use Rattle.c_types.specs.contracts.program.Typed as Typed
use Rattle.c_tree.proofs.expr.Expr.TheLaws.TheKnot.{send-Expr, sync-Expr}
use Rattle.c_tree.proofs.expr.ExprNode.TheSendSync as node
use Rattle.c_tree.proofs.stmt.Stmt.TheLaws.TheKnot.{send-Stmt, sync-Stmt}
use Rattle.c_tree.proofs.name.Name.TheSendSync as name
use Rattle.c_tree.proofs.name.CType.TheSendSync as type
use Rattle.c_tree.proofs.def.Binding.TheSendSync as binding
use Rattle.c_tree.proofs.def.Length.TheSendSync as length
use Rattle.c_tree.proofs.def.Prototype.TheSendSync as prototype
use Rattle.dsu_io.proofs.boxed.Boxed.TheSendSync as boxed
use Rattle.dsu_io.proofs.list.List.TheSendSync as list

Expr-send : IsSend (Expr.the_field).row
Expr-send = search (sendable, send-Expr, node.the_send)

Declaration-send : IsSend (Declaration.the_field).row
Declaration-send = search (sendable, Expr-send, name.the_field_send, type.the_field_send) depth 20

StmtNode-send : (S : RattleType) → IsSend S → IsSend (StmtNode.the_row S)
StmtNode-send S s =
    let e : IsSend (Expr.the_field).row = Expr-send in
    let b = boxed.the_send S s in
    let l = list.the_send S s in
    recorded_send _ _ _ ((StmtNode.the_type S).to_one)
    (enum_send (shape (StmtNode.the_type S)) (
      (l, tt),
      (
        tt,
        (
          (e, tt),
          (
            (Declaration-send, tt),
            (
              (e, (b, tt)),
              (
                (e, (b, (b, tt))),
                (
                  (e, (b, tt)),
                  (
                    (b, (e, tt)),
                    (
                      (l, (search (sendable, e), (search (sendable, e), (b, tt)))),
                      (tt, (tt, (tt, ((e, tt), (tt, ((l, (search sendable, tt)), tt)))))),
                    ),
                  ),
                ),
              ),
            ),
          ),
        ),
      ),
    ))

Stmt-send : IsSend (Stmt.the_field).row
Stmt-send = search (sendable, send-Stmt, StmtNode-send)

Function-send : IsSend (Function.the_field).row
Function-send = search (sendable, Stmt-send, list.the_send, binding.the_send, name.the_field_send, type.the_send) depth 20

Array-send : IsSend (Array.the_field).row
Array-send = search (sendable, Expr-send, list.the_send, length.the_field_send, name.the_field_send, type.the_field_send) depth 20

FieldValue-send : IsSend FieldValue.the_row
FieldValue-send = search (sendable, Expr-send, name.the_field_send) depth 20

StructTransform-send : IsSend (StructTransform.the_field).row
StructTransform-send = search (sendable, FieldValue-send, list.the_send, name.the_field_send) depth 20

DefKind-send : IsSend (DefKind.the_field).row
DefKind-send = search (sendable, Expr-send, Declaration-send, Function-send, Array-send, StructTransform-send, binding.the_send, list.the_send, name.the_field_send, prototype.the_field_send) depth 20

Def-send : IsSend Def.the_row
Def-send = search (sendable, DefKind-send) depth 20

Program-send : IsSend (Program.the_field).row
Program-send = search (sendable, Def-send, list.the_send) depth 20

pub Typed-send : IsSend Typed.the_row
Typed-send = search (sendable, Program-send) depth 20

Expr-sync : IsSync (Expr.the_field).row
Expr-sync = search (sendable, sync-Expr, node.the_sync)

Declaration-sync : IsSync (Declaration.the_field).row
Declaration-sync = search (sendable, Expr-sync, name.the_field_sync, type.the_field_sync) depth 20

StmtNode-sync : (S : RattleType) → IsSync S → IsSync (StmtNode.the_row S)
StmtNode-sync S s =
    let e : IsSync (Expr.the_field).row = Expr-sync in
    let b = boxed.the_sync S s in
    let l = list.the_sync S s in
    recorded_sync _ _ _ ((StmtNode.the_type S).to_one)
    (enum_sync (shape (StmtNode.the_type S)) (
      (l, tt),
      (
        tt,
        (
          (e, tt),
          (
            (Declaration-sync, tt),
            (
              (e, (b, tt)),
              (
                (e, (b, (b, tt))),
                (
                  (e, (b, tt)),
                  (
                    (b, (e, tt)),
                    (
                      (l, (search (sendable, e), (search (sendable, e), (b, tt)))),
                      (tt, (tt, (tt, ((e, tt), (tt, ((l, (search sendable, tt)), tt)))))),
                    ),
                  ),
                ),
              ),
            ),
          ),
        ),
      ),
    ))

Stmt-sync : IsSync (Stmt.the_field).row
Stmt-sync = search (sendable, sync-Stmt, StmtNode-sync)

Function-sync : IsSync (Function.the_field).row
Function-sync = search (sendable, Stmt-sync, list.the_sync, binding.the_sync, name.the_field_sync, type.the_sync) depth 20

Array-sync : IsSync (Array.the_field).row
Array-sync = search (sendable, Expr-sync, list.the_sync, length.the_field_sync, name.the_field_sync, type.the_field_sync) depth 20

FieldValue-sync : IsSync FieldValue.the_row
FieldValue-sync = search (sendable, Expr-sync, name.the_field_sync) depth 20

StructTransform-sync : IsSync (StructTransform.the_field).row
StructTransform-sync = search (sendable, FieldValue-sync, list.the_sync, name.the_field_sync) depth 20

DefKind-sync : IsSync (DefKind.the_field).row
DefKind-sync = search (sendable, Expr-sync, Declaration-sync, Function-sync, Array-sync, StructTransform-sync, binding.the_sync, list.the_sync, name.the_field_sync, prototype.the_field_sync) depth 20

Def-sync : IsSync Def.the_row
Def-sync = search (sendable, DefKind-sync) depth 20

Program-sync : IsSync (Program.the_field).row
Program-sync = search (sendable, Def-sync, list.the_sync) depth 20

pub Typed-sync : IsSync Typed.the_row
Typed-sync = search (sendable, Program-sync) depth 20
