-- Expressions whose values are dropped.
use Rattle.std.proofs.Common.{◌≡◌, ℕ, ◌+◌, List, [], ◌∷◌, ◌++◌, refl, sym, ap, ◌∙◌, append_assoc, append-nil, add-zero}
use Rattle.c_ints.specs.declared.operator.BinOp.{BinOp}
use Rattle.c_tree.specs.BareExpr.{Bytes, BareType}
use Rattle.c_semantics.specs.Points.{size, size_read}
use Rattle.c_semantics.specs.Resolved.{Expression}
use Rattle.c_semantics.specs.Resolved as tree
use Rattle.c_semantics.specs.Texts.{Definitions, int}
use Rattle.typed_trees.specs.ValueTypes.{Environment}
use Rattle.typed_trees.specs.ExpressionTypes.{type_of}
use Rattle.resolved_tree.specs.declared.node.NodeId.{NodeId}
use Rattle.resolved_tree.specs.declared.node.ValueType.{ValueType}
use Rattle.resolved_tree.specs.declared.node.Place.{Place}
use Rattle.resolved_tree.specs.declared.node.Place.TheVariants.{Local, Global, Element, Field}
use Rattle.resolved_tree.specs.declared.words.Word.{Word}
use Rattle.resolved_tree.specs.declared.node.ExpressionNode.{ExpressionNode}
use Rattle.resolved_tree.specs.declared.node.ExpressionNode.TheVariants.{Constant, Read, Unary, Binary, Convert, And, Or, Choice, Assign, Update, Postfix, Call, Print, New, Free, Create, Join, JoinInto, InitMutex, Lock, Unlock}
use Rattle.resolved_tree.specs.Nodes.{Table, expression_at, expression_of, place_of}
use Rattle.resolved_tree.specs.Nodes as nodes
use Rattle.bytecode.specs.declared.instr.Instr.{Instr}
use Rattle.bytecode.specs.declared.kind.ValueKind.{ValueKind}
use Rattle.bytecode.specs.Instructions.{Instruction, Load, Store, Drop}
use Rattle.tree_code.specs.Code.{Code, kind_of_type, slot, int_code, combination, conversion, result_of, value, effect, getting, setting_only, copying}
use Rattle.expr_gen.specs.declared.ending.Ready.{Ready}
use Rattle.expr_gen.specs.Endings.{stepping_variable}
use Rattle.expr_gen.specs.Kinds.{int_kind, computing}
use Rattle.expr_gen.specs.Operands.{part_of, operand_code, operand_size}
use Rattle.expr_gen.specs.Walk.{IsReady, beginning, ending_at}
use Rattle.expr_gen.specs.Scope.{Adds}
use Rattle.expr_gen.proofs.Adding.{adds_as, adds_more}
use Rattle.expr_gen.proofs.KindLaws.{computations}
use Rattle.expr_gen.proofs.Parts.{with_parts}

-- an assignment
assigned : (t : Table) (look : Definitions) (env : Environment) (q : Place) (e : NodeId) (n : ℕ)
    → beginning t look env (Assign q e) n ++ setting_only env (place_of t q) (ending_at t (Assign q e) n)
    ≡ effect look env (expression_of t (Assign q e)) n
assigned t look env q e n =
    let place = place_of t q in
    let k = operand_size t (part_of q) in
    let code = operand_code t look env (part_of q) n in
    let as_assign : Code → ℕ → Code = λ c k.
    c ++ value look env (expression_at t e) (n + k) ++ setting_only env place (n + k + size (expression_at t e)) in
    let shape : ((code ++ []) ++ value look env (expression_at t e) (n + k + 0)) ++ setting_only env place (n + k + 0 + size (expression_at t e))
    ≡ as_assign code k = simp (append-nil, add-zero) in
    shape ∙ with_parts t look env q n as_assign

pub adds_assign : {t : Table} {look : Definitions} {env : Environment} {u v w : List Instr} {r : Ready} {x : Expression}
    {q : Place} {e : NodeId} (n : ℕ) → expression_of t (Assign q e) ≡ x → IsReady t look env (Assign q e) n u v r
    → Adds t v w (setting_only env (place_of t q) r.at) → Adds t u w (effect look env x n)
adds_assign {t} {look} {env} {u} {v} {w} {r} {x} {q} {e} n is_x there last =
    adds_as (assigned t look env q e n ∙ ap (λ y. effect look env y n) is_x)
    (adds_more there.code (adds_as (ap (setting_only env (place_of t q)) there.at) last))

-- a compound assignment
updated : (t : Table) (look : Definitions) (env : Environment) (type : ValueType) (op : BinOp) (q : Place) (e : NodeId) (n : ℕ)
    → beginning t look env (Update type op q e) n
    ++ (computing op (kind_of_type (nodes.type_of t type)) (kind_of_type (type_of look env (expression_at t e)))
    ++ setting_only env (place_of t q) (ending_at t (Update type op q e) n))
    ≡ effect look env (expression_of t (Update type op q e)) n
updated t look env type op q e n =
    let place = place_of t q in
    let k = operand_size t (part_of q) in
    let code = operand_code t look env (part_of q) n in
    let to = nodes.type_of t type in
    let from = type_of look env (expression_at t e) in
    let inner : Code → ℕ → Code → Code = λ c k x.
    c ++ copying place ++ getting env place (n + k) ∷ value look env (expression_at t e) (n + k + size_read place)
    ++ x ++ setting_only env place (n + k + size_read place + size (expression_at t e)) in
    let changed = computing op (kind_of_type to) (kind_of_type from) in
    let shape : (code ++ (copying place ++ getting env place (n + k) ∷ []) ++ value look env (expression_at t e) (n + k + size_read place))
    ++ (changed ++ setting_only env place (n + k + size_read place + size (expression_at t e)))
    ≡ inner code k changed = simp append_assoc in
    shape ∙ ap (inner code k) (sym (computations op to from))
    ∙ with_parts t look env q n (λ c k. inner c k (combination op to from ∷ conversion to (result_of op to from)))

pub adds_update : {t : Table} {look : Definitions} {env : Environment} {u v w : List Instr} {r : Ready} {x : Expression}
    {type : ValueType} {op : BinOp} {q : Place} {e : NodeId} (n : ℕ) → expression_of t (Update type op q e) ≡ x
    → IsReady t look env (Update type op q e) n u v r
    → Adds t v w (computing op (kind_of_type (nodes.type_of t type)) r.second ++ setting_only env (place_of t q) r.at)
    → Adds t u w (effect look env x n)
adds_update {t} {look} {env} {u} {v} {w} {r} {x} {type} {op} {q} {e} n is_x there last =
    let to = kind_of_type (nodes.type_of t type) in
    let ends = ap (λ k. computing op to k ++ setting_only env (place_of t q) r.at) there.second
    ∙ ap (λ m. computing op to (kind_of_type (type_of look env (expression_at t e))) ++ setting_only env (place_of t q) m) there.at in
    adds_as (updated t look env type op q e n ∙ ap (λ y. effect look env y n) is_x) (adds_more there.code (adds_as ends last))

-- a postfix step of a variable
pub stepped : (look : Definitions) (env : Environment) (type : BareType) (op : BinOp) (name : Bytes) (n : ℕ)
    → stepping_variable env type op name ≡ effect look env (tree.Postfix type op (tree.Local name)) n
stepped look env type op name n =
    ap (λ c. (Load (slot env name) ∷ int_code 1 ∷ c) ++ Store (slot env name) ∷ []) (sym (computations op type int))

pub adds_stepping_variable : {t : Table} {u v w x : List Instr} {one : Instruction} {kind : ValueKind} {m : ℕ}
    (env : Environment) (type : BareType) (op : BinOp) (name : Bytes) → m ≡ slot env name → one ≡ int_code 1
    → Adds t u v (Load m ∷ one ∷ []) → kind ≡ kind_of_type type → Adds t v w (computing op kind int_kind) → Adds t w x (Store m ∷ [])
    → Adds t u x (stepping_variable env type op name)
adds_stepping_variable {t} {u} {v} {w} {x} {one} {kind} {m} env type op name is_m is_one first is_kind second third =
    adds_more
    (adds_more (adds_as (ap (λ i. Load i ∷ one ∷ []) is_m ∙ ap (λ i. Load (slot env name) ∷ i ∷ []) is_one) first)
    (adds_as (ap (λ k. computing op k int_kind) is_kind) second))
    (adds_as (ap (λ i. Store i ∷ []) is_m) third)

-- one of another place, and another expression
pub stepped_elsewhere : (t : Table) (look : Definitions) (env : Environment) (type : BareType) (op : BinOp) (q : Place) (n : ℕ)
    → ((name : Word) → q ≡ Local name → ⊥)
    → value look env (tree.Postfix type op (place_of t q)) n ++ Drop ∷ [] ≡ effect look env (tree.Postfix type op (place_of t q)) n
stepped_elsewhere t look env type op (Local name) n other = absurd (other name refl)
stepped_elsewhere t look env type op (Global name) n other = refl
stepped_elsewhere t look env type op (Element name index) n other = refl
stepped_elsewhere t look env type op (Field tag handle name) n other = refl

pub otherwise : (t : Table) (look : Definitions) (env : Environment) (node : ExpressionNode) (n : ℕ)
    → ((q : Place) (e : NodeId) → node ≡ Assign q e → ⊥)
    → ((type : ValueType) (op : BinOp) (q : Place) (e : NodeId) → node ≡ Update type op q e → ⊥)
    → ((type : ValueType) (op : BinOp) (q : Place) → node ≡ Postfix type op q → ⊥)
    → value look env (expression_of t node) n ++ Drop ∷ [] ≡ effect look env (expression_of t node) n
otherwise t look env (Constant v) n a b c = refl
otherwise t look env (Read q) n a b c = refl
otherwise t look env (Unary op x) n a b c = refl
otherwise t look env (Binary op x y) n a b c = refl
otherwise t look env (Convert type x) n a b c = refl
otherwise t look env (And x y) n a b c = refl
otherwise t look env (Or x y) n a b c = refl
otherwise t look env (Choice x y z) n a b c = refl
otherwise t look env (Assign q e) n a b c = absurd (a q e refl)
otherwise t look env (Update type op q e) n a b c = absurd (b type op q e refl)
otherwise t look env (Postfix type op q) n a b c = absurd (c type op q refl)
otherwise t look env (Call name es) n a b c = refl
otherwise t look env (Print format es) n a b c = refl
otherwise t look env (New tag) n a b c = refl
otherwise t look env (Free tag e) n a b c = refl
otherwise t look env (Create q name e) n a b c = refl
otherwise t look env (Join e) n a b c = refl
otherwise t look env (JoinInto e q) n a b c = refl
otherwise t look env (InitMutex name) n a b c = refl
otherwise t look env (Lock name) n a b c = refl
otherwise t look env (Unlock name) n a b c = refl
