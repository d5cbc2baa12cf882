-- The code of an expression is that of its operands and what the expression does after them; each operand weighs less.
use Rattle.std.proofs.Common.{◌≡◌, ℕ, ◌+◌, ◌<◌, [], ◌∷◌, ◌++◌, Option, Some, None, refl, sym, ap, ◌∙◌, arith, append_assoc, append-nil, add-zero}
use Rattle.c_ints.specs.declared.int.Int.{Int}
use Rattle.c_tree.specs.BareExpr.{BareType}
use Rattle.c_semantics.specs.Texts.{Definitions, int}
use Rattle.c_semantics.specs.Points.{size, size_parts, size_read}
use Rattle.c_semantics.specs.Stops as stop
use Rattle.typed_trees.specs.ValueTypes.{Environment}
use Rattle.typed_trees.specs.ExpressionTypes.{type_of}
use Rattle.resolved_tree.specs.declared.node.NodeId.{NodeId}
use Rattle.resolved_tree.specs.declared.node.Place.TheVariants.{Local, Global, Element, Field}
use Rattle.resolved_tree.specs.declared.node.ExpressionNode.{ExpressionNode}
use Rattle.resolved_tree.specs.declared.node.ExpressionNode.TheVariants.{Constant, Read, Unary, Binary, Convert, And, Or, Choice, Assign, Update, Postfix, Call, Print, New, Free, Create, Join, JoinInto, InitMutex, Lock, Unlock}
use Rattle.resolved_tree.specs.declared.node.Place.{Place as PlaceNode}
use Rattle.resolved_tree.specs.Nodes.{Table, word, expression_at, expression_of, place_of}
use Rattle.resolved_tree.specs.Nodes as nodes
use Rattle.local_evaluation.specs.Weights.{of_expression}
use Rattle.bytecode.specs.Instructions.{Halt, IsZero}
use Rattle.tree_code.specs.Code.{Code, kind_of_type, int_code, constant_of, converted_code, conversion, combination, result_of, value, parts, getting, setting, setting_only, copying, tucking, swapping}
use Rattle.expr_gen.specs.Kinds.{int_kind, becoming, computing, combining, applying}
use Rattle.expr_gen.specs.Operands.{operands_of, part_of, operand_code, operand_size, operand_kind, operand_weight, unless_constant}
use Rattle.expr_gen.specs.Endings.{ending, stepping, creating, joining, left_kind}
use Rattle.expr_gen.specs.Walk.{beginning, ending_at}
use Rattle.expr_gen.proofs.KindLaws.{constants, conversions, applications, combinations, results, unary_results, computations}

-- an expression that evaluates its parts without a test
pub record IsPlain (node : ExpressionNode) : Type 0 where
  pub no_and : (a b : NodeId) → node ≡ And a b → ⊥
  pub no_or : (a b : NodeId) → node ≡ Or a b → ⊥
  pub no_choice : (c a b : NodeId) → node ≡ Choice c a b → ⊥

-- a conversion, by whether it is that of a constant
converted : (t : Table) (look : Definitions) (env : Environment) (to : BareType) (a : NodeId) (n : ℕ) (o : Option Int)
    → converted_code to (type_of look env (expression_at t a)) o (value look env (expression_at t a) n)
    ≡ operand_code t look env (unless_constant o a) n ++ becoming (kind_of_type to) (operand_kind t look env (unless_constant o a)) o
converted t look env to a n (Some v) = ap (λ i. i ∷ []) (constants to v)
converted t look env to a n None = ap (λ c. value look env (expression_at t a) n ++ c) (conversions to (type_of look env (expression_at t a)))

-- the part of a place
parts_are : (t : Table) (look : Definitions) (env : Environment) (q : PlaceNode) (n : ℕ)
    → operand_code t look env (part_of q) n ≡ parts look env (place_of t q) n
parts_are t look env (Local x) n = refl
parts_are t look env (Global x) n = refl
parts_are t look env (Element x index) n = refl
parts_are t look env (Field tag handle x) n = refl

part_size : (t : Table) (q : PlaceNode) → operand_size t (part_of q) ≡ size_parts (place_of t q)
part_size t (Local x) = refl
part_size t (Global x) = refl
part_size t (Element x index) = refl
part_size t (Field tag handle x) = refl

pub with_parts : (t : Table) (look : Definitions) (env : Environment) (q : PlaceNode) (n : ℕ) (f : Code → ℕ → Code)
    → f (operand_code t look env (part_of q) n) (operand_size t (part_of q))
    ≡ f (parts look env (place_of t q) n) (size_parts (place_of t q))
with_parts t look env q n f =
    ap (λ c. f c (operand_size t (part_of q))) (parts_are t look env q n) ∙ ap (f (parts look env (place_of t q) n)) (part_size t q)

-- the code
pub whole : (t : Table) (look : Definitions) (env : Environment) (node : ExpressionNode) (n : ℕ) → IsPlain node
    → beginning t look env node n ++ ending env (expression_of t node) (operand_kind t look env (operands_of t node).first)
    (operand_kind t look env (operands_of t node).second) (ending_at t node n)
    ≡ value look env (expression_of t node) n
whole t look env (Constant v) n p = refl
whole t look env (Read q) n p =
    let place = place_of t q in
    let as_read : Code → ℕ → Code = λ c k. c ++ getting env place (n + k) ∷ [] in
    let shape : ((operand_code t look env (part_of q) n ++ []) ++ []) ++ getting env place (n + operand_size t (part_of q) + 0 + 0) ∷ []
    ≡ as_read (operand_code t look env (part_of q) n) (operand_size t (part_of q)) = simp (append-nil, add-zero) in
    shape ∙ with_parts t look env q n as_read
whole t look env (Unary op a) n p =
    let code = value look env (expression_at t a) n in
    let type = type_of look env (expression_at t a) in
    let shape : ((code ++ []) ++ []) ++ applying op (kind_of_type type) ≡ code ++ applying op (kind_of_type type) = simp append-nil in
    shape ∙ ap (λ c. code ++ c) (sym (applications op type))
whole t look env (Binary op a b) n p =
    let m = n + size (expression_at t a) in
    let first = value look env (expression_at t a) n in
    let x = type_of look env (expression_at t a) in
    let y = type_of look env (expression_at t b) in
    let shape : ((first ++ []) ++ value look env (expression_at t b) (m + 0)) ++ combining op (kind_of_type x) (kind_of_type y) ∷ []
    ≡ (first ++ value look env (expression_at t b) m) ++ combining op (kind_of_type x) (kind_of_type y) ∷ [] = simp (append-nil, add-zero) in
    shape ∙ ap (λ i. (first ++ value look env (expression_at t b) m) ++ i ∷ []) (sym (combinations op x y))
whole t look env (Convert type a) n p =
    let o = constant_of (expression_at t a) in
    let code = operand_code t look env (unless_constant o a) n in
    let last = becoming (kind_of_type (nodes.type_of t type)) (operand_kind t look env (unless_constant o a)) o in
    let shape : ((code ++ []) ++ []) ++ last ≡ code ++ last = simp append-nil in
    shape ∙ sym (converted t look env (nodes.type_of t type) a n o)
whole t look env (And a b) n p = absurd (p.no_and a b refl)
whole t look env (Or a b) n p = absurd (p.no_or a b refl)
whole t look env (Choice c a b) n p = absurd (p.no_choice c a b refl)
whole t look env (Assign q e) n p =
    let place = place_of t q in
    let k = operand_size t (part_of q) in
    let code = operand_code t look env (part_of q) n in
    let as_assign : Code → ℕ → Code = λ c k.
    c ++ value look env (expression_at t e) (n + k) ++ setting env place (n + k + size (expression_at t e)) in
    let shape : ((code ++ []) ++ value look env (expression_at t e) (n + k + 0)) ++ setting env place (n + k + 0 + size (expression_at t e))
    ≡ as_assign code k = simp (append-nil, add-zero) in
    shape ∙ with_parts t look env q n as_assign
whole t look env (Update type op q e) n p =
    let place = place_of t q in
    let k = operand_size t (part_of q) in
    let code = operand_code t look env (part_of q) n in
    let to = nodes.type_of t type in
    let from = type_of look env (expression_at t e) in
    let inner : Code → ℕ → Code → Code = λ c k x.
    c ++ copying place ++ getting env place (n + k) ∷ value look env (expression_at t e) (n + k + size_read place)
    ++ x ++ setting env place (n + k + size_read place + size (expression_at t e)) in
    let changed = computing op (kind_of_type to) (kind_of_type from) in
    let shape : (code ++ (copying place ++ getting env place (n + k) ∷ []) ++ value look env (expression_at t e) (n + k + size_read place))
    ++ (changed ++ setting env place (n + k + size_read place + size (expression_at t e)))
    ≡ inner code k changed = simp append_assoc in
    shape ∙ ap (inner code k) (sym (computations op to from))
    ∙ with_parts t look env q n (λ c k. inner c k (combination op to from ∷ conversion to (result_of op to from)))
whole t look env (Postfix type op q) n p =
    let place = place_of t q in
    let k = operand_size t (part_of q) in
    let code = operand_code t look env (part_of q) n in
    let to = nodes.type_of t type in
    let inner : Code → ℕ → Code → Code = λ c k x.
    c ++ copying place ++ getting env place (n + k) ∷ tucking place ∷ int_code 1 ∷ x ++ setting_only env place (n + k + size_read place) in
    let changed = computing op (kind_of_type to) int_kind in
    let shape : ((code ++ []) ++ []) ++ stepping env to op place (n + k + 0 + 0) ≡ inner code k changed = simp (append_assoc, append-nil, add-zero) in
    shape ∙ ap (inner code k) (sym (computations op to int))
    ∙ with_parts t look env q n (λ c k. inner c k (combination op to int ∷ conversion to (result_of op to int)))
whole t look env (Call name es) n p = simp (append-nil, add-zero)
whole t look env (Print format es) n p = simp (append-nil, add-zero)
whole t look env (New tag) n p = simp add-zero
whole t look env (Free tag e) n p = simp (append-nil, add-zero)
whole t look env (Create q name e) n p =
    let place = place_of t q in
    let k = operand_size t (part_of q) in
    let code = operand_code t look env (part_of q) n in
    let created : Code → ℕ → Code = λ c k.
    c ++ value look env (expression_at t e) (n + k) ++ Halt (stop.Spawn (word t name)) (n + k + size (expression_at t e))
    ∷ setting env place (n + k + size (expression_at t e) + 1) ++ IsZero ∷ [] in
    let shape : ((code ++ []) ++ value look env (expression_at t e) (n + k + 0))
    ++ creating env place (word t name) (n + k + 0 + size (expression_at t e))
    ≡ created code k = simp (append_assoc, append-nil, add-zero) in
    shape ∙ with_parts t look env q n created
whole t look env (Join e) n p = simp (append-nil, add-zero)
whole t look env (JoinInto e q) n p =
    let place = place_of t q in
    let m = n + size (expression_at t e) in
    let k = operand_size t (part_of q) in
    let joined : Code → ℕ → Code = λ c k.
    value look env (expression_at t e) n ++ c ++ swapping place ++ Halt stop.Join (m + k) ∷ setting_only env place (m + k + 1) ++ int_code 0 ∷ [] in
    let shape : ((value look env (expression_at t e) n ++ []) ++ operand_code t look env (part_of q) (m + 0))
    ++ joining env place (m + 0 + k) ≡ joined (operand_code t look env (part_of q) m) k = simp (append_assoc, append-nil, add-zero) in
    shape ∙ with_parts t look env q m joined
whole t look env (InitMutex name) n p = simp add-zero
whole t look env (Lock name) n p = simp add-zero
whole t look env (Unlock name) n p = simp add-zero

-- the kind of its value
pub left : (t : Table) (look : Definitions) (env : Environment) (node : ExpressionNode) → IsPlain node
    → left_kind look env (expression_of t node) (operand_kind t look env (operands_of t node).first)
    (operand_kind t look env (operands_of t node).second)
    ≡ kind_of_type (type_of look env (expression_of t node))
left t look env (Constant v) p = refl
left t look env (Read q) p = refl
left t look env (Unary op a) p = sym (unary_results op (type_of look env (expression_at t a)))
left t look env (Binary op a b) p = sym (results op (type_of look env (expression_at t a)) (type_of look env (expression_at t b)))
left t look env (Convert type a) p = refl
left t look env (And a b) p = refl
left t look env (Or a b) p = refl
left t look env (Choice c a b) p = absurd (p.no_choice c a b refl)
left t look env (Assign q e) p = refl
left t look env (Update type op q e) p = refl
left t look env (Postfix type op q) p = refl
left t look env (Call name es) p = refl
left t look env (Print format es) p = refl
left t look env (New tag) p = refl
left t look env (Free tag e) p = refl
left t look env (Create q name e) p = refl
left t look env (Join e) p = refl
left t look env (JoinInto e q) p = refl
left t look env (InitMutex name) p = refl
left t look env (Lock name) p = refl
left t look env (Unlock name) p = refl

-- the weights of its operands
light : (t : Table) (a : NodeId) (o : Option Int) → operand_weight t (unless_constant o a) < of_expression (expression_at t a) + 1
light t a (Some v) = omega arith
light t a None = omega arith

pub operands_light : (t : Table) (node : ExpressionNode)
    → operand_weight t (operands_of t node).first + operand_weight t (operands_of t node).second + 1 < of_expression (expression_of t node)
operands_light t (Constant v) = omega arith
operands_light t (Read (Local x)) = omega arith
operands_light t (Read (Global x)) = omega arith
operands_light t (Read (Element x index)) = omega arith
operands_light t (Read (Field tag handle x)) = omega arith
operands_light t (Unary op a) = omega arith
operands_light t (Binary op a b) = omega arith
operands_light t (Convert type a) = let h = light t a (constant_of (expression_at t a)) in omega arith
operands_light t (And a b) = omega arith
operands_light t (Or a b) = omega arith
operands_light t (Choice c a b) = omega arith
operands_light t (Assign (Local x) e) = omega arith
operands_light t (Assign (Global x) e) = omega arith
operands_light t (Assign (Element x index) e) = omega arith
operands_light t (Assign (Field tag handle x) e) = omega arith
operands_light t (Update type op (Local x) e) = omega arith
operands_light t (Update type op (Global x) e) = omega arith
operands_light t (Update type op (Element x index) e) = omega arith
operands_light t (Update type op (Field tag handle x) e) = omega arith
operands_light t (Postfix type op (Local x)) = omega arith
operands_light t (Postfix type op (Global x)) = omega arith
operands_light t (Postfix type op (Element x index)) = omega arith
operands_light t (Postfix type op (Field tag handle x)) = omega arith
operands_light t (Call name es) = omega arith
operands_light t (Print format es) = omega arith
operands_light t (New tag) = omega arith
operands_light t (Free tag e) = omega arith
operands_light t (Create (Local x) name e) = omega arith
operands_light t (Create (Global x) name e) = omega arith
operands_light t (Create (Element x index) name e) = omega arith
operands_light t (Create (Field tag handle x) name e) = omega arith
operands_light t (Join e) = omega arith
operands_light t (JoinInto e (Local x)) = omega arith
operands_light t (JoinInto e (Global x)) = omega arith
operands_light t (JoinInto e (Element x index)) = omega arith
operands_light t (JoinInto e (Field tag handle x)) = omega arith
operands_light t (InitMutex name) = omega arith
operands_light t (Lock name) = omega arith
operands_light t (Unlock name) = omega arith
