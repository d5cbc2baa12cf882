-- The steps of an expression are its parts in order of evaluation, and each of them weighs less.
use Rattle.std.proofs.Common.{◌≡◌, ℕ, ◌<◌, List, refl, sym, subst, arith, append_assoc, append-nil, add-zero, add-one}
use Rattle.c_semantics.specs.Resolved.{Expression}
use Rattle.c_semantics.specs.Points.{of_expression}
use Rattle.c_semantics.specs.Skeletons.{parts, access}
use Rattle.c_semantics.specs.Skeletons as flow
use Rattle.resolved_tree.specs.declared.node.Place.TheVariants.{Local, Global, Element, Field}
use Rattle.resolved_tree.specs.declared.node.ExpressionNode.{ExpressionNode}
use Rattle.resolved_tree.specs.declared.node.ExpressionNode.TheVariants.{Constant, Read, Unary, Binary, Convert, And, Or, Choice, Assign, Update, Postfix, Call, Print, New, Free, Create, Join, JoinInto, InitMutex, Lock, Unlock}
use Rattle.resolved_tree.specs.Nodes.{Table, expression_of}
use Rattle.skeleton_gen.specs.declared.step.Steps.{Steps}
use Rattle.skeleton_gen.specs.Adding.{Drawn, AddsPart}
use Rattle.skeleton_gen.specs.Steps.{steps_of, steps_kinds, steps_part, steps_weight}
use Rattle.skeleton_gen.specs.Weights as weight
use Rattle.skeleton_gen.proofs.Adding.{same_part}

-- their points
kinds : (t : Table) (node : ExpressionNode) → steps_kinds t (steps_of node) ≡ of_expression (expression_of t node)
kinds t (Constant v) = refl
kinds t (Read (Local x)) = refl
kinds t (Read (Global x)) = refl
kinds t (Read (Element x index)) = refl
kinds t (Read (Field tag handle x)) = refl
kinds t (Unary op a) = refl
kinds t (Binary op a b) = refl
kinds t (Convert type a) = refl
kinds t (And a b) = refl
kinds t (Or a b) = refl
kinds t (Choice c a b) = simp append_assoc
kinds t (Assign (Local x) e) = refl
kinds t (Assign (Global x) e) = refl
kinds t (Assign (Element x index) e) = simp append_assoc
kinds t (Assign (Field tag handle x) e) = simp append_assoc
kinds t (Update type op (Local x) e) = refl
kinds t (Update type op (Global x) e) = refl
kinds t (Update type op (Element x index) e) = simp append_assoc
kinds t (Update type op (Field tag handle x) e) = simp append_assoc
kinds t (Postfix type op (Local x)) = refl
kinds t (Postfix type op (Global x)) = refl
kinds t (Postfix type op (Element x index)) = simp append_assoc
kinds t (Postfix type op (Field tag handle x)) = simp append_assoc
kinds t (Call name es) = refl
kinds t (Print format es) = refl
kinds t (New tag) = refl
kinds t (Free tag e) = refl
kinds t (Create (Local x) name e) = refl
kinds t (Create (Global x) name e) = refl
kinds t (Create (Element x index) name e) = simp append_assoc
kinds t (Create (Field tag handle x) name e) = simp append_assoc
kinds t (Join e) = refl
kinds t (JoinInto e (Local x)) = simp append-nil
kinds t (JoinInto e (Global x)) = simp append-nil
kinds t (JoinInto e (Element x index)) = simp append_assoc
kinds t (JoinInto e (Field tag handle x)) = simp append_assoc
kinds t (InitMutex name) = refl
kinds t (Lock name) = refl
kinds t (Unlock name) = refl

-- their flow
flows : (t : Table) (node : ExpressionNode) (n : ℕ) (to : List ℕ)
    → steps_part t (steps_of node) n to ≡ flow.expression (expression_of t node) n to
flows t (Constant v) n to = refl
flows t (Read (Local x)) n to = refl
flows t (Read (Global x)) n to = simp add-zero
flows t (Read (Element x index)) n to = simp add-zero
flows t (Read (Field tag handle x)) n to = simp add-zero
flows t (Unary op a) n to = simp add-zero
flows t (Binary op a b) n to = simp add-zero
flows t (Convert type a) n to = simp add-zero
flows t (And a b) n to = simp add-zero
flows t (Or a b) n to = simp add-zero
flows t (Choice c a b) n to = simp add-zero
flows t (Assign (Local x) e) n to = simp add-zero
flows t (Assign (Global x) e) n to = simp add-zero
flows t (Assign (Element x index) e) n to = simp add-zero
flows t (Assign (Field tag handle x) e) n to = simp add-zero
flows t (Update type op (Local x) e) n to = refl
flows t (Update type op (Global x) e) n to = refl
flows t (Update type op (Element x index) e) n to = refl
flows t (Update type op (Field tag handle x) e) n to = refl
flows t (Postfix type op (Local x)) n to = refl
flows t (Postfix type op (Global x)) n to = simp add-zero
flows t (Postfix type op (Element x index)) n to = simp add-zero
flows t (Postfix type op (Field tag handle x)) n to = simp add-zero
flows t (Call name es) n to = simp (add-zero, add-one)
flows t (Print format es) n to = simp add-zero
flows t (New tag) n to = simp add-zero
flows t (Free tag e) n to = simp add-zero
flows t (Create (Local x) name e) n to = refl
flows t (Create (Global x) name e) n to = refl
flows t (Create (Element x index) name e) n to = refl
flows t (Create (Field tag handle x) name e) n to = refl
flows t (Join e) n to = simp add-zero
flows t (JoinInto e (Local x)) n to = refl
flows t (JoinInto e (Global x)) n to = refl
flows t (JoinInto e (Element x index)) n to = refl
flows t (JoinInto e (Field tag handle x)) n to = refl
flows t (InitMutex name) n to = simp add-zero
flows t (Lock name) n to = simp add-zero
flows t (Unlock name) n to = simp add-zero

-- their weight
weights : (t : Table) (node : ExpressionNode) → steps_weight t (steps_of node) < weight.of_expression (expression_of t node)
weights t (Constant v) = omega arith
weights t (Read (Local x)) = omega arith
weights t (Read (Global x)) = omega arith
weights t (Read (Element x index)) = omega arith
weights t (Read (Field tag handle x)) = omega arith
weights t (Unary op a) = omega arith
weights t (Binary op a b) = omega arith
weights t (Convert type a) = omega arith
weights t (And a b) = omega arith
weights t (Or a b) = omega arith
weights t (Choice c a b) = omega arith
weights t (Assign (Local x) e) = omega arith
weights t (Assign (Global x) e) = omega arith
weights t (Assign (Element x index) e) = omega arith
weights t (Assign (Field tag handle x) e) = omega arith
weights t (Update type op (Local x) e) = omega arith
weights t (Update type op (Global x) e) = omega arith
weights t (Update type op (Element x index) e) = omega arith
weights t (Update type op (Field tag handle x) e) = omega arith
weights t (Postfix type op (Local x)) = omega arith
weights t (Postfix type op (Global x)) = omega arith
weights t (Postfix type op (Element x index)) = omega arith
weights t (Postfix type op (Field tag handle x)) = omega arith
weights t (Call name es) = omega arith
weights t (Print format es) = omega arith
weights t (New tag) = omega arith
weights t (Free tag e) = omega arith
weights t (Create (Local x) name e) = omega arith
weights t (Create (Global x) name e) = omega arith
weights t (Create (Element x index) name e) = omega arith
weights t (Create (Field tag handle x) name e) = omega arith
weights t (Join e) = omega arith
weights t (JoinInto e (Local x)) = omega arith
weights t (JoinInto e (Global x)) = omega arith
weights t (JoinInto e (Element x index)) = omega arith
weights t (JoinInto e (Field tag handle x)) = omega arith
weights t (InitMutex name) = omega arith
weights t (Lock name) = omega arith
weights t (Unlock name) = omega arith

pub steps_weigh_less : (t : Table) (node : ExpressionNode) (s : Steps) (e : Expression) → s ≡ steps_of node
    → expression_of t node ≡ e → steps_weight t s < weight.of_expression e
steps_weigh_less t node s e same is =
    let P : Expression → Type 0 = λ x. steps_weight t s < weight.of_expression x in
    let Q : Steps → Type 0 = λ x. steps_weight t x < weight.of_expression (expression_of t node) in
    subst P is (subst Q (sym same) (weights t node))

pub adds_steps : {d : ℕ} {to f : List ℕ} {u v : Drawn} (t : Table) (node : ExpressionNode) (s : Steps) (e : Expression)
    → s ≡ steps_of node → expression_of t node ≡ e → AddsPart d (steps_kinds t s) (steps_part t s) to u v f
    → AddsPart d (of_expression e) (flow.expression e) to u v f
adds_steps {d} {to} {f} {u} {v} t node s e same is h =
    let P : Steps → Type 0 = λ x. AddsPart d (steps_kinds t x) (steps_part t x) to u v f in
    let Q : Expression → Type 0 = λ x. AddsPart d (of_expression x) (flow.expression x) to u v f in
    subst Q is (same_part (kinds t node) (λ n. flows t node n to) (subst P same h))
