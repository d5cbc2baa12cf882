-- What an expression does after its operands, of the parts that are added.
use Rattle.std.proofs.Common.{◌≡◌, ℕ, ◌+◌, List, [], ◌∷◌, ◌++◌, ap, ◌∙◌, append_assoc}
use Rattle.c_ints.specs.declared.operator.BinOp.{BinOp}
use Rattle.c_tree.specs.BareExpr.{Bytes, BareType}
use Rattle.c_semantics.specs.Points.{size_read}
use Rattle.c_semantics.specs.Resolved.{Place}
use Rattle.c_semantics.specs.Stops as stop
use Rattle.typed_trees.specs.ValueTypes.{Environment}
use Rattle.resolved_tree.specs.Nodes.{Table}
use Rattle.bytecode.specs.declared.instr.Instr.{Instr}
use Rattle.bytecode.specs.declared.kind.ValueKind.{ValueKind}
use Rattle.bytecode.specs.Instructions.{Instruction, Halt, IsZero}
use Rattle.tree_code.specs.Code.{kind_of_type, int_code, getting, setting, setting_only, copying, tucking, swapping}
use Rattle.expr_gen.specs.Kinds.{int_kind, computing}
use Rattle.expr_gen.specs.Endings.{stepping, creating, joining}
use Rattle.expr_gen.specs.Scope.{Adds}
use Rattle.expr_gen.proofs.Adding.{adds_as, adds_more}

pub adds_stepping : {t : Table} {u v w x y : List Instr} {read tucked one : Instruction} {kind : ValueKind} {m : ℕ}
    (env : Environment) (type : BareType) (op : BinOp) (p : Place) (at : ℕ)
    → Adds t u v (copying p) → read ≡ getting env p at → tucked ≡ tucking p → one ≡ int_code 1 → Adds t v w (read ∷ tucked ∷ one ∷ [])
    → kind ≡ kind_of_type type → Adds t w x (computing op kind int_kind) → m ≡ at + size_read p → Adds t x y (setting_only env p m)
    → Adds t u y (stepping env type op p at)
adds_stepping {t} {u} {v} {w} {x} {y} {read} {tucked} {one} {kind} {m} env type op p at copied is_read is_tucked is_one three is_kind computed is_m written =
    let first = ap (λ i. i ∷ tucked ∷ one ∷ []) is_read ∙ ap (λ i. getting env p at ∷ i ∷ one ∷ []) is_tucked
    ∙ ap (λ i. getting env p at ∷ tucking p ∷ i ∷ []) is_one in
    let second = ap (λ k. computing op k int_kind) is_kind in
    adds_as (ap (λ c. c ++ setting_only env p (at + size_read p)) (append_assoc (copying p) (getting env p at ∷ tucking p ∷ int_code 1 ∷ []) (computing op (kind_of_type type) int_kind)))
    (adds_more (adds_more (adds_more copied (adds_as first three)) (adds_as second computed)) (adds_as (ap (setting_only env p) is_m) written))

pub adds_creating : {t : Table} {u v w x : List Instr} {m : ℕ} (env : Environment) (p : Place) (name : Bytes) (at : ℕ)
    → Adds t u v (Halt (stop.Spawn name) at ∷ []) → m ≡ at + 1 → Adds t v w (setting env p m) → Adds t w x (IsZero ∷ [])
    → Adds t u x (creating env p name at)
adds_creating {t} {u} {v} {w} {x} {m} env p name at started is_m written tested =
    adds_more (adds_more started (adds_as (ap (setting env p) is_m) written)) tested

pub adds_joining : {t : Table} {u v w x y : List Instr} {zero : Instruction} {m : ℕ} (env : Environment) (p : Place) (at : ℕ)
    → Adds t u v (swapping p) → Adds t v w (Halt stop.Join at ∷ []) → m ≡ at + 1 → Adds t w x (setting_only env p m)
    → zero ≡ int_code 0 → Adds t x y (zero ∷ []) → Adds t u y (joining env p at)
adds_joining {t} {u} {v} {w} {x} {y} {zero} {m} env p at swapped joined is_m written is_zero last =
    adds_as
    (ap (λ c. c ++ int_code 0 ∷ []) (append_assoc (swapping p) (Halt stop.Join at ∷ []) (setting_only env p (at + 1))))
    (adds_more (adds_more (adds_more swapped joined) (adds_as (ap (setting_only env p) is_m) written)) (adds_as (ap (λ i. i ∷ []) is_zero) last))
