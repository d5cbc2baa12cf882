-- The code of a function's body, from its closing return, its statements and its entry.
use Rattle.std.proofs.Common.{◌≡◌, ℕ, ◌+◌, ◌-◌, List, [], ◌∷◌, ◌++◌, length, ap, ap₂, ◌∙◌, arith, append-nil}
use Rattle.run_types.specs.CheckIns as check_in
use Rattle.c_tree.specs.BareExpr.{BareType}
use Rattle.c_tree.specs.BareDef.{BareBinding}
use Rattle.c_semantics.specs.Points.{size_stmts}
use Rattle.c_semantics.specs.Resolved.{Statements}
use Rattle.c_semantics.specs.Stops as stop
use Rattle.c_semantics.specs.Texts.{Definitions}
use Rattle.resolved_tree.specs.Nodes.{Table}
use Rattle.bytecode.specs.declared.instr.Instr.{Instr}
use Rattle.bytecode.specs.Instructions.{CheckIn, Halt}
use Rattle.tree_code.specs.Code.{body_code, statements, zero_code}
use Rattle.bytecode_gen.specs.declared.part.Jumps.{Jumps}
use Rattle.bytecode_gen.specs.Tails.{Precedes, statements_code, tail_of}
use Rattle.bytecode_gen.proofs.Preceding.{precedes_as, precedes_more}

pub whole_body : {t : Table} {x y z w : List Instr} (look : Definitions) (parameters : List BareBinding) (type : BareType) (ss : Statements)
    (jumps : Jumps) (last : ℕ) → x ≡ [] → last ≡ size_stmts ss + 1 → jumps.broken ≡ length y → jumps.continued ≡ length y
    → Precedes t x y (zero_code type ∷ Halt stop.Return last ∷ []) → Precedes t y z (statements_code look ss 1 jumps y (parameters ∷ []))
    → Precedes t z w (CheckIn check_in.Entry 0 ∷ []) → tail_of t w ≡ body_code look parameters type ss
whole_body {t} {x} {y} {z} {w} look parameters type ss jumps last empty size broken continued end body entry =
    let a : length y - jumps.broken ≡ 0 = omega arith in
    let b : length y - jumps.continued ≡ 0 = omega arith in
    let n : last ≡ 1 + size_stmts ss = omega arith in
    let ends = precedes_as (ap (λ m. zero_code type ∷ Halt stop.Return m ∷ []) n) end in
    let walked = precedes_as (ap₂ (statements look (parameters ∷ []) ss 1) a b) body in
    (precedes_more (precedes_more ends walked) entry).code
    ∙ ap (λ xs. body_code look parameters type ss ++ tail_of t xs) empty ∙ append-nil (body_code look parameters type ss)
