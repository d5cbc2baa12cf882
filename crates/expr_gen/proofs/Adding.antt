-- Code that is added in parts.
use Rattle.std.proofs.Common.{◌≡◌, List, [], ◌++◌, Result, Ok, Err, is_ok, OnOk, if◌then◌else◌, sym, ap, ◌∙◌, append_assoc, append-nil}
use Rattle.std.proofs.lemmas.List.{map-append}
use Rattle.resolved_tree.specs.Nodes.{Table}
use Rattle.bytecode.specs.declared.instr.Instr.{Instr}
use Rattle.bytecode.specs.Seen.{instruction_of, code_of}
use Rattle.tree_code.specs.Code.{Code}
use Rattle.expr_gen.specs.Scope.{Adds}

-- equal code
pub adds_as : {t : Table} {x y : List Instr} {a b : Code} → a ≡ b → Adds t x y a → Adds t x y b
adds_as {t} {x} {y} {a} {b} e h = record { code = h.code ∙ ap (λ c. code_of t x ++ c) e }

-- nothing, and more after some
pub adds_nothing : (t : Table) (x : List Instr) → Adds t x x []
adds_nothing t x = record { code = sym (append-nil (code_of t x)) }

pub adds_more : {t : Table} {x y z : List Instr} {a b : Code} → Adds t x y a → Adds t y z b → Adds t x z (a ++ b)
adds_more {t} {x} {y} {z} {a} {b} h k = record { code = k.code ∙ ap (λ c. c ++ b) h.code ∙ append_assoc (code_of t x) a b }

-- instructions at the end of the list
pub adds_list : (t : Table) (x y made : List Instr) → y ≡ x ++ made → Adds t x y (code_of t made)
adds_list t x y made e = record { code = ap (code_of t) e ∙ map-append (instruction_of t) x made }

-- what a list's own function gives that adds some items
pub adds_slice : {X Y : Type 0} (r : Result X Y) (x y made : List Instr) → y ≡ (if is_ok r then x ++ made else x)
    → OnOk r ((t : Table) → Adds t x y (code_of t made))
adds_slice (Ok v) x y made e = λ t. adds_list t x y made e
adds_slice (Err v) x y made e = tt
