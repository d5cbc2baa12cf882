-- Jumps that are set once the code is there over which they lead.
use Rattle.std.proofs.Common.{◌≡◌, ◌<◌, ℕ, suc, ◌+◌, ◌-◌, List, [], ◌∷◌, ◌++◌, length, slice_set, sym, ap, ◌∙◌, arith, append_assoc, length-append, add-one}
use Rattle.std.proofs.lemmas.List.{length-map, map-set}
use Rattle.std.proofs.Math.Seq.{set-append_seam}
use Rattle.resolved_tree.specs.Nodes.{Table}
use Rattle.bytecode.specs.Instructions.{Instruction, Jump, IsNotZero, JumpIfZero}
use Rattle.bytecode.specs.declared.instr.Instr.{Instr}
use Rattle.bytecode.specs.Seen.{instruction_of, code_of}
use Rattle.tree_code.specs.Code.{Code, int_code, either}
use Rattle.expr_gen.specs.declared.jump.Leap.{Leap}
use Rattle.expr_gen.specs.declared.jump.Leap.TheVariants.{Always, IfZero}
use Rattle.expr_gen.specs.declared.walk.Connective.{Connective}
use Rattle.expr_gen.specs.Kinds.{leaping}
use Rattle.expr_gen.specs.Scope.{Adds}
use Rattle.expr_gen.specs.Walk.{skipping, skipped, logical_code}

-- a jump in the midst of code, to its end
pub led : (t : Table) (before inside : Code) (i : Instruction) (items : List Instr) (place over : ℕ) (j : Instr) (when : Leap)
    → code_of t items ≡ before ++ i ∷ inside → length before ≡ place → over ≡ length items - place - 1
    → instruction_of t j ≡ leaping when over
    → code_of t (slice_set items place j) ≡ before ++ leaping when (length inside) ∷ inside
led t before inside i items place over j when there at far is =
    let long : length items ≡ length before + suc (length inside) =
    sym (length-map items (instruction_of t)) ∙ ap length there ∙ length-append before (i ∷ inside) in
    let same : over ≡ length inside = omega arith in
    map-set (instruction_of t) items place j
    ∙ ap (λ xs. slice_set xs place (instruction_of t j)) there
    ∙ ap (λ p. slice_set (before ++ i ∷ inside) p (instruction_of t j)) (sym at)
    ∙ set-append_seam before i inside (instruction_of t j)
    ∙ ap (λ x. before ++ x ∷ inside) (is ∙ ap (leaping when) same)

-- so many instructions were there before
pub many_before : {t : Table} {x y : List Instr} {a : Code} (place : ℕ) → Adds t x y a → place ≡ length y
    → length (code_of t x ++ a) ≡ place
many_before {t} {x} {y} {a} place h e = ap length (sym h.code) ∙ length-map y (instruction_of t) ∙ sym e

-- `&&` or `||`: its left side, a place for the jump, its right side and the test of it, the jump, the value where the right
-- side is left out
pub adds_logical : {t : Table} {u v w x y z s : List Instr} {a b : Code} (op : Connective) (place : ℕ)
    → Adds t u v a → place ≡ length v → Adds t v w (Jump 0 ∷ []) → Adds t w x b → Adds t x y (IsNotZero ∷ Jump 1 ∷ [])
    → ((before inside : Code) (i : Instruction) → code_of t y ≡ before ++ i ∷ inside → length before ≡ place
    → code_of t z ≡ before ++ leaping (skipping op) (length inside) ∷ inside)
    → Adds t z s (int_code (skipped op) ∷ []) → Adds t u s (logical_code op a b)
adds_logical {t} {u} {v} {w} {x} {y} {z} {s} {a} {b} op place first at hole second tested lead ended =
    let inside : Code = b ++ IsNotZero ∷ Jump 1 ∷ [] in
    let there : code_of t y ≡ (code_of t u ++ a) ++ Jump 0 ∷ inside =
    tested.code ∙ ap (λ c. c ++ IsNotZero ∷ Jump 1 ∷ []) (second.code ∙ ap (λ c. c ++ b) (hole.code ∙ ap (λ c. c ++ Jump 0 ∷ []) first.code))
    ∙ append_assoc ((code_of t u ++ a) ++ Jump 0 ∷ []) b (IsNotZero ∷ Jump 1 ∷ [])
    ∙ append_assoc (code_of t u ++ a) (Jump 0 ∷ []) inside in
    let long : length inside ≡ length b + 2 = length-append b (IsNotZero ∷ Jump 1 ∷ []) in
    let over : ℕ → Code = λ n. leaping (skipping op) n ∷ inside in
    let last : Code = int_code (skipped op) ∷ [] in
    let regroup : ((code_of t u ++ a) ++ over (length b + 2)) ++ last ≡ code_of t u ++ logical_code op a b = simp append_assoc in
    record {
      code = ended.code
          ∙ ap (λ c. c ++ last) (lead (code_of t u ++ a) inside (Jump 0) there (many_before place first at) ∙ ap (λ n. (code_of t u ++ a) ++ over n) long)
          ∙ regroup;
    }

-- `?:`: its condition, a place for a jump, the first value, a place for a jump past the second, the first jump, the second
-- value, the second jump
pub adds_choice : {t : Table} {u v w x y z p q : List Instr} {c a b : Code} (first second : ℕ)
    → Adds t u v c → first ≡ length v → Adds t v w (Jump 0 ∷ []) → Adds t w x a → second ≡ length x → Adds t x y (Jump 0 ∷ [])
    → ((before inside : Code) (i : Instruction) → code_of t y ≡ before ++ i ∷ inside → length before ≡ first
    → code_of t z ≡ before ++ leaping IfZero (length inside) ∷ inside)
    → Adds t z p b
    → ((before inside : Code) (i : Instruction) → code_of t p ≡ before ++ i ∷ inside → length before ≡ second
    → code_of t q ≡ before ++ leaping Always (length inside) ∷ inside)
    → Adds t u q (c ++ either JumpIfZero a b)
adds_choice {t} {u} {v} {w} {x} {y} {z} {p} {q} {c} {a} {b} first second test at hole one at_second past lead two lead_past =
    let base : Code = code_of t u ++ c in
    let inside : Code = a ++ Jump 0 ∷ [] in
    let there : code_of t y ≡ base ++ Jump 0 ∷ inside =
    past.code ∙ ap (λ k. k ++ Jump 0 ∷ []) (one.code ∙ ap (λ k. k ++ a) (hole.code ∙ ap (λ k. k ++ Jump 0 ∷ []) test.code))
    ∙ append_assoc (base ++ Jump 0 ∷ []) a (Jump 0 ∷ []) ∙ append_assoc base (Jump 0 ∷ []) inside in
    let long : length inside ≡ suc (length a) = length-append a (Jump 0 ∷ []) ∙ add-one (length a) in
    let head : Code = base ++ JumpIfZero (suc (length a)) ∷ a in
    let led : code_of t z ≡ head ++ Jump 0 ∷ [] =
    lead base inside (Jump 0) there (many_before first test at) ∙ ap (λ n. base ++ JumpIfZero n ∷ inside) long
    ∙ sym (append_assoc base (JumpIfZero (suc (length a)) ∷ a) (Jump 0 ∷ [])) in
    let full : code_of t p ≡ head ++ Jump 0 ∷ b = two.code ∙ ap (λ k. k ++ b) led ∙ append_assoc head (Jump 0 ∷ []) b in
    let before : length head ≡ second =
    length-append base (JumpIfZero (suc (length a)) ∷ a) ∙ sym (length-append base (Jump 0 ∷ a))
    ∙ ap length (sym (append_assoc base (Jump 0 ∷ []) a)) ∙ ap (λ k. length ((k ++ Jump 0 ∷ []) ++ a)) (sym test.code)
    ∙ ap (λ k. length (k ++ a)) (sym hole.code) ∙ many_before second one at_second in
    let regroup : head ++ Jump (length b) ∷ b ≡ code_of t u ++ (c ++ either JumpIfZero a b) = simp append_assoc in
    record { code = lead_past head b (Jump 0) full before ∙ regroup }

-- the instruction in whose stead the jump stands is there
pub place_there : {t : Table} {v w x y : List Instr} {b c : Code} (place : ℕ) → place ≡ length v → Adds t v w (Jump 0 ∷ [])
    → Adds t w x b → Adds t x y c → place < length y
place_there {t} {v} {w} {x} {y} {b} {c} place at hole second third =
    let hv = length-map v (instruction_of t) in
    let hy = length-map y (instruction_of t) in
    let e = ap length (third.code ∙ ap (λ k. k ++ c) (second.code ∙ ap (λ k. k ++ b) hole.code)) in
    let l1 = length-append ((code_of t v ++ Jump 0 ∷ []) ++ b) c in
    let l2 = length-append (code_of t v ++ Jump 0 ∷ []) b in
    let l3 = length-append (code_of t v) (Jump 0 ∷ []) in
    omega arith

pub second_there : {t : Table} {u v w x y z p : List Instr} {c a b : Code} (first second : ℕ)
    → Adds t u v c → first ≡ length v → Adds t v w (Jump 0 ∷ []) → Adds t w x a → second ≡ length x → Adds t x y (Jump 0 ∷ [])
    → ((before inside : Code) (i : Instruction) → code_of t y ≡ before ++ i ∷ inside → length before ≡ first
    → code_of t z ≡ before ++ leaping IfZero (length inside) ∷ inside)
    → Adds t z p b → second < length p
second_there {t} {u} {v} {w} {x} {y} {z} {p} {c} {a} {b} first second test at hole one at_second past lead two =
    let inside : Code = a ++ Jump 0 ∷ [] in
    let there : code_of t y ≡ code_of t v ++ Jump 0 ∷ inside =
    past.code ∙ ap (λ k. k ++ Jump 0 ∷ []) (one.code ∙ ap (λ k. k ++ a) hole.code)
    ∙ append_assoc (code_of t v ++ Jump 0 ∷ []) a (Jump 0 ∷ []) ∙ append_assoc (code_of t v) (Jump 0 ∷ []) inside in
    let led = lead (code_of t v) inside (Jump 0) there (length-map v (instruction_of t) ∙ sym at) in
    let hp = length-map p (instruction_of t) in
    let hx = length-map x (instruction_of t) in
    let lp = ap length two.code in
    let lz = ap length led in
    let ly = ap length there in
    let lx = ap length past.code in
    let m1 = length-append (code_of t z) b in
    let m2 = length-append (code_of t v) (leaping IfZero (length inside) ∷ inside) in
    let m3 = length-append (code_of t v) (Jump 0 ∷ inside) in
    let m4 = length-append (code_of t x) (Jump 0 ∷ []) in
    omega arith
