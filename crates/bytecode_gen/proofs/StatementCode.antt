-- The code of statements in front of a tail, from that of their parts.
use Rattle.std.proofs.Common.{◌≡◌, ℕ, ◌+◌, ◌-◌, suc, List, [], ◌∷◌, ◌++◌, length, Option, ap, ap₂, ◌∙◌, arith, append_assoc}
use Rattle.run_types.specs.CheckIns as check_in
use Rattle.c_semantics.specs.Points.{size, size_stmt, size_stmts}
use Rattle.c_semantics.specs.Resolved.{Expression, Statement, Statements, If, IfElse, For, Transaction, StatementThen}
use Rattle.c_semantics.specs.Stops as stop
use Rattle.c_semantics.specs.Texts.{Definitions}
use Rattle.resolved_tree.specs.Nodes.{Table}
use Rattle.typed_trees.specs.StatementTypes.{declares, declare_all}
use Rattle.typed_trees.specs.ValueTypes.{Environment}
use Rattle.bytecode.specs.declared.instr.Instr.{Instr}
use Rattle.bytecode.specs.Instructions.{CheckIn, Halt, Jump}
use Rattle.tree_code.specs.Code.{Code, condition_code, guarded, negated, statement, statements, unless_jump}
use Rattle.bytecode_gen.specs.declared.part.Jumps.{Jumps}
use Rattle.bytecode_gen.specs.Loops.{turns_code}
use Rattle.bytecode_gen.specs.Tails.{Precedes, AreInside, statement_code, statements_code}
use Rattle.bytecode_gen.proofs.Preceding.{precedes_as, precedes_more, precedes_length, further}

-- equal statements
pub of_statement : {t : Table} {x y : List Instr} {s r : Statement} (look : Definitions) (env : Environment) (n : ℕ) (jumps : Jumps) → s ≡ r
    → Precedes t x y (statement_code look s n jumps x env) → Precedes t x y (statement_code look r n jumps x env)
of_statement {t} {x} look env n jumps e h = precedes_as (ap (λ s. statement_code look s n jumps x env) e) h

-- statements in order
pub emits_then : {t : Table} {x y z : List Instr} (look : Definitions) (env : Environment) (s : Statement) (ss : Statements) (n : ℕ) (jumps : Jumps)
    → AreInside jumps x → Precedes t x y (statements_code look ss (n + size_stmt s) jumps x (declares s env))
    → Precedes t y z (statement_code look s n jumps y env) → Precedes t x z (statements_code look (StatementThen s ss) n jumps x env)
emits_then look env s ss n jumps inside rest here =
    precedes_more rest
    (precedes_as (ap₂ (statement look env s n) (further jumps.broken inside.broken rest) (further jumps.continued inside.continued rest)) here)

-- a transaction
pub emits_transaction : {t : Table} {x y z w : List Instr} (look : Definitions) (env : Environment) (ss : Statements) (n : ℕ) (jumps : Jumps) (m end : ℕ)
    → AreInside jumps x → m ≡ n + 2 → end ≡ m + size_stmts ss
    → Precedes t x y (Halt stop.End end ∷ CheckIn check_in.End (suc end) ∷ []) → Precedes t y z (statements_code look ss m jumps y ([] ∷ env))
    → Precedes t z w (Halt stop.Begin n ∷ CheckIn check_in.Begin (suc n) ∷ []) → Precedes t x w (statement_code look (Transaction ss) n jumps x env)
emits_transaction {t} {x} {y} look env ss n jumps m end inside first last ends body begins =
    let ended = precedes_as (ap (λ e. Halt stop.End e ∷ CheckIn check_in.End (suc e) ∷ []) (last ∙ ap (λ k. k + size_stmts ss) first)) ends in
    let walked = precedes_as
    (ap (λ k. statements look ([] ∷ env) ss k (length y - jumps.broken) (length y - jumps.continued)) first
    ∙ ap₂ (statements look ([] ∷ env) ss (n + 2)) (further jumps.broken inside.broken ends) (further jumps.continued inside.continued ends))
    body in
    precedes_more (precedes_more ended walked) begins

-- a condition before some code
pub guards : {t : Table} {x y z : List Instr} (look : Definitions) (env : Environment) (c : Expression) (n : ℕ) (inside : Code) (further over : ℕ)
    → over ≡ length inside + further → Precedes t x y inside
    → Precedes t y z (condition_code look env c (negated c) n ++ unless_jump (negated c) over ∷ []) → Precedes t x z (guarded look env c n inside further)
guards look env c n inside further over far body test =
    let tested = condition_code look env c (negated c) n in
    precedes_as
    (append_assoc tested (unless_jump (negated c) over ∷ []) inside ∙ ap (λ d. tested ++ unless_jump (negated c) d ∷ inside) far)
    (precedes_more body test)

pub emits_if : {t : Table} {x y z : List Instr} (look : Definitions) (env : Environment) (c : Expression) (s : Statement) (n : ℕ) (jumps : Jumps)
    (m over past : ℕ) → m ≡ n + size c → past ≡ length x → over ≡ length y - past → Precedes t x y (statement_code look s m jumps x env)
    → Precedes t y z (condition_code look env c (negated c) n ++ unless_jump (negated c) over ∷ [])
    → Precedes t x z (statement_code look (If c s) n jumps x env)
emits_if {t} {x} look env c s n jumps m over past first end far body test =
    let inside = statement_code look s (n + size c) jumps x env in
    let walked : Precedes t x _ inside = precedes_as (ap (λ k. statement_code look s k jumps x env) first) body in
    let l = precedes_length walked in
    guards look env c n inside 0 over (omega arith) walked test

pub emits_if_else : {t : Table} {x y z w v : List Instr} (look : Definitions) (env : Environment) (c : Expression) (s r : Statement) (n : ℕ) (jumps : Jumps)
    (m k end past over : ℕ) → AreInside jumps x → m ≡ n + size c → k ≡ m + size_stmt s → end ≡ length x → past ≡ length y → over ≡ length w - past
    → Precedes t x y (statement_code look r k jumps x env) → Precedes t y z (Jump (length y - end) ∷ [])
    → Precedes t z w (statement_code look s m jumps z env)
    → Precedes t w v (condition_code look env c (negated c) n ++ unless_jump (negated c) over ∷ [])
    → Precedes t x v (statement_code look (IfElse c s r) n jumps x env)
emits_if_else {t} {x} {y} {z} {w} {v} look env c s r n jumps m k end past over inside first second begin middle far others jump body test =
    let other = statement_code look r (n + size c + size_stmt s) jumps x env in
    let walked : Precedes t x y other =
    precedes_as (ap (λ i. statement_code look r i jumps x env) (second ∙ ap (λ i. i + size_stmt s) first)) others in
    let l = precedes_length walked in
    let a : length y - end ≡ length other = omega arith in
    let jumped : Precedes t y z (Jump (length other) ∷ []) = precedes_as (ap (λ d. Jump d ∷ []) a) jump in
    let i = precedes_length jumped in
    let b = inside.broken in
    let d = inside.continued in
    let passed = suc (length other) in
    let taken = statement look env s (n + size c) (passed + (length x - jumps.broken)) (passed + (length x - jumps.continued)) in
    let e : length z - jumps.broken ≡ passed + (length x - jumps.broken) = omega arith in
    let f : length z - jumps.continued ≡ passed + (length x - jumps.continued) = omega arith in
    let chosen : Precedes t z w taken =
    precedes_as (ap (λ i. statement_code look s i jumps z env) first ∙ ap₂ (statement look env s (n + size c)) e f) body in
    let whole : Precedes t y w (taken ++ Jump (length other) ∷ []) = precedes_more jumped chosen in
    let g = precedes_length whole in
    precedes_more walked (guards look env c n (taken ++ Jump (length other) ∷ []) 0 over (omega arith) whole test)

-- a `for` loop, from its first part and its turns
pub emits_for : {t : Table} {x y z : List Instr} (look : Definitions) (env : Environment) (first : Statements) (test step : Option Expression) (s : Statement)
    (n : ℕ) (jumps : Jumps) (m : ℕ) → AreInside jumps x → m ≡ n + size_stmts first
    → Precedes t x y (turns_code look (declare_all first ([] ∷ env)) test step s m)
    → Precedes t y z (statements_code look first n jumps y ([] ∷ env)) → Precedes t x z (statement_code look (For first test step s) n jumps x env)
emits_for {t} {x} {y} look env first test step s n jumps m inside at turns begins =
    let turning : Precedes t x y (turns_code look (declare_all first ([] ∷ env)) test step s (n + size_stmts first)) =
    precedes_as (ap (turns_code look (declare_all first ([] ∷ env)) test step s) at) turns in
    precedes_more turning
    (precedes_as
    (ap₂ (statements look ([] ∷ env) first n) (further jumps.broken inside.broken turning) (further jumps.continued inside.continued turning))
    begins)
