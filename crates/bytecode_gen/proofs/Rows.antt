-- Statements in a row: one more at the end, the last of those that are left, and their weights.
use Rattle.std.proofs.Common.{◌≡◌, ℕ, zero, suc, ◌+◌, ◌-◌, ◌<◌, ◌≤◌, List, [], ◌∷◌, ◌++◌, length, map, get_or, take, drop, refl, sym, ap, ap₂, ◌∙◌, arith, add-zero, append-nil, length-append}
use Rattle.std.proofs.Math.Seq.{drop-cons, drop-length, take-length, take-suc}
use Rattle.c_semantics.specs.Points.{size_stmt, size_stmts}
use Rattle.c_semantics.specs.Points as points
use Rattle.c_semantics.specs.Texts.{Definitions}
use Rattle.c_semantics.specs.Resolved.{Statement, Statements, NoStatements, StatementThen}
use Rattle.local_evaluation.specs.Weights as weight
use Rattle.name_resolution.specs.Found.{before}
use Rattle.resolved_tree.specs.declared.node.NodeId.{NodeId}
use Rattle.resolved_tree.specs.Nodes.{Table, statement_at}
use Rattle.typed_trees.specs.StatementTypes.{declares, declare_all}
use Rattle.typed_trees.specs.ValueTypes.{Environment, in_scope}
use Rattle.bytecode.specs.declared.instr.Instr.{Instr}
use Rattle.expr_gen.specs.declared.context.Variable.{Variable}
use Rattle.expr_gen.specs.Scope.{variables_of}
use Rattle.bytecode_gen.specs.declared.part.Jumps.{Jumps}
use Rattle.bytecode_gen.specs.Tails.{Precedes, InScope, AreInside, statement_code, statements_code, in_a_row}
use Rattle.bytecode_gen.proofs.Preceding.{precedes_as, precedes_nothing}
use Rattle.bytecode_gen.proofs.StatementCode.{of_statement, emits_then}

-- one more at the end
pub row_more : (t : Table) (ids : List NodeId) (s : NodeId) (others : Statements)
    → before (map (statement_at t) (ids ++ s ∷ [])) others ≡ before (map (statement_at t) ids) (StatementThen (statement_at t s) others)
row_more t [] s others = refl
row_more t (id ∷ ids) s others = ap (StatementThen (statement_at t id)) (row_more t ids s others)

declares_last : (t : Table) (ids : List NodeId) (s : Statement) (env : Environment)
    → declare_all (before (map (statement_at t) ids) (StatementThen s NoStatements)) env ≡ declares s (declare_all (in_a_row t ids) env)
declares_last t [] s env = refl
declares_last t (id ∷ ids) s env = declares_last t ids s (declares (statement_at t id) env)

size_last : (t : Table) (ids : List NodeId) (s : Statement)
    → size_stmts (before (map (statement_at t) ids) (StatementThen s NoStatements)) ≡ size_stmts (in_a_row t ids) + size_stmt s
size_last t [] s = let e = ap length (append-nil (points.of_statement 0 s)) in omega arith
size_last t (id ∷ ids) s =
    let h = size_last t ids s in
    let first = points.of_statement 0 (statement_at t id) in
    let a = length-append first (points.of_statements 0 (before (map (statement_at t) ids) (StatementThen s NoStatements))) in
    let b = length-append first (points.of_statements 0 (in_a_row t ids)) in
    omega arith

-- the last of those that are left, whose default is any
row_split : (t : Table) (ids : List NodeId) (left : ℕ) (d : NodeId) → 0 < left → left ≤ length ids
    → in_a_row t (take left ids) ≡ before (map (statement_at t) (take (left - 1) ids)) (StatementThen (statement_at t (get_or ids (left - 1) d)) NoStatements)
row_split t ids left d some within =
    let e : suc (left - 1) ≡ left = omega arith in
    let last = get_or ids (left - 1) d in
    ap (λ n. in_a_row t (take n ids)) (sym e) ∙ ap (in_a_row t) (take-suc ids (left - 1) d (omega arith)) ∙ row_more t (take (left - 1) ids) last NoStatements

declared_but_last : (t : Table) (ids : List NodeId) (left : ℕ) (d : NodeId) (env : Environment) → 0 < left → left ≤ length ids
    → declare_all (in_a_row t (take left ids)) env ≡ declares (statement_at t (get_or ids (left - 1) d)) (declare_all (in_a_row t (take (left - 1) ids)) env)
declared_but_last t ids left d env some within =
    ap (λ ss. declare_all ss env) (row_split t ids left d some within) ∙ declares_last t (take (left - 1) ids) (statement_at t (get_or ids (left - 1) d)) env

size_but_last : (t : Table) (ids : List NodeId) (left : ℕ) (d : NodeId) → 0 < left → left ≤ length ids
    → size_stmts (in_a_row t (take left ids)) ≡ size_stmts (in_a_row t (take (left - 1) ids)) + size_stmt (statement_at t (get_or ids (left - 1) d))
size_but_last t ids left d some within =
    ap size_stmts (row_split t ids left d some within) ∙ size_last t (take (left - 1) ids) (statement_at t (get_or ids (left - 1) d))

row_rest : (t : Table) (ids : List NodeId) (left : ℕ) (d : NodeId) → 0 < left → left ≤ length ids
    → StatementThen (statement_at t (get_or ids (left - 1) d)) (in_a_row t (drop left ids)) ≡ in_a_row t (drop (left - 1) ids)
row_rest t ids left d some within =
    let e : suc (left - 1) ≡ left = omega arith in
    sym (ap (in_a_row t) (drop-cons ids (left - 1) d (omega arith) ∙ ap (λ n. get_or ids (left - 1) d ∷ drop n ids) e))

-- each weighs less than all
pub row_weight : (t : Table) (ids : List NodeId) (i : ℕ) (d : NodeId) → i < length ids
    → weight.of_statement (statement_at t (get_or ids i d)) < weight.of_statements (in_a_row t ids)
row_weight t [] i d h = absurd (omega arith)
row_weight t (id ∷ ids) zero d h = omega arith
row_weight t (id ∷ ids) (suc i) d h = let k = row_weight t ids i d (omega arith) in omega arith

-- the variables in scope, with those of one statement more
pub more_in_scope : (t : Table) (ids more : List NodeId) (s : NodeId) (env : Environment) (vs : List Variable) → more ≡ ids ++ s ∷ []
    → InScope t (declares (statement_at t s) (declare_all (in_a_row t ids) env)) vs → InScope t (declare_all (in_a_row t more) env) vs
more_in_scope t ids more s env vs is scope = record {
  same = ap in_scope (ap (λ is. declare_all (in_a_row t is) env) is ∙ ap (λ ss. declare_all ss env) (row_more t ids s NoStatements) ∙ declares_last t ids (statement_at t s) env)
      ∙ scope.same;
}

-- and with those of the last one that is left
pub last_in_scope : (t : Table) (ids : List NodeId) (left : ℕ) (s d : NodeId) (env : Environment) (vs : List Variable) → 0 < left → left ≤ length ids
    → s ≡ get_or ids (left - 1) d → InScope t (declare_all (in_a_row t (take left ids)) env) vs
    → InScope t (declares (statement_at t s) (declare_all (in_a_row t (take (left - 1) ids)) env)) vs
last_in_scope t ids left s d env vs some within is scope =
    let before = declare_all (in_a_row t (take (left - 1) ids)) env in
    record { same = ap (λ id. in_scope (declares (statement_at t id) before)) is ∙ sym (ap in_scope (declared_but_last t ids left d env some within)) ∙ scope.same }

pub size_without_last : (t : Table) (ids : List NodeId) (left : ℕ) (s d : NodeId) → 0 < left → left ≤ length ids → s ≡ get_or ids (left - 1) d
    → size_stmts (in_a_row t (take left ids)) ≡ size_stmts (in_a_row t (take (left - 1) ids)) + size_stmt (statement_at t s)
size_without_last t ids left s d some within is =
    size_but_last t ids left d some within ∙ ap (λ id. size_stmts (in_a_row t (take (left - 1) ids)) + size_stmt (statement_at t id)) (sym is)

-- all of them are left, or none
pub all_left : (t : Table) (ids : List NodeId) (ss : Statements) (left : ℕ) → left ≡ length ids → in_a_row t ids ≡ ss → in_a_row t (take left ids) ≡ ss
all_left t ids ss left all is = ap (in_a_row t) (ap (λ n. take n ids) all ∙ take-length ids) ∙ is

pub emits_none : {t : Table} {x : List Instr} (look : Definitions) (env : Environment) (jumps : Jumps) (ids : List NodeId) (left n : ℕ) → left ≡ length ids
    → Precedes t x x (statements_code look (in_a_row t (drop left ids)) n jumps x env)
emits_none {t} {x} look env jumps ids left n all =
    precedes_as (ap (λ is. statements_code look (in_a_row t is) n jumps x env) (sym (ap (λ k. drop k ids) all ∙ drop-length ids))) (precedes_nothing t x)

pub emits_all : {t : Table} {x y : List Instr} (look : Definitions) (env : Environment) (jumps : Jumps) (ids : List NodeId) (ss : Statements)
    (left at n : ℕ) → left ≡ 0 → in_a_row t ids ≡ ss → at ≡ n + size_stmts (in_a_row t (take left ids))
    → Precedes t x y (statements_code look (in_a_row t (drop left ids)) at jumps x (declare_all (in_a_row t (take left ids)) env))
    → Precedes t x y (statements_code look ss n jumps x env)
emits_all {t} {x} look env jumps ids ss left at n none is place h =
    let first : at ≡ n = place ∙ ap (λ k. n + size_stmts (in_a_row t (take k ids))) none ∙ add-zero n in
    precedes_as
    (ap₂ (λ k m. statements_code look (in_a_row t (drop k ids)) m jumps x (declare_all (in_a_row t (take k ids)) env)) none first
    ∙ ap (λ ss. statements_code look ss n jumps x env) is)
    h

pub none_declared : (t : Table) (ids : List NodeId) (left : ℕ) (vs ws : List Variable) → left ≡ 0
    → InScope t (declare_all (in_a_row t (take left ids)) (variables_of t vs ∷ [])) ws → variables_of t ws ≡ variables_of t vs
none_declared t ids left vs ws none scope =
    sym scope.same ∙ ap (λ k. in_scope (declare_all (in_a_row t (take k ids)) (variables_of t vs ∷ []))) none ∙ append-nil (variables_of t vs)

-- the code of one statement more
pub emits_last : {t : Table} {x y z : List Instr} (look : Definitions) (env : Environment) (jumps : Jumps) (ids : List NodeId) (left : ℕ) (s d : NodeId)
    (n m : ℕ) → 0 < left → left ≤ length ids → s ≡ get_or ids (left - 1) d → AreInside jumps x → m ≡ n + size_stmt (statement_at t s)
    → Precedes t x y (statements_code look (in_a_row t (drop left ids)) m jumps x (declare_all (in_a_row t (take left ids)) env))
    → Precedes t y z (statement_code look (statement_at t s) n jumps y (declare_all (in_a_row t (take (left - 1) ids)) env))
    → Precedes t x z (statements_code look (in_a_row t (drop (left - 1) ids)) n jumps x (declare_all (in_a_row t (take (left - 1) ids)) env))
emits_last {t} {x} {y} {z} look env jumps ids left s d n m some within is inside at rest here =
    let last = statement_at t (get_or ids (left - 1) d) in
    let row = in_a_row t (drop left ids) in
    let before = declare_all (in_a_row t (take (left - 1) ids)) env in
    let same : statement_at t s ≡ last = ap (statement_at t) is in
    let others : Precedes t x y (statements_code look row (n + size_stmt last) jumps x (declares last before)) =
    precedes_as
    (ap₂ (λ k e. statements_code look row k jumps x e) (at ∙ ap (λ r. n + size_stmt r) same) (declared_but_last t ids left d env some within))
    rest in
    precedes_as (ap (λ ss. statements_code look ss n jumps x before) (row_rest t ids left d some within))
    (emits_then look before last row n jumps inside others (of_statement look before n jumps same here))
